use Rattle.std.proofs.Common.{arith, inl, inr}
use Rattle.std.proofs.lemmas.Bool.{cases_lt}
use Rattle.clause_search.proofs.WalkLemmas.{is_reason, known_terms, no_reason, number_within, read_terms}
use Rattle.clause_search.proofs.WalkLemmas.{reason_forces, walk_pass, walk_use}
use Rattle.clause_search.proofs.analyze.resolve.Goals as goal

pub returns-in-None : goal.returns-in-None
returns-in-None c =
    walk_pass c.args.trail.now c.args.conflict.row c.args.start c.args.roles.now c.args.lowest c.args.k
    c.requires.walked
    (elim (cases_lt c.args.lowest c.args.k) [
      | inl above ↦
          absurd (no_reason c.args.trail.now c.args.start c.args.k c.entry.result c.requires.start
          (omega (arith, c.requires.walked.above_start, above)) c.entry.ensures c.in-None.is)
      | inr low ↦ inl low
    ])

pub terms-terms-requires-clause-from_one : goal.terms-terms-requires-clause-from_one
terms-terms-requires-clause-from_one c =
    let by =
    reason_forces c.args.trail.now c.args.k c.in-Some.reason c.entry.result c.len-len.ensures.lawful
    c.entry.ensures c.in-Some.is in
    by.numbered.from_one

pub terms-terms-requires-clause-there : goal.terms-terms-requires-clause-there
terms-terms-requires-clause-there c =
    let by =
    reason_forces c.args.trail.now c.args.k c.in-Some.reason c.entry.result c.len-len.ensures.lawful
    c.entry.ensures c.in-Some.is in
    number_within c.args.trail.now.rows c.in-Some.reason by.row by.numbered

pub stays-requires-clause-known : goal.stays-requires-clause-known
stays-requires-clause-known c =
    let by =
    reason_forces c.args.trail.now c.args.k c.in-Some.reason c.entry.result c.len-len.ensures.lawful
    c.entry.ensures c.in-Some.is in
    known_terms c.args.trail.now c.in-Some.reason by.row c.terms-terms.result.now c.len-len.ensures.known by.numbered
    (read_terms c.args.trail.now.rows c.in-Some.reason by.row c.terms-terms.result.now by.numbered
    c.terms-terms.ensures)

pub mark-requires-clause-known : goal.mark-requires-clause-known
mark-requires-clause-known c =
    let by =
    reason_forces c.args.trail.now c.args.k c.in-Some.reason c.entry.result c.len-len.ensures.lawful
    c.entry.ensures c.in-Some.is in
    known_terms c.args.trail.now c.in-Some.reason by.row c.terms-terms.result.now c.len-len.ensures.known by.numbered
    (read_terms c.args.trail.now.rows c.in-Some.reason by.row c.terms-terms.result.now by.numbered
    c.terms-terms.ensures)

pub returns : goal.returns
returns c =
    walk_use c.args.trail.now c.args.conflict.row c.args.start c.args.roles.now c.mark.new.roles c.args.lowest
    c.mark.result
    c.args.k c.in-Some.reason c.terms-terms.result.now c.len-len.ensures.rows c.requires.walked
    (c.stays.ensures.goes c.if-stays.false)
    (is_reason c.args.trail.now c.args.k c.in-Some.reason c.entry.result c.terms-terms.result.now
    c.len-len.ensures.lawful
    c.entry.ensures c.in-Some.is c.terms-terms.ensures)
    c.mark.ensures
