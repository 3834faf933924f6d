use Rattle.std.proofs.Common.{ap, sym, ◌∙◌}
use Rattle.std.specs.Prelude.{is_none}
use Rattle.std.proofs.lemmas.Bool.{false≢true}
use Rattle.propagate.specs.Trails.{is_decision}
use Rattle.clause_search.proofs.WalkLemmas.{entry_is, is_reason, known_terms, number_within, read_terms, reason_forces}
use Rattle.clause_search.proofs.WalkLemmas.{trace_use}
use Rattle.clause_search.proofs.analyze.trace_place.Goals as goal

pub returns-in-None : goal.returns-in-None
returns-in-None c =
    absurd (false≢true
    (sym (c.requires.forced c.args.k c.requires.there)
    ∙ ap is_decision (entry_is c.args.trail.now.entries c.args.k c.entry.result c.entry.ensures)
    ∙ ap is_none c.in-None.is))

pub terms-terms-requires-clause-from_one : goal.terms-terms-requires-clause-from_one
terms-terms-requires-clause-from_one c =
    let by =
    reason_forces c.args.trail.now c.args.k c.in-Some.reason c.entry.result c.len-len.ensures.lawful
    c.entry.ensures c.in-Some.is in
    by.numbered.from_one

pub terms-terms-requires-clause-there : goal.terms-terms-requires-clause-there
terms-terms-requires-clause-there c =
    let by =
    reason_forces c.args.trail.now c.args.k c.in-Some.reason c.entry.result c.len-len.ensures.lawful
    c.entry.ensures c.in-Some.is in
    number_within c.args.trail.now.rows c.in-Some.reason by.row by.numbered

pub mark-lowest-requires-clause-known : goal.mark-lowest-requires-clause-known
mark-lowest-requires-clause-known c =
    let by =
    reason_forces c.args.trail.now c.args.k c.in-Some.reason c.entry.result c.len-len.ensures.lawful
    c.entry.ensures c.in-Some.is in
    known_terms c.args.trail.now c.in-Some.reason by.row c.terms-terms.result.now c.len-len.ensures.known by.numbered
    (read_terms c.args.trail.now.rows c.in-Some.reason by.row c.terms-terms.result.now by.numbered
    c.terms-terms.ensures)

pub returns : goal.returns
returns c =
    trace_use c.args.trail.now c.args.conflict.row c.args.roles.now c.mark-lowest.new.roles c.len-len.result
    c.len-len.result
    c.mark-lowest.result c.args.k c.in-Some.reason c.terms-terms.result.now c.len-len.ensures.rows c.requires.traced
    (is_reason c.args.trail.now c.args.k c.in-Some.reason c.entry.result c.terms-terms.result.now
    c.len-len.ensures.lawful
    c.entry.ensures c.in-Some.is c.terms-terms.ensures)
    c.mark-lowest.ensures
