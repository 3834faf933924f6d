use Rattle.std.proofs.Common.{◌∙◌, arith, ap, sym, List, ℕ, false, not, true}
use Rattle.std.specs.List.{filter, sum_by}
use Rattle.league.specs.Counts.{teams_of}
use Rattle.league.specs.Sets.{is_in}
use Rattle.break_counts.specs.BreakCounts.{allowed_of, covers}
use Rattle.break_counts.proofs.TableLemmas.{outside-total, singly-other, singly-total, with-br2}
use Rattle.break_counts.proofs.shortage.allowed_with.Goals as goal

pub returns-in_default : goal.returns-in_default
returns-in_default c =
    singly-total c.args.league.now.n c.args.league.now.constraints c.args.stretches.now c.args.allowed.now
    c.total.result c.requires.table c.total.ensures
    ∙ singly-other c.args.league.now.n c.args.league.now.constraints c.args.stretches.now c.args.class.now
    c.in_default.not-Br2

pub returns-then-covers : goal.returns-then-covers
returns-then-covers c =
    let league = c.args.league.now in
    let covered =
    sym (ap (λ (slots : List ℕ). covers slots c.args.stretches.now) c.numbers.ensures.numbers)
    ∙ sym c.covers.ensures ∙ c.if-covers.true in
    omega (
      arith,
      with-br2 league.n league.constraints c.args.stretches.now c.args.class.now c.in-Br2.teams c.in-Br2.slots
          c.in-Br2.intp true c.in-Br2.is covered,
      c.from.ensures,
      c.total_outside.ensures.sum,
      outside-total league.n league.constraints c.args.stretches.now c.args.allowed.now
          (λ i. not (is_in i c.numbers-then-covers.result.now)) c.requires.table,
      ap (λ (teams : List ℕ). sum_by (allowed_of league.constraints c.args.stretches.now)
          (filter (λ i. not (is_in i teams)) (teams_of league.n))) c.numbers-then-covers.ensures.numbers,
    )

pub returns-else-covers : goal.returns-else-covers
returns-else-covers c =
    let league = c.args.league.now in
    let covered =
    sym (ap (λ (slots : List ℕ). covers slots c.args.stretches.now) c.numbers.ensures.numbers)
    ∙ sym c.covers.ensures ∙ c.if-covers.false in
    singly-total league.n league.constraints c.args.stretches.now c.args.allowed.now
    c.total-else-covers.result c.requires.table c.total-else-covers.ensures
    ∙ sym (with-br2 league.n league.constraints c.args.stretches.now c.args.class.now c.in-Br2.teams c.in-Br2.slots
    c.in-Br2.intp false c.in-Br2.is covered)
