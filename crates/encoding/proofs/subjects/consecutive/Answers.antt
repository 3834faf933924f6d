use Rattle.std.proofs.Common.{◌≤◌, ℕ, ◌+◌, length, ap, refl, ◌∙◌, arith}
use Rattle.std.proofs.lemmas.List.FromFn.{length-range_with_len}
use Rattle.std.specs.List.{range_with_len}
use Rattle.league.specs.Counts.{slot_count, slots_of}
use Rattle.encoding.proofs.NumberLemmas.{run_is}
use Rattle.encoding.proofs.subjects.consecutive.Goals as goal

-- the numbers are the slots of forty teams
pub returns-clause-numbers : goal.returns-clause-numbers
returns-clause-numbers c =
    let first = c.from-first.result in
    let count = c.from.result in
    let within : first + count ≤ slot_count 40 = omega (arith, c.requires, c.from-first.ensures, c.from.ensures) in
    run_is 40 first (first + count) count (slots_of 40) refl refl within
    ∙ ap (λ (k : ℕ). range_with_len k count) c.from-first.ensures
    ∙ ap (range_with_len c.args.first) c.from.ensures

pub returns-clause-few : goal.returns-clause-few
returns-clause-few c =
    omega (
      arith,
      ap length (returns-clause-numbers c),
      length-range_with_len c.args.first c.args.count,
      c.requires,
    )
