use Rattle.std.proofs.Common.{ℕ, ◌≤◌, [], ◌∷◌, length, arith, ap, sym, ◌∙◌}
use Rattle.std.proofs.lemmas.List.{take_all}
use Rattle.std.proofs.lemmas.List.Sums.{sum_by_more}
use Rattle.std.specs.List.{sum_by}
use Rattle.league.specs.Meetings.{games_of}
use Rattle.rule_core.specs.Table.{table_counts}
use Rattle.rule_core.proofs.OpponentLemmas.{games_of-by_slot}
use Rattle.deviation.proofs.by_slot.games_by_slot.Goals as goal

pub loop-slot-preserved : goal.loop-slot-preserved
loop-slot-preserved c =
    let f : ℕ → ℕ = λ s. games_of (table_counts c.args.cells.now) c.args.meetings.now.list (s ∷ []) in
    record {
      counted = omega (
        arith,
        c.loop-slot.invariant.counted,
        c.games_in_slot-games.ensures.games,
        sum_by_more f c.args.slots.now c.loop-slot.slot-index 0 c.loop-slot-test.true,
      );
      bounded = omega (arith, c.loop-slot.invariant.bounded, c.games_in_slot-games.ensures.at_most);
    }

pub returns : goal.returns
returns c =
    let f : ℕ → ℕ = λ s. games_of (table_counts c.args.cells.now) c.args.meetings.now.list (s ∷ []) in
    let all : length c.args.slots.now ≤ c.loop-slot.slot-index = omega arith in
    c.loop-slot.invariant.counted ∙ ap (sum_by f) (take_all c.loop-slot.slot-index c.args.slots.now all)
    ∙ sym (games_of-by_slot (table_counts c.args.cells.now) c.args.meetings.now.list c.args.slots.now)
