use Rattle.std.proofs.Common.{ℕ, ◌+◌, ◌<◌, Option, arith, ◌++◌, ◌-◌, ap, sym, ◌∙◌, subst}
use Rattle.std.specs.Option.{IfSome, option_to_list}
use Rattle.league.specs.Counts.{slot_count}
use Rattle.league.specs.Separation.{lacking, se1_entry}
use Rattle.rule_core.specs.Table.{table_counts}
use Rattle.deviation.proofs.GapLemmas.{before_next, from_slot, slot_free, slot_played}
use Rattle.deviation.proofs.gaps.lacking.Goals as goal
use Rattle.deviation.proofs.gaps.lacking.Goals.{then-games-gt0, else-games-gt0}

pub loop-slot-preserved : goal.loop-slot-preserved
loop-slot-preserved c =
    let n = c.args.cells.now.n in
    let m = table_counts c.args.cells.now in
    let count : ℕ → ℕ = λ s. m c.args.first.0 c.args.second.0 s + m c.args.second.0 c.args.first.0 s in
    let s = c.loop-slot.slot in
    let whole = se1_entry n m c.args.min (c.args.first.0, c.args.second.0) in
    let inside : s < slot_count n = omega arith in
    elim c.if-games-gt0.branch [
      | then-games-gt0 w ↦
          let more = w.lacking_at-total.result in
          let now : s < s + 1 = omega arith in
          record {
            before = subst (λ (o : Option ℕ). IfSome o (λ before. before < s + 1)) (sym w.last-is) now;
            bounded = omega (arith, w.total-is, w.lacking_at-total.ensures.at_most, c.loop-slot.invariant.bounded);
            counted =
                ap (λ (t : ℕ). t + lacking c.args.min (option_to_list c.if-games-gt0.last ++ from_slot c.args.min count (s + 1) (slot_count n - (s + 1)))) w.total-is
                ∙ slot_played c.args.min count s (slot_count n) c.games_at-games.result c.loop-slot.total more whole c.loop-slot.last c.if-games-gt0.last inside w.if-games-gt0.true c.games_at-games.ensures.games w.lacking_at-total.ensures.lacking c.loop-slot.invariant.counted w.last-is;
          }
      | else-games-gt0 w ↦
          record {
            before = subst (λ (o : Option ℕ). IfSome o (λ before. before < s + 1)) (sym w.last-is) (before_next c.loop-slot.last s c.loop-slot.invariant.before);
            bounded = omega (arith, w.total-is, c.loop-slot.invariant.bounded);
            counted =
                ap (λ (t : ℕ). t + lacking c.args.min (option_to_list c.if-games-gt0.last ++ from_slot c.args.min count (s + 1) (slot_count n - (s + 1)))) w.total-is
                ∙ ap (λ (o : Option ℕ). c.loop-slot.total + lacking c.args.min (option_to_list o ++ from_slot c.args.min count (s + 1) (slot_count n - (s + 1)))) w.last-is
                ∙ slot_free c.args.min count s (slot_count n) c.games_at-games.result c.loop-slot.total whole c.loop-slot.last inside w.if-games-gt0.false c.games_at-games.ensures.games c.loop-slot.invariant.counted;
          }
    ]
