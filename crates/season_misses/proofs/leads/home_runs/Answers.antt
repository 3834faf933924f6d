use Rattle.std.proofs.Common.{◌≡◌, ℕ, ◌+◌, arith, ap}
use Rattle.std.specs.List.{range_with_len, sum_by}
use Rattle.league.specs.Fairness.{home_played}
use Rattle.league.specs.Venues.{home_games}
use Rattle.league.proofs.RangeLemmas.{summed}
use Rattle.rule_core.specs.Table.{table_counts}
use Rattle.season_misses.proofs.ListLemmas.{mapped_more}
use Rattle.season_misses.proofs.leads.home_runs.Goals as goal

pub loop-slot-preserved : goal.loop-slot-preserved
loop-slot-preserved c =
    let f : ℕ → ℕ = λ s. home_games c.args.cells.now.n (table_counts c.args.cells.now) c.args.team.0 s in
    let more : _ ≡ sum_by f (range_with_len 0 (c.loop-slot.slot + 1)) = summed f c.loop-slot.slot c.loop-slot.games _ c.loop-slot.invariant.summed (ap (λ (x : ℕ). c.loop-slot.games + x) c.home-games.ensures.count) in
    record {
      list = mapped_more (home_played c.args.cells.now.n (table_counts c.args.cells.now) c.args.team.0) c.loop-slot.slot c.loop-slot.played.items _ _ c.loop-slot.invariant.list c.in_ok-push.ensures.items more;
      summed = more;
      bounded = omega (arith, c.loop-slot.invariant.bounded, c.home-games.ensures.at_most);
    }
