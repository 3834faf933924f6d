use Rattle.std.proofs.Common.{ℕ, arith}
use Rattle.league.specs.Venues.{home_games}
use Rattle.rule_core.specs.Table.{table_counts}
use Rattle.deviation.proofs.LeadLemmas.{homes_more}
use Rattle.deviation.proofs.leads.homes_in_each.Goals as goal

pub loop-slot-preserved : goal.loop-slot-preserved
loop-slot-preserved c =
    let f : ℕ → ℕ = λ s. home_games c.args.cells.now.n (table_counts c.args.cells.now) c.args.team.0 s in
    record {
      counted = homes_more f c.args.from c.loop-slot.slot c.loop-slot.games c.home-games.result
          c.loop-slot.auto.slot c.loop-slot.invariant.counted c.home-games.ensures.count;
      bounded = omega (arith, c.loop-slot.invariant.bounded, c.home-games.ensures.at_most, c.loop-slot.auto.slot);
    }
