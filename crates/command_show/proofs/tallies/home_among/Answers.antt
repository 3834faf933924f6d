use Rattle.std.proofs.Common.{arith}
use Rattle.league.specs.Venues.{home_games}
use Rattle.league.proofs.RangeLemmas.{sum_by-range_more}
use Rattle.rule_core.specs.Table.{table_counts}
use Rattle.command_show.proofs.tallies.home_among.Goals as goal

pub loop-place-preserved : goal.loop-place-preserved
loop-place-preserved c =
    let more = sum_by-range_more (home_games c.args.cells.now.n (table_counts c.args.cells.now) c.args.team.0) c.args.first c.loop-place.place in
    record {
      sum = omega (arith, more, c.loop-place.invariant.sum, c.home-games.ensures.count);
      few = omega (arith, c.loop-place.invariant.few, c.home-games.ensures.at_most);
    }
