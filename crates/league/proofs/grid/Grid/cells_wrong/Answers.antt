use Rattle.std.proofs.Common.{arith}
use Rattle.league.specs.Counts.{slots_of}
use Rattle.league.specs.Structure.{isnt_one}
use Rattle.league.specs.Grid.{entry}
use Rattle.std.specs.List.{count_by}
use Rattle.league.proofs.RangeLemmas.{summed}
use Rattle.league.proofs.grid.Grid.cells_wrong.Goals as goal

pub loop-team-preserved : goal.loop-team-preserved
loop-team-preserved c = record {
  counted = summed (λ i. count_by (λ s. isnt_one (entry c.args.self.now i s)) (slots_of c.args.n)) c.loop-team.team c.loop-team.wrong _ c.loop-team.invariant.counted (omega arith);
  bounded = omega arith;
}
