use Rattle.std.proofs.Common.{ℕ, ◌+◌, arith}
use Rattle.league.specs.Structure.{isnt_one}
use Rattle.league.specs.Grid.{entry}
use Rattle.league.proofs.MeetingLemmas.{count_by-pairs_from}
use Rattle.league.proofs.grid.Grid.phases_wrong.Goals as goal

pub loop-team-preserved : goal.loop-team-preserved
loop-team-preserved c =
    let numbers = c.args.self.now in
    record {
      counted = omega (arith, count_by-pairs_from (λ (p : ℕ × ℕ). isnt_one (entry numbers p.0 p.1 + entry numbers p.1 p.0)) c.loop-team.team c.args.n (omega arith));
      bounded = omega arith;
    }
