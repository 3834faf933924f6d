use Rattle.std.proofs.Common.{◌≡◌, ◌≤◌, ◌*◌}
use Rattle.std.specs.List.{range_with_len, sum_by}
use Rattle.league.specs.Breaks.{breaks_among}
use Rattle.league.specs.Counts.{slots_of}
use Rattle.league.specs.declared.class.Side.TheVariants.{Both}
use Rattle.instance_gen.specs.Made.{circle}
use Rattle.instance_gen.proofs.circle.Circle.breaks.Given as goal

abbrev pub invariant-loop-team : goal.invariant-loop-team
invariant-loop-team l = record {
  counted : l.breaks ≡ sum_by (breaks_among l.self.n (circle l.self.n) Both (slots_of l.self.n))
      (range_with_len 0 l.team);
  bounded : l.breaks ≤ 77 * l.team;
}
