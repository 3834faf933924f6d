use Rattle.std.proofs.Common.{◌≡◌, ◌≤◌, take}
use Rattle.std.specs.List.{sum_by}
use Rattle.league.specs.Venues.{games_on}
use Rattle.instance_gen.specs.Made.{circle}
use Rattle.instance_gen.proofs.circle.Circle.games_in.Given as goal

abbrev pub invariant-loop-slot : goal.invariant-loop-slot
invariant-loop-slot l = record {
  counted : l.games ≡ sum_by (λ s. games_on l.self.n (circle l.self.n) l.side l.fn.team.0 s)
      (take l.slot-index l.numbers);
  bounded : l.games ≤ l.slot-index;
}
