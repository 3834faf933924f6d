use Rattle.std.proofs.Common.{◌≡◌, ◌≤◌, length}
use Rattle.std.specs.Prelude.{IfSome}
use Rattle.robin_watch.proofs.LimitLemmas.{IsPassed}
use Rattle.clause_search.proofs.TurnLemmas.{IsUnder, left}
use Rattle.clause_search.proofs.walk.take_turns.Given as goal

abbrev pub invariant-turns : goal.invariant-turns
invariant-turns g l = record {
  vars : l.desk.order.vars ≡ l.fn.trail.vars;
  under : IsUnder l.rows l.fn.trail.vars l.desk.given l.log l.desk.kept.places.items l.trail;
  within : IfSome l.limit (λ most. length l.log ≤ most);
  passed : IsPassed (g.W.Watch.stops_at l.watch) (length l.log);
}

abbrev pub decreases-turns : goal.decreases-turns
decreases-turns g l = left l.fn.trail.vars l.desk.kept.room (length l.desk.kept.places.items) (length l.trail.entries)
