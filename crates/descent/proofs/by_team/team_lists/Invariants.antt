use Rattle.std.proofs.Common.{◌≡◌, ◌≤◌, ◌*◌, length}
use Rattle.std.specs.List.{All}
use Rattle.descent.proofs.by_team.team_lists.Given as goal

abbrev pub invariant-loop-team : goal.invariant-loop-team
invariant-loop-team l = record {
  long : length l.lists.items ≡ l._team;
  room : All (λ r. 8 * l.n ≤ r.room) l.lists.items;
}
