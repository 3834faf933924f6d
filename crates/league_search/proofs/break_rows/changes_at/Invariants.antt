use Rattle.std.proofs.Common.{◌≡◌}
use Rattle.league_search.specs.Balances.{changes_at}
use Rattle.league_search.proofs.break_rows.changes_at.Given as goal

abbrev pub invariant-loop-team : goal.invariant-loop-team
invariant-loop-team l = l.changes.items ≡ changes_at l.team l.slot l.home
