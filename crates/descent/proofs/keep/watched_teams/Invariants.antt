use Rattle.std.proofs.Common.{◌≡◌, ◌<◌, ℕ, true}
use Rattle.std.specs.List.{All, Contains}
use Rattle.descent.proofs.keep.watched_teams.Given as goal

abbrev pub invariant-loop-number : goal.invariant-loop-number
invariant-loop-number g l = record {
  ends : l.number-end ≡ g.R.Entries.team_count l.rule;
  of_league : All (λ t. t.0 < g.R.Entries.team_count l.rule) l.teams.items;
  watched : (t : ℕ) → t < l.number → g.R.Entries.watched l.rule t ≡ true → Contains l.teams.items (record { 0 = t });
}
