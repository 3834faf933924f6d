use Rattle.std.proofs.Common.{◌≡◌, ◌++◌, drop}
use Rattle.league.specs.Meetings.{pairs_of}
use Rattle.rule_core.proofs.pairs.list_pairs.Given as goal

abbrev pub invariant-loop-place : goal.invariant-loop-place
invariant-loop-place l = l.pairs.items ++ pairs_of (drop l.place l.teams) ≡ pairs_of l.teams
