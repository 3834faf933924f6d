use Rattle.std.proofs.Common.{take}
use Rattle.std.specs.List.{flat_map}
use Rattle.descent.specs.Bench.{HasFound}
use Rattle.descent.proofs.ByTeamLemmas.{touched_at}
use Rattle.descent.proofs.bench.Bench.add_teams.Given as goal

abbrev pub invariant-loop-team : goal.invariant-loop-team
invariant-loop-team g l =
    HasFound (flat_map (touched_at (g.R.Entries.touches l.rule) l.lists) (take l.team-index l.teams)) l.initial.self l.self
