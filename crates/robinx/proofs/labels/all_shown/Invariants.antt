use Rattle.std.proofs.Common.{◌≡◌, map, string_bytes}
use Rattle.league.specs.Counts.{teams_of}
use Rattle.robinx.specs.Names.{shown}
use Rattle.robinx.proofs.labels.all_shown.Given as goal

abbrev pub invariant-loop-team : goal.invariant-loop-team
invariant-loop-team l = map string_bytes l.texts.items ≡ map (shown (map string_bytes l.teams)) (teams_of l.team)
