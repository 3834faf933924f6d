use Rattle.std.proofs.Common.{◌≡◌, map, string_bytes}
use Rattle.league.specs.Counts.{teams_of}
use Rattle.robinx.specs.Names.{label_among}
use Rattle.robinx.proofs.labels.labels.Given as goal

abbrev pub invariant-loop-team : goal.invariant-loop-team
invariant-loop-team l = map string_bytes l.labels.items ≡ map (label_among (map string_bytes l.teams)) (teams_of l.team)
