use Rattle.std.proofs.Common.{◌≡◌, map}
use Rattle.league.specs.Counts.{teams_of}
use Rattle.robinx.specs.Names.{label}
use Rattle.command_show.proofs.texts.labels_of.Given as goal

-- the labels of the teams so far
abbrev pub invariant-loop-team : goal.invariant-loop-team
invariant-loop-team l = l.labels.items ≡ map (label l.names) (teams_of l.team)
