use Rattle.std.proofs.Common.{◌≡◌, map, take}
use Rattle.season_misses.specs.Demands as demands
use Rattle.season_misses.proofs.demands.meeting_labels.Given as goal

-- the games so far
abbrev pub invariant-loop-meeting : goal.invariant-loop-meeting
invariant-loop-meeting l = l.labels.items ≡ map (demands.meeting_text l.names) (take l.meeting-index l.meetings)
