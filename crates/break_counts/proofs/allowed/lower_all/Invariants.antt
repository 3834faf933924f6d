use Rattle.std.proofs.Common.{take}
use Rattle.break_counts.specs.Tables.{AreLowered}
use Rattle.break_counts.proofs.allowed.lower_all.Given as goal

abbrev pub invariant-loop-team : goal.invariant-loop-team
invariant-loop-team l = AreLowered (take l.team-index l.teams) l.initial.table l.most l.table
