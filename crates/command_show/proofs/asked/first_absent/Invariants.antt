use Rattle.std.proofs.Common.{◌≡◌, drop}
use Rattle.command_show.specs.Demands.{first_absent}
use Rattle.command_show.proofs.asked.first_absent.Given as goal

-- none of the numbers so far is it
abbrev pub invariant-loop-number : goal.invariant-loop-number
invariant-loop-number l = first_absent l.league l.numbers ≡ first_absent l.league (drop l.number-index l.numbers)
