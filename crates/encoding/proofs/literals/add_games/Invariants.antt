use Rattle.std.proofs.Common.{◌≡◌, ◌++◌, take}
use Rattle.encoding.specs.Lists.{games_in}
use Rattle.encoding.proofs.literals.add_games.Given as goal

abbrev pub invariant-loop-meeting : goal.invariant-loop-meeting
invariant-loop-meeting l = l.literals.items ≡ l.fn.literals.items ++ games_in l.n (take l.meeting-index l.meetings)
    l.slots
