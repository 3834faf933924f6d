use Rattle.std.proofs.Common.{◌≡◌, ◌++◌, map, nat_lt, take}
use Rattle.std.specs.List.{filter}
use Rattle.encoding.proofs.meetings.add_visits_to_later.Given as goal

abbrev pub invariant-loop-other : goal.invariant-loop-other
invariant-loop-other l = l.meetings.items ≡ l.fn.meetings.items ++ map (λ j. (j, l.team))
    (filter (λ j. nat_lt l.team j) (take l.other-index l.teams))
