use Rattle.std.proofs.Common.{◌≡◌, ◌++◌, take}
use Rattle.std.specs.List.{flat_map}
use Rattle.rows.specs.Values.{assigned}
use Rattle.resume.specs.Found.{game_if_true}
use Rattle.resume.proofs.season.add_slot.Given as goal

abbrev pub invariant-loop-meeting : goal.invariant-loop-meeting
invariant-loop-meeting l =
    l.season ≡ l.fn.season ++ flat_map (game_if_true l.n (assigned l.values) l.slot)
    (take l.meeting-index l.meetings)
