use Rattle.std.proofs.Common.{◌≡◌, map, take}
use Rattle.std.specs.List.{flat_map}
use Rattle.league.specs.Capacity.{windows_of}
use Rattle.bound_rows.specs.OneOf.{of_window}
use Rattle.bound_rows.proofs.parts.window_parts.Given as goal

abbrev pub invariant-loop-team : goal.invariant-loop-team
invariant-loop-team l = l.made.items
    ≡ flat_map (λ i. map (λ slots. of_window l.class i slots) (windows_of l.n l.intp)) (take l.team-index l.teams)
