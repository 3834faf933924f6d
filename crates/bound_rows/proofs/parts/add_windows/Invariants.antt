use Rattle.std.proofs.Common.{◌≡◌, ◌++◌, map}
use Rattle.std.specs.List.{range_with_len}
use Rattle.bound_rows.specs.OneOf.{of_window}
use Rattle.bound_rows.proofs.parts.add_windows.Given as goal

abbrev pub invariant-loop-first : goal.invariant-loop-first
invariant-loop-first l = l.made.items ≡ l.fn.made.items
    ++ map (λ slots. of_window l.class l.team slots)
    (map (λ first. range_with_len first l.window) (range_with_len 0 l.first))
