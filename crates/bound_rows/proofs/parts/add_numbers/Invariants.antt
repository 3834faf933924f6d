use Rattle.std.proofs.Common.{◌≡◌, ◌+◌, ◌-◌, [], ◌∷◌, ◌++◌, map}
use Rattle.std.specs.List.{range_with_len}
use Rattle.league.specs.declared.class.Class.TheVariants.{Se1}
use Rattle.bound_rows.proofs.parts.add_numbers.Given as goal

abbrev pub invariant-loop-fewer : goal.invariant-loop-fewer
invariant-loop-fewer l = l.made.items ≡ l.fn.made.items
    ++ map (λ u. Se1 (l.first ∷ l.second ∷ []) (l.min + 1 - u)) (range_with_len 1 l.fewer)
