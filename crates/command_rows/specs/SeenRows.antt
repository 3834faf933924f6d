-- What a contract sees of rows that are ready to be written.
use Rattle.std.specs.Prelude.{◌≤◌, Bool, false, List, [], ◌∷◌, Some}
use Rattle.std.specs.List.{All}
use Rattle.rows.specs.declared.lit.Term.{Term}
use Rattle.bound_rows.specs.BoundRows.{bound_rows, bound_vars}
use Rattle.opb_forms.specs.Systems.{System}
use Rattle.command_rows.specs.Rowed.{bound_system, league_system}
use Rattle.command_rows.specs.declared.written.Kept.{Kept}
use Rattle.command_rows.specs.declared.written.Kept.TheVariants.{League, Bound, Least}

abbrev pub system_kept : Kept → System
system_kept (League league) = league_system league
system_kept (Bound bounded) = bound_system bounded.league bounded.bound
system_kept (Least bounded prices) =
    record {
      vars = bound_vars bounded.league;
      least = Some prices.items;
      rows = bound_rows bounded.league bounded.bound;
    }

-- every price is at least 1
abbrev pub HasPrices : Kept → Type 0
HasPrices (League league) = Unit {0}
HasPrices (Bound bounded) = Unit {0}
HasPrices (Least bounded prices) = All (λ t. 1 ≤ t.coef) prices.items

-- whether the first of some terms has a positive literal
abbrev pub begins_positive : List Term → Bool
begins_positive [] = false
begins_positive (t ∷ terms) = t.lit.positive
