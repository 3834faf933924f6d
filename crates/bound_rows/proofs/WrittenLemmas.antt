-- All bound rows, put together of what is kept of the groups.
use Rattle.std.proofs.Common.{◌≡◌, ℕ, ◌+◌, ◌-◌, ◌*◌, List, [], ◌∷◌, ◌++◌, map, refl, ap, ◌∙◌}
use Rattle.std.specs.List.{range_with_len}
use Rattle.league.specs.Instance.{Instance}
use Rattle.league.proofs.SumLemmas.{sum_by-map}
use Rattle.rows.specs.Rows.{Row}
use Rattle.rows.specs.declared.lit.Term.{Term}
use Rattle.bound_rows.specs.BoundRows.{base_rows, bound_rows, first_unit, league_groups}
use Rattle.bound_rows.specs.Softening.{Group, costs, costs_from, objective_row, one_before, order_rows, softened_rows}
use Rattle.bound_rows.specs.Softening.{total_cost}
use Rattle.bound_rows.specs.Bare.{bare_groups}
use Rattle.bound_rows.specs.declared.units.Units.{Units}
use Rattle.bound_rows.specs.Drafts.{stripped}

costs-stripped : (first : ℕ) (groups : List Group) → costs first (map stripped groups) ≡ costs first groups
costs-stripped first [] = refl
costs-stripped first (g ∷ groups) =
    ap (λ (ts : List Term). costs_from g.penalty first g.units ++ ts) (costs-stripped (first + g.units) groups)

order-stripped : (first : ℕ) (groups : List Group) → order_rows first (map stripped groups) ≡ order_rows first groups
order-stripped first [] = refl
order-stripped first (g ∷ groups) =
    ap (λ (rs : List Row). map one_before (range_with_len first (g.units - 1)) ++ rs)
    (order-stripped (first + g.units) groups)

objective-stripped : (first : ℕ) (groups : List Group) (bound : ℕ)
    → objective_row first (map stripped groups) bound ≡ objective_row first groups bound
objective-stripped first groups bound =
    ap (λ (ts : List Term). record { terms = ts; degree = total_cost (map stripped groups) - bound })
    (costs-stripped first groups)
    ∙ ap (λ (t : ℕ). record { terms = costs first groups; degree = t - bound })
    (sum_by-map (λ (g : Group). g.penalty * g.units) stripped groups)

pub all_rows : (league : Instance) (first bound : ℕ) (kept : List Units) (rows all : List Row)
    → first ≡ first_unit league → bare_groups kept ≡ map stripped (league_groups league)
    → rows ≡ base_rows league ++ softened_rows first (league_groups league)
    → all ≡ rows ++ objective_row first (bare_groups kept) bound ∷ [] ++ order_rows first (bare_groups kept)
    → all ≡ bound_rows league bound
all_rows league first bound kept rows all place same so_far is =
    let groups : List Group = league_groups league in
    is
    ∙ ap (λ (rs : List Row). rs ++ objective_row first (bare_groups kept) bound ∷ []
    ++ order_rows first (bare_groups kept)) so_far
    ∙ ap (λ (gs : List Group). base_rows league ++ softened_rows first groups ++ objective_row first gs bound ∷ []
    ++ order_rows first gs) same
    ∙ ap (λ (row : Row). base_rows league ++ softened_rows first groups ++ row ∷ []
    ++ order_rows first (map stripped groups)) (objective-stripped first groups bound)
    ∙ ap (λ (rs : List Row). base_rows league ++ softened_rows first groups ++ objective_row first groups bound ∷ []
    ++ rs) (order-stripped first groups)
    ∙ ap (λ (v : ℕ). base_rows league ++ softened_rows v groups ++ objective_row v groups bound ∷ []
    ++ order_rows v groups) place
