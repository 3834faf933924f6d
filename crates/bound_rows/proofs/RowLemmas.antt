-- Softened rows, and the objective row, are rows: their variables differ.
use Rattle.std.proofs.Common.{◌≢◌, ℕ, ◌+◌, ◌<◌, ◌≤◌, List, [], ◌∷◌, map}
use Rattle.std.proofs.Common.{false, arith}
use Rattle.std.proofs.lemmas.List.Elements.{All-append, All-head, All-map, All-nil, All-tail, All-weaker}
use Rattle.std.proofs.lemmas.List.Sums.{sum_by-cons}
use Rattle.std.specs.List.{All, range_with_len, sum_by}
use Rattle.league.proofs.SetLemmas.{AllPairs-append}
use Rattle.rows.specs.Cardinality.{unit}
use Rattle.rows.specs.Literals.{Literal, yes}
use Rattle.rows.specs.Rows.{IsRow, Row}
use Rattle.rows.specs.declared.lit.Term.{Term}
use Rattle.encoding.specs.Ascending.{AscendsBy}
use Rattle.encoding.proofs.AscendLemmas.{AllPairs-ascending, AscendsBy-above, AscendsBy-append, AscendsBy-high}
use Rattle.encoding.proofs.AscendLemmas.{AscendsBy-map, AscendsBy-range}
use Rattle.bound_rows.specs.Softening.{Group, costs, costs_from, soften, units_from}
use Rattle.bound_rows.specs.Bare.{bare, bare_groups}
use Rattle.bound_rows.specs.declared.units.Units.{Units}

abbrev pub var_of : Term → ℕ
var_of t = t.lit.var

abbrev Apart : Term → Term → Type 0
Apart t u = t.lit.var ≢ u.lit.var

units_ascend : (first count : ℕ) → AscendsBy var_of first (map unit (units_from first count)) (first + count)
units_ascend first count =
    AscendsBy-map var_of unit first (units_from first count) (first + count)
    (AscendsBy-map (λ (l : Literal). l.var) yes first (range_with_len first count) (first + count)
    (AscendsBy-range first count (first + count) (omega arith)))

pub IsRow-soften : (first count : ℕ) (row : Row) → IsRow row → All (λ t. t.lit.var < first) row.terms
    → IsRow (soften (units_from first count) row)
IsRow-soften first count row is below =
    let units : List Term = map unit (units_from first count) in
    let ascend = units_ascend first count in
    record {
      coefs = All-append (λ (t : Term). 1 ≤ t.coef) row.terms units is.coefs
          (All-map (λ (t : Term). 1 ≤ t.coef) unit (units_from first count) (λ k d within. omega arith));
      variables = AllPairs-append Apart row.terms units is.variables
          (AllPairs-ascending var_of first units (first + count) ascend)
          (All-weaker (λ (t : Term). t.lit.var < first) (λ t. All (Apart t) units)
          (λ t before. All-weaker (λ (u : Term). first ≤ u.lit.var) (Apart t) (λ u from. omega (arith, before, from))
          units (AscendsBy-above var_of first units (first + count) ascend)) row.terms below);
    }

-- ---- the objective row

pub costs_ascend : (first : ℕ) (groups : List Group)
    → AscendsBy var_of first (costs first groups) (first + sum_by (λ g. g.units) groups)
costs_ascend first [] = omega arith
costs_ascend first (g ∷ groups) =
    let later : ℕ = sum_by (λ (g : Group). g.units) groups in
    AscendsBy-append var_of first (costs_from g.penalty first g.units) (first + g.units)
    (costs (first + g.units) groups) (first + sum_by (λ g. g.units) (g ∷ groups))
    (AscendsBy-map var_of (λ v. record { coef = g.penalty; lit = record { var = v; positive = false } }) first
    (range_with_len first g.units) (first + g.units) (AscendsBy-range first g.units (first + g.units) (omega arith)))
    (AscendsBy-high var_of (first + g.units) (costs (first + g.units) groups) (first + g.units + later)
    (first + sum_by (λ g. g.units) (g ∷ groups)) (omega (arith, sum_by-cons (λ (g : Group). g.units) g groups))
    (costs_ascend (first + g.units) groups))

costs_positive : (first : ℕ) (groups : List Group) → All (λ g. 1 ≤ g.penalty) groups
    → All (λ t. 1 ≤ t.coef) (costs first groups)
costs_positive first [] paid = All-nil (λ (t : Term). 1 ≤ t.coef)
costs_positive first (g ∷ groups) paid =
    let here : 1 ≤ g.penalty = All-head (λ (g : Group). 1 ≤ g.penalty) g groups paid in
    All-append (λ (t : Term). 1 ≤ t.coef) (costs_from g.penalty first g.units) (costs (first + g.units) groups)
    (All-map (λ (t : Term). 1 ≤ t.coef)
    (λ v. record { coef = g.penalty; lit = record { var = v; positive = false } }) (range_with_len first g.units)
    (λ k d within. here))
    (costs_positive (first + g.units) groups (All-tail (λ (g : Group). 1 ≤ g.penalty) g groups paid))

pub IsRow-objective : (first degree : ℕ) (units : List Units) → All (λ u. 1 ≤ u.penalty) units
    → IsRow (record { terms = costs first (bare_groups units); degree = degree })
IsRow-objective first degree units paid =
    let groups : List Group = bare_groups units in
    record {
      coefs = costs_positive first groups (All-map (λ (g : Group). 1 ≤ g.penalty) bare units paid);
      variables = AllPairs-ascending var_of first (costs first groups) (first + sum_by (λ g. g.units) groups)
          (costs_ascend first groups);
    }
