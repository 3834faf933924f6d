-- Rows that unit variables soften: each true unit variable stands for one unit of deviation (own form).
use Rattle.std.specs.Prelude.{ℕ, ◌+◌, ◌-◌, ◌*◌, List, [], ◌∷◌, ◌++◌, map}
use Rattle.std.specs.List.{range_with_len, sum_by}
use Rattle.rows.specs.Cardinality.{at_least, unit}
use Rattle.rows.specs.Literals.{Literal, no, yes}
use Rattle.rows.specs.Rows.{Row}
use Rattle.rows.specs.declared.lit.Term.{Term}

-- rows that share unit variables, how many these are, and what each costs
pub record Group : Type 0 where
  pub penalty : ℕ
  pub units : ℕ
  pub rows : List Row

-- so many unit variables from a number on
abbrev pub units_from : ℕ → ℕ → List Literal
units_from first count = map yes (range_with_len first count)

-- a row to which each of these literals adds 1 where it is true
abbrev pub soften : List Literal → Row → Row
soften units row = record { terms = row.terms ++ map unit units; degree = row.degree }

-- the softened rows of some groups, whose unit variables are numbered on
abbrev pub softened_rows : ℕ → List Group → List Row
softened_rows first [] = []
softened_rows first (g ∷ groups) =
    map (soften (units_from first g.units)) g.rows ++ softened_rows (first + g.units) groups

-- so many unit variables from a number on, negated, with what each costs
abbrev pub costs_from : ℕ → ℕ → ℕ → List Term
costs_from penalty first count = map (λ v. record { coef = penalty; lit = no v }) (range_with_len first count)

-- the unit variables of some groups
abbrev pub costs : ℕ → List Group → List Term
costs first [] = []
costs first (g ∷ groups) = costs_from g.penalty first g.units ++ costs (first + g.units) groups

-- what all unit variables of some groups cost
abbrev pub total_cost : List Group → ℕ
total_cost groups = sum_by (λ g. g.penalty * g.units) groups

-- the true unit variables cost at most the bound: the false ones cost at least what is left of all
abbrev pub objective_row : ℕ → List Group → ℕ → Row
objective_row first groups bound = record { terms = costs first groups; degree = total_cost groups - bound }

-- a unit variable is true where the next is
abbrev pub one_before : ℕ → Row
one_before v = at_least 1 (yes v ∷ no (v + 1) ∷ [])

-- the first unit variables of each group are true, and no others
abbrev pub order_rows : ℕ → List Group → List Row
order_rows first [] = []
order_rows first (g ∷ groups) =
    map one_before (range_with_len first (g.units - 1)) ++ order_rows (first + g.units) groups
