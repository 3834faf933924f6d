-- Pattern rows whose variables are numbered from 1, as a search takes them, and their numbers among all rows.
use Rattle.std.specs.Prelude.{◌≡◌, ℕ, ◌+◌, ◌-◌, ◌≤◌, ◌&&◌, nat_lt, nat_le, if◌then◌else◌, List, [], ◌∷◌, length, map}
use Rattle.std.specs.Prelude.{Option, Some, None, slice_index, slice_get, take}
use Rattle.std.specs.List.{All, filter, filter_map}
use Rattle.rows.specs.Literals.{Literal}
use Rattle.rows.specs.Rows.{Row}
use Rattle.rows.specs.declared.lit.Term.{Term}
use Rattle.refutation.specs.Following.{row_numbered}
use Rattle.refutation.specs.Steps.{Step, clause_of, hints_of}
use Rattle.refutation.specs.Steps.Step.{Clause}
use Rattle.league_search.specs.PatternRows.{is_pattern_row}

-- a literal, a term and a row whose variables are so many higher
abbrev pub raised_literal : ℕ → Literal → Literal
raised_literal games l = record { var = l.var + games; positive = l.positive }

abbrev pub raised_term : ℕ → Term → Term
raised_term games t = record { coef = t.coef; lit = raised_literal games t.lit }

abbrev pub raised_row : ℕ → Row → Row
raised_row games row = record { terms = map (raised_term games) row.terms; degree = row.degree }

-- the variables are from 1 on
abbrev pub IsFromOne : Row → Type 0
IsFromOne row = All (λ t. 1 ≤ t.lit.var) row.terms

-- the ones of the first rows that speak of no game, lowered, and their numbers
pub record IsPicked (games : ℕ) (rows : List Row) (count : ℕ) (low : List Row) (numbers : List ℕ) : Type 0 where
  pub raised : map (raised_row games) low ≡ filter (is_pattern_row games) (take count rows)
  pub from_one : All IsFromOne low
  pub few : length low ≤ count
  pub lengths : length numbers ≡ length low
  pub named : (k : ℕ) (row : Row) → slice_get low k ≡ Some row →
      row_numbered rows (slice_index numbers k) ≡ Some (raised_row games row)

-- the number among `all` rows and the steps behind them of what has this number among the lowered rows and these steps
abbrev pub renumbered : List ℕ → ℕ → ℕ → ℕ
renumbered numbers all hint =
    if nat_le hint (length numbers) then slice_index numbers (hint - 1) else hint - length numbers + all

-- that number among all rows, if there is something of it where so many steps stand
abbrev pub number_of : List ℕ → ℕ → ℕ → ℕ → Option ℕ
number_of numbers all before hint =
    if nat_lt 0 hint && nat_le hint (length numbers + before) then Some (renumbered numbers all hint) else None

-- a step, and the steps of a log, over all rows
abbrev pub raised_step : ℕ → List ℕ → ℕ → ℕ → Step → Step
raised_step games numbers all before step =
    Clause (map (raised_literal games) (clause_of step)) (filter_map (number_of numbers all before) (hints_of step))

abbrev pub raised_steps : ℕ → List ℕ → ℕ → ℕ → List Step → List Step
raised_steps games numbers all before [] = []
raised_steps games numbers all before (step ∷ steps) =
    raised_step games numbers all before step ∷ raised_steps games numbers all (before + 1) steps
