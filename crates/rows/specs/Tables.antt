-- How a sum is kept: a table of what each literal counts, and the variables for which that isn't 0.
use Rattle.std.specs.Prelude.{◌≡◌, ◌≢◌, ℕ, ◌+◌, ◌-◌, ◌≤◌, min, List, map, slice_index_or}
use Rattle.std.specs.Prelude.{Contains}
use Rattle.std.specs.List.{All, flat_map, range_with_len, sum_by}
use Rattle.rows.specs.Codes.{code_of}
use Rattle.rows.specs.Literals.{Literal, yes, no}
use Rattle.rows.specs.declared.lit.Term.{Term}
use Rattle.rows.specs.Sums.{Totals, divided_term, left_over, variables_to, widest}

-- a sum as it is kept: at the place of a literal's number stands what the literal counts
pub record Table : Type 0 where
  pub top : ℕ
  pub counts : List ℕ
  pub weight : ℕ
  pub degree : ℕ

-- what a literal counts: nothing, past the end of the table
abbrev pub count_at : List ℕ → Literal → ℕ
count_at counts l = slice_index_or counts (code_of l) 0

-- the sum that it is
abbrev pub totals_of : Table → Totals
totals_of t = record { top = t.top; count = count_at t.counts; weight = t.weight; degree = t.degree }

-- a literal that counts has its variable among those that were touched
abbrev pub AreTouched : (Literal → ℕ) → List ℕ → Type 0
AreTouched count touched = (l : Literal) → count l ≢ 0 → Contains touched l.var

-- variables from 1 to the greatest
abbrev pub AreUpTo : ℕ → List ℕ → Type 0
AreUpTo top touched = All (λ v. (1 ≤ v) × (v ≤ top)) touched

-- up to any variable, what the literals count is at most the total
abbrev pub IsCovered : (Literal → ℕ) → ℕ → Type 0
IsCovered count total = (top : ℕ) → sum_by (λ v. count (yes v) + count (no v)) (variables_to top) ≤ total

pub record IsKept (t : Table) (touched : List ℕ) : Type 0 where
  pub covered : IsCovered (count_at t.counts) t.weight
  pub touched_all : AreTouched (count_at t.counts) touched
  pub up_to : AreUpTo t.top touched
  pub top : t.top ≤ 2147483647
  pub weight : t.weight ≤ widest
  pub degree : t.degree ≤ widest

-- ---- its row

-- what is left of a variable, and what its two literals have in common
abbrev pub left_at : (Literal → ℕ) → ℕ → List Term
left_at count v = left_over v (count (yes v)) (count (no v))

abbrev pub common_at : (Literal → ℕ) → ℕ → ℕ
common_at count v = min (count (yes v)) (count (no v))

-- the variables before `next` are cancelled, and what is left of them is divided
pub record AreCancelled (count : Literal → ℕ) (degree divisor : ℕ) (done : List Term) (left next : ℕ) : Type 0 where
  pub terms : done ≡ map (divided_term divisor) (flat_map (left_at count) (range_with_len 0 next))
  pub rest : left ≡ degree - sum_by (common_at count) (range_with_len 0 next)
