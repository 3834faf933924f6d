-- What an analysis of a conflict finds in a trail: which literals it keeps, for the clause, and which it resolves by
-- their reasons.
use Rattle.std.specs.Prelude.{◌≡◌, ◌≢◌, ℕ, zero, suc, ◌<◌, List, [], ◌∷◌, ◌++◌, Some, Contains}
use Rattle.std.specs.List.{AllPairs}
use Rattle.rows.specs.Literals.{Literal, negate}
use Rattle.rows.specs.Rows.{Row}
use Rattle.rows.specs.Partials.{Forces, IsInConflict, value_of}
use Rattle.rows.specs.declared.lit.Term.{Term}
use Rattle.rows.specs.declared.partial.Value.{Value}
use Rattle.rows.specs.declared.partial.Value.TheVariants.{False}
use Rattle.refutation.specs.Following.{row_numbered}
use Rattle.clause_search.specs.declared.role.Role.{Role}
use Rattle.clause_search.specs.declared.role.Role.TheVariants.{Apart, Kept, Used}

-- a false literal's negation stands before place k, and plays a part
abbrev pub IsMarked : (ℕ → Literal) → (ℕ → Role) → ℕ → Literal → Type 0
IsMarked lit role k l = (j : ℕ) × (j < k) × (role j ≢ Apart) × (lit j ≡ negate l)

-- the number names a row whose literals that are false under these values are marked before place k
pub record Resolves (rows : List Row) (lit : ℕ → Literal) (role : ℕ → Role) (k : ℕ) (values : ℕ → Value) (number : ℕ)
    (row : Row) : Type 0 where
  pub named : row_numbered rows number ≡ Some row
  pub apart : AllPairs (λ t u. t.lit.var ≢ u.lit.var) row.terms
  pub marked : (t : Term) → Contains row.terms t → value_of values t.lit ≡ False → IsMarked lit role k t.lit

-- the literal at place k is forced by the row of its reason
pub record IsResolved (rows : List Row) (lit : ℕ → Literal) (reason : ℕ → ℕ) (role : ℕ → Role) (k : ℕ)
    (values : ℕ → Value) : Type 0 where
  pub row : Row
  pub term : Term
  pub resolves : Resolves rows lit role k values (reason k) row
  pub forces : Forces values row term
  pub literal : term.lit ≡ lit k

-- an analysis of n literals of a trail, where `before k` are the values before place k: each that is used is resolved,
-- and the row with this number is in conflict behind them all
pub record IsAnalysis (rows : List Row) (n : ℕ) (lit : ℕ → Literal) (reason : ℕ → ℕ) (role : ℕ → Role)
    (before : ℕ → ℕ → Value) (number : ℕ) : Type 0 where
  pub used : (k : ℕ) → k < n → role k ≡ Used → IsResolved rows lit reason role k (before k)
  pub row : Row
  pub resolves : Resolves rows lit role n (before n) number row
  pub conflict : IsInConflict (before n) row

-- the reasons of those that are used, in the trail's order
abbrev pub hint_of : ℕ → Role → List ℕ
hint_of reason Used = reason ∷ []
hint_of reason Kept = []
hint_of reason Apart = []

abbrev pub hints_below : (ℕ → ℕ) → (ℕ → Role) → ℕ → List ℕ
hints_below reason role zero = []
hints_below reason role (suc k) = hints_below reason role k ++ hint_of (reason k) (role k)

-- the negations of those that are kept, in the trail's order
abbrev pub literal_of : Literal → Role → List Literal
literal_of l Kept = negate l ∷ []
literal_of l Used = []
literal_of l Apart = []

abbrev pub clause_below : (ℕ → Literal) → (ℕ → Role) → ℕ → List Literal
clause_below lit role zero = []
clause_below lit role (suc k) = clause_below lit role k ++ literal_of (lit k) (role k)
