-- Rows where only some variables have a value. A partial assignment is a function that gives each variable its value.
use Rattle.std.specs.Prelude.{◌≡◌, ◌≢◌, ℕ, ◌+◌, ◌<◌, ◌≤◌, Bool, true, false, ◌&&◌, nat_lt, List, if◌then◌else◌}
use Rattle.std.specs.Prelude.{Contains}
use Rattle.std.specs.List.{All, sum_by}
use Rattle.rows.specs.Literals.{Literal}
use Rattle.rows.specs.Rows.{Row}
use Rattle.rows.specs.declared.lit.Term.{Term}
use Rattle.rows.specs.declared.partial.Value.{Value}
use Rattle.rows.specs.declared.partial.Value.TheVariants.{True, False, Free}

-- the value of the negation
abbrev pub opposite_of : Value → Value
opposite_of True = False
opposite_of False = True
opposite_of Free = Free

-- the value of a variable that is true, or false
abbrev pub as_value : Bool → Value
as_value true = True
as_value false = False

-- the value of a literal
abbrev pub value_of : (ℕ → Value) → Literal → Value
value_of values l = if l.positive then values l.var else opposite_of (values l.var)

abbrev pub is_false : Value → Bool
is_false True = false
is_false False = true
is_false Free = false

abbrev pub is_free : Value → Bool
is_free True = false
is_free False = false
is_free Free = true

-- what the literals sum to that aren't false: the slack of a row is this less its degree
abbrev pub reach : (ℕ → Value) → List Term → ℕ
reach values terms = sum_by (λ t. if is_false (value_of values t.lit) then 0 else t.coef) terms

-- the slack is negative: no values of the free variables meet the row
abbrev pub IsInConflict : (ℕ → Value) → Row → Type 0
IsInConflict values row = reach values row.terms < row.degree

-- a row that isn't in conflict can't be met without the term's literal, which is free: its coefficient is above the
-- slack
pub record Forces (values : ℕ → Value) (row : Row) (t : Term) : Type 0 where
  pub no_conflict : row.degree ≤ reach values row.terms
  pub there : Contains row.terms t
  pub free : value_of values t.lit ≡ Free
  pub needed : reach values row.terms < row.degree + t.coef

-- whether a term's literal is free, and its coefficient above the slack
abbrev pub is_forced : (ℕ → Value) → List Term → ℕ → Term → Bool
is_forced values terms degree t = is_free (value_of values t.lit) && nat_lt (reach values terms) (degree + t.coef)

-- the row is neither in conflict nor forces a literal
pub record IsQuietRow (values : ℕ → Value) (row : Row) : Type 0 where
  pub no_conflict : row.degree ≤ reach values row.terms
  pub none_forced : All (λ t. value_of values t.lit ≡ Free → row.degree + t.coef ≤ reach values row.terms) row.terms

-- no row is in conflict or forces a literal
abbrev pub IsQuiet : (ℕ → Value) → List Row → Type 0
IsQuiet values rows = All (IsQuietRow values) rows

-- some quiet values leave one literal of the clause free and make all its others false: the clause forces what the
-- rows alone don't
abbrev pub IsEmpowering : List Row → List Literal → Type 0
IsEmpowering rows clause = (values : ℕ → Value) × (l : Literal)
    × IsQuiet values rows × Contains clause l × (value_of values l ≡ Free)
    × ((other : Literal) → Contains clause other → other ≢ l → value_of values other ≡ False)
