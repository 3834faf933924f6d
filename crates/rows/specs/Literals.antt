-- Literals.
use Rattle.std.specs.Prelude.{ℕ, Bool, true, false, not}

-- a variable, numbered from 1, or where it isn't positive, its negation
pub record Literal : Type 0 where
  pub var : ℕ
  pub positive : Bool

-- the variable itself, and its negation
abbrev pub yes : ℕ → Literal
yes v = record { var = v; positive = true }

abbrev pub no : ℕ → Literal
no v = record { var = v; positive = false }

-- the literal that is true exactly where l is false
abbrev pub negate : Literal → Literal
negate l = record { var = l.var; positive = not l.positive }
