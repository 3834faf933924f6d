-- Rows of so many variables, and what is to be least.
use Rattle.std.specs.Prelude.{ℕ, ◌<◌, ◌^◌, List, length, Option, IfSome}
use Rattle.std.specs.List.{All}
use Rattle.rows.specs.Rows.{Row}
use Rattle.rows.specs.declared.lit.Term.{Term}

pub record System : Type 0 where
  -- the variables are 1 to this number
  pub vars : ℕ
  -- where something is to be least, its terms: the coefficients of the true literals are summed
  pub least : Option (List Term)
  pub rows : List Row

-- ---- numbers that a text can say: of 64 bits

pub record IsSmallTerm (t : Term) : Type 0 where
  pub coef : t.coef < 2 ^ 64
  pub var : t.lit.var < 2 ^ 64

pub record IsSmallRow (row : Row) : Type 0 where
  pub terms : All IsSmallTerm row.terms
  pub degree : row.degree < 2 ^ 64

pub record IsSmallSystem (system : System) : Type 0 where
  pub vars : system.vars < 2 ^ 64
  pub count : length system.rows < 2 ^ 64
  pub least : IfSome system.least (All IsSmallTerm)
  pub rows : All IsSmallRow system.rows
