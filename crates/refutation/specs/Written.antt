-- Numbers that a log can hold, and its text can say.
use Rattle.std.specs.Prelude.{ℕ, ◌≤◌, ◌<◌, ◌^◌}
use Rattle.std.specs.List.{All}
use Rattle.rows.specs.Literals.{Literal}
use Rattle.refutation.specs.Steps.{Step}
use Rattle.refutation.specs.Steps.Step.{Clause, Linear}
use Rattle.refutation.specs.declared.step.Part.{Part}
use Rattle.refutation.specs.declared.version.Version.{Version}
use Rattle.refutation.specs.declared.version.Version.TheVariants.{One, Two}

-- a literal of a variable
pub record IsVariable (lit : Literal) : Type 0 where
  pub at_least : 1 ≤ lit.var
  pub at_most : lit.var ≤ 2147483647

-- a number of 64 bits
abbrev pub IsSmall : ℕ → Type 0
IsSmall number = number < 2 ^ 64

-- a row with a factor from 1
pub record IsFactored (part : Part) : Type 0 where
  pub factor : 1 ≤ part.factor
  pub small_factor : IsSmall part.factor
  pub small_row : IsSmall part.row

-- the numbers of a step
abbrev pub HasSmallNumbers : Step → Type 0
HasSmallNumbers (Clause clause hints) = All IsVariable clause × All IsSmall hints
HasSmallNumbers (Linear parts divisor) = All IsFactored parts × (1 ≤ divisor) × IsSmall divisor

-- version 1 has no linear steps
abbrev pub IsOf : Version → Step → Type 0
IsOf One (Clause clause hints) = Unit {0}
IsOf One (Linear parts divisor) = ⊥
IsOf Two step = Unit {0}
