-- The number that stands for a literal.
use Rattle.std.specs.Prelude.{◌≡◌, ℕ, ◌+◌, ◌*◌, ◌/◌, ◌%◌, ◌==◌, if◌then◌else◌}
use Rattle.std.proofs.Common.{arith}
use Rattle.std.proofs.lemmas.Bool.Decides.{nat_tests}
use Rattle.rows.specs.Literals.{Literal}

-- twice the variable, and 1 more for its negation
abbrev pub code_of : Literal → ℕ
code_of l = l.var * 2 + (if l.positive then 0 else 1)

abbrev pub literal_of : ℕ → Literal
literal_of code = record { var = code / 2; positive = code % 2 == 0 }

-- the number's literal has the number
pub code_of-literal_of : (code : ℕ) → code_of (literal_of code) ≡ code
code_of-literal_of code = grind (arith, nat_tests)
