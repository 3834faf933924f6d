-- How many terms the rows of a league may have.
use Rattle.std.proofs.Common.{ℕ, Ok, refl, arith}
use Rattle.encoding.specs.Limit.{KeepsLimit}

-- what is made within the limit is so whatever it is
pub limit-kept : {A B : Type 0} (size : ℕ) (made : A) (other : B) → KeepsLimit size (Ok made) → KeepsLimit size (Ok other)
limit-kept {A} {B} size made other is = record {
  within = λ some. is.within refl;
  too_large = λ many. absurd (omega (arith, many, is.within refl));
  only = λ terms same. absurd (cc);
}
