-- Coefficients within a limit.
use Rattle.std.proofs.Common.{ℕ, ◌+◌, ◌<◌, ◌≤◌, ℤ, pos, List, length, get_or, set, take, inl, inr, subst, sym, arith}
use Rattle.std.proofs.lemmas.Bool.{cases_eq}
use Rattle.std.proofs.lemmas.Grind.{get_or-set_at}
use Rattle.std.proofs.lemmas.List.{get_or-set_other}
use Rattle.std.proofs.lemmas.List.Elements.{All-more, All-weaker}
use Rattle.rows.specs.Literals.{Literal}
use Rattle.planes.specs.Coefs.{AreAtMost}
use Rattle.planes.specs.Numbers.{size_of}

-- one of them is within the limit
abbrev at_most : ℕ → List ℤ → Literal → Type 0
at_most limit counts l = size_of (get_or counts l.var (pos 0)) ≤ limit

pub raised : (limit more : ℕ) (counts : List ℤ) (touched : List Literal)
    → AreAtMost limit counts touched → limit ≤ more → AreAtMost more counts touched
raised limit more counts touched all below =
    All-weaker (at_most limit counts) (at_most more counts) (λ l small. omega (arith, small)) touched all

-- one count is written
pub written : (limit more : ℕ) (counts : List ℤ) (touched : List Literal) (v : ℕ) (count : ℤ)
    → v < length counts → limit ≤ more → size_of count ≤ more
    → AreAtMost limit counts touched → AreAtMost more (set counts v count) touched
written limit more counts touched v count there below fits all =
    let one : (l : Literal) → at_most limit counts l → at_most more (set counts v count) l =
    λ l small. elim (cases_eq l.var v) [
      | inl same ↦ subst (λ (z : ℤ). size_of z ≤ more) (sym (get_or-set_at counts v l.var count (pos 0) same there)) fits
      | inr other ↦
          subst (λ (z : ℤ). size_of z ≤ more) (sym (get_or-set_other counts v l.var count (pos 0) other)) (omega (arith, small))
    ] in
    All-weaker (at_most limit counts) (at_most more (set counts v count)) one touched all

-- a loop's step: one more is looked at
pub more_within : (limit more : ℕ) (counts : List ℤ) (touched : List Literal) (k : ℕ) (d : Literal)
    → k < length touched → limit ≤ more → size_of (get_or counts (get_or touched k d).var (pos 0)) ≤ more
    → AreAtMost limit counts (take k touched) → AreAtMost more counts (take (k + 1) touched)
more_within limit more counts touched k d there below fits all =
    All-more (at_most more counts) touched k d there (raised limit more counts (take k touched) all below) fits
