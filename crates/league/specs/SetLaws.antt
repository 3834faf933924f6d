-- Numbers, and pairs of numbers, that their order doesn't tell apart are the same.
use Rattle.std.specs.Prelude.{◌≡◌, ℕ}
use Rattle.std.specs.Ordering.{nat_cmp, ordering_then}
use Rattle.std.specs.declared.cmp.Ordering.{Ordering}
use Rattle.std.specs.declared.cmp.Ordering.TheVariants.{Less, Equal, Greater}
use Rattle.std.proofs.Common.{arith, refl, ap, ◌∙◌}
use Rattle.std.proofs.lemmas.Bool.Decides.{nat_tests}
use Rattle.league.specs.Sets.{pair_cmp}

pub same-nat_cmp : (a b : ℕ) → nat_cmp a b ≡ Equal → a ≡ b
same-nat_cmp a b h = grind (arith, nat_tests)

both_equal : (o p : Ordering) → ordering_then o p ≡ Equal → (o ≡ Equal) × (p ≡ Equal)
both_equal Less p h = absurd (cc)
both_equal Equal p h = (refl, h)
both_equal Greater p h = absurd (cc)

pub same-pair_cmp : (a b : ℕ × ℕ) → pair_cmp a b ≡ Equal → a ≡ b
same-pair_cmp a b h =
    let both : (nat_cmp a.0 b.0 ≡ Equal) × (nat_cmp a.1 b.1 ≡ Equal) =
    both_equal (nat_cmp a.0 b.0) (nat_cmp a.1 b.1) h in
    let first : a.0 ≡ b.0 = same-nat_cmp a.0 b.0 both.0 in
    let second : a.1 ≡ b.1 = same-nat_cmp a.1 b.1 both.1 in
    ap (λ (x : ℕ). (x, a.1)) first ∙ ap (λ (y : ℕ). (b.0, y)) second
