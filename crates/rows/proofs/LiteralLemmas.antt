-- Literals that are the same, and negated twice.
use Rattle.std.proofs.Common.{◌≡◌, ℕ, ◌==◌, Bool, true, false, not, ◌&&◌, refl, arith, ap, sym, ◌∙◌}
use Rattle.std.specs.Bool.{beq}
use Rattle.std.proofs.lemmas.Bool.Decides.{nat_tests}
use Rattle.rows.specs.Literals.{Literal, negate}
use Rattle.rows.specs.Sums.{is_same}

same_var : (v w : ℕ) (same : Bool) → (v == w && same) ≡ true → v ≡ w
same_var v w same is = grind (arith, nat_tests)

same_sign : (one : Bool) (s t : Bool) → (one && beq s t) ≡ true → s ≡ t
same_sign true true true is = refl
same_sign true true false is = sym is
same_sign true false true is = is
same_sign true false false is = refl
same_sign false s t is = absurd (cc)

pub same_literal : (l m : Literal) → is_same l m ≡ true → l ≡ m
same_literal l m is =
    ap (λ (v : ℕ). let one : Literal = record { var = v; positive = l.positive } in one)
    (same_var l.var m.var (beq l.positive m.positive) is)
    ∙ ap (λ (s : Bool). let one : Literal = record { var = m.var; positive = s } in one)
    (same_sign (l.var == m.var) l.positive m.positive is)

twice_negated : (s : Bool) → not (not s) ≡ s
twice_negated true = refl
twice_negated false = refl

pub negate-twice : (l : Literal) → negate (negate l) ≡ l
negate-twice l =
    ap (λ (s : Bool). let one : Literal = record { var = l.var; positive = s } in one) (twice_negated l.positive)
