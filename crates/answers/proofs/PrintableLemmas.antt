-- Printable text stays printable where more of it comes.
use Rattle.std.proofs.Common.{◌≡◌, ℕ, if◌then◌else◌, Bool, true, false, ◌&&◌, List, [], ◌∷◌, ◌++◌, arith, refl, subst, sym}
use Rattle.std.proofs.lemmas.Bool.Decides.{nat_tests}
use Rattle.answers.specs.Printable.{is_letter, is_plain, is_printable}

chosen : (plain letter p q more_p more_q : Bool) → (p ≡ true → more_p ≡ true) → (q ≡ true → more_q ≡ true)
    → (if plain then p else (letter && q)) ≡ true → (if plain then more_p else (letter && more_q)) ≡ true
chosen true letter p q more_p more_q at_p at_q is = at_p is
chosen false true p q more_p more_q at_p at_q is = at_q is
chosen false false p q more_p more_q at_p at_q is = is

behind : (b : ℕ) (ys : List ℕ) → is_plain b ≡ true → is_printable ys ≡ true → is_printable (b ∷ ys) ≡ true
behind b [] plain is = plain
behind b (c ∷ rest) plain is = first (is_plain b) (is_printable (c ∷ rest)) (is_letter b c && is_printable rest) plain is
  where
    first : (one p q : Bool) → one ≡ true → p ≡ true → (if one then p else q) ≡ true
    first true p q one is = is
    first false p q one is = absurd (cc)

pub printable-append : (xs ys : List ℕ) → is_printable xs ≡ true → is_printable ys ≡ true
    → is_printable (xs ++ ys) ≡ true
printable-append [] ys at_xs at_ys = at_ys
printable-append (b ∷ []) ys at_xs at_ys = behind b ys at_xs at_ys
printable-append (b ∷ c ∷ rest) ys at_xs at_ys =
    chosen (is_plain b) (is_letter b c) (is_printable (c ∷ rest)) (is_printable rest) (is_printable ((c ∷ rest) ++ ys))
    (is_printable (rest ++ ys)) (λ is. printable-append (c ∷ rest) ys is at_ys)
    (λ is. printable-append rest ys is at_ys) at_xs

no_plain : (b c : ℕ) → is_letter b c ≡ true → is_plain b ≡ false
no_plain b c is = grind (arith, nat_tests)

lettered : (plain letter p : Bool) → plain ≡ false → letter ≡ true → (if plain then p else (letter && true)) ≡ true
lettered true letter p plain is = absurd (cc)
lettered false letter p plain is = rw is refl

pub printable-letter : (b c : ℕ) → is_letter b c ≡ true → is_printable (b ∷ c ∷ []) ≡ true
printable-letter b c is = lettered (is_plain b) (is_letter b c) (is_plain c) (no_plain b c is) is

pub appended : (xs ys zs : List ℕ) → is_printable xs ≡ true → is_printable ys ≡ true → zs ≡ xs ++ ys
    → is_printable zs ≡ true
appended xs ys zs at_xs at_ys is =
    subst (λ (list : List ℕ). is_printable list ≡ true) (sym is) (printable-append xs ys at_xs at_ys)
