-- Entities as a loop expands them, byte by byte.
use Rattle.std.proofs.Common.{◌≡◌, ℕ, zero, suc, ◌+◌, ◌-◌, ◌<◌, List, [], ◌∷◌, ◌++◌, length, drop, refl, sym, ap, ◌∙◌, subst, arith, append_assoc}
use Rattle.robinx.specs.Plain.{byte_at, expanded_from}

-- a byte that belongs to an entity before it adds nothing
within : (inside : ℕ) (rest tail : List ℕ) (b : ℕ) → rest ≡ b ∷ tail → expanded_from (suc inside) rest ≡ expanded_from inside tail
unfolding expanded_from
within inside rest tail b is = ap (λ (r : List ℕ). expanded_from (suc inside) r) is

pub expanded_within : (inside : ℕ) (rest : List ℕ) → 0 < inside → 0 < length rest → expanded_from inside rest ≡ expanded_from (inside - 1) (drop 1 rest)
expanded_within zero rest some h = absurd (omega arith)
expanded_within (suc inside) [] some h = absurd (omega arith)
expanded_within (suc inside) (b ∷ tail) some h =
    let less : suc inside - 1 ≡ inside = omega arith in
    rw less (within inside (b ∷ tail) tail b refl)

-- elsewhere a byte or an entity begins
begun : (rest tail : List ℕ) (b : ℕ) → rest ≡ b ∷ tail → expanded_from 0 rest ≡ (byte_at rest).0 ∷ expanded_from (byte_at rest).1 tail
unfolding expanded_from
begun rest tail b is = subst (λ (r : List ℕ). expanded_from 0 r ≡ (byte_at r).0 ∷ expanded_from (byte_at r).1 tail) (sym is) refl

pub expanded_begun : (inside : ℕ) (rest : List ℕ) → inside ≡ 0 → 0 < length rest → expanded_from inside rest ≡ (byte_at rest).0 ∷ expanded_from (byte_at rest).1 (drop 1 rest)
expanded_begun inside [] none h = absurd (omega arith)
expanded_begun inside (b ∷ tail) none h = rw none (begun (b ∷ tail) tail b refl)

-- at the end nothing is added
ended : (inside : ℕ) → expanded_from inside [] ≡ []
unfolding expanded_from
ended zero = refl
ended (suc inside) = refl

pub expanded_end : (inside : ℕ) (rest : List ℕ) → length rest ≡ 0 → expanded_from inside rest ≡ []
expanded_end inside [] none = ended inside
expanded_end inside (b ∷ rest) none = absurd (omega arith)

-- ---- as the code goes on

-- a byte or an entity was taken
pub taken : (old now bytes : List ℕ) (inside byte more : ℕ) → inside ≡ 0 → 0 < length bytes → (byte, more) ≡ byte_at bytes → now ≡ old ++ byte ∷ []
    → now ++ expanded_from more (drop 1 bytes) ≡ old ++ expanded_from inside bytes
taken old now bytes inside byte more none some is grown =
    let rest = drop 1 bytes in
    let first : byte ≡ (byte_at bytes).0 = ap (λ (p : ℕ × ℕ). p.0) is in
    let second : more ≡ (byte_at bytes).1 = ap (λ (p : ℕ × ℕ). p.1) is in
    ap (λ x. x ++ expanded_from more rest) grown
    ∙ append_assoc old (byte ∷ []) (expanded_from more rest)
    ∙ ap (λ x. old ++ x ∷ expanded_from more rest) first
    ∙ ap (λ x. old ++ (byte_at bytes).0 ∷ expanded_from x rest) second
    ∙ ap (λ x. old ++ x) (sym (expanded_begun inside bytes none some))

pub drop_next : (place : ℕ) (bytes : List ℕ) → drop (place + 1) bytes ≡ drop 1 (drop place bytes)
drop_next zero bytes = refl
drop_next (suc place) [] = let next : suc place + 1 ≡ suc (place + 1) = omega arith in rw next refl
drop_next (suc place) (b ∷ bytes) = let next : suc place + 1 ≡ suc (place + 1) = omega arith in rw next (drop_next place bytes)
