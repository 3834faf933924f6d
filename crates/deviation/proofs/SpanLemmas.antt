-- The slots of an entry of a CA4.
use Rattle.std.proofs.Common.{◌≡◌, ℕ, ◌+◌, ◌-◌, ◌<◌, ◌≤◌, Bool, true, false, ◌||◌, ◌==◌, refl, List, [], ◌∷◌, length, get_or, take, drop, ap, sym, ◌∙◌, subst, zero, suc, arith}
use Rattle.std.proofs.lemmas.List.{get_or-map, length-map}
use Rattle.std.proofs.Math.Seq.{drop-cons}
use Rattle.std.specs.List.{All}
use Rattle.league.specs.Deviation.{spans}
use Rattle.league.specs.Sets.{is_in}
use Rattle.league.specs.declared.class.Span.{Span}
use Rattle.league.specs.declared.class.Span.TheVariants.{Global, Every}
use Rattle.rule_core.specs.Keys.{keys_where}
use Rattle.rule_core.proofs.KeyLemmas.{keys_where-map, keys_where-same}

-- the slots of an entry, of which each slot is one of these
one_slot : (slots : List ℕ) (k : ℕ) → k < length slots → get_or (spans Every slots) k [] ≡ get_or slots k 0 ∷ []
one_slot slots k within = get_or-map (λ s. s ∷ []) slots k 0 [] within

all_one : (P : ℕ → Type 0) (x : ℕ) → P x → All P (x ∷ [])
all_one P x h zero d lt = h
all_one P x h (suc k) d lt = absurd (omega arith)

pub spans-all : (P : ℕ → Type 0) (span : Span) (slots : List ℕ) (k : ℕ) → k < length (spans span slots) → All P slots → All P (get_or (spans span slots) k [])
spans-all P Global slots zero inside all = all
spans-all P Global slots (suc k) inside all = absurd (omega arith)
spans-all P Every slots k inside all =
    let within : k < length slots = omega (arith, length-map slots (λ s. s ∷ [])) in
    subst (λ (xs : List ℕ). All P xs) (sym (one_slot slots k within)) (all_one P (get_or slots k 0) (all k 0 within))

pub spans-few : (span : Span) (slots : List ℕ) (k : ℕ) → k < length (spans span slots) → length slots ≤ 78 → length (get_or (spans span slots) k []) ≤ 78
spans-few Global slots zero inside few = few
spans-few Global slots (suc k) inside few = absurd (omega arith)
spans-few Every slots k inside few =
    let within : k < length slots = omega (arith, length-map slots (λ s. s ∷ [])) in
    omega (arith, ap length (one_slot slots k within))

-- the one slot of a key, cut from the slots
pub cut-one : (span : Span) (slots read : List ℕ) (k : ℕ) → span ≡ Every → k < length (spans span slots) → read ≡ slots → take (k + 1 - k) (drop k read) ≡ get_or (spans span slots) k []
cut-one span slots read k every inside same =
    subst (λ (s : Span). k < length (spans s slots) → take (k + 1 - k) (drop k read) ≡ get_or (spans s slots) k []) (sym every)
    (λ within.
    let here : k < length slots = omega (arith, length-map slots (λ s. s ∷ [])) in
    let one : k + 1 - k ≡ 1 = omega arith in
    ap (λ (xs : List ℕ). take (k + 1 - k) (drop k xs)) same
    ∙ ap (λ (count : ℕ). take count (drop k slots)) one
    ∙ ap (λ (xs : List ℕ). take 1 xs) (drop-cons slots k 0 here)
    ∙ sym (one_slot slots k here))
    inside

-- a slot's key is that of the spans in which it is
pub slot_key : (slots : List ℕ) (s : ℕ) → keys_where (λ x. x == s) slots ≡ keys_where (is_in s) (spans Every slots)
slot_key slots s =
    keys_where-same (λ x. x == s) (λ x. is_in s (x ∷ [])) slots (λ k d lt. alone (get_or slots k d == s))
    ∙ sym (keys_where-map (is_in s) (λ x. x ∷ []) slots) where
      alone : (b : Bool) → b ≡ (b || false)
      alone true = refl
      alone false = refl
