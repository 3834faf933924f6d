-- What a search answers, in the words of the pieces.
use Rattle.std.proofs.Common.{◌≡◌, ℕ, ◌+◌, ◌-◌, ◌<◌, ◌≤◌, Bool, true, false, not, List, length, get_or, drop, Option, Some, None, count_by, unwrap_or, sym, subst, length-drop, arith, le_refl}
use Rattle.std.specs.List.{position_or_len, suffix_len}
use Rattle.std.proofs.lemmas.Bool.{not_from_true, cases_Bool, cases_lt}
use Rattle.std.proofs.Common.{inl, inr}
use Rattle.std.proofs.lemmas.List.{get_or-drop}
use Rattle.std.proofs.lemmas.List.Sums.{position_or_len_is, suffix_len_is, fails_before_first, passes_at_first}
use Rattle.memchr.specs.Find.{IsFirstByte, places}
use Rattle.memchr.proofs.lemmas.CallerLemmas.{length-places}

fails : (b : Bool) → (b ≡ true → ⊥) → b ≡ false
fails b h = elim (cases_Bool b) [ inl is ↦ absurd (h is) | inr is ↦ is ]

-- the first place that passes, or the length
pub first_or_len : (test : ℕ → Bool) (bytes : List ℕ) (r : Option ℕ) → IsFirstByte test bytes r → position_or_len test bytes ≡ unwrap_or r (length bytes)
first_or_len test bytes None none =
    position_or_len_is test bytes (length bytes) 0 (le_refl (length bytes)) (λ k below. fails _ (none k (omega arith) below)) (λ lt. absurd (omega arith))
first_or_len test bytes (Some at) first =
    position_or_len_is test bytes at 0 (omega (arith, first.0.high)) (λ k below. fails _ (first.0.before k (omega arith) below)) (λ lt. first.1)

pub found_within : (test : ℕ → Bool) (bytes : List ℕ) (r : Option ℕ) → IsFirstByte test bytes r → unwrap_or r (length bytes) ≤ length bytes
found_within test bytes None none = le_refl (length bytes)
found_within test bytes (Some at) first = omega (arith, first.0.high)

pub length_places : (test : ℕ → Bool) (bytes : List ℕ) → length (places test bytes) ≡ count_by test bytes
length_places test bytes = length-places test bytes

-- where none of the first bytes passes, the first that does stands among the others
pub first_behind : (test : ℕ → Bool) (bytes : List ℕ) (len more : ℕ) → len ≤ length bytes → ((k : ℕ) → k < len → test (get_or bytes k 0) ≡ false)
    → more ≡ position_or_len test (drop len bytes) → more ≤ length (drop len bytes) → len + more ≡ position_or_len test bytes
first_behind test bytes len more within before is fits =
    sym (position_or_len_is test bytes (len + more) 0 (omega (arith, length-drop len bytes)) below at) where
      below : (k : ℕ) → k < len + more → test (get_or bytes k 0) ≡ false
      below k lt =
          elim (cases_lt k len) [
            | inl front ↦ before k front
            | inr behind ↦
                let place : len + (k - len) ≡ k = omega arith in
                let fails = fails_before_first test (drop len bytes) (k - len) 0 (omega (arith, is)) in
                subst (λ (i : ℕ). test (get_or bytes i 0) ≡ false) place (subst (λ (b : ℕ). test b ≡ false) (get_or-drop len bytes (k - len) 0) fails)
          ]

      at : len + more < length bytes → test (get_or bytes (len + more) 0) ≡ true
      at lt =
          let passes = passes_at_first test (drop len bytes) 0 (omega (arith, is, length-drop len bytes)) in
          let here = subst (λ (i : ℕ). test (get_or (drop len bytes) i 0) ≡ true) (sym is) passes in
          subst (λ (b : ℕ). test b ≡ true) (get_or-drop len bytes more 0) here

-- a run that passes up to the end
pub run_to_end : (test : ℕ → Bool) (bytes : List ℕ) (len : ℕ) → length bytes ≤ len → len ≤ length bytes → ((k : ℕ) → k < len → test (get_or bytes k 0) ≡ true)
    → len ≡ position_or_len (λ b. not (test b)) bytes
run_to_end test bytes len past within passes =
    sym (position_or_len_is (λ b. not (test b)) bytes len 0 within (λ k below. not_from_true _ (passes k below)) (λ lt. absurd (omega arith)))

-- a run that passes from a place up to the end
pub run_back : (test : ℕ → Bool) (bytes : List ℕ) (len : ℕ) → len ≤ length bytes → ((k : ℕ) → len ≤ k → k < length bytes → test (get_or bytes k 0) ≡ true)
    → (0 < len → test (get_or bytes (len - 1) 0) ≡ false) → len ≡ length bytes - suffix_len test bytes
run_back test bytes len within passes stops =
    let run : suffix_len test bytes ≡ length bytes - len = suffix_len_is test bytes len 0 within passes stops in
    omega arith
