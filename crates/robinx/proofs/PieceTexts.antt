-- The first place of a text, as the search for a needle gives it.
use Rattle.std.proofs.Common.{◌≡◌, ℕ, zero, suc, ◌+◌, ◌<◌, true, false, List, [], ◌∷◌, length, take, drop, slice_index, Option, Some, None, option_map, refl, sym, ap, ◌∙◌, arith, inl, inr}
use Rattle.std.proofs.lemmas.Bool.{cases_Bool}
use Rattle.std.proofs.lemmas.List.{length-take}
use Rattle.std.proofs.lemmas.Slice.Eq.{bytes_eq-Decides}
use Rattle.robinx.specs.Pieces.{begins, after_text}
use Rattle.memchr.specs.Find.{OccursAt, FindsNeedle}
use Rattle.memchr.proofs.lemmas.MatchLemmas.{OccursAt-part, OccursAt-from_part}

begins-from_OccursAt : (text bytes : List ℕ) → OccursAt bytes text 0 → begins text bytes ≡ true
begins-from_OccursAt text bytes here = (bytes_eq-Decides text (take (length text) bytes)).1 (sym (OccursAt-part bytes text 0 here))

OccursAt-from_begins : (text bytes : List ℕ) → begins text bytes ≡ true → OccursAt bytes text 0
OccursAt-from_begins text bytes yes_is =
    let part : text ≡ take (length text) bytes = (bytes_eq-Decides text (take (length text) bytes)).0 yes_is in
    let fits = ap length part in
    OccursAt-from_part bytes text 0 (omega (arith, fits, length-take (length text) bytes)) (sym part)

index-suc : (b : ℕ) (bytes : List ℕ) (i k : ℕ) → i ≡ k + 1 → slice_index (b ∷ bytes) i ≡ slice_index bytes k
index-suc b bytes zero k e = absurd (omega arith)
index-suc b bytes (suc i) k e = let same : i ≡ k = omega arith in ap (slice_index bytes) same

OccursAt-later : (text : List ℕ) (b : ℕ) (bytes : List ℕ) (k : ℕ) → OccursAt bytes text k → OccursAt (b ∷ bytes) text (k + 1)
OccursAt-later text b bytes k h = record {
  fits = omega (arith, h.fits);
  reads = λ j lt. index-suc b bytes (k + 1 + j) (k + j) (omega arith) ∙ h.reads j lt;
}

OccursAt-earlier : (text : List ℕ) (b : ℕ) (bytes : List ℕ) (k : ℕ) → OccursAt (b ∷ bytes) text (k + 1) → OccursAt bytes text k
OccursAt-earlier text b bytes k h = record {
  fits = omega (arith, h.fits);
  reads = λ j lt. sym (index-suc b bytes (k + 1 + j) (k + j) (omega arith)) ∙ h.reads j lt;
}

-- what stands after the first place
abbrev behind : List ℕ → List ℕ → Option ℕ → Option (List ℕ)
behind text bytes r = option_map (λ at. drop (at + length text) bytes) r

after_text-here : (text : List ℕ) (b : ℕ) (bytes : List ℕ) → begins text (b ∷ bytes) ≡ true → after_text text (b ∷ bytes) ≡ Some (drop (length text) (b ∷ bytes))
after_text-here text b bytes here = rw (here, after_text) refl

pub after_text-later : (text : List ℕ) (b : ℕ) (bytes : List ℕ) → begins text (b ∷ bytes) ≡ false → after_text text (b ∷ bytes) ≡ after_text text bytes
after_text-later text b bytes not_here = rw (not_here, after_text) refl

never_here : (text : List ℕ) (b : ℕ) (bytes : List ℕ) → (OccursAt (b ∷ bytes) text 0 → ⊥) → begins text (b ∷ bytes) ≡ false
never_here text b bytes h = elim (cases_Bool (begins text (b ∷ bytes))) [ inl is ↦ absurd (h (OccursAt-from_begins text (b ∷ bytes) is)) | inr is ↦ is ]

-- a first place that isn't this one is the first place of the rest
FindsNeedle-rest : (text : List ℕ) (b : ℕ) (bytes : List ℕ) (k : ℕ) → FindsNeedle (b ∷ bytes) text 0 (Some (suc k)) → FindsNeedle bytes text 0 (Some k)
FindsNeedle-rest text b bytes k first =
    let next : suc k ≡ k + 1 = omega arith in
    let here : OccursAt (b ∷ bytes) text (k + 1) = rw (← next) first.1 in (
      record {
        low = omega arith;
        high = omega (arith, first.0.high);
        before = λ i low below occurs. first.0.before (i + 1) (omega arith) (omega arith) (OccursAt-later text b bytes i occurs);
      },
      OccursAt-earlier text b bytes k here,
    )

pub after_text_is : (text bytes : List ℕ) (r : Option ℕ) → 0 < length text → FindsNeedle bytes text 0 r → after_text text bytes ≡ behind text bytes r
after_text_is text [] None some none = refl
after_text_is text [] (Some k) some first = absurd (omega (arith, first.1.fits))
after_text_is text (b ∷ bytes) None some none =
    let nowhere : FindsNeedle bytes text 0 None = λ k low below occurs. none (k + 1) (omega arith) (omega arith) (OccursAt-later text b bytes k occurs) in
    after_text-later text b bytes (never_here text b bytes (none 0 (omega arith) (omega arith))) ∙ after_text_is text bytes None some nowhere
after_text_is text (b ∷ bytes) (Some zero) some first =
    let len : length text ≡ 0 + length text = omega arith in
    after_text-here text b bytes (begins-from_OccursAt text (b ∷ bytes) first.1) ∙ ap (λ n. Some (drop n (b ∷ bytes))) len
after_text_is text (b ∷ bytes) (Some (suc k)) some first =
    let len : suc k + length text ≡ suc (k + length text) = omega arith in
    let later = after_text_is text bytes (Some k) some (FindsNeedle-rest text b bytes k first) in
    after_text-later text b bytes (never_here text b bytes (first.0.before 0 (omega arith) (omega arith))) ∙ later ∙ ap (λ n. Some (drop n (b ∷ bytes))) (sym len)
