-- A walk that clears what was touched.
use Rattle.std.proofs.Common.{◌≡◌, ◌≢◌, ℕ, zero, suc, ◌+◌, ◌*◌, ◌<◌, ◌≤◌, Bool, true, false, cond, ◌⊎◌, List, [], ◌∷◌, length, get_or, drop}
use Rattle.std.proofs.Common.{inl, inr, arith, ap, sym, subst, ◌∙◌, get_or-set_same, get_or-set_other}
use Rattle.std.specs.Prelude.{Contains, slice_set}
use Rattle.std.proofs.lemmas.Bool.{cases_eq, cases_lt}
use Rattle.std.proofs.lemmas.List.{drop_all, drop_more, get_or_past, length-set}
use mathlib.Core.Path.{fun_ext}
use Rattle.rows.specs.Literals.{Literal}
use Rattle.rows.specs.Tables.{AreTouched, count_at}

zero_at : (xs : List ℕ) (k : ℕ) → get_or (slice_set xs k 0) k 0 ≡ 0
zero_at xs k =
    elim (cases_lt k (length xs)) [
      | inl there ↦ get_or-set_same xs k 0 0 there
      | inr past ↦ get_or_past (slice_set xs k 0) k 0 (omega (arith, length-set xs k 0))
    ]

zero_stays : (xs : List ℕ) (k j : ℕ) → get_or xs j 0 ≡ 0 → get_or (slice_set xs k 0) j 0 ≡ 0
zero_stays xs k j none =
    elim (cases_eq j k) [
      | inl same ↦ ap (λ (i : ℕ). get_or (slice_set xs k 0) i 0) same ∙ zero_at xs k
      | inr other ↦ get_or-set_other xs k j 0 0 other ∙ none
    ]

-- both places of a variable
abbrev pub cleared : List ℕ → ℕ → List ℕ
cleared counts v = slice_set (slice_set counts (v * 2) 0) (v * 2 + 1) 0

cleared_same : (counts : List ℕ) (v : ℕ) (p : Bool) → get_or (cleared counts v) (v * 2 + cond p 0 1) 0 ≡ 0
cleared_same counts v true =
    let here : v * 2 + 0 ≡ v * 2 = omega arith in
    ap (λ (k : ℕ). get_or (cleared counts v) k 0) here ∙ zero_stays (slice_set counts (v * 2) 0) (v * 2 + 1) (v * 2) (zero_at counts (v * 2))
cleared_same counts v false = zero_at (slice_set counts (v * 2) 0) (v * 2 + 1)

cleared_other : (counts : List ℕ) (v w : ℕ) (p : Bool) → w ≢ v → get_or (cleared counts v) (w * 2 + cond p 0 1) 0 ≡ get_or counts (w * 2 + cond p 0 1) 0
cleared_other counts v w true other =
    let first : w * 2 + 0 ≢ v * 2 = λ same. other (omega (arith, same)) in
    let second : w * 2 + 0 ≢ v * 2 + 1 = λ same. other (omega (arith, same)) in
    get_or-set_other (slice_set counts (v * 2) 0) (v * 2 + 1) (w * 2 + 0) 0 0 second ∙ get_or-set_other counts (v * 2) (w * 2 + 0) 0 0 first
cleared_other counts v w false other =
    let first : w * 2 + 1 ≢ v * 2 = λ same. other (omega (arith, same)) in
    let second : w * 2 + 1 ≢ v * 2 + 1 = λ same. other (omega (arith, same)) in
    get_or-set_other (slice_set counts (v * 2) 0) (v * 2 + 1) (w * 2 + 1) 0 0 second ∙ get_or-set_other counts (v * 2) (w * 2 + 1) 0 0 first

cons_cases : (x : ℕ) (xs : List ℕ) (y k : ℕ) → k < length (x ∷ xs) → get_or (x ∷ xs) k y ≡ y → (x ≡ y) ⊎ Contains xs y
cons_cases x xs y zero there is = inl is
cons_cases x xs y (suc k) there is = let below : k < length xs = omega arith in inr (k, below, is)

-- a variable that is cleared needs to be listed no more
pub cleared_step : (counts mid after touched : List ℕ) (i v : ℕ) → i < length touched → v ≡ get_or touched i v → AreTouched (count_at counts) (drop i touched)
    → mid ≡ slice_set counts (v * 2) 0 → after ≡ slice_set mid (v * 2 + 1) 0 → AreTouched (count_at after) (drop (i + 1) touched)
cleared_step counts mid after touched i v there is all first second m counts_now =
    let whole : after ≡ cleared counts v = second ∙ ap (λ (xs : List ℕ). slice_set xs (v * 2 + 1) 0) first in
    elim (cases_eq m.var v) [
      | inl same ↦ absurd (counts_now (ap (λ (xs : List ℕ). count_at xs m) whole
          ∙ ap (λ (w : ℕ). get_or (cleared counts v) (w * 2 + cond m.positive 0 1) 0) same ∙ cleared_same counts v m.positive))
      | inr other ↦
          let kept : count_at after m ≡ count_at counts m = ap (λ (xs : List ℕ). count_at xs m) whole ∙ cleared_other counts v m.var m.positive other in
          let found : Contains (get_or touched i v ∷ drop (i + 1) touched) m.var = subst (λ (xs : List ℕ). Contains xs m.var) (drop_more touched i v there) (all m (λ none. counts_now (kept ∙ none))) in
          elim (cons_cases (get_or touched i v) (drop (i + 1) touched) m.var found.0 found.1 found.2) [
            | inl it ↦ absurd (other (sym (is ∙ it)))
            | inr later ↦ later
          ]
    ]

nothing_at : (counts touched : List ℕ) (i : ℕ) → length touched ≤ i → AreTouched (count_at counts) (drop i touched) → (m : Literal) → count_at counts m ≡ 0
nothing_at counts touched i all listed m =
    elim (cases_eq (count_at counts m) 0) [
      | inl none ↦ none
      | inr some ↦
          let found : Contains [] m.var = subst (λ (xs : List ℕ). Contains xs m.var) (drop_all i touched all) (listed m some) in
          let there : found.0 < 0 = found.1 in
          absurd (omega arith)
    ]

-- at the end nothing counts
pub cleared_end : (counts touched : List ℕ) (i : ℕ) → length touched ≤ i → AreTouched (count_at counts) (drop i touched) → count_at counts ≡ (λ l. 0)
cleared_end counts touched i all listed = fun_ext (nothing_at counts touched i all listed)
