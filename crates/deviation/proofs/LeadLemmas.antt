-- Home games that are added up from slot to slot, and the largest difference so far.
use Rattle.std.proofs.Common.{◌≡◌, ℕ, ◌+◌, ◌-◌, ◌<◌, ◌≤◌, false, max, List, [], ◌∷◌, length, get_or, take, arith, ap, sym, zero-add, ◌∙◌, inl, inr, Some}
use Rattle.std.specs.Prelude.{nat_le, slice_get}
use Rattle.std.proofs.lemmas.Bool.{cases_Bool, cases_lt}
use Rattle.std.proofs.lemmas.Bool.Decides.{nat_tests}
use Rattle.std.proofs.lemmas.List.{get_or_default}
use Rattle.std.proofs.lemmas.List.Folds.{list_any_at, list_any_none}
use Rattle.std.proofs.lemmas.List.Sums.{fold_more}
use Rattle.std.proofs.lemmas.Option.{get_or_from_slice_get}
use Rattle.std.specs.List.{list_any, range_with_len, sum_by}
use Rattle.std.specs.Ordering.{nat_cmp}
use Rattle.league.specs.Bounds.{largest}
use Rattle.league.specs.Sets.{IsAscending}
use Rattle.league.proofs.RangeLemmas.{sum_by-range_more}
use Rattle.league.proofs.SetLemmas.{less_than}
use Rattle.rule_core.proofs.OpponentLemmas.{sum_by-range_append}

-- a slot that is read has a place
has_place : (slots : List ℕ) (last : ℕ) → slice_get slots (length slots - 1) ≡ Some last → 0 < length slots
has_place [] last is = absurd (cc)
has_place (s ∷ slots) last is = omega arith

not_later : (slot s last : ℕ) → nat_le slot last ≡ false → s ≤ last → nat_le slot s ≡ false
not_later slot s last h le = grind (arith, nat_tests)

-- the last slot decides whether one is a given slot or a later one
pub any-by_last : (slots : List ℕ) (slot last : ℕ) → IsAscending nat_cmp slots → slice_get slots (length slots - 1) ≡ Some last → list_any (λ s. nat_le slot s) slots ≡ nat_le slot last
any-by_last slots slot last ascending is =
    let some : 0 < length slots = has_place slots last is in
    let at : get_or slots (length slots - 1) 0 ≡ last = get_or_from_slice_get slots (length slots - 1) last 0 is in
    let inside : length slots - 1 < length slots = omega arith in
    elim (cases_Bool (nat_le slot last)) [
      | inl passes ↦ list_any_at (λ s. nat_le slot s) slots (length slots - 1) 0 inside (ap (λ (s : ℕ). nat_le slot s) at ∙ passes) ∙ sym passes
      | inr fails ↦
          list_any_none (λ s. nat_le slot s) slots
          (λ k d lt.
          let le : get_or slots k d ≤ last =
          elim (cases_lt k (length slots - 1)) [
            | inl before ↦ omega (arith, at, less_than (get_or slots k 0) (get_or slots (length slots - 1) 0) (ascending k (length slots - 1) 0 before inside), get_or_default slots k 0 d lt)
            | inr after ↦ let same : k ≡ length slots - 1 = omega arith in omega (arith, at, ap (λ (q : ℕ). get_or slots q 0) same, get_or_default slots k 0 d lt)
          ] in
          not_later slot (get_or slots k d) last fails le)
          ∙ sym fails
    ]

-- one slot more
pub homes_more : (f : ℕ → ℕ) (from slot games more : ℕ) → from ≤ slot → games ≡ sum_by f (range_with_len from (slot - from)) → more ≡ f slot → games + more ≡ sum_by f (range_with_len from (slot + 1 - from))
homes_more f from slot games more le so_far now =
    let size : slot - from + 1 ≡ slot + 1 - from = omega arith in
    let place : from + (slot - from) ≡ slot = omega arith in
    omega (arith, sum_by-range_more f from (slot - from), ap (λ (k : ℕ). sum_by f (range_with_len from k)) size, ap f place)

-- games so far, with those of the next slots
pub played_more : (f : ℕ → ℕ) (next end played more : ℕ) → next ≤ end → played ≡ sum_by f (range_with_len 0 next) → more ≡ sum_by f (range_with_len next (end - next)) → played + more ≡ sum_by f (range_with_len 0 end)
played_more f next end played more le so_far now =
    let whole : next + (end - next) ≡ end = omega arith in
    omega (arith, sum_by-range_append f 0 next (end - next), ap (λ (x : ℕ). sum_by f (range_with_len 0 x)) whole, ap (λ (x : ℕ). sum_by f (range_with_len x (end - next))) (zero-add next))

-- the largest so far, with the next number
pub largest_more : (f : ℕ → ℕ) (slots : List ℕ) (i most value new : ℕ) → i < length slots → most ≡ largest f (take i slots) → value ≡ f (get_or slots i 0) → new ≡ max most value → new ≡ largest f (take (i + 1) slots)
largest_more f slots i most value new inside so_far now is =
    is
    ∙ ap (λ (x : ℕ). max x value) so_far
    ∙ ap (λ (x : ℕ). max (largest f (take i slots)) x) now
    ∙ sym (fold_more (λ a x. max a (f x)) 0 slots i 0 inside)

-- slots of an ascending list are left behind one by one
pub next_left : (slots : List ℕ) (i : ℕ) → IsAscending nat_cmp slots → i + 1 < length slots → get_or slots i 0 + 1 ≤ get_or slots (i + 1) 0
next_left slots i ascending inside = omega (arith, less_than (get_or slots i 0) (get_or slots (i + 1) 0) (ascending i (i + 1) 0 (omega arith) inside))
