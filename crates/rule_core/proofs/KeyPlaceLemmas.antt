-- How the table of the places of numbers in a list is made.
use Rattle.std.proofs.Common.{◌≡◌, ◌≢◌, ℕ, ◌+◌, ◌-◌, ◌<◌, List, length, get_or, replicate, set, arith, ap, sym, ◌∙◌, inl, inr, below_more}
use Rattle.std.proofs.lemmas.Bool.{cases_eq}
use Rattle.std.proofs.lemmas.List.{get_or-set_other, get_or-set_same, length-replicate, length-set}
use Rattle.std.specs.Ordering.{nat_cmp}
use Rattle.league.specs.Sets.{IsAscending}
use Rattle.rule_core.specs.KeyPlaces.{ArePlaces}
use Rattle.league.proofs.SetLemmas.{less_than}
use Rattle.league.proofs.TableLemmas.{zero_at}

-- of no numbers, none has a place
pub ArePlaces-none : (xs : List ℕ) → ArePlaces 0 xs (replicate 78 0)
ArePlaces-none xs = record {
  size = length-replicate {A = ℕ} 78 0;
  there = λ k lt. absurd (omega arith);
  here = λ t more. absurd (omega (arith, zero_at 78 t));
  within = λ t. omega (arith, zero_at 78 t);
}

-- an earlier number of an ascending list is another
earlier_differs : (xs : List ℕ) (i k : ℕ) → IsAscending nat_cmp xs → k < i → i < length xs → get_or xs k 0 ≢ get_or xs i 0
earlier_differs xs i k ascending before within same = absurd (omega (arith, less_than (get_or xs k 0) (get_or xs i 0) (ascending k i 0 before within)))

-- with the next number's place
pub ArePlaces-more : (xs places : List ℕ) (i number next : ℕ) → IsAscending nat_cmp xs → i < length xs → number ≡ get_or xs i 0 → number < 78 → next ≡ i + 1 → ArePlaces i xs places → ArePlaces (i + 1) xs (set places number next)
ArePlaces-more xs places i number next ascending within is small one are =
    let inside : number < length places = omega (arith, are.size) in
    record {
      size = length-set places number next ∙ are.size;
      there = below_more (λ k. get_or (set places number next) (get_or xs k 0) 0 ≡ k + 1) i
          (λ k before. get_or-set_other places number (get_or xs k 0) next 0 (λ same. earlier_differs xs i k ascending before within (same ∙ is)) ∙ are.there k before)
          (ap (λ (t : ℕ). get_or (set places number next) t 0) (sym is) ∙ get_or-set_same places number next 0 inside ∙ one);
      here = λ t. elim (cases_eq t number) [
        | inl same ↦ λ more.
            let read : get_or (set places number next) t 0 ≡ next = ap (λ (u : ℕ). get_or (set places number next) u 0) same ∙ get_or-set_same places number next 0 inside in
            let place : get_or (set places number next) t 0 - 1 ≡ i = omega arith in
            ap (λ (k : ℕ). get_or xs k 0) place ∙ sym is ∙ sym same
        | inr differ ↦ λ more.
            let read : get_or (set places number next) t 0 ≡ get_or places t 0 = get_or-set_other places number t next 0 differ in
            ap (λ (k : ℕ). get_or xs (k - 1) 0) read ∙ are.here t (omega arith)
      ];
      within = λ t. elim (cases_eq t number) [
        | inl same ↦ omega (arith, ap (λ (u : ℕ). get_or (set places number next) u 0) same, get_or-set_same places number next 0 inside)
        | inr differ ↦ omega (arith, get_or-set_other places number t next 0 differ, are.within t)
      ];
    }
