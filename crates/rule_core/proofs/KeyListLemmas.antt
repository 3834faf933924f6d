-- Where a number stands in an ascending list, and its key there.
use Rattle.std.proofs.Common.{◌≡◌, ◌≢◌, ℕ, ◌+◌, ◌-◌, ◌<◌, ◌≤◌, true, false, nat_lt, min, max, ◌==◌, ◌||◌, List, [], ◌∷◌, ◌++◌, length, suc, get_or, Option, Some, None, refl, arith, ap, sym, ◌∙◌, inl, inr, zero-add}
use Rattle.std.proofs.lemmas.Bool.{cases_eq, cases_lt, cond_both}
use Rattle.std.proofs.lemmas.Bool.Decides.{nat_tests}
use Rattle.std.proofs.lemmas.List.{get_or_default}
use Rattle.std.specs.List.{All}
use Rattle.std.specs.Option.{is_some, option_to_list}
use Rattle.std.specs.Ordering.{nat_cmp}
use Rattle.league.specs.Sets.{IsAscending, is_in}
use Rattle.rule_core.specs.Keys.{keys_where, places_from}
use Rattle.rule_core.specs.Listed.{IsKeyOf}
use Rattle.rule_core.specs.KeyPlaces.{ArePlaces, place_of}
use Rattle.rule_core.proofs.KeyLemmas.{ascending-tail, keys_where-none, one_passes, places_from-none, places_from-same, skipped, taken}
use Rattle.league.proofs.MemberLemmas.{is_in-no, is_in-yes}
use Rattle.league.proofs.SetLemmas.{less_than}

equal : (x : ℕ) → (x == x) ≡ true
equal x = grind (arith, nat_tests)

unequal : (x y : ℕ) → x ≢ y → (x == y) ≡ false
unequal x y differ = grind (arith, nat_tests)

above : (x : ℕ) → nat_lt 0 x ≡ true → 0 < x
above x h = grind (arith, nat_tests)

not_above : (x : ℕ) → nat_lt 0 x ≡ false → x ≡ 0
not_above x h = grind (arith, nat_tests)

-- the table gives each number's key
pub place_of-is : (xs places : List ℕ) → ArePlaces (length xs) xs places → (t : ℕ) → IsKeyOf xs t (place_of places t)
place_of-is xs places are t =
    let p : ℕ = get_or places t 0 in
    cond_both (nat_lt 0 p) (Some (p - 1)) None (λ key. IsKeyOf xs t key)
    (λ e. (omega (arith, above p e, are.within t), are.here t (above p e)))
    (λ e. λ k d lt same. absurd (omega (arith, are.there k lt, ap (λ (u : ℕ). get_or places u 0) (get_or_default xs k 0 d lt ∙ same), not_above p e)))

-- a key is there where the number is one of the list
pub has_key : (xs : List ℕ) (t : ℕ) (key : Option ℕ) → IsKeyOf xs t key → is_some key ≡ is_in t xs
has_key xs t (Some k) is = sym (is_in-yes t xs k is.0 is.1)
has_key xs t None none = sym (is_in-no t xs none)

-- the key of a number is the only one
pub key_is : (xs : List ℕ) (t : ℕ) (key : Option ℕ) → IsAscending nat_cmp xs → IsKeyOf xs t key → option_to_list key ≡ keys_where (λ x. x == t) xs
key_is xs t (Some k) ascending is =
    ap (λ (p : ℕ). p ∷ []) (sym (zero-add k)) ∙ sym (one_passes 0 (λ x. x == t) xs t k ascending is.0 is.1 (equal t) (λ x differ. unequal x t differ))
key_is xs t None ascending none = sym (keys_where-none (λ x. x == t) xs (λ k d lt. unequal (get_or xs k d) t (none k d lt)))

pub option_to_list-le : (key : Option ℕ) → length (option_to_list key) ≤ 1
option_to_list-le (Some k) = omega arith
option_to_list-le None = omega arith

-- ---- two numbers

first_of : (x t u : ℕ) → x ≡ t → ((x == t) || (x == u)) ≡ true
first_of x t u same = grind (arith, nat_tests)

second_of : (x t u : ℕ) → x ≡ u → ((x == t) || (x == u)) ≡ true
second_of x t u same = grind (arith, nat_tests)

neither : (x t u : ℕ) → x ≢ t → x ≢ u → ((x == t) || (x == u)) ≡ false
neither x t u first second = grind (arith, nat_tests)

second_alone : (x t u : ℕ) → x ≢ t → (x == u) ≡ ((x == t) || (x == u))
second_alone x t u differ = grind (arith, nat_tests)

either_way : (x t u : ℕ) → ((x == u) || (x == t)) ≡ ((x == t) || (x == u))
either_way x t u = grind (arith, nat_tests)

same_number : (x t : ℕ) → x ≡ t → (x == t) ≡ true
same_number x t same = grind (arith, nat_tests)

-- a later number is larger
later_above : (x : ℕ) (xs : List ℕ) → IsAscending nat_cmp (x ∷ xs) → All (λ y. x < y) xs
later_above x xs ascending = λ k d lt. less_than x (get_or xs k d) (ascending 0 (suc k) d (omega arith) (omega arith))

-- the key of the smaller of two numbers stands before that of the larger
ordered : (start : ℕ) (t u : ℕ) (xs : List ℕ) → t < u → IsAscending nat_cmp xs → places_from start (λ x. x == t) xs ++ places_from start (λ x. x == u) xs ≡ places_from start (λ x. (x == t) || (x == u)) xs
ordered start t u [] before ascending = refl
ordered start t u (x ∷ xs) before ascending =
    let at_t : List ℕ = places_from (start + 1) (λ y. y == t) xs in
    let at_u : List ℕ = places_from (start + 1) (λ y. y == u) xs in
    let at_either : List ℕ = places_from (start + 1) (λ y. (y == t) || (y == u)) xs in
    let rest : at_t ++ at_u ≡ at_either = ordered (start + 1) t u xs before (ascending-tail x xs ascending) in
    elim (cases_eq x t) [
      | inl first ↦
          let other : x ≢ u = omega arith in
          ap (λ (ks : List ℕ). ks ++ places_from start (λ y. y == u) (x ∷ xs)) (taken (x == t) start at_t (same_number x t first))
          ∙ ap (λ (ks : List ℕ). (start ∷ at_t) ++ ks) (skipped (x == u) start at_u (unequal x u other))
          ∙ ap (λ (ks : List ℕ). start ∷ ks) rest
          ∙ sym (taken ((x == t) || (x == u)) start at_either (first_of x t u first))
      | inr not_first ↦ elim (cases_eq x u) [
        | inl second ↦
            let none : All (λ y. y ≢ t) xs = λ k d lt same. absurd (omega (arith, later_above x xs ascending k d lt)) in
            ap (λ (ks : List ℕ). ks ++ places_from start (λ y. y == u) (x ∷ xs)) (skipped (x == t) start at_t (unequal x t not_first) ∙ places_from-none (start + 1) (λ y. y == t) xs (λ k d lt. unequal (get_or xs k d) t (none k d lt)))
            ∙ taken (x == u) start at_u (same_number x u second)
            ∙ ap (λ (ks : List ℕ). start ∷ ks) (places_from-same (start + 1) (λ y. y == u) (λ y. (y == t) || (y == u)) xs (λ k d lt. second_alone (get_or xs k d) t u (none k d lt)))
            ∙ sym (taken ((x == t) || (x == u)) start at_either (second_of x t u second))
        | inr not_second ↦
            ap (λ (ks : List ℕ). ks ++ places_from start (λ y. y == u) (x ∷ xs)) (skipped (x == t) start at_t (unequal x t not_first))
            ∙ ap (λ (ks : List ℕ). at_t ++ ks) (skipped (x == u) start at_u (unequal x u not_second))
            ∙ rest
            ∙ sym (skipped ((x == t) || (x == u)) start at_either (neither x t u not_first not_second))
      ]
    ]

-- the keys of two numbers are in order where the smaller comes first
pub keys_sorted : (xs : List ℕ) (one other : ℕ) (first second : Option ℕ) → IsAscending nat_cmp xs → one ≢ other → IsKeyOf xs (min one other) first → IsKeyOf xs (max one other) second → option_to_list first ++ option_to_list second ≡ keys_where (λ x. (x == one) || (x == other)) xs
keys_sorted xs one other first second ascending differ is_first is_second =
    let t : ℕ = min one other in
    let u : ℕ = max one other in
    ap (λ (ks : List ℕ). ks ++ option_to_list second) (key_is xs t first ascending is_first)
    ∙ ap (λ (ks : List ℕ). keys_where (λ x. x == t) xs ++ ks) (key_is xs u second ascending is_second)
    ∙ ordered 0 t u xs (omega arith) ascending
    ∙ elim (cases_lt one other) [
      | inl lt ↦
          let low : t ≡ one = omega arith in
          let high : u ≡ other = omega arith in
          ap (λ (v : ℕ). keys_where (λ x. (x == v) || (x == u)) xs) low ∙ ap (λ (v : ℕ). keys_where (λ x. (x == one) || (x == v)) xs) high
      | inr ge ↦
          let low : t ≡ other = omega arith in
          let high : u ≡ one = omega arith in
          ap (λ (v : ℕ). keys_where (λ x. (x == v) || (x == u)) xs) low
          ∙ ap (λ (v : ℕ). keys_where (λ x. (x == other) || (x == v)) xs) high
          ∙ places_from-same 0 (λ x. (x == other) || (x == one)) (λ x. (x == one) || (x == other)) xs (λ k d lt. either_way (get_or xs k d) one other)
    ]
