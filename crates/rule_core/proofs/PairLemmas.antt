-- The pairs of teams: how many there are, and the keys of those with a team, or with two.
use Rattle.std.proofs.Common.{◌≡◌, ◌≢◌, ℕ, ◌+◌, ◌-◌, ◌*◌, ◌/◌, ◌<◌, ◌≤◌, zero, suc, Bool, true, false, ◌&&◌, List, [], ◌∷◌, ◌++◌, length, get_or, min, max, map, drop, arith, ap, sym, ◌∙◌, subst, ◌⊎◌, inl, inr, zero-add}
use Rattle.std.proofs.Math.Nat.{mul-le-mul}
use Rattle.std.proofs.lemmas.Bool.{cases_eq, cases_lt}
use Rattle.std.proofs.lemmas.Bool.Decides.{nat_tests}
use Rattle.std.proofs.lemmas.List.{append_assoc, append-nil, drop_more, get_or-drop, length-append, length-drop, length-map}
use Rattle.std.proofs.lemmas.Option.{get_or_from_slice_get}
use Rattle.std.specs.Prelude.{slice_get, Some}
use Rattle.std.proofs.lemmas.List.Elements.{All-append, All-cons, All-head, All-map, All-nil, All-tail}
use Rattle.std.proofs.lemmas.List.FromFn.{length-range_with_len}
use Rattle.std.specs.List.{All, range_with_len}
use Rattle.std.specs.Ordering.{nat_cmp}
use Rattle.league.specs.Counts.{slot_count}
use Rattle.league.specs.Meetings.{pairs_of}
use Rattle.league.specs.Sets.{IsAscending}
use Rattle.league.proofs.SetLemmas.{length-ascending}
use Rattle.league.proofs.MeetingLemmas.{half, pair_count}
use Rattle.rule_core.specs.KeptPairs.{ArePairs, first_key, key_at}
use Rattle.rule_core.specs.Keys.{places_from}
use Rattle.rule_core.specs.Pairs.{has_team, key_between, keys_with}
use Rattle.rule_core.proofs.KeyLemmas.{ascending-drop, ascending-tail, later_differ, one_passes, places_from-all, places_from-append, places_from-map, places_from-none}

-- ---- how many pairs there are

-- a league of at most 40 teams has at most 40 of them in a set, fewer than 1,600 pairs of them, and at most 78 slots
pub teams-few : (n : ℕ) (teams : List ℕ) → n ≤ 40 → IsAscending nat_cmp teams → All (λ t. t < n) teams → length teams ≤ 40
teams-few n teams small ascending below = length-ascending teams 40 ascending (λ k d within. omega (arith, below k d within))

pub pairs_of-few : (n : ℕ) (teams : List ℕ) → n ≤ 40 → IsAscending nat_cmp teams → All (λ t. t < n) teams → length (pairs_of teams) ≤ 1600
pairs_of-few n teams small ascending below =
    let few : length teams ≤ 40 = teams-few n teams small ascending below in
    omega (arith, pair_count teams, mul-le-mul few few)

pub slots-few : (n : ℕ) (slots : List ℕ) → n ≤ 40 → IsAscending nat_cmp slots → All (λ s. s < slot_count n) slots → length slots ≤ 78
slots-few n slots small ascending below = length-ascending slots 78 ascending (λ k d within. omega (arith, below k d within))

-- the pairs before those of a team, and those from it on
pub first_key-rest : (teams : List ℕ) (i : ℕ) → i ≤ length teams → first_key teams i + length (pairs_of (drop i teams)) ≡ length (pairs_of teams)
first_key-rest teams zero h = zero-add (length (pairs_of teams))
first_key-rest [] (suc i) h = absurd (omega arith)
first_key-rest (t ∷ teams) (suc i) h = omega (arith, length-append (map (λ (j : ℕ). (t, j)) teams) (pairs_of teams), length-map {B = ℕ × ℕ} teams (λ (j : ℕ). (t, j)), first_key-rest teams i (omega arith))

-- how many pairs the teams from a place on have
pub rest_count : (teams : List ℕ) (i last : ℕ) → last ≡ length teams - i → last * (last - 1) / 2 ≡ length (pairs_of (drop i teams))
rest_count teams i last is =
    let size : length (drop i teams) ≡ last = omega (arith, length-drop i teams) in
    half (length (pairs_of (drop i teams))) last (subst (λ (x : ℕ). length (pairs_of (drop i teams)) * 2 + x ≡ x * x) size (pair_count (drop i teams)))

-- one place on
pub first_key-more : (teams : List ℕ) (i : ℕ) → i < length teams → first_key teams (i + 1) ≡ first_key teams i + (length teams - (i + 1))
first_key-more [] i h = absurd (omega arith)
first_key-more (t ∷ teams) zero h = omega arith
first_key-more (t ∷ teams) (suc i) h =
    let next : suc i + 1 ≡ suc (i + 1) = omega arith in
    omega (arith, ap (λ (k : ℕ). first_key (t ∷ teams) k) next, first_key-more teams i (omega arith))

-- a team's place, or none of them is it
found : (t : ℕ) (teams : List ℕ) → ((q : ℕ) × (q < length teams) × (get_or teams q 0 ≡ t)) ⊎ All (λ x. x ≢ t) teams
found t [] = inr (λ k d lt. absurd (omega arith))
found t (v ∷ teams) =
    elim (cases_eq v t) [
      | inl same ↦ inl (0, omega arith, same)
      | inr differ ↦ elim (found t teams) [
        | inl at ↦ inl (suc at.0, omega (arith, at.1), at.2)
        | inr none ↦ inr (All-cons (λ x. x ≢ t) v teams differ none)
      ]
    ]

-- what holds of any two of the teams holds of the pairs
pub pairs_of-all : (Q : ℕ → Type 0) (P : ℕ × ℕ → Type 0) → ((x y : ℕ) → Q x → Q y → P (x, y)) → (teams : List ℕ) → All Q teams → All P (pairs_of teams)
pairs_of-all Q P both [] all = All-nil P
pairs_of-all Q P both (t ∷ teams) all =
    let rest : All Q teams = All-tail Q t teams all in
    All-append P (map (λ (j : ℕ). (t, j)) teams) (pairs_of teams) (All-map P (λ (j : ℕ). (t, j)) teams (λ k d lt. both t (get_or teams k d) (All-head Q t teams all) (rest k d lt))) (pairs_of-all Q P both teams rest)

-- both teams of a pair are of the league
pub pairs_of-below : (n : ℕ) (teams : List ℕ) → All (λ t. t < n) teams → All (λ p. (p.0 < n) × (p.1 < n)) (pairs_of teams)
pairs_of-below n teams below = pairs_of-all (λ t. t < n) (λ p. (p.0 < n) × (p.1 < n)) (λ x y first second. (first, second)) teams below

-- the pairs of a first team with the later ones, and those of the later ones
split : (start : ℕ) (test : ℕ × ℕ → Bool) (t : ℕ) (teams : List ℕ) → places_from start test (pairs_of (t ∷ teams)) ≡ places_from start (λ j. test (t, j)) teams ++ places_from (start + length teams) test (pairs_of teams)
split start test t teams =
    places_from-append start test (map (λ (j : ℕ). (t, j)) teams) (pairs_of teams)
    ∙ ap (λ (ks : List ℕ). ks ++ places_from (start + length {A = ℕ × ℕ} (map (λ (j : ℕ). (t, j)) teams)) test (pairs_of teams)) (places_from-map start test (λ (j : ℕ). (t, j)) teams)
    ∙ ap (λ (k : ℕ). places_from start (λ j. test (t, j)) teams ++ places_from (start + k) test (pairs_of teams)) (length-map {B = ℕ × ℕ} teams (λ (j : ℕ). (t, j)))

-- ---- the pairs with a team

without : (start t : ℕ) (teams : List ℕ) → All (λ x. x ≢ t) teams → places_from start (has_team t) (pairs_of teams) ≡ []
without start t teams none = places_from-none start (has_team t) (pairs_of teams) (pairs_of-all (λ x. x ≢ t) (λ p. has_team t p ≡ false) (λ x y first second. grind (arith, nat_tests)) teams none)

pub keys_with-none : (t : ℕ) (teams : List ℕ) → All (λ x. x ≢ t) teams → keys_with teams t ≡ []
keys_with-none t teams none = without 0 t teams none

second_is : (v t : ℕ) → has_team t (v, t) ≡ true
second_is v t = grind (arith, nat_tests)

first_is : (t x : ℕ) → has_team t (t, x) ≡ true
first_is t x = grind (arith, nat_tests)

neither_is : (v t x : ℕ) → v ≢ t → x ≢ t → has_team t (v, x) ≡ false
neither_is v t x first second = grind (arith, nat_tests)

-- with an earlier team
with_earlier : (start t v q : ℕ) (teams : List ℕ) → IsAscending nat_cmp (v ∷ teams) → v ≢ t → q < length teams → get_or teams q 0 ≡ t → places_from start (has_team t) (pairs_of (v ∷ teams)) ≡ (start + q) ∷ places_from (start + length teams) (has_team t) (pairs_of teams)
with_earlier start t v q teams ascending differ inside is =
    split start (has_team t) v teams
    ∙ ap (λ (ks : List ℕ). ks ++ places_from (start + length teams) (has_team t) (pairs_of teams))
    (one_passes start (λ j. has_team t (v, j)) teams t q (ascending-tail v teams ascending) inside is (second_is v t) (λ x other. neither_is v t x differ other))

-- with the later teams
with_later : (start t : ℕ) (teams : List ℕ) → IsAscending nat_cmp (t ∷ teams) → places_from start (has_team t) (pairs_of (t ∷ teams)) ≡ range_with_len start (length teams)
with_later start t teams ascending =
    split start (has_team t) t teams
    ∙ ap (λ (ks : List ℕ). places_from start (λ j. has_team t (t, j)) teams ++ ks) (without (start + length teams) t teams (later_differ t teams ascending))
    ∙ append-nil (places_from start (λ j. has_team t (t, j)) teams)
    ∙ places_from-all start (λ j. has_team t (t, j)) teams (λ k d lt. first_is t (get_or teams k d))

-- one with each other team
few_with : (start t : ℕ) (teams : List ℕ) → IsAscending nat_cmp teams → length (places_from start (has_team t) (pairs_of teams)) ≤ length teams - 1
few_with start t [] ascending = omega arith
few_with start t (v ∷ teams) ascending =
    elim (cases_eq v t) [
      | inl same ↦
          let is : places_from start (has_team t) (pairs_of (v ∷ teams)) ≡ range_with_len start (length teams) =
          subst (λ (u : ℕ). places_from start (has_team u) (pairs_of (v ∷ teams)) ≡ range_with_len start (length teams)) same (with_later start v teams ascending) in
          omega (arith, ap (λ (ks : List ℕ). length ks) is, length-range_with_len start (length teams))
      | inr differ ↦ elim (found t teams) [
        | inl at ↦ omega (arith, ap (λ (ks : List ℕ). length ks) (with_earlier start t v at.0 teams ascending differ at.1 at.2), few_with (start + length teams) t teams (ascending-tail v teams ascending), at.1)
        | inr none ↦ omega (arith, ap (λ (ks : List ℕ). length ks) (without start t (v ∷ teams) (All-cons (λ x. x ≢ t) v teams differ none)))
      ]
    ]

pub keys_with-few : (teams : List ℕ) (t : ℕ) → IsAscending nat_cmp teams → length (keys_with teams t) ≤ length teams - 1
keys_with-few teams t ascending = few_with 0 t teams ascending

-- ---- the pair of two teams

module _ (test : ℕ × ℕ → Bool) (a b : ℕ) (passes : test (a, b) ≡ true) (no_second : (x : ℕ) → x ≢ b → test (a, x) ≡ false) (no_first : (v x : ℕ) → v ≢ a → x ≢ a → test (v, x) ≡ false) (neither : (v x : ℕ) → v ≢ a → v ≢ b → test (v, x) ≡ false) where
  one_pair : (start : ℕ) (teams : List ℕ) (i j : ℕ) → IsAscending nat_cmp teams → i < j → j < length teams → get_or teams i 0 ≡ a → get_or teams j 0 ≡ b → places_from start test (pairs_of teams) ≡ (start + key_at teams i j) ∷ []
  one_pair start [] i j ascending before inside is_first is_second = absurd (omega arith)
  one_pair start (t ∷ teams) i zero ascending before inside is_first is_second = absurd (omega arith)
  one_pair start (t ∷ teams) zero (suc j) ascending before inside is_first is_second =
      let test_here : (x : ℕ) → test (t, x) ≡ test (a, x) = λ x. ap (λ (u : ℕ). test (u, x)) is_first in
      let rest : places_from (start + length teams) test (pairs_of teams) ≡ [] =
      places_from-none (start + length teams) test (pairs_of teams)
      (pairs_of-all (λ x. x ≢ t) (λ p. test p ≡ false) (λ x y first second. no_first x y (λ same. first (same ∙ sym is_first)) (λ same. second (same ∙ sym is_first))) teams (later_differ t teams ascending)) in
      let place : start + j ≡ start + key_at (t ∷ teams) 0 (suc j) = omega arith in
      split start test t teams
      ∙ ap (λ (ks : List ℕ). places_from start (λ x. test (t, x)) teams ++ ks) rest
      ∙ append-nil (places_from start (λ x. test (t, x)) teams)
      ∙ one_passes start (λ x. test (t, x)) teams b j (ascending-tail t teams ascending) (omega arith) is_second (test_here b ∙ passes) (λ x differ. test_here x ∙ no_second x differ)
      ∙ ap (λ (k : ℕ). k ∷ []) place
  one_pair start (t ∷ teams) (suc i) (suc j) ascending before inside is_first is_second =
      let not_first : t ≢ a = λ same. later_differ t teams ascending i 0 (omega arith) (is_first ∙ sym same) in
      let not_second : t ≢ b = λ same. later_differ t teams ascending j 0 (omega arith) (is_second ∙ sym same) in
      let place : start + length teams + key_at teams i j ≡ start + key_at (t ∷ teams) (suc i) (suc j) = omega arith in
      split start test t teams
      ∙ ap (λ (ks : List ℕ). ks ++ places_from (start + length teams) test (pairs_of teams)) (places_from-none start (λ x. test (t, x)) teams (λ k d lt. neither t (get_or teams k d) not_first not_second))
      ∙ one_pair (start + length teams) teams i j (ascending-tail t teams ascending) (omega arith) (omega arith) is_first is_second
      ∙ ap (λ (k : ℕ). k ∷ []) place

abbrev both : ℕ → ℕ → ℕ × ℕ → Bool
both t u p = has_team t p && has_team u p

both_in : (t u : ℕ) → both t u (t, u) ≡ true
both_in t u = grind (arith, nat_tests)

both_turned : (t u : ℕ) → both t u (u, t) ≡ true
both_turned t u = grind (arith, nat_tests)

not_second : (t u x : ℕ) → t ≢ u → x ≢ u → both t u (t, x) ≡ false
not_second t u x apart differ = grind (arith, nat_tests)

not_second_turned : (t u x : ℕ) → t ≢ u → x ≢ t → both t u (u, x) ≡ false
not_second_turned t u x apart differ = grind (arith, nat_tests)

lacks_first : (t u v x : ℕ) → v ≢ t → x ≢ t → both t u (v, x) ≡ false
lacks_first t u v x first second = grind (arith, nat_tests)

lacks_second : (t u v x : ℕ) → v ≢ u → x ≢ u → both t u (v, x) ≡ false
lacks_second t u v x first second = grind (arith, nat_tests)

lacks_both : (t u v x : ℕ) → t ≢ u → v ≢ t → v ≢ u → both t u (v, x) ≡ false
lacks_both t u v x apart first second = grind (arith, nat_tests)

-- where the first stands before the second
pub key_between-before : (teams : List ℕ) (t u i j : ℕ) → IsAscending nat_cmp teams → t ≢ u → i < j → j < length teams → get_or teams i 0 ≡ t → get_or teams j 0 ≡ u → key_between teams t u ≡ key_at teams i j ∷ []
key_between-before teams t u i j ascending apart before inside is_first is_second =
    one_pair (both t u) t u (both_in t u) (λ x differ. not_second t u x apart differ) (λ v x first second. lacks_first t u v x first second) (λ v x first second. lacks_both t u v x apart first second) 0 teams i j ascending before inside is_first is_second
    ∙ ap (λ (k : ℕ). k ∷ []) (zero-add (key_at teams i j))

-- the key of two teams, where the first stands after the second
pub key_between-after : (teams : List ℕ) (t u i j : ℕ) → IsAscending nat_cmp teams → t ≢ u → j < i → i < length teams → get_or teams i 0 ≡ t → get_or teams j 0 ≡ u → key_between teams t u ≡ key_at teams j i ∷ []
key_between-after teams t u i j ascending apart before inside is_first is_second =
    one_pair (both t u) u t (both_turned t u) (λ x differ. not_second_turned t u x apart differ) (λ v x first second. lacks_second t u v x first second) (λ v x first second. lacks_both t u v x apart second first) 0 teams j i ascending before inside is_second is_first
    ∙ ap (λ (k : ℕ). k ∷ []) (zero-add (key_at teams j i))

-- where one of them isn't there
pub key_between-no_first : (teams : List ℕ) (t u : ℕ) → All (λ x. x ≢ t) teams → key_between teams t u ≡ []
key_between-no_first teams t u none = places_from-none 0 (both t u) (pairs_of teams) (pairs_of-all (λ x. x ≢ t) (λ p. both t u p ≡ false) (λ x y first second. lacks_first t u x y first second) teams none)

pub key_between-no_second : (teams : List ℕ) (t u : ℕ) → All (λ x. x ≢ u) teams → key_between teams t u ≡ []
key_between-no_second teams t u none = places_from-none 0 (both t u) (pairs_of teams) (pairs_of-all (λ x. x ≢ u) (λ p. both t u p ≡ false) (λ x y first second. lacks_second t u x y first second) teams none)

-- at most one key
pub key_between-few : (teams : List ℕ) (t u : ℕ) → IsAscending nat_cmp teams → t ≢ u → length (key_between teams t u) ≤ 1
key_between-few teams t u ascending apart =
    elim (found t teams) [
      | inr none ↦ omega (arith, ap (λ (ks : List ℕ). length ks) (key_between-no_first teams t u none))
      | inl at ↦ elim (found u teams) [
        | inr none ↦ omega (arith, ap (λ (ks : List ℕ). length ks) (key_between-no_second teams t u none))
        | inl other ↦ elim (cases_lt at.0 other.0) [
          | inl before ↦ omega (arith, ap (λ (ks : List ℕ). length ks) (key_between-before teams t u at.0 other.0 ascending apart before other.1 at.2 other.2))
          | inr after ↦ elim (cases_eq at.0 other.0) [
            | inl same ↦ absurd (apart (sym at.2 ∙ ap (λ (k : ℕ). get_or teams k 0) same ∙ other.2))
            | inr differ ↦ omega (arith, ap (λ (ks : List ℕ). length ks) (key_between-after teams t u at.0 other.0 ascending apart (omega arith) at.1 at.2 other.2))
          ]
        ]
      ]
    ]

-- ---- the loops over the teams

-- keys so far, with that of an earlier team
pub earlier_more : (teams : List ℕ) (place i : ℕ) (before whole : List ℕ) → IsAscending nat_cmp teams
    → place < length teams → i < place
    → before ++ places_from (first_key teams i) (has_team (get_or teams place 0)) (pairs_of (drop i teams)) ≡ whole →
    (before ++ key_at teams i place ∷ []) ++ places_from (first_key teams (i + 1)) (has_team (get_or teams place 0))
    (pairs_of (drop (i + 1) teams)) ≡ whole
earlier_more teams place i before whole ascending inside earlier so_far =
    let t : ℕ = get_or teams place 0 in
    let v : ℕ = get_or teams i 0 in
    let rest : List ℕ = drop (i + 1) teams in
    let q : ℕ = place - i - 1 in
    let here : drop i teams ≡ v ∷ rest = drop_more teams i 0 (omega arith) in
    let sorted : IsAscending nat_cmp (v ∷ rest) = subst (λ (xs : List ℕ). IsAscending nat_cmp xs) here (ascending-drop i teams ascending) in
    let size : length rest ≡ length teams - (i + 1) = length-drop (i + 1) teams in
    let place_is : i + 1 + q ≡ place = omega arith in
    let is : get_or rest q 0 ≡ t = get_or-drop (i + 1) teams q 0 ∙ ap (λ (k : ℕ). get_or teams k 0) place_is in
    let within : q < length rest = omega arith in
    let differ : v ≢ t = λ same. later_differ v rest sorted q 0 within (is ∙ sym same) in
    let next : first_key teams i + length rest ≡ first_key teams (i + 1) = omega (arith, first_key-more teams i (omega arith)) in
    append_assoc before (key_at teams i place ∷ []) (places_from (first_key teams (i + 1)) (has_team t) (pairs_of rest))
    ∙ ap (λ (k : ℕ). before ++ (key_at teams i place ∷ places_from k (has_team t) (pairs_of rest))) (sym next)
    ∙ ap (λ (ks : List ℕ). before ++ ks) (sym (with_earlier (first_key teams i) t v q rest sorted differ within is))
    ∙ ap (λ (xs : List ℕ). before ++ places_from (first_key teams i) (has_team t) (pairs_of xs)) (sym here)
    ∙ so_far

-- the keys with the later teams are left behind those of the earlier ones
pub later_left : (teams : List ℕ) (place i : ℕ) (before whole : List ℕ) → IsAscending nat_cmp teams
    → place < length teams → i ≡ place
    → before ++ places_from (first_key teams i) (has_team (get_or teams place 0)) (pairs_of (drop i teams)) ≡ whole
    → before ++ range_with_len (key_at teams place (place + 1)) (length teams - (place + 1)) ≡ whole
later_left teams place i before whole ascending inside done so_far =
    let t : ℕ = get_or teams place 0 in
    let rest : List ℕ = drop (place + 1) teams in
    let here : drop place teams ≡ t ∷ rest = drop_more teams place 0 inside in
    let sorted : IsAscending nat_cmp (t ∷ rest) = subst (λ (xs : List ℕ). IsAscending nat_cmp xs) here (ascending-drop place teams ascending) in
    let size : length rest ≡ length teams - (place + 1) = length-drop (place + 1) teams in
    let start : key_at teams place (place + 1) ≡ first_key teams place = omega arith in
    ap (λ (k : ℕ). before ++ range_with_len k (length teams - (place + 1))) start
    ∙ ap (λ (k : ℕ). before ++ range_with_len (first_key teams place) k) (sym size)
    ∙ ap (λ (ks : List ℕ). before ++ ks) (sym (with_later (first_key teams place) t rest sorted))
    ∙ ap (λ (xs : List ℕ). before ++ places_from (first_key teams place) (has_team t) (pairs_of xs)) (sym here)
    ∙ ap (λ (k : ℕ). before ++ places_from (first_key teams k) (has_team t) (pairs_of (drop k teams))) (sym done)
    ∙ so_far

-- keys so far, with that of a later team
pub later_more : (teams : List ℕ) (place j : ℕ) (before whole : List ℕ) → place < j → j < length teams → before ++ range_with_len (key_at teams place j) (length teams - j) ≡ whole → (before ++ key_at teams place j ∷ []) ++ range_with_len (key_at teams place (j + 1)) (length teams - (j + 1)) ≡ whole
later_more teams place j before whole after inside so_far =
    let next : key_at teams place (j + 1) ≡ key_at teams place j + 1 = omega arith in
    let size : suc (length teams - (j + 1)) ≡ length teams - j = omega arith in
    append_assoc before (key_at teams place j ∷ []) (range_with_len (key_at teams place (j + 1)) (length teams - (j + 1)))
    ∙ ap (λ (k : ℕ). before ++ (key_at teams place j ∷ range_with_len k (length teams - (j + 1)))) next
    ∙ ap (λ (k : ℕ). before ++ range_with_len (key_at teams place j) k) size
    ∙ so_far

-- at the end nothing is left
pub later_done : (a size : ℕ) (before whole : List ℕ) → size ≡ 0 → before ++ range_with_len a size ≡ whole → before ≡ whole
later_done a size before whole none so_far =
    sym (append-nil before) ∙ ap (λ (k : ℕ). before ++ range_with_len a k) (sym none) ∙ so_far

-- ---- what is kept

-- the key as it is computed
pub key_computed : (teams : List ℕ) (pairs : List (ℕ × ℕ)) (now : List ℕ) → ArePairs teams pairs → teams ≡ now
    → (count total i j : ℕ) → count ≡ length teams → total ≡ length pairs → i < j → j < length now
    → ((count - i) * (count - i - 1) / 2 ≤ total)
    × (total - (count - i) * (count - i - 1) / 2 + (j - i - 1) ≡ key_at now i j)
key_computed teams pairs now are seen count total i j teams_counted pairs_counted before inside =
    let here : ArePairs now pairs = subst (λ (xs : List ℕ). ArePairs xs pairs) seen are in
    let size : length teams ≡ length now = ap (λ (xs : List ℕ). length xs) seen in
    let pair_size : length pairs ≡ length (pairs_of now) = ap (λ (xs : List (ℕ × ℕ)). length xs) here.listed in
    let rest : (count - i) * (count - i - 1) / 2 ≡ length (pairs_of (drop i now)) = rest_count now i (count - i) (omega arith) in
    let sum : first_key now i + length (pairs_of (drop i now)) ≡ length (pairs_of now) = first_key-rest now i (omega arith) in
    (omega arith, omega arith)

-- the key of two teams, by their places in order
pub key_between-places : (teams : List ℕ) (t u i j : ℕ) → IsAscending nat_cmp teams → t ≢ u → i < length teams → j < length teams → get_or teams i 0 ≡ t → get_or teams j 0 ≡ u → (min i j < max i j) × (max i j < length teams) × (key_between teams t u ≡ key_at teams (min i j) (max i j) ∷ [])
key_between-places teams t u i j ascending apart inside other is_first is_second = elim (cases_lt i j) [
  | inl lt ↦
      let low : min i j ≡ i = omega arith in
      let high : max i j ≡ j = omega arith in
      (omega arith, omega arith, key_between-before teams t u i j ascending apart lt other is_first is_second ∙ ap (λ (k : ℕ). key_at teams k j ∷ []) (sym low) ∙ ap (λ (k : ℕ). key_at teams (min i j) k ∷ []) (sym high))
  | inr ge ↦
      let differ : i ≢ j = λ same. apart (sym is_first ∙ ap (λ (k : ℕ). get_or teams k 0) same ∙ is_second) in
      let low : min i j ≡ j = omega arith in
      let high : max i j ≡ i = omega arith in
      (omega arith, omega arith, key_between-after teams t u i j ascending apart (omega arith) inside is_first is_second ∙ ap (λ (k : ℕ). key_at teams k i ∷ []) (sym low) ∙ ap (λ (k : ℕ). key_at teams (min i j) k ∷ []) (sym high))
]

-- the pair of a key
pub pair_read : (teams : List ℕ) (k x y : ℕ) → slice_get (pairs_of teams) k ≡ Some (x, y) → get_or (pairs_of teams) k (0, 0) ≡ (x, y)
pair_read teams k x y is = get_or_from_slice_get (pairs_of teams) k (x, y) (0, 0) is

-- is of two teams of the league
pub pair_below : (n : ℕ) (teams : List ℕ) (k x y : ℕ) → All (λ t. t < n) teams → k < length (pairs_of teams) → slice_get (pairs_of teams) k ≡ Some (x, y) → (x < n) × (y < n)
pair_below n teams k x y below inside is =
    subst (λ (p : ℕ × ℕ). (p.0 < n) × (p.1 < n)) (pair_read teams k x y is) (pairs_of-below n teams below k (0, 0) inside)

-- what holds of each team holds of both
pub pair_each : (P : ℕ → Type 0) (teams : List ℕ) (k x y : ℕ) → All P teams → k < length (pairs_of teams) → slice_get (pairs_of teams) k ≡ Some (x, y) → P x × P y
pair_each P teams k x y each inside is =
    subst (λ (p : ℕ × ℕ). P p.0 × P p.1) (pair_read teams k x y is) (pairs_of-all P (λ p. P p.0 × P p.1) (λ x y first second. (first, second)) teams each k (0, 0) inside)
