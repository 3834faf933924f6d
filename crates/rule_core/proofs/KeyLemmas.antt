-- The keys of the elements that pass a test.
use Rattle.std.proofs.Common.{◌≡◌, ◌≢◌, ℕ, ◌+◌, ◌<◌, ◌≤◌, zero, suc, Bool, true, false, cond, if◌then◌else◌, List, [], ◌∷◌, ◌++◌, length, get_or, map, drop, refl, arith, ap, sym, ◌∙◌, subst, ◌⊎◌, inl, inr, Contains, add-zero, zero-add}
use Rattle.std.proofs.lemmas.Bool.{cases_Bool, cond_both}
use Rattle.std.proofs.lemmas.List.{append-nil, append_assoc, length-append}
use Rattle.std.proofs.lemmas.List.Elements.{All-cons}
use Rattle.std.specs.List.{All, range_with_len}
use Rattle.std.specs.List.Sorted.{IsStrictlyIncreasing}
use Rattle.std.specs.Ordering.{nat_cmp}
use Rattle.league.specs.Sets.{IsAscending}
use Rattle.league.proofs.SetLemmas.{less_than}
use Rattle.rule_core.specs.Keys.{KeyList, keys_where, places_from}

-- ---- places of what passes a test

pub taken : (b : Bool) (start : ℕ) (ks : List ℕ) → b ≡ true → cond b (start ∷ ks) ks ≡ start ∷ ks
taken b start ks e = ap (λ (c : Bool). cond c (start ∷ ks) ks) e

pub skipped : (b : Bool) (start : ℕ) (ks : List ℕ) → b ≡ false → cond b (start ∷ ks) ks ≡ ks
skipped b start ks e = ap (λ (c : Bool). cond c (start ∷ ks) ks) e

joined : (b : Bool) (start : ℕ) (all ks rest : List ℕ) → all ≡ ks ++ rest → cond b (start ∷ all) all ≡ cond b (start ∷ ks) ks ++ rest
joined true start all ks rest e = ap (λ (xs : List ℕ). start ∷ xs) e
joined false start all ks rest e = e

-- in two lists that are joined
pub places_from-append : {X : Type 0} (start : ℕ) (test : X → Bool) (xs ys : List X) → places_from start test (xs ++ ys) ≡ places_from start test xs ++ places_from (start + length xs) test ys
places_from-append start test [] ys = ap (λ (s : ℕ). places_from s test ys) (sym (add-zero start))
places_from-append start test (x ∷ xs) ys =
    let further : start + 1 + length xs ≡ start + length (x ∷ xs) = omega arith in
    joined (test x) start (places_from (start + 1) test (xs ++ ys)) (places_from (start + 1) test xs) (places_from (start + length (x ∷ xs)) test ys)
    (places_from-append (start + 1) test xs ys ∙ ap (λ (s : ℕ). places_from (start + 1) test xs ++ places_from s test ys) further)

-- in a list that is mapped
pub places_from-map : {X Y : Type 0} (start : ℕ) (test : Y → Bool) (f : X → Y) (xs : List X) → places_from start test (map f xs) ≡ places_from start (λ x. test (f x)) xs
places_from-map start test f [] = refl
places_from-map start test f (x ∷ xs) = ap (λ (ks : List ℕ). cond (test (f x)) (start ∷ ks) ks) (places_from-map (start + 1) test f xs)

-- where none passes
pub places_from-none : {X : Type 0} (start : ℕ) (test : X → Bool) (xs : List X) → All (λ x. test x ≡ false) xs → places_from start test xs ≡ []
places_from-none start test [] none = refl
places_from-none start test (x ∷ xs) none =
    skipped (test x) start (places_from (start + 1) test xs) (none 0 x (omega arith))
    ∙ places_from-none (start + 1) test xs (λ k d lt. none (suc k) d (omega arith))

-- where all pass
pub places_from-all : {X : Type 0} (start : ℕ) (test : X → Bool) (xs : List X) → All (λ x. test x ≡ true) xs → places_from start test xs ≡ range_with_len start (length xs)
places_from-all start test [] all = refl
places_from-all start test (x ∷ xs) all =
    taken (test x) start (places_from (start + 1) test xs) (all 0 x (omega arith))
    ∙ ap (λ (ks : List ℕ). start ∷ ks) (places_from-all (start + 1) test xs (λ k d lt. all (suc k) d (omega arith)))

-- the places of what passes are below the length
pub places_from-below : {X : Type 0} (start : ℕ) (test : X → Bool) (xs : List X) → All (λ k. k < start + length xs) (places_from start test xs)
places_from-below start test [] = λ k d lt. absurd (omega arith)
places_from-below start test (x ∷ xs) =
    let P : ℕ → Type 0 = λ k. k < start + length (x ∷ xs) in
    let rest : All P (places_from (start + 1) test xs) = λ k d lt. omega (arith, places_from-below (start + 1) test xs k d lt) in
    elim (cases_Bool (test x)) [
      | inl passes ↦ subst (λ (ks : List ℕ). All P ks) (sym (taken (test x) start (places_from (start + 1) test xs) passes)) (All-cons P start (places_from (start + 1) test xs) (omega arith) rest)
      | inr fails ↦ subst (λ (ks : List ℕ). All P ks) (sym (skipped (test x) start (places_from (start + 1) test xs) fails)) rest
    ]

-- the places of what passes are at least the start
places_from-least : {X : Type 0} (start : ℕ) (test : X → Bool) (xs : List X) → All (λ k. start ≤ k) (places_from start test xs)
places_from-least start test [] = λ k d lt. absurd (omega arith)
places_from-least start test (x ∷ xs) =
    let P : ℕ → Type 0 = λ k. start ≤ k in
    let rest : All P (places_from (start + 1) test xs) = λ k d lt. omega (arith, places_from-least (start + 1) test xs k d lt) in
    elim (cases_Bool (test x)) [
      | inl passes ↦ subst (λ (ks : List ℕ). All P ks) (sym (taken (test x) start (places_from (start + 1) test xs) passes)) (All-cons P start (places_from (start + 1) test xs) (omega arith) rest)
      | inr fails ↦ subst (λ (ks : List ℕ). All P ks) (sym (skipped (test x) start (places_from (start + 1) test xs) fails)) rest
    ]

increasing-cons : (x : ℕ) (ks : List ℕ) → All (λ k. x + 1 ≤ k) ks → IsStrictlyIncreasing ks → IsStrictlyIncreasing (x ∷ ks)
increasing-cons x ks least rest zero lt = omega (arith, least 0 0 (omega arith))
increasing-cons x ks least rest (suc k) lt =
    let next : suc (k + 1) ≡ suc k + 1 = omega arith in
    subst (λ (p : ℕ). get_or ks k 0 < get_or (x ∷ ks) p 0) next (rest k (omega arith))

-- the places of what passes ascend
pub places_from-ascending : {X : Type 0} (start : ℕ) (test : X → Bool) (xs : List X) → IsStrictlyIncreasing (places_from start test xs)
places_from-ascending start test [] = λ k lt. absurd (omega arith)
places_from-ascending start test (x ∷ xs) =
    let ks : List ℕ = places_from (start + 1) test xs in
    elim (cases_Bool (test x)) [
      | inl passes ↦ subst (λ (ls : List ℕ). IsStrictlyIncreasing ls) (sym (taken (test x) start ks passes)) (increasing-cons start ks (places_from-least (start + 1) test xs) (places_from-ascending (start + 1) test xs))
      | inr fails ↦ subst (λ (ls : List ℕ). IsStrictlyIncreasing ls) (sym (skipped (test x) start ks fails)) (places_from-ascending (start + 1) test xs)
    ]

contains-later : (x k : ℕ) (ks : List ℕ) → Contains ks k → Contains (x ∷ ks) k
contains-later x k ks has = (suc has.0, omega (arith, has.1), has.2)

-- what passes has its place among them
pub places_from-has : {X : Type 0} (start : ℕ) (test : X → Bool) (xs : List X) (k : ℕ) (d : X) → k < length xs → test (get_or xs k d) ≡ true → Contains (places_from start test xs) (start + k)
places_from-has start test [] k d inside passes = absurd (omega arith)
places_from-has start test (x ∷ xs) zero d inside passes =
    let ks : List ℕ = places_from (start + 1) test xs in
    subst (λ (ls : List ℕ). Contains ls (start + 0)) (sym (taken (test x) start ks passes)) (0, omega arith, sym (add-zero start))
places_from-has start test (x ∷ xs) (suc k) d inside passes =
    let ks : List ℕ = places_from (start + 1) test xs in
    let next : start + 1 + k ≡ start + suc k = omega arith in
    let later : Contains ks (start + suc k) = subst (λ (p : ℕ). Contains ks p) next (places_from-has (start + 1) test xs k d (omega arith) passes) in
    elim (cases_Bool (test x)) [
      | inl head ↦ subst (λ (ls : List ℕ). Contains ls (start + suc k)) (sym (taken (test x) start ks head)) (contains-later start (start + suc k) ks later)
      | inr head ↦ subst (λ (ls : List ℕ). Contains ls (start + suc k)) (sym (skipped (test x) start ks head)) later
    ]

-- what has no place among the places of what passes fails the test
pub places_from-lacks : {X : Type 0} (test : X → Bool) (xs : List X) (k : ℕ) (d : X) → k < length xs → (Contains (places_from 0 test xs) k → ⊥) → test (get_or xs k d) ≡ false
places_from-lacks test xs k d inside lacks =
    elim (cases_Bool (test (get_or xs k d))) [
      | inl passes ↦ absurd (lacks (subst (λ (p : ℕ). Contains (places_from 0 test xs) p) (zero-add k) (places_from-has 0 test xs k d inside passes)))
      | inr fails ↦ fails
    ]

-- ---- ascending teams

pub ascending-tail : (t : ℕ) (teams : List ℕ) → IsAscending nat_cmp (t ∷ teams) → IsAscending nat_cmp teams
ascending-tail t teams ascending = λ i j d before within. ascending (suc i) (suc j) d (omega arith) (omega arith)

pub later_differ : (t : ℕ) (teams : List ℕ) → IsAscending nat_cmp (t ∷ teams) → All (λ x. x ≢ t) teams
later_differ t teams ascending = λ k d lt same. absurd (omega (arith, less_than t (get_or teams k d) (ascending 0 (suc k) d (omega arith) (omega arith))))

pub ascending-drop : (i : ℕ) (teams : List ℕ) → IsAscending nat_cmp teams → IsAscending nat_cmp (drop i teams)
ascending-drop zero teams ascending = ascending
ascending-drop (suc i) [] ascending = ascending
ascending-drop (suc i) (t ∷ teams) ascending = ascending-drop i teams (ascending-tail t teams ascending)

-- one of the teams passes
pub one_passes : (start : ℕ) (test : ℕ → Bool) (teams : List ℕ) (b q : ℕ) → IsAscending nat_cmp teams → q < length teams → get_or teams q 0 ≡ b → test b ≡ true → ((x : ℕ) → x ≢ b → test x ≡ false) → places_from start test teams ≡ (start + q) ∷ []
one_passes start test [] b q ascending inside is passes fails = absurd (omega arith)
one_passes start test (t ∷ teams) b zero ascending inside is passes fails =
    taken (test t) start (places_from (start + 1) test teams) (ap test is ∙ passes)
    ∙ ap (λ (ks : List ℕ). start ∷ ks) (places_from-none (start + 1) test teams (λ k d lt. fails (get_or teams k d) (λ same. later_differ t teams ascending k d lt (same ∙ sym is))))
    ∙ ap (λ (k : ℕ). k ∷ []) (sym (add-zero start))
one_passes start test (t ∷ teams) b (suc q) ascending inside is passes fails =
    let differ : t ≢ b = λ same. later_differ t teams ascending q 0 (omega arith) (is ∙ sym same) in
    let next : start + 1 + q ≡ start + suc q = omega arith in
    skipped (test t) start (places_from (start + 1) test teams) (fails t differ)
    ∙ one_passes (start + 1) test teams b q (ascending-tail t teams ascending) (omega arith) is passes fails
    ∙ ap (λ (k : ℕ). k ∷ []) next

-- two tests that agree on a list find the same places
pub places_from-same : {X : Type 0} (start : ℕ) (test other : X → Bool) (xs : List X) → All (λ x. test x ≡ other x) xs → places_from start test xs ≡ places_from start other xs
places_from-same start test other [] same = refl
places_from-same start test other (x ∷ xs) same =
    ap (λ (b : Bool). cond b (start ∷ places_from (start + 1) test xs) (places_from (start + 1) test xs)) (same 0 x (omega arith))
    ∙ ap (λ (ks : List ℕ). cond (other x) (start ∷ ks) ks) (places_from-same (start + 1) test other xs (λ k d lt. same (suc k) d (omega arith)))

-- ---- what rules need of keys

-- each is a place in the list
pub keys_where-below : {X : Type 0} (test : X → Bool) (xs : List X) → All (λ k. k < length xs) (keys_where test xs)
keys_where-below test xs = λ k d lt. omega (arith, places_from-below 0 test xs k d lt)

-- the keys of what passes ascend
pub keys_where-ascending : {X : Type 0} (test : X → Bool) (xs : List X) → IsStrictlyIncreasing (keys_where test xs)
keys_where-ascending test xs = places_from-ascending 0 test xs

-- an element whose place is none of them fails the test
pub keys_where-lacks : {X : Type 0} (test : X → Bool) (xs : List X) (k : ℕ) (d : X) → k < length xs → (Contains (keys_where test xs) k → ⊥) → test (get_or xs k d) ≡ false
keys_where-lacks test xs k d inside lacks = places_from-lacks test xs k d inside lacks

-- two tests that agree on a list give the same keys
pub keys_where-same : {X : Type 0} (test other : X → Bool) (xs : List X) → All (λ x. test x ≡ other x) xs → keys_where test xs ≡ keys_where other xs
keys_where-same test other xs same = places_from-same 0 test other xs same

-- where none passes, there is none
pub keys_where-none : {X : Type 0} (test : X → Bool) (xs : List X) → All (λ x. test x ≡ false) xs → keys_where test xs ≡ []
keys_where-none test xs none = places_from-none 0 test xs none

-- there are no more keys than elements
pub keys_where-le : {X : Type 0} (test : X → Bool) (xs : List X) → length (keys_where test xs) ≤ length xs
keys_where-le test xs = no_longer 0 test xs where
  no_longer : {X : Type 0} (start : ℕ) (test : X → Bool) (xs : List X) → length (places_from start test xs) ≤ length xs
  no_longer start test [] = omega arith
  no_longer start test (x ∷ xs) =
      cond_both (test x) (start ∷ places_from (start + 1) test xs) (places_from (start + 1) test xs) (λ ks. length ks ≤ length (x ∷ xs))
      (λ e. omega (arith, no_longer (start + 1) test xs))
      (λ e. omega (arith, no_longer (start + 1) test xs))

-- in a list that is mapped
pub keys_where-map : {X Y : Type 0} (test : Y → Bool) (f : X → Y) (xs : List X) → keys_where test (map f xs) ≡ keys_where (λ x. test (f x)) xs
keys_where-map test f xs = places_from-map 0 test f xs

-- where one number alone can pass there is at most one key, and where two can there are at most two
at_most_one : (start : ℕ) (test : ℕ → Bool) (xs : List ℕ) (t : ℕ) → All (λ x. test x ≡ true → x ≡ t) xs → IsAscending nat_cmp xs → length (places_from start test xs) ≤ 1
at_most_one start test [] t only ascending = omega arith
at_most_one start test (x ∷ xs) t only ascending =
    let later : All (λ y. test y ≡ true → y ≡ t) xs = λ k d lt. only (suc k) d (omega arith) in
    elim (cases_Bool (test x)) [
      | inl passes ↦
          let rest : All (λ y. test y ≡ false) xs = λ k d lt. elim (cases_Bool (test (get_or xs k d))) [
            | inl too ↦ absurd (later_differ x xs ascending k d lt (later k d lt too ∙ sym (only 0 x (omega arith) passes)))
            | inr fails ↦ fails
          ] in
          omega (arith, ap (λ (ks : List ℕ). length ks) (taken (test x) start (places_from (start + 1) test xs) passes ∙ ap (λ (ks : List ℕ). start ∷ ks) (places_from-none (start + 1) test xs rest)))
      | inr fails ↦
          omega (arith, ap (λ (ks : List ℕ). length ks) (skipped (test x) start (places_from (start + 1) test xs) fails), at_most_one (start + 1) test xs t later (ascending-tail x xs ascending))
    ]

two_from : (start : ℕ) (test : ℕ → Bool) (xs : List ℕ) (t u : ℕ) → IsAscending nat_cmp xs → ((x : ℕ) → test x ≡ true → (x ≡ t) ⊎ (x ≡ u)) → length (places_from start test xs) ≤ 2
two_from start test [] t u ascending either = omega arith
two_from start test (x ∷ xs) t u ascending either =
    let ks : List ℕ = places_from (start + 1) test xs in
    elim (cases_Bool (test x)) [
      | inl passes ↦
          -- the others that pass are all the other of the two
          let more : length (places_from start test (x ∷ xs)) ≡ suc (length ks) = ap (λ (ls : List ℕ). length ls) (taken (test x) start ks passes) in
          let rest : length ks ≤ 1 = elim (either x passes) [
            | inl first ↦ at_most_one (start + 1) test xs u (λ k d lt too. elim (either (get_or xs k d) too) [ inl same ↦ absurd (later_differ x xs ascending k d lt (same ∙ sym first)) | inr other ↦ other ]) (ascending-tail x xs ascending)
            | inr second ↦ at_most_one (start + 1) test xs t (λ k d lt too. elim (either (get_or xs k d) too) [ inl other ↦ other | inr same ↦ absurd (later_differ x xs ascending k d lt (same ∙ sym second)) ]) (ascending-tail x xs ascending)
          ] in
          omega arith
      | inr fails ↦
          omega (arith, ap (λ (ls : List ℕ). length ls) (skipped (test x) start ks fails), two_from (start + 1) test xs t u (ascending-tail x xs ascending) either)
    ]

pub keys_where-one : (test : ℕ → Bool) (xs : List ℕ) (t : ℕ) → IsAscending nat_cmp xs → ((x : ℕ) → test x ≡ true → x ≡ t) → length (keys_where test xs) ≤ 1
keys_where-one test xs t ascending only = at_most_one 0 test xs t (λ k d lt. only (get_or xs k d)) ascending

pub keys_where-two : (test : ℕ → Bool) (xs : List ℕ) (t u : ℕ) → IsAscending nat_cmp xs → ((x : ℕ) → test x ≡ true → (x ≡ t) ⊎ (x ≡ u)) → length (keys_where test xs) ≤ 2
keys_where-two test xs t u ascending either = two_from 0 test xs t u ascending either

-- a key that isn't among some keys that are there where a test passes: the test fails, or it isn't among them
pub if_lacks : (test : Bool) (ks : List ℕ) (k : ℕ) → (Contains (if test then ks else []) k → ⊥) → (test ≡ false) ⊎ (Contains ks k → ⊥)
if_lacks true ks k lacks = inr lacks
if_lacks false ks k lacks = inl refl

-- the key of an only entry is there unless the test fails
pub only_key-lacks : (test : Bool) (k : ℕ) → k < 1 → (Contains (if test then 0 ∷ [] else []) k → ⊥) → test ≡ false
only_key-lacks true zero inside lacks = absurd (lacks (0, omega arith, refl))
only_key-lacks true (suc k) inside lacks = absurd (omega arith)
only_key-lacks false k inside lacks = refl

-- ---- lists of keys

-- a list of keys with no more
pub no_more : (keys : KeyList) (more : List ℕ) → more ≡ [] → keys ≡ record { list = keys.list ++ more; room = keys.room }
no_more keys more none = ap (λ (ks : List ℕ). record { list = ks; room = keys.room }) (sym (append-nil keys.list) ∙ ap (λ (ks : List ℕ). keys.list ++ ks) (sym none))

-- a list of keys with one more
pub one_more_key : (keys : KeyList) (key : ℕ) (more : List ℕ) (new : KeyList) → more ≡ key ∷ [] → new ≡ record { list = keys.list ++ key ∷ []; room = keys.room } → new ≡ record { list = keys.list ++ more; room = keys.room }
one_more_key keys key more new is pushed = pushed ∙ ap (λ (ks : List ℕ). record { list = keys.list ++ ks; room = keys.room }) (sym is)

-- a list of keys is its keys and its room
pub keys_are : (keys : KeyList) (list : List ℕ) (room : ℕ) → keys.list ≡ list → keys.room ≡ room → keys ≡ record { list = list; room = room }
keys_are keys list room same_list same_room =
    ap (λ (ks : List ℕ). record { list = ks; room = keys.room }) same_list ∙ ap (λ (k : ℕ). record { list = list; room = k }) same_room

-- a list of keys to which one was added, and then another
pub two_more : (keys now new : KeyList) (one other both : List ℕ) → now ≡ record { list = keys.list ++ one; room = keys.room } → new ≡ record { list = now.list ++ other; room = now.room } → one ++ other ≡ both → new ≡ record { list = keys.list ++ both; room = keys.room }
two_more keys now new one other both first second joined =
    second
    ∙ ap (λ (k : KeyList). record { list = k.list ++ other; room = k.room }) first
    ∙ ap (λ (ks : List ℕ). record { list = ks; room = keys.room }) (append_assoc keys.list one other ∙ ap (λ (ks : List ℕ). keys.list ++ ks) joined)

-- where one key at most was added, there is room for one more
pub room_left : (keys now : KeyList) (one : List ℕ) → now ≡ record { list = keys.list ++ one; room = keys.room } → length keys.list + 2 ≤ keys.room → length one ≤ 1 → length now.list + 1 ≤ now.room
room_left keys now one first spare few =
    omega (arith, ap (λ (k : KeyList). length k.list) first, ap (λ (k : KeyList). k.room) first, length-append keys.list one)
