-- Sets as ascending lists: where an item stands, and the set with one item more.
use Rattle.std.proofs.Common.{◌≡◌, ℕ, zero, suc, ◌+◌, ◌-◌, ◌<◌, ◌≤◌, List, [], ◌∷◌, ◌++◌, length, get_or, take, drop, refl, sym, ap, ◌∙◌, subst, arith, le_refl, Contains, Bool, true, false, Result, Ok, Err, inl, inr, IsTrue, is_ok, ◌↔◌}
use Rattle.std.specs.List.{All, AllPairs, AllWithin, HoldsAt, filter, insert}
use Rattle.std.specs.List.Sorted.{IsBinarySearchResult, IsNonDecreasingBy, IsSearchInRange, IsPartitionPoint}
use Rattle.std.specs.Cmp.{IsTotalOrder}
use Rattle.std.specs.Ordering.{is_lt, nat_cmp, ordering_index, ordering_reverse}
use Rattle.std.specs.declared.cmp.Ordering.{Ordering}
use Rattle.std.specs.declared.cmp.Ordering.TheVariants.{Less, Equal, Greater}
use Rattle.std.proofs.lemmas.List.{take-append-drop, take_all, drop_all, get_or-take, get_or-drop, length-take-le, length-drop, append-nil}
use Rattle.std.proofs.lemmas.List.Elements.{filter-append, filter_passes, All-append, All-cons, All-tail}
use Rattle.std.proofs.lemmas.List.Kept.{AllPairs-cons, AllPairs-filter}
use Rattle.std.proofs.Math.Seq.{drop-cons}
use Rattle.std.proofs.Math.Nat.{eq-or-lt_of_le}
use Rattle.std.proofs.lemmas.Bool.{cases_lt}
use Rattle.std.proofs.lemmas.Bool.Decides.{nat_tests}
use Rattle.league.specs.Sets.{IsAscending, with_item}

-- a test that every element passes keeps the list
pub filter-all : {X : Type 0} (p : X → Bool) (xs : List X) → All (λ y. p y ≡ true) xs → filter p xs ≡ xs
filter-all p [] pass = refl
filter-all p (x ∷ xs) pass =
    let here : p x ≡ true = pass 0 x (omega arith) in
    rw here (ap (λ ys. x ∷ ys) (filter-all p xs (All-tail (λ y. p y ≡ true) x xs pass)))

-- a test that no element passes leaves nothing
pub filter-none : {X : Type 0} (p : X → Bool) (xs : List X) → All (λ y. p y ≡ false) xs → filter p xs ≡ []
filter-none p [] fail = refl
filter-none p (x ∷ xs) fail =
    let here : p x ≡ false = fail 0 x (omega arith) in
    rw here (filter-none p xs (All-tail (λ y. p y ≡ false) x xs fail))

-- two lists in order, of which the first comes before the second
pub AllPairs-append : {X : Type 0} (R : X → X → Type 0) (xs ys : List X) → AllPairs R xs → AllPairs R ys → All (λ x. All (R x) ys) xs → AllPairs R (xs ++ ys)
AllPairs-append R [] ys first second across = second
AllPairs-append R (x ∷ xs) ys first second across =
    AllPairs-cons R x (xs ++ ys)
    (All-append (R x) xs ys (λ k d h. first 0 (suc k) d (omega arith) (omega arith)) (across 0 x (omega arith)))
    (AllPairs-append R xs ys (λ i j d h k. first (suc i) (suc j) d (omega arith) (omega arith)) second (All-tail (λ x. All (R x) ys) x xs across))

less_from_is_lt : (o : Ordering) → is_lt o ≡ true → o ≡ Less
less_from_is_lt Less h = refl
less_from_is_lt Equal h = cc
less_from_is_lt Greater h = cc

module _ {X : Type 0} (cmp : X → X → Ordering) (total : IsTotalOrder cmp) where
  cmp-same : (x : X) → cmp x x ≡ Equal
  cmp-same x = itself (cmp x x) (total.antisymm x x) where
    itself : (o : Ordering) → o ≡ ordering_reverse o → o ≡ Equal
    itself Less h = cc
    itself Equal h = refl
    itself Greater h = cc

  reversed : (x y : X) (o : Ordering) → cmp x y ≡ o → cmp y x ≡ ordering_reverse o
  reversed x y o h = total.antisymm y x ∙ ap ordering_reverse h

  -- the set with an item more is ascending
  pub IsAscending-with_item : (x : X) (xs : List X) → IsAscending cmp xs → IsAscending cmp (with_item cmp x xs)
  IsAscending-with_item x xs ascending =
      let R : X → X → Type 0 = λ a b. cmp a b ≡ Less in
      let low : List X = filter (λ y. is_lt (cmp y x)) xs in
      let high : List X = filter (λ y. is_lt (cmp x y)) xs in
      let below : All (λ y. cmp y x ≡ Less) low = λ k d h. less_from_is_lt _ (filter_passes (λ y. is_lt (cmp y x)) xs k d h) in
      let above : All (R x) high = λ k d h. less_from_is_lt _ (filter_passes (λ y. is_lt (cmp x y)) xs k d h) in
      AllPairs-append R low (x ∷ high)
      (AllPairs-filter R (λ y. is_lt (cmp y x)) xs ascending)
      (AllPairs-cons R x high above (AllPairs-filter R (λ y. is_lt (cmp x y)) xs ascending))
      (λ k d h. All-cons (R (get_or low k d)) x high (below k d h) (λ i e g. total.trans (get_or low k d) x (get_or high i e) (below k d h) (above i e g)))

  -- a list whose first part comes before x and whose last part comes after it, with anything between that is x
  low_part : (x : X) (lows rest : List X) → All (λ y. cmp y x ≡ Less) lows → filter (λ y. is_lt (cmp y x)) rest ≡ [] → filter (λ y. is_lt (cmp y x)) (lows ++ rest) ≡ lows
  low_part x lows rest before nothing =
      filter-append (λ y. is_lt (cmp y x)) lows rest
      ∙ ap (λ (l : List X). l ++ filter (λ y. is_lt (cmp y x)) rest) (filter-all (λ y. is_lt (cmp y x)) lows (λ k d h. ap is_lt (before k d h)))
      ∙ ap (λ (l : List X). lows ++ l) nothing
      ∙ append-nil lows

  high_part : (x : X) (lows rest : List X) → All (λ y. cmp y x ≡ Less) lows → filter (λ y. is_lt (cmp x y)) (lows ++ rest) ≡ filter (λ y. is_lt (cmp x y)) rest
  high_part x lows rest before =
      filter-append (λ y. is_lt (cmp x y)) lows rest
      ∙ ap (λ (l : List X). l ++ filter (λ y. is_lt (cmp x y)) rest) (filter-none (λ y. is_lt (cmp x y)) lows (λ k d h. ap is_lt (reversed (get_or lows k d) x Less (before k d h))))

  none_low : (x : X) (highs : List X) → All (λ y. cmp y x ≡ Greater) highs → filter (λ y. is_lt (cmp y x)) highs ≡ []
  none_low x highs after = filter-none (λ y. is_lt (cmp y x)) highs (λ k d h. ap is_lt (after k d h))

  all_high : (x : X) (highs : List X) → All (λ y. cmp y x ≡ Greater) highs → filter (λ y. is_lt (cmp x y)) highs ≡ highs
  all_high x highs after = filter-all (λ y. is_lt (cmp x y)) highs (λ k d h. ap is_lt (reversed (get_or highs k d) x Greater (after k d h)))

  -- where x isn't there
  with_item-between : (x : X) (lows highs : List X) → All (λ y. cmp y x ≡ Less) lows → All (λ y. cmp y x ≡ Greater) highs → with_item cmp x (lows ++ highs) ≡ lows ++ x ∷ highs
  with_item-between x lows highs before after =
      ap (λ (l : List X). l ++ x ∷ filter (λ y. is_lt (cmp x y)) (lows ++ highs)) (low_part x lows highs before (none_low x highs after))
      ∙ ap (λ (l : List X). lows ++ x ∷ l) (high_part x lows highs before ∙ all_high x highs after)

  -- where x is there
  with_item-at : (x : X) (lows highs : List X) → All (λ y. cmp y x ≡ Less) lows → All (λ y. cmp y x ≡ Greater) highs → with_item cmp x (lows ++ x ∷ highs) ≡ lows ++ x ∷ highs
  with_item-at x lows highs before after =
      let itself : is_lt (cmp x x) ≡ false = ap is_lt (cmp-same x) in
      let low : filter (λ y. is_lt (cmp y x)) (x ∷ highs) ≡ [] = rw itself (none_low x highs after) in
      let high : filter (λ y. is_lt (cmp x y)) (x ∷ highs) ≡ highs = rw itself (all_high x highs after) in
      ap (λ (l : List X). l ++ x ∷ filter (λ y. is_lt (cmp x y)) (lows ++ x ∷ highs)) (low_part x lows (x ∷ highs) before low)
      ∙ ap (λ (l : List X). lows ++ x ∷ l) (high_part x lows (x ∷ highs) before ∙ high)

  module _ (same : (a b : X) → cmp a b ≡ Equal → a ≡ b) (x : X) (xs : List X) (ascending : IsAscending cmp xs) where
    -- what comes earlier in the list doesn't compare as greater with x
    rises : (a b : X) (o : Ordering) → cmp a b ≡ Less → cmp b x ≡ o → ordering_index (cmp a x) ≤ ordering_index o
    rises a b Less before is = rw (total.trans a b x before is) (omega arith)
    rises a b Equal before is = rw (← same b x is, before) (omega arith)
    rises a b Greater before is = at_most_two (cmp a x) where
      at_most_two : (o : Ordering) → ordering_index o ≤ 2
      at_most_two Less = omega arith
      at_most_two Equal = omega arith
      at_most_two Greater = omega arith

    ranks : IsNonDecreasingBy (λ y. ordering_index (cmp y x)) xs
    ranks i j d le within =
        elim (eq-or-lt_of_le le) [
          | inl at ↦ rw at (omega arith)
          | inr before ↦ rises (get_or xs i d) (get_or xs j d) (cmp (get_or xs j d) x) (ascending i j d before within) refl
        ]

    -- what stands before place i and from place j on
    before_all : (i : ℕ) → i ≤ length xs → AllWithin (λ y. cmp y x ≡ Less) xs 0 i → All (λ y. cmp y x ≡ Less) (take i xs)
    before_all i le within k d h =
        let small : k < i = omega (arith, length-take-le i xs le) in
        rw (get_or-take i xs k d) (within k d (omega arith) small)

    after_all : (j : ℕ) → j ≤ length xs → AllWithin (λ y. cmp y x ≡ Greater) xs j (length xs) → All (λ y. cmp y x ≡ Greater) (drop j xs)
    after_all j le within k d h =
        rw (get_or-drop j xs k d) (within (j + k) d (omega arith) (omega (arith, length-drop j xs)))

    -- x stands at place i
    pub with_item-found : (i : ℕ) → i < length xs → HoldsAt (λ y. cmp y x ≡ Equal) xs i → with_item cmp x xs ≡ xs
    with_item-found i h found =
        let is : get_or xs i x ≡ x = same (get_or xs i x) x (found x) in
        let rest : drop i xs ≡ x ∷ drop (suc i) xs = drop-cons xs i x h ∙ ap (λ (y : X). y ∷ drop (suc i) xs) is in
        let whole : xs ≡ take i xs ++ (x ∷ drop (suc i) xs) = sym (take-append-drop i xs) ∙ ap (λ (l : List X). take i xs ++ l) rest in
        let low : All (λ y. cmp y x ≡ Less) (take i xs) = before_all i (omega arith) (λ k d _ small. subst (λ (y : X). cmp (get_or xs k d) y ≡ Less) (same (get_or xs i d) x (found d)) (ascending k i d small h)) in
        let high : All (λ y. cmp y x ≡ Greater) (drop (suc i) xs) = after_all (suc i) (omega arith) (λ k d from within. reversed x (get_or xs k d) Less (subst (λ (y : X). cmp y (get_or xs k d) ≡ Less) (same (get_or xs i d) x (found d)) (ascending i k d (omega arith) within))) in
        subst (λ (l : List X). with_item cmp x l ≡ l) (sym whole) (with_item-at x (take i xs) (drop (suc i) xs) low high)

    -- x has its place at i, and isn't there
    with_item-placed : (i : ℕ) → i ≤ length xs → AllWithin (λ y. cmp y x ≡ Less) xs 0 i → AllWithin (λ y. cmp y x ≡ Greater) xs i (length xs) → with_item cmp x xs ≡ insert xs i x
    with_item-placed i le before after =
        let placed : with_item cmp x (take i xs ++ drop i xs) ≡ insert xs i x = with_item-between x (take i xs) (drop i xs) (before_all i le before) (after_all i le after) in
        subst (λ (l : List X). with_item cmp x l ≡ insert xs i x) (take-append-drop i xs) placed

    absent : (i : ℕ) → AllWithin (λ y. cmp y x ≡ Less) xs 0 i → AllWithin (λ y. cmp y x ≡ Greater) xs i (length xs) → Contains xs x → ⊥
    absent i before after there =
        let itself : cmp (get_or xs there.0 x) x ≡ Equal = ap (λ (y : X). cmp y x) there.2 ∙ cmp-same x in
        elim (cases_lt there.0 i) [
          | inl small ↦ let less : cmp (get_or xs there.0 x) x ≡ Less = before there.0 x (omega arith) small in cc
          | inr large ↦ let greater : cmp (get_or xs there.0 x) x ≡ Greater = after there.0 x large there.1 in cc
        ]

    -- where a binary search that doesn't find x says that its place is
    pub goes_at : (i : ℕ) → i ≤ length xs → (IsNonDecreasingBy (λ y. ordering_index (cmp y x)) xs → IsPartitionPoint (λ y. cmp y x ≡ Less) (λ y. cmp y x ≡ Greater) xs i) → (with_item cmp x xs ≡ insert xs i x) × (Contains xs x → ⊥)
    goes_at i le splits = let parts = splits ranks in (with_item-placed i le parts.0 parts.1, absent i parts.0 parts.1)

    -- where x comes after the last, and so after all
    pub goes_last : (0 < length xs → HoldsAt (λ y. cmp y x ≡ Less) xs (length xs - 1)) → (with_item cmp x xs ≡ xs ++ x ∷ []) × (Contains xs x → ⊥)
    goes_last last =
        let before : AllWithin (λ y. cmp y x ≡ Less) xs 0 (length xs) = λ k d from below. by_last k d below in
        let after : AllWithin (λ y. cmp y x ≡ Greater) xs (length xs) (length xs) = λ k d from below. absurd (omega arith) in
        let whole : insert xs (length xs) x ≡ xs ++ x ∷ [] = rw (take_all (length xs) xs (le_refl (length xs)), drop_all (length xs) xs (le_refl (length xs))) refl in
        (with_item-placed (length xs) (le_refl (length xs)) before after ∙ whole, absent (length xs) before after) where
          by_last : (k : ℕ) (d : X) → k < length xs → cmp (get_or xs k d) x ≡ Less
          by_last k d below =
              let at_last = last (omega arith) d in
              elim (cases_lt k (length xs - 1)) [
                | inl earlier ↦ total.trans (get_or xs k d) (get_or xs (length xs - 1) d) x (ascending k (length xs - 1) d earlier (omega arith)) at_last
                | inr late ↦ let e : k ≡ length xs - 1 = omega arith in rw e at_last
              ]

    -- what a binary search says of x
    pub tells : (answer : Result ℕ ℕ) → IsSearchInRange answer (length xs) → IsBinarySearchResult (λ y. cmp y x) xs answer → IsTrue (is_ok answer) ↔ Contains xs x
    tells (Ok i) within found = (λ _. (i, within, same (get_or xs i x) x (found x)), λ _. refl)
    tells (Err i) within splits = let parts = splits ranks in (λ untrue. cc, λ there. absurd (absent i parts.0 parts.1 there))

-- a number that comes before another is below it
pub less_than : (a b : ℕ) → nat_cmp a b ≡ Less → a < b
less_than a b h = grind (arith, nat_tests)

-- in an ascending list the number at place i is at least i
at_least_place : (xs : List ℕ) → IsAscending nat_cmp xs → (i : ℕ) → i < length xs → i ≤ get_or xs i 0
at_least_place xs ascending zero within = omega arith
at_least_place xs ascending (suc i) within =
    omega (arith, at_least_place xs ascending i (omega arith), less_than (get_or xs i 0) (get_or xs (suc i) 0) (ascending i (suc i) 0 (omega arith) within))

-- a set of numbers below k has at most k of them
pub length-ascending : (xs : List ℕ) (k : ℕ) → IsAscending nat_cmp xs → All (λ x. x < k) xs → length xs ≤ k
length-ascending xs k ascending below =
    elim (cases_lt k (length xs)) [ inl more ↦ absurd (omega (arith, at_least_place xs ascending k more, below k 0 more)) | inr few ↦ few ]
