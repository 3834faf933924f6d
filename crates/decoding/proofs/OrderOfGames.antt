-- The games that can take place are listed in order, and so is each part of them.
use Rattle.std.proofs.Common.{◌≡◌, ℕ, zero, suc, ◌+◌, ◌-◌, ◌*◌, ◌<◌, Bool, true, not, ◌&&◌, ◌==◌, List, [], ◌∷◌, ◌++◌}
use Rattle.std.proofs.Common.{map, cond, refl, arith, ap, ◌∙◌}
use Rattle.std.proofs.lemmas.Bool.{and_from, and_parts, eq-eqb, eqb-true, le-ltb}
use Rattle.std.proofs.lemmas.List.Folds.{list_all-append, list_all-map}
use Rattle.std.proofs.lemmas.List.Kept.{AllPairs-filter}
use Rattle.std.specs.List.{filter, flat_map, list_all, range_with_len}
use Rattle.std.specs.Ordering.{is_le, is_lt, nat_cmp, ordering_then}
use Rattle.std.specs.declared.cmp.Ordering.{Ordering}
use Rattle.std.specs.declared.cmp.Ordering.TheVariants.{Less, Equal, Greater}
use Rattle.league.specs.Counts.{teams_of}
use Rattle.league.specs.Meetings.{meetings_of, others}
use Rattle.league.specs.Order.{IsInOrder, game_cmp}
use Rattle.league.specs.Sets.{ascends}
use Rattle.league.specs.declared.game.Game.{Game}
use Rattle.league.proofs.AscendingLemmas.{IsAscending-ascends, ascends-true}
use Rattle.league.proofs.NumberSets.{nat_cmp-less}
use Rattle.rows.proofs.ListLemmas.{list_all-flat_map, list_all-range, list_all-weaker}
use Rattle.encoding.specs.Shadow.{all_games, decoded, game_of}
use Rattle.encoding.specs.Variables.{x_var}

-- a test that everything passes
list_all-always : {X : Type 0} (p : X → Bool) → ((x : X) → p x ≡ true) → (xs : List X) → list_all p xs ≡ true
list_all-always p pass [] = refl
list_all-always p pass (x ∷ xs) = and_from (p x) (list_all p xs) (pass x) (list_all-always p pass xs)

module _ {X : Type 0} (cmp : X → X → Ordering) where
  -- two lists that ascend, the first before the second
  ascends-append : (xs ys : List X) → ascends cmp xs ≡ true → ascends cmp ys ≡ true →
      list_all (λ x. list_all (λ y. is_lt (cmp x y)) ys) xs ≡ true → ascends cmp (xs ++ ys) ≡ true
  ascends-append [] ys first second before = second
  ascends-append (x ∷ xs) ys first second before =
      let own = and_parts (list_all (λ y. is_lt (cmp x y)) xs) (ascends cmp xs) first in
      let cross = and_parts (list_all (λ y. is_lt (cmp x y)) ys)
      (list_all (λ z. list_all (λ y. is_lt (cmp z y)) ys) xs) before in
      and_from _ _
      (list_all-append (λ y. is_lt (cmp x y)) xs ys ∙ and_from _ _ own.0 cross.0)
      (ascends-append xs ys own.1 second cross.1)

  -- the lists of ascending numbers, where a test tells those of each
  ascends-flat_map : (f : ℕ → List X) (of : ℕ → X → Bool) → ((i : ℕ) → ascends cmp (f i) ≡ true) →
      ((i : ℕ) → list_all (of i) (f i) ≡ true) → ((i j : ℕ) (x y : X) → i < j → of i x ≡ true → of j y ≡ true →
      is_lt (cmp x y) ≡ true) → (a k : ℕ) → ascends cmp (flat_map f (range_with_len a k)) ≡ true
  ascends-flat_map f of each told before a zero = refl
  ascends-flat_map f of each told before a (suc k) =
      let later : List ℕ = range_with_len (a + 1) k in
      ascends-append (f a) (flat_map f later) (each a) (ascends-flat_map f of each told before (a + 1) k)
      (list_all-weaker (of a) (λ x. list_all (λ y. is_lt (cmp x y)) (flat_map f later))
      (λ x of_a.
      list_all-flat_map (λ y. is_lt (cmp x y)) f later
      ∙ list_all-range (λ j. list_all (λ y. is_lt (cmp x y)) (f j)) (a + 1) k
      (λ j from within. list_all-weaker (of j) (λ y. is_lt (cmp x y))
      (λ y of_j. before a j x y (omega arith) of_a of_j) (f j) (told j))) (f a) (told a))

  ascends-map : {Y : Type 0} (f : Y → X) (ys : List Y) → ascends cmp (map f ys) ≡ ascends (λ y z. cmp (f y) (f z)) ys
  ascends-map f [] = refl
  ascends-map f (y ∷ ys) =
      ap (λ (b : Bool). b && ascends cmp (map f ys)) (list_all-map (λ x. is_lt (cmp (f y) x)) f ys)
      ∙ ap (λ (b : Bool). list_all (λ z. is_lt (cmp (f y) (f z))) ys && b) (ascends-map f ys)

  ascends-filter : (p : X → Bool) (xs : List X) → ascends cmp xs ≡ true → ascends cmp (filter p xs) ≡ true
  ascends-filter p xs ascending =
      ascends-true cmp (filter p xs) (AllPairs-filter (λ a b. cmp a b ≡ Less) p xs
      (IsAscending-ascends cmp xs ascending))

-- a range ascends in an order that has smaller numbers first
ascends-range : (cmp : ℕ → ℕ → Ordering) → ((i j : ℕ) → i < j → is_lt (cmp i j) ≡ true) → (a k : ℕ) →
    ascends cmp (range_with_len a k) ≡ true
ascends-range cmp before a zero = refl
ascends-range cmp before a (suc k) =
    and_from _ _ (list_all-range (λ j. is_lt (cmp a j)) (a + 1) k (λ j from within. before a j (omega arith)))
    (ascends-range cmp before (a + 1) k)

nat_cmp-same : (a : ℕ) → nat_cmp a a ≡ Equal
nat_cmp-same a =
    ap (λ (t : Bool). cond t Less (cond (a == a) Equal Greater)) (le-ltb a a (omega arith))
    ∙ ap (λ (t : Bool). cond t Equal Greater) (eq-eqb a a refl)

-- games of two slots, of two home teams in a slot, and of a home team with two others
slot_first : (g h : Game) → g.slot.0 < h.slot.0 → is_lt (game_cmp g h) ≡ true
slot_first g h before =
    ap (λ (o : Ordering). is_lt (ordering_then (ordering_then o (nat_cmp g.home.0 h.home.0))
    (nat_cmp g.away.0 h.away.0))) (nat_cmp-less g.slot.0 h.slot.0 before)

home_second : (p q : ℕ × ℕ) (s : ℕ) → p.0 < q.0 → is_lt (game_cmp (game_of p s) (game_of q s)) ≡ true
home_second p q s before =
    ap (λ (o : Ordering). is_lt (ordering_then (ordering_then o (nat_cmp p.0 q.0)) (nat_cmp p.1 q.1)))
    (nat_cmp-same s)
    ∙ ap (λ (o : Ordering). is_lt (ordering_then o (nat_cmp p.1 q.1))) (nat_cmp-less p.0 q.0 before)

away_third : (i j k s : ℕ) → j < k → is_lt (game_cmp (game_of (i, j) s) (game_of (i, k) s)) ≡ true
away_third i j k s before =
    ap (λ (o : Ordering). is_lt (ordering_then (ordering_then o (nat_cmp i i)) (nat_cmp j k))) (nat_cmp-same s)
    ∙ ap (λ (o : Ordering). is_lt (ordering_then o (nat_cmp j k))) (nat_cmp-same i)
    ∙ ap (λ (o : Ordering). is_lt o) (nat_cmp-less j k before)

-- the games of a slot
slot_ascends : (n s : ℕ) → ascends game_cmp (map (λ p. game_of p s) (meetings_of n)) ≡ true
slot_ascends n s =
    let of_slot : ℕ × ℕ → Game = λ p. game_of p s in
    let pair_order : ℕ × ℕ → ℕ × ℕ → Ordering = λ p q. game_cmp (of_slot p) (of_slot q) in
    let of_home : ℕ → List (ℕ × ℕ) = λ i. map (λ j. (i, j)) (others i (teams_of n)) in
    let first_is : ℕ → ℕ × ℕ → Bool = λ i p. p.0 == i in
    ascends-map game_cmp of_slot (meetings_of n)
    ∙ ascends-flat_map pair_order of_home first_is
    (λ i.
    let meeting : ℕ → ℕ × ℕ = λ j. (i, j) in
    let away_order : ℕ → ℕ → Ordering = λ j k. pair_order (meeting j) (meeting k) in
    ascends-map pair_order meeting (others i (teams_of n))
    ∙ ascends-filter away_order (λ j. not (j == i)) (teams_of n)
    (ascends-range away_order (λ j k before. away_third i j k s before) 0 n))
    (λ i.
    let meeting : ℕ → ℕ × ℕ = λ j. (i, j) in
    list_all-map (first_is i) meeting (others i (teams_of n)) ∙ list_all-always (λ j. i == i) (λ j. eq-eqb i i refl)
    (others i (teams_of n)))
    (λ i j p q before first second.
    let first_team : p.0 ≡ i = eqb-true p.0 i first in
    let second_team : q.0 ≡ j = eqb-true q.0 j second in
    home_second p q s (omega arith)) 0 n

all_games-ascend : (n : ℕ) → ascends game_cmp (all_games n) ≡ true
all_games-ascend n =
    let slot_is : ℕ → Game → Bool = λ s g. g.slot.0 == s in
    ascends-flat_map game_cmp (λ s. map (λ p. game_of p s) (meetings_of n)) slot_is (slot_ascends n)
    (λ s. list_all-map (slot_is s) (λ p. game_of p s) (meetings_of n) ∙ list_all-always (λ p. s == s)
    (λ p. eq-eqb s s refl) (meetings_of n))
    (λ s t g h before first second.
    let first_slot : g.slot.0 ≡ s = eqb-true g.slot.0 s first in
    let second_slot : h.slot.0 ≡ t = eqb-true h.slot.0 t second in
    slot_first g h (omega arith)) 0 (2 * (n - 1))

-- what an assignment decodes to is in order
pub IsInOrder-decoded : (n : ℕ) (values : ℕ → Bool) → IsInOrder (decoded n values)
IsInOrder-decoded n values i j d before within =
    ap is_le (AllPairs-filter (λ g h. game_cmp g h ≡ Less) (λ g. values (x_var n g.home.0 g.away.0 g.slot.0))
    (all_games n) (IsAscending-ascends game_cmp (all_games n) (all_games-ascend n)) i j d before within)
