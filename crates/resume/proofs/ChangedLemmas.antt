-- Changed games, before and after an edit.
use Rattle.std.proofs.Common.{◌≡◌, ◌↔◌, ℕ, ◌+◌, ◌≤◌, Bool, true, false, not, ◌&&◌, ◌==◌, nat_lt, if◌then◌else◌}
use Rattle.std.proofs.Common.{List, [], ◌∷◌, inl, inr, refl, arith}
use Rattle.std.specs.List.{All, list_all, sum_by}
use Rattle.std.proofs.lemmas.Bool.Decides.{nat_tests}
use Rattle.std.proofs.lemmas.List.Elements.{All-head, All-tail}
use Rattle.std.proofs.lemmas.List.Sums.{sum_by-cons}
use Rattle.league.specs.Counts.{Counts, counts_of, is_game}
use Rattle.league.specs.Instance.{IsGame}
use Rattle.league.specs.Structure.{IsRoundRobin}
use Rattle.league.specs.declared.game.Game.{Game}
use Rattle.league.proofs.RangeLemmas.{one_if}
use Rattle.moves.specs.Moves.{times}
use Rattle.moves.specs.Round.{Edits, IsEdit}
use Rattle.resume.specs.Alone.{leaves_alone}
use Rattle.resume.specs.Changed.{IsAtMost, IsNearer, changed_on, is_changed, is_open}
use Rattle.resume.specs.Walks.{times_in}
use Rattle.resume.proofs.AloneLemmas.{both, counts_of-cons, single}

-- ---- sums over the games that are still to come

-- what a game weighs that is still to come
abbrev pub if_open : ℕ → (Game → ℕ) → Game → ℕ
if_open k f g = if is_open k g then f g else 0

abbrev pub over : ℕ → (Game → ℕ) → List Game → ℕ
over k f games = sum_by (if_open k f) games

if_none : (b : Bool) → let none : ℕ = 0 in (if b then none else none) ≡ none
if_none true = refl
if_none false = refl

over-none : (k : ℕ) (games : List Game) → over k (λ g. 0) games ≡ 0
over-none k [] = refl
over-none k (g ∷ games) =
    let total : over k (λ h. 0) (g ∷ games) ≡ (if is_open k g then 0 else 0) + over k (λ h. 0) games =
    sum_by-cons (if_open k (λ h. 0)) g games in
    omega (arith, total, if_none (is_open k g), over-none k games)

if_add : (b : Bool) (f h i : ℕ) → f ≡ h + i → (if b then f else 0) ≡ (if b then h else 0) + (if b then i else 0)
if_add true f h i same = same
if_add false f h i same = refl

over-add : (k : ℕ) (f h i : Game → ℕ) → ((g : Game) → f g ≡ h g + i g) → (games : List Game)
    → over k f games ≡ over k h games + over k i games
over-add k f h i same [] = refl
over-add k f h i same (g ∷ games) =
    omega (
      arith,
      sum_by-cons (if_open k f) g games,
      sum_by-cons (if_open k h) g games,
      sum_by-cons (if_open k i) g games,
      if_add (is_open k g) (f g) (h g) (i g) (same g),
      over-add k f h i same games,
    )

if_sum : (b : Bool) (f o h i : ℕ) → f + o ≡ h + i
    → (if b then f else 0) + (if b then o else 0) ≡ (if b then h else 0) + (if b then i else 0)
if_sum true f o h i same = same
if_sum false f o h i same = refl

over-sum : (k : ℕ) (f o h i : Game → ℕ) → ((g : Game) → f g + o g ≡ h g + i g) → (games : List Game)
    → over k f games + over k o games ≡ over k h games + over k i games
over-sum k f o h i same [] = refl
over-sum k f o h i same (g ∷ games) =
    omega (
      arith,
      sum_by-cons (if_open k f) g games,
      sum_by-cons (if_open k o) g games,
      sum_by-cons (if_open k h) g games,
      sum_by-cons (if_open k i) g games,
      if_sum (is_open k g) (f g) (o g) (h g) (i g) (same g),
      over-sum k f o h i same games,
    )

-- ---- games that are changed, and those that take place

one_changed : (b : Bool) (x : ℕ) → x ≤ 1 → one_if (b && not (nat_lt 0 x)) + (if b then x else 0) ≡ (if b then 1 else 0)
one_changed true x few = grind (arith, nat_tests)
one_changed false x few = refl

-- each game that is still to come is changed or takes place once
changed-rest : (n k : ℕ) (phased : Bool) (m : Counts) (old : List Game) → IsRoundRobin n phased m
    → All (IsGame n) old → changed_on k old m + over k (times m) old ≡ over k (λ g. 1) old
changed-rest n k phased m [] is fit = refl
changed-rest n k phased m (g ∷ old) is fit =
    let more : changed_on k (g ∷ old) m ≡ one_if (is_changed k m g) + changed_on k old m =
    sum_by-cons (λ h. one_if (is_changed k m h)) g old in
    omega (
      arith,
      more,
      sum_by-cons (if_open k (times m)) g old,
      sum_by-cons (if_open k (λ h. 1)) g old,
      one_changed (is_open k g) (times m g) (single n phased m g is (All-head (IsGame n) g old fit)),
      changed-rest n k phased m old is (All-tail (IsGame n) g old fit),
    )

-- ---- the games of an edit

turned : (a b c x y z k : ℕ) → not (nat_lt z k) ≡ true
    → (if not (nat_lt c k) then one_if ((x == a) && (y == b) && (z == c)) else 0)
    ≡ one_if ((a == x) && (b == y) && (c == z))
turned a b c x y z k from = grind (arith, nat_tests)

-- how often a game that is still to come stands in a list
over-one : (k : ℕ) (y : Game) → is_open k y ≡ true → (old : List Game)
    → over k (λ g. one_if (is_game g.home.0 g.away.0 g.slot.0 y)) old ≡ times (counts_of old) y
over-one k y from [] = refl
over-one k y from (g ∷ old) =
    omega (
      arith,
      sum_by-cons (if_open k (λ h. one_if (is_game h.home.0 h.away.0 h.slot.0 y))) g old,
      turned g.home.0 g.away.0 g.slot.0 y.home.0 y.away.0 y.slot.0 k from,
      counts_of-cons g old y.home.0 y.away.0 y.slot.0,
      over-one k y from old,
    )

-- of games that are still to come it is the same to go over the plan or over them
over-counts : (k : ℕ) (old games : List Game) → list_all (is_open k) games ≡ true
    → over k (times (counts_of games)) old ≡ times_in (counts_of old) games
over-counts k old [] all = over-none k old
over-counts k old (y ∷ games) all =
    let parts = both (is_open k y) (list_all (is_open k) games) all in
    omega (
      arith,
      over-add k (times (counts_of (y ∷ games))) (λ g. one_if (is_game g.home.0 g.away.0 g.slot.0 y))
          (times (counts_of games)) (λ g. counts_of-cons y games g.home.0 g.away.0 g.slot.0) old,
      over-one k y parts.0 old,
      over-counts k old games parts.1,
      sum_by-cons (times (counts_of old)) y games,
    )

-- an edit that leaves the first slots alone changes the number of changed games by those of the plan that it takes out
-- and puts in
pub changed-moved : (n k : ℕ) (phased : Bool) (m after : Counts) (old : List Game) (edit : Edits)
    → IsRoundRobin n phased m → IsRoundRobin n phased after → All (IsGame n) old → IsEdit m after edit
    → leaves_alone k edit ≡ true
    → changed_on k old after + times_in (counts_of old) edit.into
    ≡ changed_on k old m + times_in (counts_of old) edit.out
changed-moved n k phased m after old edit first last fit is alone =
    let parts = both (list_all (is_open k) edit.out) (list_all (is_open k) edit.into) alone in
    omega (
      arith,
      changed-rest n k phased m old first fit,
      changed-rest n k phased after old last fit,
      over-sum k (times after) (times (counts_of edit.out)) (times m) (times (counts_of edit.into))
          (λ g. is.moves g.home.0 g.away.0 g.slot.0) old,
      over-counts k old edit.out parts.0,
      over-counts k old edit.into parts.1,
    )

-- ---- which is nearer

pub nearer-moved : (changes before out into cost first : ℕ) → changes + into ≡ before + out
    → IsNearer out cost into first ↔ IsNearer changes cost before first
nearer-moved changes before out into cost first same = (there, back) where
  there : IsNearer out cost into first → IsNearer changes cost before first
  there (inl fewer) = inl (omega (arith, same, fewer))
  there (inr as_many) = inr (omega (arith, same, as_many.0), as_many.1)

  back : IsNearer changes cost before first → IsNearer out cost into first
  back (inl fewer) = inl (omega (arith, same, fewer))
  back (inr as_many) = inr (omega (arith, same, as_many.0), as_many.1)

-- a nearer season is no farther
pub at_most-nearer : (changes cost before first start price : ℕ) → IsNearer changes cost before first
    → IsAtMost before first start price → IsAtMost changes cost start price
at_most-nearer changes cost before first start price (inl fewer) (inl less) = inl (omega (arith, fewer, less))
at_most-nearer changes cost before first start price (inl fewer) (inr as_many) =
    inl (omega (arith, fewer, as_many.0))
at_most-nearer changes cost before first start price (inr same) (inl less) = inl (omega (arith, same.0, less))
at_most-nearer changes cost before first start price (inr same) (inr as_many) =
    inr (omega (arith, same.0, as_many.0), omega (arith, same.1, as_many.1))

-- no season is farther than itself
pub at_most-itself : (changes cost : ℕ) → IsAtMost changes cost changes cost
at_most-itself changes cost = inr (refl, omega arith)
