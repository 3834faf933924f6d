-- What an assignment decodes to, gone through by slot, home team and away team.
use Rattle.std.proofs.Common.{◌≡◌, ℕ, ◌+◌, Bool, true, false, not, ◌&&◌, ◌==◌, List, [], ◌∷◌, ◌++◌, map, cond, refl}
use Rattle.std.proofs.Common.{arith, ap, subst, ◌∙◌, sym}
use Rattle.std.proofs.lemmas.List.{append-nil, append_assoc, map-append}
use Rattle.std.proofs.lemmas.List.Concat.{flat_map-append}
use Rattle.std.specs.List.{filter, flat_map, range_with_len}
use Rattle.league.specs.Accepted.{IsAccepted}
use Rattle.league.specs.Counts.{counts_of, slots_of, teams_of}
use Rattle.league.specs.Instance.{Instance, IsInstance}
use Rattle.league.specs.Meetings.{meetings_of, others}
use Rattle.league.specs.Order.{IsInOrder}
use Rattle.league.specs.declared.game.Game.{Game}
use Rattle.league.proofs.RangeLemmas.{range_with_len-more}
use Rattle.league.proofs.ListLemmas.{flat_map-same}
use Rattle.rows.specs.Rows.{SatisfiesAll}
use Rattle.encoding.specs.Encoding.{rows_of}
use Rattle.encoding.specs.Shadow.{decoded, game_of}
use Rattle.encoding.specs.Variables.{x_var}
use Rattle.encoding.proofs.KeyRowLemmas.{filter-flat_map}
use Rattle.decoding.specs.TrueGames.{true_games_in, true_home_games}
use Rattle.decoding.proofs.Faithful.{accepted-from_rows}
use Rattle.decoding.proofs.OrderOfGames.{IsInOrder-decoded}

-- one number more of a range, behind what was there
pub flat_map-range_more : {X : Type 0} (f : ℕ → List X) (before : List X) (k : ℕ) →
    (before ++ flat_map f (range_with_len 0 k)) ++ f k ≡ before ++ flat_map f (range_with_len 0 (k + 1))
flat_map-range_more f before k =
    let here : 0 + k ≡ k = omega arith in
    append_assoc before (flat_map f (range_with_len 0 k)) (f k)
    ∙ ap (λ xs. before ++ xs)
    (ap (λ xs. flat_map f (range_with_len 0 k) ++ xs) (sym (append-nil (f (0 + k)) ∙ ap f here))
    ∙ sym (flat_map-append f (range_with_len 0 k) ((0 + k) ∷ []))
    ∙ ap (flat_map f) (sym (range_with_len-more 0 k)))

-- an element of each list that is joined
map-flat_map : {X Y Z : Type 0} (f : Y → Z) (g : X → List Y) (xs : List X) →
    map f (flat_map g xs) ≡ flat_map (λ x. map f (g x)) xs
map-flat_map f g [] = refl
map-flat_map f g (x ∷ xs) = map-append f (g x) (flat_map g xs) ∙ ap (λ ys. map f (g x) ++ ys) (map-flat_map f g xs)

-- what passes two tests, one before and one after it is changed
filter-map-filter : {X Y : Type 0} (p : Y → Bool) (f : X → Y) (q : X → Bool) (xs : List X) →
    filter p (map f (filter q xs)) ≡ flat_map (λ x. cond (q x && p (f x)) (f x ∷ []) []) xs
filter-map-filter p f q [] = refl
filter-map-filter p f q (x ∷ xs) = by (filter-map-filter p f q xs) (q x) (p (f x)) refl where
  by : filter p (map f (filter q xs)) ≡ flat_map (λ y. cond (q y && p (f y)) (f y ∷ []) []) xs → (a b : Bool) →
      p (f x) ≡ b →
      filter p (map f (cond a (x ∷ filter q xs) (filter q xs))) ≡ cond (a && p (f x)) (f x ∷ []) [] ++ flat_map
      (λ y. cond (q y && p (f y)) (f y ∷ []) []) xs
  by rest true true passes =
      ap (λ (c : Bool). cond c (f x ∷ filter p (map f (filter q xs))) (filter p (map f (filter q xs)))) passes
      ∙ ap (λ ys. f x ∷ ys) rest
      ∙ ap (λ (c : Bool). cond c (f x ∷ []) [] ++ flat_map (λ y. cond (q y && p (f y)) (f y ∷ []) []) xs) (sym passes)
  by rest true false passes =
      ap (λ (c : Bool). cond c (f x ∷ filter p (map f (filter q xs))) (filter p (map f (filter q xs)))) passes
      ∙ rest
      ∙ ap (λ (c : Bool). cond c (f x ∷ []) [] ++ flat_map (λ y. cond (q y && p (f y)) (f y ∷ []) []) xs) (sym passes)
  by rest false b passes = rest

-- the home games of a team in a slot
home_games-true : (n : ℕ) (values : ℕ → Bool) (s i : ℕ) →
    filter (λ g. values (x_var n g.home.0 g.away.0 g.slot.0))
    (map (λ p. game_of p s) (map (λ j. (i, j)) (others i (teams_of n)))) ≡ true_home_games n values s i
home_games-true n values s i =
    let is_true : Game → Bool = λ g. values (x_var n g.home.0 g.away.0 g.slot.0) in
    let meeting : ℕ → ℕ × ℕ = λ j. (i, j) in
    ap (filter is_true) (map-map (λ p. game_of p s) meeting (others i (teams_of n)))
    ∙ filter-map-filter is_true (λ j. game_of (i, j) s) (λ j. not (j == i)) (teams_of n) where
      map-map : {X Y Z : Type 0} (f : Y → Z) (g : X → Y) (xs : List X) → map f (map g xs) ≡ map (λ x. f (g x)) xs
      map-map f g [] = refl
      map-map f g (x ∷ xs) = ap (λ ys. f (g x) ∷ ys) (map-map f g xs)

-- all games in a slot
slot-true : (n : ℕ) (values : ℕ → Bool) (s : ℕ) → filter (λ g. values (x_var n g.home.0 g.away.0 g.slot.0))
    (map (λ p. game_of p s) (meetings_of n)) ≡ true_games_in n values s
slot-true n values s =
    let is_true : Game → Bool = λ g. values (x_var n g.home.0 g.away.0 g.slot.0) in
    let of_slot : ℕ × ℕ → Game = λ p. game_of p s in
    let at_home : ℕ → List (ℕ × ℕ) = λ i. map (λ j. (i, j)) (others i (teams_of n)) in
    ap (filter is_true) (map-flat_map of_slot at_home (teams_of n))
    ∙ filter-flat_map is_true (λ i. map of_slot (at_home i)) (teams_of n)
    ∙ flat_map-same (λ i. filter is_true (map of_slot (at_home i))) (true_home_games n values s)
    (home_games-true n values s) (teams_of n)

-- all games of the season
pub season-true : (n : ℕ) (values : ℕ → Bool) → flat_map (true_games_in n values) (slots_of n) ≡ decoded n values
season-true n values =
    let is_true : Game → Bool = λ g. values (x_var n g.home.0 g.away.0 g.slot.0) in
    let in_slot : ℕ → List Game = λ s. map (λ p. game_of p s) (meetings_of n) in
    sym
    (filter-flat_map is_true in_slot (slots_of n)
    ∙ flat_map-same (λ s. filter is_true (in_slot s)) (true_games_in n values) (slot-true n values) (slots_of n))

-- what is said of the decoding holds of a schedule that is it
pub in_order : (n : ℕ) (values : ℕ → Bool) (schedule : List Game) → schedule ≡ decoded n values → IsInOrder schedule
in_order n values schedule is = subst (λ (games : List Game). IsInOrder games) (sym is) (IsInOrder-decoded n values)

pub accepted : (league : Instance) (values : ℕ → Bool) (schedule : List Game) → IsInstance league →
    schedule ≡ decoded league.n values → SatisfiesAll values (rows_of league) → IsAccepted league (counts_of schedule)
accepted league values schedule fits is meets =
    subst (λ (games : List Game). IsAccepted league (counts_of games)) (sym is)
    (accepted-from_rows league values fits meets)
