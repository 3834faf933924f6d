-- The games of the circle method, slot by slot: what is added to them, and that each fits the league.
use Rattle.std.proofs.Common.{◌≡◌, ◌≢◌, ℕ, ◌+◌, ◌-◌, ◌/◌, ◌%◌, ◌<◌, ◌≤◌, ◌==◌, Bool, true, false, List, [], ◌∷◌, ◌++◌, length, map, arith, ap, ◌∙◌, sym, zero-add, append_assoc, zero, suc, Some, get_or, slice_get, subst, take}
use Rattle.std.proofs.lemmas.List.{flat_map_more, map-append, take_all, take_more}
use Rattle.std.proofs.lemmas.List.Elements.{All-cons, All-append, All-map, All-weaker}
use Rattle.std.proofs.lemmas.List.FromFn.{map-range_with_len_more}
use Rattle.std.specs.List.{All, flat_map, range_with_len}
use Rattle.league.specs.Instance.{IsGame, IsTeamCount}
use Rattle.league.specs.declared.game.Game.{Game}
use Rattle.league.proofs.RangeLemmas.{range_with_len-more}
use Rattle.circle_method.specs.Circle.{game_of, last_team_game, circle_game, slot_games, single_games, return_game, double_games, steps_on, steps_back}
use Rattle.circle_method.proofs.CircleLemmas.{AreReached, are_reached, on_isnt_back}
use Rattle.league.proofs.OneTermLemmas.{All-range, All-flat_map}

-- a slot's games with one more
pub slot_games-more : (n s k : ℕ) (start before after : List Game) (game : Game) → 1 ≤ k
    → before ≡ start ++ last_team_game n s ∷ map (circle_game n s) (range_with_len 1 (k - 1)) → game ≡ circle_game n s k
    → after ≡ before ++ game ∷ []
    → after ≡ start ++ last_team_game n s ∷ map (circle_game n s) (range_with_len 1 (k + 1 - 1))
slot_games-more n s k start before after game some so_far next is =
    let pairs : ℕ → List Game = λ l. map (circle_game n s) (range_with_len 1 l) in
    let first : Game = last_team_game n s in
    let more : pairs (k - 1 + 1) ≡ pairs (k - 1) ++ circle_game n s k ∷ [] = map-range_with_len_more (circle_game n s) 1 (k - 1) k (omega arith) in
    let longer : k - 1 + 1 ≡ k + 1 - 1 = omega arith in
    is
    ∙ ap (λ (xs : List Game). xs ++ game ∷ []) so_far
    ∙ ap (λ (g : Game). (start ++ first ∷ pairs (k - 1)) ++ g ∷ []) next
    ∙ append_assoc start (first ∷ pairs (k - 1)) (circle_game n s k ∷ [])
    ∙ ap (λ (xs : List Game). start ++ first ∷ xs) (sym more ∙ ap pairs longer)

-- the games of some slots, with those of one more
pub single_games-more : (n k : ℕ) (before after : List Game) → before ≡ flat_map (slot_games n) (range_with_len 0 k) → after ≡ before ++ slot_games n k → after ≡ flat_map (slot_games n) (range_with_len 0 (k + 1))
single_games-more n k before after so_far is =
    is
    ∙ ap (λ (xs : List Game). xs ++ slot_games n k) so_far
    ∙ flat_map_more (slot_games n) [] (range_with_len 0 k) k
    ∙ ap (λ (x : ℕ). flat_map (slot_games n) (range_with_len 0 k ++ x ∷ [])) (sym (zero-add k))
    ∙ ap (flat_map (slot_games n)) (sym (range_with_len-more 0 k))

-- a game of the league in its first half
pub record IsEarly (n : ℕ) (g : Game) : Type 0 where
  pub game : IsGame n g
  pub slot : g.slot.0 < n - 1

IsEarly-game_of : (b : Bool) (n i j s : ℕ) → i < n → j < n → i ≢ j → s < n - 1 → IsEarly n (game_of b i j s)
IsEarly-game_of true n i j s first second differ early = record { game = record { home = first; away = second; differ = differ; slot = omega arith }; slot = early }
IsEarly-game_of false n i j s first second differ early = record { game = record { home = second; away = first; differ = λ e. differ (sym e); slot = omega arith }; slot = early }

IsEarly-circle_game : (n s k : ℕ) → IsTeamCount n → s < n - 1 → 1 ≤ k → k < 1 + (n / 2 - 1) → IsEarly n (circle_game n s k)
IsEarly-circle_game n s k size early some half =
    let few : k + k < n - 1 = (let even : n % 2 ≡ 0 = size.even in omega arith) in
    let r : AreReached (n - 1) s k (steps_on (n - 1) s k) (steps_back (n - 1) s k) = are_reached (n - 1) s k early (omega arith) in
    let on : steps_on (n - 1) s k < n = (let below : steps_on (n - 1) s k < n - 1 = r.on_below in omega arith) in
    let back : steps_back (n - 1) s k < n = (let below : steps_back (n - 1) s k < n - 1 = r.back_below in omega arith) in
    IsEarly-game_of (k % 2 == 1) n (steps_on (n - 1) s k) (steps_back (n - 1) s k) s on back (on_isnt_back (n - 1) s k early some few) early

IsEarly-slot_games : (n s : ℕ) → IsTeamCount n → s < n - 1 → All (IsEarly n) (slot_games n s)
IsEarly-slot_games n s size early =
    All-cons (IsEarly n) (last_team_game n s) (map (circle_game n s) (range_with_len 1 (n / 2 - 1)))
    (IsEarly-game_of (s % 2 == 0) n (n - 1) s s (omega arith) (omega arith) (λ e. omega arith) early)
    (All-map (IsEarly n) (circle_game n s) (range_with_len 1 (n / 2 - 1)) (All-range (λ k. IsEarly n (circle_game n s k)) 1 (n / 2 - 1) (λ k low high. IsEarly-circle_game n s k size early low high)))

-- the games of the single round robin are of the first half
pub IsEarly-single_games : (n : ℕ) → IsTeamCount n → All (IsEarly n) (single_games n)
IsEarly-single_games n size =
    All-flat_map (IsEarly n) (slot_games n) (range_with_len 0 (n - 1)) (All-range (λ s. All (IsEarly n) (slot_games n s)) 0 (n - 1) (λ s low high. IsEarly-slot_games n s size (omega arith)))

IsGame-return_game : (n : ℕ) (g : Game) → IsEarly n g → IsGame n (return_game n g)
IsGame-return_game n g early =
    let slot : g.slot.0 < n - 1 = early.slot in
    record { home = early.game.away; away = early.game.home; differ = λ e. early.game.differ (sym e); slot = omega arith }

-- each game fits the league
pub IsGame-double_games : (n : ℕ) → IsTeamCount n → All (IsGame n) (double_games n)
IsGame-double_games n size =
    All-append (IsGame n) (single_games n) (map (return_game n) (single_games n))
    (All-weaker (IsEarly n) (IsGame n) (λ g early. early.game) (single_games n) (IsEarly-single_games n size))
    (All-map (IsGame n) (return_game n) (single_games n) (All-weaker (IsEarly n) (λ g. IsGame n (return_game n g)) (IsGame-return_game n) (single_games n) (IsEarly-single_games n size)))

-- what is read from the front of a list
slice_get-front : {X : Type 0} (xs ys : List X) (k : ℕ) (x : X) → k < length xs → slice_get (xs ++ ys) k ≡ Some x → get_or xs k x ≡ x
slice_get-front [] ys k x within read = absurd (omega arith)
slice_get-front (y ∷ xs) ys zero x within read = cc
slice_get-front (y ∷ xs) ys (suc k) x within read = slice_get-front xs ys k x (omega arith) read

-- a list of games that is the first half with some more games: its k-th game
pub early_read : (n k : ℕ) (games later : List Game) (g : Game) → IsTeamCount n → games ≡ single_games n ++ later → k < length (single_games n) → slice_get games k ≡ Some g → g.slot.0 < n - 1
early_read n k games later g size is within read =
    let same : get_or (single_games n) k g ≡ g = slice_get-front (single_games n) later k g within (ap (λ (xs : List Game). slice_get xs k) (sym is) ∙ read) in
    let P : Game → Type 0 = λ x. IsEarly n x in
    (let early : IsEarly n g = subst P same (IsEarly-single_games n size k g within) in early.slot)

-- the first half and its return games so far, with one more
pub double_games-more : (n k : ℕ) (before after : List Game) (g returned : Game)
    → before ≡ single_games n ++ map (return_game n) (take k (single_games n)) → k < length (single_games n)
    → slice_get before k ≡ Some g → returned ≡ return_game n g → after ≡ before ++ returned ∷ []
    → after ≡ single_games n ++ map (return_game n) (take (k + 1) (single_games n))
double_games-more n k before after g returned so_far within read next is =
    let same : get_or (single_games n) k g ≡ g = slice_get-front (single_games n) (map (return_game n) (take k (single_games n))) k g within (ap (λ (ys : List Game). slice_get ys k) (sym so_far) ∙ read) in
    let longer : take (k + 1) (single_games n) ≡ take k (single_games n) ++ g ∷ [] = take_more (single_games n) k g within ∙ ap (λ (x : Game). take k (single_games n) ++ x ∷ []) same in
    is
    ∙ ap (λ (ys : List Game). ys ++ returned ∷ []) so_far
    ∙ append_assoc (single_games n) (map (return_game n) (take k (single_games n))) (returned ∷ [])
    ∙ ap (λ (x : Game). single_games n ++ (map (return_game n) (take k (single_games n)) ++ x ∷ [])) next
    ∙ ap (λ (ys : List Game). single_games n ++ ys) (sym (ap (map (return_game n)) longer ∙ map-append (return_game n) (take k (single_games n)) (g ∷ [])))

-- the first half and all its return games
pub double_games-all : (n k : ℕ) (games : List Game) → length (single_games n) ≤ k → games ≡ single_games n ++ map (return_game n) (take k (single_games n)) → games ≡ double_games n
double_games-all n k games all so_far =
    so_far ∙ ap (λ (xs : List Game). single_games n ++ map (return_game n) xs) (take_all k (single_games n) all)
