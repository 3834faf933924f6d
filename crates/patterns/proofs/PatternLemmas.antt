-- What a pattern's letters and a table of home games say.
use Rattle.std.proofs.Common.{◌≡◌, ℕ, ◌+◌, ◌-◌, ◌<◌, ◌≤◌, Bool, ◌&&◌, ◌==◌, List, [], ◌∷◌, ◌++◌, map, length, get_or, take, Some, arith, sym, ap, subst, ◌∙◌}
use Rattle.std.specs.Prelude.{slice_get}
use Rattle.std.proofs.lemmas.List.{take_all, take_more}
use Rattle.std.proofs.lemmas.List.Elements.{All-weaker}
use Rattle.std.proofs.lemmas.List.FromFn.{length-map-range_with_len, map-range_with_len_more}
use Rattle.std.proofs.lemmas.Option.{get_or_from_slice_get}
use Rattle.std.specs.Int.{from_bool}
use Rattle.std.specs.List.{All, range_with_len}
use Rattle.league.specs.Counts.{Counts, counts_of, teams_of}
use Rattle.league.specs.Grid.{entry}
use Rattle.league.specs.Instance.{IsGame}
use Rattle.league.specs.Venues.{home_games}
use Rattle.league.specs.declared.class.Side.{Side}
use Rattle.league.specs.declared.class.Side.TheVariants.{Both}
use Rattle.league.specs.declared.game.Game.{Game}
use Rattle.league.proofs.ListLemmas.{map-same}
use Rattle.league.proofs.CountLemmas.{home_games-push}
use Rattle.league.proofs.RangeLemmas.{one_if, one_if-le}
use Rattle.league.proofs.WrongLemmas.{from_bool-is}
use Rattle.circle_method.specs.SingleRoundRobin.{IsSingleGame, IsSingleRoundRobin}
use Rattle.patterns.specs.Pattern.{has_break, is_repeat}
use Rattle.patterns.specs.PatternSet.{letter_of, pattern_in, side_with}
use Rattle.patterns.specs.HomeTable.{table_pattern}

-- a break, by the letters that were read
pub has_break-read : (pattern : List Side) (s : ℕ) (before side : Side) (again : Bool) (found : ℕ) → slice_get pattern (s - 1) ≡ Some before → slice_get pattern s ≡ Some side → again ≡ is_repeat before side → found ≡ from_bool again → found ≡ one_if (has_break pattern s)
has_break-read pattern s before side again found at_before at_side is number =
    let first : get_or pattern (s - 1) Both ≡ before = get_or_from_slice_get pattern (s - 1) before Both at_before in
    let second : get_or pattern s Both ≡ side = get_or_from_slice_get pattern s side Both at_side in
    let same : again ≡ has_break pattern s = is ∙ ap (λ (x : Side). is_repeat x side) (sym first) ∙ ap (λ (x : Side). is_repeat (get_or pattern (s - 1) Both) x) (sym second) in
    number ∙ from_bool-is again ∙ ap one_if same

-- the patterns of a table of home games are those of the schedule
patterns-same : (n k : ℕ) (m : Counts) (table : List ℕ) → ((i s : ℕ) → entry table i s ≡ home_games n m i s) → map (table_pattern k table) (teams_of n) ≡ map (pattern_in n m (range_with_len 0 k)) (teams_of n)
patterns-same n k m table counted =
    map-same (table_pattern k table) (pattern_in n m (range_with_len 0 k))
    (λ i. map-same (λ s. side_with (entry table i s)) (letter_of n m i) (λ s. ap side_with (counted i s)) (range_with_len 0 k)) (teams_of n)

-- the patterns of a table that was read of the games are those of the schedule
pub patterns-read : (n k teams slots : ℕ) (games listed : List Game) (table : List ℕ) (patterns : List (List Side))
    → teams ≡ n → slots ≡ k → listed ≡ games → All (IsGame n) games
    → ((count : ℕ) → All (IsGame count) listed → (i s : ℕ) → entry table i s ≡ home_games count (counts_of listed) i s)
    → patterns ≡ map (table_pattern slots table) (teams_of teams)
    → patterns ≡ map (pattern_in n (counts_of games) (range_with_len 0 k)) (teams_of n)
patterns-read n k teams slots games listed table patterns same_teams same_slots same_games fit counted is =
    let listed_fit : All (IsGame n) listed = subst (λ (xs : List Game). All (IsGame n) xs) (sym same_games) fit in
    is
    ∙ ap (λ (l : ℕ). map (table_pattern slots table) (teams_of l)) same_teams
    ∙ ap (λ (l : ℕ). map (table_pattern l table) (teams_of n)) same_slots
    ∙ patterns-same n k (counts_of listed) table (counted n listed_fit)
    ∙ ap (λ (xs : List Game). map (pattern_in n (counts_of xs) (range_with_len 0 k)) (teams_of n)) same_games

-- the games of a single round robin fit the league
IsGame-single : (n : ℕ) (g : Game) → IsSingleGame n g → IsGame n g
IsGame-single n g single =
    let slot : g.slot.0 < n - 1 = single.slot in
    record { home = single.home; away = single.away; differ = single.differ; slot = omega arith }

pub all_fit : (n : ℕ) (games : List Game) → IsSingleRoundRobin n games → All (IsGame n) games
all_fit n games single = All-weaker (IsSingleGame n) (IsGame n) (IsGame-single n) games single.fit

-- a list made from the numbers below k has so many items
pub length-made : {X : Type 0} (f : ℕ → X) (k : ℕ) (made : List X) → made ≡ map f (range_with_len 0 k) → length made ≡ k
length-made f k made is = ap length is ∙ length-map-range_with_len f 0 k

-- one item more
pub made-more : {X : Type 0} (f : ℕ → X) (k : ℕ) (made more : List X) (x : X) → made ≡ map f (range_with_len 0 k) → more ≡ made ++ x ∷ [] → x ≡ f k → more ≡ map f (range_with_len 0 (k + 1))
made-more f k made more x is longer here =
    longer ∙ ap (λ xs. xs ++ x ∷ []) is ∙ ap (λ y. map f (range_with_len 0 k) ++ y ∷ []) here ∙ sym (map-range_with_len_more f 0 k k (omega arith))

-- what a list of games has past its end
abbrev no_game : Game
no_game = record { home = record { 0 = 0 }; away = record { 0 = 0 }; slot = record { 0 = 0 } }

-- the table of no game, one game further, and at the end
pub home_table-more : (n k : ℕ) (games : List Game) (i s before after : ℕ) → k < length games → All (IsGame n) games
    → before ≡ home_games n (counts_of (take k games)) i s
    → after ≡ before + one_if (((get_or games k no_game).home.0 == i) && ((get_or games k no_game).slot.0 == s))
    → after ≡ home_games n (counts_of (take (k + 1) games)) i s
home_table-more n k games i s before after inside fit so_far next =
    let game : Game = get_or games k no_game in
    omega (
      arith,
      next,
      so_far,
      home_games-push n (take k games) game i s (fit k no_game inside),
      ap (λ (xs : List Game). home_games n (counts_of xs) i s) (take_more games k no_game inside),
    )

pub home_table-all : (n k : ℕ) (games : List Game) (i s count : ℕ) → length games ≤ k → count ≡ home_games n (counts_of (take k games)) i s → count ≡ home_games n (counts_of games) i s
home_table-all n k games i s count all is = is ∙ ap (λ (xs : List Game). home_games n (counts_of xs) i s) (take_all k games all)

-- one home game more in a slot is at most one
pub home_table-le : (k before after : ℕ) (b : Bool) → before ≤ k → after ≡ before + one_if b → after ≤ k + 1
home_table-le k before after b most next = omega (arith, one_if-le b)
