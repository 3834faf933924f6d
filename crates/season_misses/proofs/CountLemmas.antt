-- How many games of a list count: sums over teams, meetings and slots, made sums over the games.
use Rattle.std.proofs.Common.{◌≡◌, ◌≢◌, ℕ, ◌+◌, Bool, true, false, not, ◌&&◌, ◌||◌, ◌==◌, cond, List, [], ◌∷◌, map, refl, arith, ap, sym, ◌∙◌, inl, inr}
use Rattle.std.proofs.Math.Path.{fun_ext}
use Rattle.std.proofs.lemmas.Bool.{cases_eq}
use Rattle.std.proofs.lemmas.Bool.Decides.{nat_tests}
use Rattle.std.proofs.lemmas.List.Elements.{All-head, All-tail}
use Rattle.std.proofs.lemmas.List.Sums.{sum_by-append, sum_by-cons}
use Rattle.std.specs.List.{All, count_by, sum_by}
use Rattle.std.specs.Ordering.{nat_cmp}
use Rattle.league.specs.Capacity.{meetings_with}
use Rattle.league.specs.Counts.{Counts, counts_of, is_game, one_more}
use Rattle.league.specs.Instance.{IsGame}
use Rattle.league.specs.Meetings.{games_of, others}
use Rattle.league.specs.Sets.{IsAscending, is_in}
use Rattle.league.specs.Venues.{games_on}
use Rattle.league.specs.declared.game.Game.{Game}
use Rattle.league.specs.declared.class.Side.{Side}
use Rattle.league.specs.declared.class.Side.TheVariants.{H, A, Both}
use Rattle.league.proofs.CountLemmas.{away_games-none, away_games-one_more, home_games-none, home_games-one_more}
use Rattle.league.proofs.MemberLemmas.{is_in-no}
use Rattle.league.proofs.OneTermLemmas.{sum_by-all_none}
use Rattle.league.proofs.RangeLemmas.{one_if}
use Rattle.league.proofs.SumLemmas.{sum_by-add, sum_by-filter, sum_by-map, sum_by-same}
use Rattle.rule_core.proofs.KeyLemmas.{ascending-tail, later_differ}
use Rattle.rule_core.specs.Touched.{plays_on}

-- a list with a game more before it
pub counts_of-cons : (g : Game) (games : List Game) → counts_of (g ∷ games) ≡ one_more (counts_of games) g
counts_of-cons g games =
    fun_ext (λ i. fun_ext (λ j. fun_ext (λ s. omega (arith, sum_by-cons (λ x. one_if (is_game i j s x)) g games))))

-- a sum of zeros
pub zeros : {X : Type 0} (f : X → ℕ) → ((x : X) → f x ≡ 0) → (xs : List X) → sum_by f xs ≡ 0
zeros f none xs = sum_by-all_none (λ x. Unit {0}) f (λ x _. none x) xs (λ k d _. tt)

-- ---- one number of a set

first_is : (b c : Bool) (x s : ℕ) → s ≡ x → c ≡ false → one_if (b && (x == s)) + one_if (b && c) ≡ one_if (b && ((s == x) || c))
first_is b c x s same out = grind (arith, nat_tests)

first_isnt : (b c : Bool) (x s : ℕ) → s ≢ x → one_if (b && (x == s)) + one_if (b && c) ≡ one_if (b && ((s == x) || c))
first_isnt b c x s differ = grind (arith, nat_tests)

fails : (b : Bool) → 0 ≡ one_if (b && false)
fails true = refl
fails false = refl

-- a number stands once in an ascending list, or not at all
pub once_among : (b : Bool) (x : ℕ) (xs : List ℕ) → IsAscending nat_cmp xs → sum_by (λ s. one_if (b && (x == s))) xs ≡ one_if (b && is_in x xs)
once_among b x [] ascending = fails b
once_among b x (s ∷ xs) ascending =
    let rest : sum_by (λ t. one_if (b && (x == t))) xs ≡ one_if (b && is_in x xs) = once_among b x xs (ascending-tail s xs ascending) in
    let sum : sum_by (λ t. one_if (b && (x == t))) (s ∷ xs) ≡ one_if (b && (x == s)) + sum_by (λ t. one_if (b && (x == t))) xs = sum_by-cons (λ t. one_if (b && (x == t))) s xs in
    elim (cases_eq s x) [
      | inl same ↦
          let out : is_in x xs ≡ false = is_in-no x xs (λ k d lt e. later_differ s xs ascending k d lt (e ∙ sym same)) in
          sum ∙ ap (λ (y : ℕ). one_if (b && (x == s)) + y) rest ∙ first_is b (is_in x xs) x s same out
      | inr differ ↦ sum ∙ ap (λ (y : ℕ). one_if (b && (x == s)) + y) rest ∙ first_isnt b (is_in x xs) x s differ
    ]

-- ---- games of some meetings in some slots

-- how often a meeting stands in a list
abbrev pub times : List (ℕ × ℕ) → ℕ → ℕ → ℕ
times meetings home away = sum_by (λ p. one_if ((home == p.0) && (away == p.1))) meetings

-- of a meeting, with a game more
slots-one_more : (m : Counts) (g : Game) (p : ℕ × ℕ) (slots : List ℕ) → IsAscending nat_cmp slots → sum_by (λ s. one_more m g p.0 p.1 s) slots ≡ sum_by (λ s. m p.0 p.1 s) slots + one_if (((g.home.0 == p.0) && (g.away.0 == p.1)) && is_in g.slot.0 slots)
slots-one_more m g p slots ascending =
    sum_by-add (λ s. m p.0 p.1 s) (λ s. one_if (is_game p.0 p.1 s g)) slots
    ∙ ap (λ (x : ℕ). sum_by (λ s. m p.0 p.1 s) slots + x) (once_among ((g.home.0 == p.0) && (g.away.0 == p.1)) g.slot.0 slots ascending)

and_true : (b : Bool) → one_if (b && true) ≡ one_if b
and_true true = refl
and_true false = refl

and_false : (b : Bool) → one_if (b && false) ≡ 0
and_false true = refl
and_false false = refl

-- how often a meeting stands in a list, under a test
times-and : (meetings : List (ℕ × ℕ)) (home away : ℕ) (c : Bool) → sum_by (λ p. one_if (((home == p.0) && (away == p.1)) && c)) meetings ≡ cond c (times meetings home away) 0
times-and meetings home away true = sum_by-same (λ p. one_if (((home == p.0) && (away == p.1)) && true)) (λ p. one_if ((home == p.0) && (away == p.1))) (λ p. and_true ((home == p.0) && (away == p.1))) meetings
times-and meetings home away false = zeros (λ p. one_if (((home == p.0) && (away == p.1)) && false)) (λ p. and_false ((home == p.0) && (away == p.1))) meetings

-- of some meetings, with a game more
games_of-one_more : (m : Counts) (g : Game) (meetings : List (ℕ × ℕ)) (slots : List ℕ) → IsAscending nat_cmp slots → games_of (one_more m g) meetings slots ≡ games_of m meetings slots + cond (is_in g.slot.0 slots) (times meetings g.home.0 g.away.0) 0
games_of-one_more m g meetings slots ascending =
    sum_by-same (λ p. sum_by (λ s. one_more m g p.0 p.1 s) slots) (λ p. sum_by (λ s. m p.0 p.1 s) slots + one_if (((g.home.0 == p.0) && (g.away.0 == p.1)) && is_in g.slot.0 slots)) (λ p. slots-one_more m g p slots ascending) meetings
    ∙ sum_by-add (λ p. sum_by (λ s. m p.0 p.1 s) slots) (λ p. one_if (((g.home.0 == p.0) && (g.away.0 == p.1)) && is_in g.slot.0 slots)) meetings
    ∙ ap (λ (x : ℕ). games_of m meetings slots + x) (times-and meetings g.home.0 g.away.0 (is_in g.slot.0 slots))

cond_one : (t c : Bool) → cond c (one_if t) 0 ≡ one_if (t && c)
cond_one true true = refl
cond_one true false = refl
cond_one false true = refl
cond_one false false = refl

-- where each game's meeting stands once in the list if it passes a test, and else not at all, the games of these
-- meetings are those that pass
pub games_of-counted : (test : ℕ → ℕ → Bool) (meetings : List (ℕ × ℕ)) (slots : List ℕ) (games : List Game)
    → IsAscending nat_cmp slots → All (λ g. times meetings g.home.0 g.away.0 ≡ one_if (test g.home.0 g.away.0)) games
    → count_by (λ g. test g.home.0 g.away.0 && is_in g.slot.0 slots) games ≡ games_of (counts_of games) meetings slots
games_of-counted test meetings slots [] ascending once = sym (zeros (λ p. sum_by (λ s. counts_of [] p.0 p.1 s) slots) (λ p. zeros (λ s. counts_of [] p.0 p.1 s) (λ s. refl) slots) meetings)
games_of-counted test meetings slots (g ∷ games) ascending once =
    let P : Game → Type 0 = λ g. times meetings g.home.0 g.away.0 ≡ one_if (test g.home.0 g.away.0) in
    let c : Bool = is_in g.slot.0 slots in
    let here : times meetings g.home.0 g.away.0 ≡ one_if (test g.home.0 g.away.0) = All-head P g games once in
    let added : cond c (times meetings g.home.0 g.away.0) 0 ≡ one_if (test g.home.0 g.away.0 && c) = ap (λ (x : ℕ). cond c x 0) here ∙ cond_one (test g.home.0 g.away.0) c in
    let rest : count_by (λ g. test g.home.0 g.away.0 && is_in g.slot.0 slots) games ≡ games_of (counts_of games) meetings slots = games_of-counted test meetings slots games ascending (All-tail P g games once) in
    let now : games_of (counts_of (g ∷ games)) meetings slots ≡ games_of (counts_of games) meetings slots + one_if (test g.home.0 g.away.0 && c) =
    ap (λ (m : Counts). games_of m meetings slots) (counts_of-cons g games) ∙ games_of-one_more (counts_of games) g meetings slots ascending ∙ ap (λ (x : ℕ). games_of (counts_of games) meetings slots + x) added in
    omega (arith, sum_by-cons (λ g. one_if (test g.home.0 g.away.0 && is_in g.slot.0 slots)) g games, rest, now)

-- ---- CA1: a team's games on a side

-- what a game adds to those of a team in a slot on a side
abbrev adds : Side → Game → ℕ → ℕ → ℕ
adds H g i s = one_if ((g.home.0 == i) && (g.slot.0 == s))
adds A g i s = one_if ((g.away.0 == i) && (g.slot.0 == s))
adds Both g i s = one_if ((g.home.0 == i) && (g.slot.0 == s)) + one_if ((g.away.0 == i) && (g.slot.0 == s))

games_on-one_more : (n : ℕ) (m : Counts) (side : Side) (g : Game) (i s : ℕ) → IsGame n g → games_on n (one_more m g) side i s ≡ games_on n m side i s + adds side g i s
games_on-one_more n m H g i s fits = home_games-one_more n m g i s fits
games_on-one_more n m A g i s fits = away_games-one_more n m g i s fits
games_on-one_more n m Both g i s fits = omega (arith, home_games-one_more n m g i s fits, away_games-one_more n m g i s fits)

turned : (a i : ℕ) (c : Bool) → one_if ((a == i) && c) ≡ one_if ((i == a) && c)
turned a i c = grind (arith, nat_tests)

either : (h a i : ℕ) (c : Bool) → h ≢ a → one_if ((h == i) && c) + one_if ((a == i) && c) ≡ one_if (((i == h) || (i == a)) && c)
either h a i c differ = grind (arith, nat_tests)

-- what a game adds to those of a team in some slots on a side
added_in : (side : Side) (g : Game) (i : ℕ) (slots : List ℕ) → g.home.0 ≢ g.away.0 → IsAscending nat_cmp slots → sum_by (λ s. adds side g i s) slots ≡ one_if (plays_on side g i && is_in g.slot.0 slots)
added_in H g i slots differ ascending = once_among (g.home.0 == i) g.slot.0 slots ascending ∙ turned g.home.0 i (is_in g.slot.0 slots)
added_in A g i slots differ ascending = once_among (g.away.0 == i) g.slot.0 slots ascending ∙ turned g.away.0 i (is_in g.slot.0 slots)
added_in Both g i slots differ ascending =
    sum_by-add (λ s. one_if ((g.home.0 == i) && (g.slot.0 == s))) (λ s. one_if ((g.away.0 == i) && (g.slot.0 == s))) slots
    ∙ ap (λ (x : ℕ). x + sum_by (λ s. one_if ((g.away.0 == i) && (g.slot.0 == s))) slots) (once_among (g.home.0 == i) g.slot.0 slots ascending)
    ∙ ap (λ (x : ℕ). one_if ((g.home.0 == i) && is_in g.slot.0 slots) + x) (once_among (g.away.0 == i) g.slot.0 slots ascending)
    ∙ either g.home.0 g.away.0 i (is_in g.slot.0 slots) differ

none_on : (n : ℕ) (side : Side) (i s : ℕ) → games_on n (counts_of []) side i s ≡ 0
none_on n H i s = home_games-none n i s
none_on n A i s = away_games-none n i s
none_on n Both i s = omega (arith, home_games-none n i s, away_games-none n i s)

-- a team's games on a side in some slots are those that it plays there
pub games_on-counted : (n : ℕ) (side : Side) (i : ℕ) (slots : List ℕ) (games : List Game) → IsAscending nat_cmp slots → All (IsGame n) games → count_by (λ g. plays_on side g i && is_in g.slot.0 slots) games ≡ sum_by (λ s. games_on n (counts_of games) side i s) slots
games_on-counted n side i slots [] ascending fit = sym (zeros (λ s. games_on n (counts_of []) side i s) (λ s. none_on n side i s) slots)
games_on-counted n side i slots (g ∷ games) ascending fit =
    let fits : IsGame n g = All-head (IsGame n) g games fit in
    let rest : count_by (λ g. plays_on side g i && is_in g.slot.0 slots) games ≡ sum_by (λ s. games_on n (counts_of games) side i s) slots = games_on-counted n side i slots games ascending (All-tail (IsGame n) g games fit) in
    let now : sum_by (λ s. games_on n (counts_of (g ∷ games)) side i s) slots ≡ sum_by (λ s. games_on n (counts_of games) side i s) slots + one_if (plays_on side g i && is_in g.slot.0 slots) =
    ap (λ (m : Counts). sum_by (λ s. games_on n m side i s) slots) (counts_of-cons g games)
    ∙ sum_by-same (λ s. games_on n (one_more (counts_of games) g) side i s) (λ s. games_on n (counts_of games) side i s + adds side g i s) (λ s. games_on-one_more n (counts_of games) side g i s fits) slots
    ∙ sum_by-add (λ s. games_on n (counts_of games) side i s) (λ s. adds side g i s) slots
    ∙ ap (λ (x : ℕ). sum_by (λ s. games_on n (counts_of games) side i s) slots + x) (added_in side g i slots fits.differ ascending) in
    omega (arith, sum_by-cons (λ g. one_if (plays_on side g i && is_in g.slot.0 slots)) g games, rest, now)

-- ---- CA2: a team's games on a side against others

home_once : (home away i j : ℕ) → home ≢ away → cond (not (j == i)) (one_if ((home == i) && (away == j))) 0 ≡ one_if ((i == home) && (away == j))
home_once home away i j differ = grind (arith, nat_tests)

away_once : (home away i j : ℕ) → home ≢ away → cond (not (j == i)) (one_if ((home == j) && (away == i))) 0 ≡ one_if ((i == away) && (home == j))
away_once home away i j differ = grind (arith, nat_tests)

either_once : (home away i : ℕ) (b c : Bool) → home ≢ away → one_if ((i == home) && b) + one_if ((i == away) && c) ≡ one_if (((i == home) && b) || ((i == away) && c))
either_once home away i b c differ = grind (arith, nat_tests)

-- a sum over the meetings of a team with others
over_others : (f : ℕ × ℕ → ℕ) (h : ℕ → ℕ × ℕ) (i : ℕ) (teams : List ℕ) → sum_by f (map h (others i teams)) ≡ sum_by (λ j. cond (not (j == i)) (f (h j)) 0) teams
over_others f h i teams = sum_by-map f h (others i teams) ∙ sum_by-filter (λ j. f (h j)) (λ j. not (j == i)) teams

-- whether a team is in a meeting on a side against one of these
abbrev pub is_against : Side → List ℕ → ℕ → ℕ → ℕ → Bool
is_against H teams i home away = (i == home) && is_in away teams
is_against A teams i home away = (i == away) && is_in home teams
is_against Both teams i home away = ((i == home) && is_in away teams) || ((i == away) && is_in home teams)

times-at_home : (i : ℕ) (teams : List ℕ) (home away : ℕ) → IsAscending nat_cmp teams → home ≢ away → times (map (λ j. (i, j)) (others i teams)) home away ≡ one_if ((i == home) && is_in away teams)
times-at_home i teams home away ascending differ =
    over_others (λ p. one_if ((home == p.0) && (away == p.1))) (λ j. (i, j)) i teams
    ∙ sum_by-same (λ j. cond (not (j == i)) (one_if ((home == i) && (away == j))) 0) (λ j. one_if ((i == home) && (away == j))) (λ j. home_once home away i j differ) teams
    ∙ once_among (i == home) away teams ascending

times-away : (i : ℕ) (teams : List ℕ) (home away : ℕ) → IsAscending nat_cmp teams → home ≢ away → times (map (λ j. (j, i)) (others i teams)) home away ≡ one_if ((i == away) && is_in home teams)
times-away i teams home away ascending differ =
    over_others (λ p. one_if ((home == p.0) && (away == p.1))) (λ j. (j, i)) i teams
    ∙ sum_by-same (λ j. cond (not (j == i)) (one_if ((home == j) && (away == i))) 0) (λ j. one_if ((i == away) && (home == j))) (λ j. away_once home away i j differ) teams
    ∙ once_among (i == away) home teams ascending

-- a game's meeting stands once among those of a team with others, or not at all
pub times-meetings_with : (side : Side) (i : ℕ) (teams : List ℕ) (home away : ℕ) → IsAscending nat_cmp teams → home ≢ away → times (meetings_with side i teams) home away ≡ one_if (is_against side teams i home away)
times-meetings_with H i teams home away ascending differ = times-at_home i teams home away ascending differ
times-meetings_with A i teams home away ascending differ = times-away i teams home away ascending differ
times-meetings_with Both i teams home away ascending differ =
    sum_by-append (λ p. one_if ((home == p.0) && (away == p.1))) (map (λ j. (i, j)) (others i teams)) (map (λ j. (j, i)) (others i teams))
    ∙ ap (λ (x : ℕ). x + times (map (λ j. (j, i)) (others i teams)) home away) (times-at_home i teams home away ascending differ)
    ∙ ap (λ (x : ℕ). one_if ((i == home) && is_in away teams) + x) (times-away i teams home away ascending differ)
    ∙ either_once home away i (is_in away teams) (is_in home teams) differ
