-- A cell names the one game of its team.
use Rattle.std.proofs.Common.{◌≡◌, ℕ, ◌+◌, ◌^◌, ◌<◌, ◌≤◌, Bool, true, false, cond, List, [], ◌∷◌, ◌++◌, length, get_or, take, drop, not, ◌%◌, if◌then◌else◌, length-append, refl, ap, ◌∙◌, arith, zero-add}
use Rattle.std.specs.Prelude.{◌==◌, nat_lt, codes, decimal}
use Rattle.std.specs.List.{sum_by}
use Rattle.std.proofs.lemmas.Bool.{eqb-true, lt-ltb, ltb-true}
use Rattle.std.proofs.lemmas.Fmt.{decimal_by_steps, decimal_injective}
use Rattle.std.proofs.lemmas.List.{get_or-take, length-take-le, get_or_append_left}
use Rattle.std.proofs.lemmas.List.FromFn.{get_or-range_with_len, length-range_with_len}
use Rattle.std.proofs.lemmas.List.Sums.{get_or-le-sum_by, passes_at_first, position_or_len_is, prefix_len-le-length, sum_by_more_le}
use Rattle.league.specs.Counts.{Counts, teams_of}
use Rattle.league.specs.Venues.{away_games, games_on, home_games}
use Rattle.league.specs.declared.class.Side.TheVariants.{Both}
use Rattle.command_show.specs.Cell.{games_text, many_games, one_game, opponent}
use Rattle.command_show.specs.Laws.{CellsNameGames}

-- ---- the opponent

-- a term of a sum over the teams
one_term : (f : ℕ → ℕ) (n j : ℕ) → j < n → f j ≤ sum_by f (teams_of n)
one_term f n j h =
    omega (arith, get_or-le-sum_by f (teams_of n) j 0 (omega (arith, length-range_with_len 0 n)), ap f (get_or-range_with_len 0 n j 0 h ∙ zero-add j))

-- two terms of it
two_terms : (f : ℕ → ℕ) (n k j : ℕ) → k < j → j < n → f k + f j ≤ sum_by f (teams_of n)
two_terms f n k j h l =
    let long : length (teams_of n) ≡ n = length-range_with_len 0 n in
    let front_long : length (take j (teams_of n)) ≡ j = length-take-le j (teams_of n) (omega arith) in
    let at_j : f (get_or (teams_of n) j 0) ≡ f j = ap f (get_or-range_with_len 0 n j 0 l ∙ zero-add j) in
    let at_k : f (get_or (take j (teams_of n)) k 0) ≡ f k =
    ap f (get_or-take j (teams_of n) k 0 h ∙ get_or-range_with_len 0 n k 0 (omega arith) ∙ zero-add k) in
    omega (arith, sum_by_more_le f (teams_of n) j 0 (omega arith), get_or-le-sum_by f (take j (teams_of n)) k 0 (omega arith), at_j, at_k)

-- the opponent in the only game
opponent_is : (n : ℕ) (f : ℕ → ℕ) (j : ℕ) → sum_by f (teams_of n) ≤ 1 → j < n → 0 < f j → opponent n f ≡ j
opponent_is n f j one h plays =
    let long : length (teams_of n) ≡ n = length-range_with_len 0 n in
    position_or_len_is (λ k. nat_lt 0 (f k)) (teams_of n) j 0
    (omega arith)
    (λ k l.
    let none : f (get_or (teams_of n) k 0) ≡ 0 =
    omega (arith, ap f (get_or-range_with_len 0 n k 0 (omega arith) ∙ zero-add k), two_terms f n k j l h) in
    ap (nat_lt 0) none)
    (λ _. lt-ltb 0 (f (get_or (teams_of n) j 0)) (omega (arith, ap f (get_or-range_with_len 0 n j 0 h ∙ zero-add j))))

-- a game is counted of the opponent, where it is a team
opponent_plays : (n : ℕ) (f : ℕ → ℕ) (j : ℕ) → j < n → opponent n f ≡ j → 0 < f j
opponent_plays n f j h is =
    let long : length (teams_of n) ≡ n = length-range_with_len 0 n in
    let at_j : f (get_or (teams_of n) (opponent n f) 0) ≡ f j =
    ap f (ap (λ k. get_or (teams_of n) k 0) is ∙ get_or-range_with_len 0 n j 0 h ∙ zero-add j) in
    omega (arith, at_j, ltb-true 0 (f (get_or (teams_of n) (opponent n f) 0)) (passes_at_first (λ k. nat_lt 0 (f k)) (teams_of n) 0 (omega arith)))

-- the opponent's number is at most n
opponent_within : (n : ℕ) (f : ℕ → ℕ) → opponent n f ≤ n
opponent_within n f = omega (arith, length-range_with_len 0 n, prefix_len-le-length (λ k. not (nat_lt 0 (f k))) (teams_of n))

-- ---- the text

-- the first byte of a number is a digit
record BeginsWithDigit (text : List ℕ) : Type 0 where
  some : 0 < length text
  low : 48 ≤ get_or text 0 0
  high : get_or text 0 0 ≤ 57

decimal_begins : (j : ℕ) → j < 2 ^ 64 → BeginsWithDigit (decimal j)
decimal_begins j h =
    decimal_by_steps (λ _ text. BeginsWithDigit text)
    (λ n small. record { some = omega arith; low = omega arith; high = omega arith })
    (λ n ds large so_far.
    let some = so_far.some in
    let head : get_or (ds ++ ((48 + n % 10) ∷ [])) 0 0 ≡ get_or ds 0 0 = get_or_append_left ds ((48 + n % 10) ∷ []) 0 0 some in
    let low = so_far.low in
    let high = so_far.high in
    record { some = omega (arith, length-append ds ((48 + n % 10) ∷ [])); low = omega arith; high = omega arith })
    j h

-- other texts of cells begin otherwise
begins : (b : Bool) (rest : List ℕ) → get_or (cond b (codes "-") (codes "#" ++ rest)) 0 0 < 48
begins true rest = omega arith
begins false rest = omega arith

many_begins : (k : ℕ) → get_or (many_games k) 0 0 < 48
many_begins k = begins (k == 0) (if nat_lt k 10 then decimal k else codes "+")

-- a text that tells a home game
reads_home : (b c : Bool) (k guest host j : ℕ) → guest < 2 ^ 64 → j < 2 ^ 64 → cond b (cond c (decimal guest) (codes "@" ++ decimal host)) (many_games k) ≡ decimal j → (b ≡ true) × (c ≡ true) × (guest ≡ j)
reads_home true true k guest host j lg lj e = (refl, refl, decimal_injective guest j lg lj e)
reads_home true false k guest host j lg lj e =
    let begins = decimal_begins j lj in
    let high = begins.high in
    absurd (omega (arith, ap (λ text. get_or text 0 0) e, high))
reads_home false c k guest host j lg lj e =
    let begins = decimal_begins j lj in
    let low = begins.low in
    absurd (omega (arith, ap (λ text. get_or text 0 0) e, low, many_begins k))

-- a text that tells an away game
reads_away : (b c : Bool) (k guest host j : ℕ) → guest < 2 ^ 64 → host < 2 ^ 64 → j < 2 ^ 64 → cond b (cond c (decimal guest) (codes "@" ++ decimal host)) (many_games k) ≡ codes "@" ++ decimal j → (b ≡ true) × (c ≡ false) × (host ≡ j)
reads_away true true k guest host j lg lh lj e =
    let begins = decimal_begins guest lg in
    let high = begins.high in
    absurd (omega (arith, ap (λ text. get_or text 0 0) e, high))
reads_away true false k guest host j lg lh lj e = (refl, refl, decimal_injective host j lh lj (ap (drop 1) e))
reads_away false c k guest host j lg lh lj e = absurd (omega (arith, ap (λ text. get_or text 0 0) e, many_begins k))

-- ---- the law

home_told : (n : ℕ) (m : Counts) (i s j : ℕ) → j < n → games_on n m Both i s ≡ 1 → 0 < m i j s → games_text n m i s ≡ decimal j
home_told n m i s j h one plays =
    let at_home : home_games n m i s ≡ 1 = omega (arith, one_term (λ k. m i k s) n j h) in
    let guest : opponent n (λ k. m i k s) ≡ j = opponent_is n (λ k. m i k s) j (omega arith) h plays in
    ap (λ k. cond (k == 1) (one_game n m i s) (many_games k)) one
    ∙ ap (λ k. cond (k == 1) (decimal (opponent n (λ k. m i k s))) (codes "@" ++ decimal (opponent n (λ k. m k i s)))) at_home
    ∙ ap decimal guest

away_told : (n : ℕ) (m : Counts) (i s j : ℕ) → j < n → games_on n m Both i s ≡ 1 → 0 < m j i s → games_text n m i s ≡ codes "@" ++ decimal j
away_told n m i s j h one plays =
    let away : away_games n m i s ≡ 1 = omega (arith, one_term (λ k. m k i s) n j h) in
    let at_home : home_games n m i s ≡ 0 = omega arith in
    let host : opponent n (λ k. m k i s) ≡ j = opponent_is n (λ k. m k i s) j (omega arith) h plays in
    ap (λ k. cond (k == 1) (one_game n m i s) (many_games k)) one
    ∙ ap (λ k. cond (k == 1) (decimal (opponent n (λ k. m i k s))) (codes "@" ++ decimal (opponent n (λ k. m k i s)))) at_home
    ∙ ap (λ k. codes "@" ++ decimal k) host

home_read : (n : ℕ) (m : Counts) (i s j : ℕ) → n ≤ 40 → j < n → games_text n m i s ≡ decimal j → (games_on n m Both i s ≡ 1) × (0 < m i j s)
home_read n m i s j small h e =
    let games = home_games n m i s + away_games n m i s in
    let guest = opponent n (λ k. m i k s) in
    let host = opponent n (λ k. m k i s) in
    let read = reads_home (games == 1) (home_games n m i s == 1) games guest host j (omega (arith, opponent_within n (λ k. m i k s))) (omega arith) e in
    (eqb-true games 1 read.0, opponent_plays n (λ k. m i k s) j h read.2)

away_read : (n : ℕ) (m : Counts) (i s j : ℕ) → n ≤ 40 → j < n → games_text n m i s ≡ codes "@" ++ decimal j → (games_on n m Both i s ≡ 1) × (0 < m j i s)
away_read n m i s j small h e =
    let games = home_games n m i s + away_games n m i s in
    let guest = opponent n (λ k. m i k s) in
    let host = opponent n (λ k. m k i s) in
    let read = reads_away (games == 1) (home_games n m i s == 1) games guest host j (omega (arith, opponent_within n (λ k. m i k s))) (omega (arith, opponent_within n (λ k. m k i s))) (omega arith) e in
    (eqb-true games 1 read.0, opponent_plays n (λ k. m k i s) j h read.2)

pub cells_name : CellsNameGames
cells_name n m i s j small h = record {
  at_home = (home_read n m i s j small h, λ game. home_told n m i s j h game.0 game.1);
  away = (away_read n m i s j small h, λ game. away_told n m i s j h game.0 game.1);
}
