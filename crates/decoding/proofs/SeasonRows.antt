-- The rows of a season and of its breaks, groups 1 to 7: where they are satisfied the decoding is a round robin that
-- the values mirror, and the shadow of a round robin satisfies them.
use Rattle.std.proofs.Common.{◌≡◌, ℕ, ◌+◌, ◌<◌, ◌≤◌, Bool, true, false, not, nat_lt, List, ◌++◌, get_or, length}
use Rattle.std.proofs.Common.{refl, arith, ap, ◌∙◌, sym}
use Rattle.std.proofs.lemmas.Bool.{and_from, and_parts, eq-eqb, eqb-true}
use Rattle.std.proofs.lemmas.Bool.Decides.{nat_tests}
use Rattle.std.proofs.lemmas.List.Folds.{list_all-append}
use Rattle.std.proofs.lemmas.List.FromFn.{get_or-range_with_len, length-range_with_len}
use Rattle.std.proofs.lemmas.List.Sums.{get_or-le-sum_by}
use Rattle.std.specs.List.{sum_by}
use Rattle.league.specs.Counts.{Counts, counts_of, slot_count, teams_of}
use Rattle.league.specs.Structure.{IsPlayedOnce, IsRoundRobin, cells_wrong, pairs_wrong, phases_wrong}
use Rattle.league.specs.Venues.{away_games, home_games}
use Rattle.league.proofs.RangeLemmas.{one_if}
use Rattle.league.proofs.RoundRobinLemmas.{IsPlayedOnce-of, plays_once}
use Rattle.rows.specs.Rows.{Row}
use Rattle.rows.specs.Tests.{all_satisfied, satisfied}
use Rattle.encoding.specs.Season.{break_rows, cell_rows, half_rows, meeting_rows, slot_rows, team_rows, venue_rows}
use Rattle.encoding.specs.Encoding.{season_rows}
use Rattle.encoding.specs.Shadow.{IsShadow, decoded}
use Rattle.encoding.specs.Variables.{h_var, x_var}
use Rattle.decoding.specs.Mirrors.{Mirrors, MirrorsBreaks, MirrorsGames}
use Rattle.decoding.proofs.BreakRows.{MirrorsBreaks-from_rows, break_rows-met}
use Rattle.decoding.proofs.DecodedCounts.{counts_of-decoded_game, counts_of-decoded_itself}
use Rattle.decoding.proofs.HomeCounts.{slot_rows-met, team_rows-met}
use Rattle.decoding.proofs.SeasonLaws.{PlaysOthers, cell_rows-law, half_rows-law, meeting_rows-law}
use Rattle.decoding.proofs.VenueLaws.{agree, agree-true, all_cells, each_cell, true-agree, venue_rows-law}

-- two lists of rows are satisfied where both together are
pub both_satisfied : (values : ℕ → Bool) (rows more : List Row) → all_satisfied values (rows ++ more) ≡ true →
    (all_satisfied values rows ≡ true) × (all_satisfied values more ≡ true)
both_satisfied values rows more pass =
    and_parts (all_satisfied values rows) (all_satisfied values more)
    (sym (list_all-append (satisfied values) rows more) ∙ pass)

pub satisfied_both : (values : ℕ → Bool) (rows more : List Row) → all_satisfied values rows ≡ true →
    all_satisfied values more ≡ true → all_satisfied values (rows ++ more) ≡ true
satisfied_both values rows more first second =
    list_all-append (satisfied values) rows more ∙ and_from (all_satisfied values rows) (all_satisfied values more)
    first second

-- h says where each team plays
abbrev pub MirrorsVenues : ℕ → Counts → (ℕ → Bool) → Type 0
MirrorsVenues n m values = (i s : ℕ) → i < n → s < slot_count n → values (h_var n i s) ≡ nat_lt 0 (home_games n m i s)

at_home_once : (b : Bool) (home away : ℕ) → b ≡ nat_lt 0 home → home + away ≡ 1 → one_if b ≡ home
at_home_once true home away is one = grind (arith, nat_tests)
at_home_once false home away is one = grind (arith, nat_tests)

away_once : (b : Bool) (home away : ℕ) → b ≡ nat_lt 0 home → home + away ≡ 1 → one_if (not b) ≡ away
away_once true home away is one = grind (arith, nat_tests)
away_once false home away is one = grind (arith, nat_tests)

-- where each team plays once in each slot, games and venues are all that is to be mirrored
pub Mirrors-from_venues : (n : ℕ) (m : Counts) (values : ℕ → Bool) → MirrorsGames n m values → cells_wrong n m ≡ 0 →
    MirrorsVenues n m values → Mirrors n m values
Mirrors-from_venues n m values games cells venues = record {
  games = games;
  home = λ i s team slot. at_home_once (values (h_var n i s)) (home_games n m i s) (away_games n m i s)
      (venues i s team slot) (plays_once n m i s cells team slot);
  away = λ i s team slot. away_once (values (h_var n i s)) (home_games n m i s) (away_games n m i s)
      (venues i s team slot) (plays_once n m i s cells team slot);
}

-- a term of a sum over the teams
term_of_teams : (f : ℕ → ℕ) (n i : ℕ) → i < n → f i ≤ sum_by f (teams_of n)
term_of_teams f n i team =
    let within : i < length (teams_of n) = omega (arith, length-range_with_len 0 n) in
    let from_zero : 0 + i ≡ i = omega arith in
    let here : f (get_or (teams_of n) i 0) ≡ f i = ap f (get_or-range_with_len 0 n i 0 team ∙ from_zero) in
    omega (arith, get_or-le-sum_by f (teams_of n) i 0 within, here)

-- where each team plays once in each slot, no game is there twice, and no team plays against itself
at_most_once : (n : ℕ) (m : Counts) (i j s : ℕ) → cells_wrong n m ≡ 0 → i < n → j < n → s < slot_count n → m i j s ≤ 1
at_most_once n m i j s cells home away slot =
    let one : home_games n m i s + away_games n m i s ≡ 1 = plays_once n m i s cells home slot in
    omega (arith, one, term_of_teams (λ k. m i k s) n j away)

pub PlaysOthers-from_cells : (n : ℕ) (m : Counts) → cells_wrong n m ≡ 0 → PlaysOthers n m
PlaysOthers-from_cells n m cells i s team slot =
    let one : home_games n m i s + away_games n m i s ≡ 1 = plays_once n m i s cells team slot in
    omega (arith, one, term_of_teams (λ k. m i k s) n i team, term_of_teams (λ k. m k i s) n i team)

zero_or_one : (b : Bool) (count : ℕ) → b ≡ nat_lt 0 count → count ≤ 1 → one_if b ≡ count
zero_or_one true count is most = grind (arith, nat_tests)
zero_or_one false count is most = grind (arith, nat_tests)

-- a shadow mirrors the games that stand at most once
pub MirrorsGames-from_shadow : (n : ℕ) (breaks : Bool) (m : Counts) (values : ℕ → Bool) →
    IsShadow n breaks m values → cells_wrong n m ≡ 0 → MirrorsGames n m values
MirrorsGames-from_shadow n breaks m values is cells i j s home away differ slot =
    zero_or_one (values (x_var n i j s)) (m i j s) (is.games i j s home away differ slot)
    (at_most_once n m i j s cells home away slot)

pub MirrorsBreaks-from_shadow : (n : ℕ) (m : Counts) (values : ℕ → Bool) → IsShadow n true m values →
    MirrorsBreaks n m values
MirrorsBreaks-from_shadow n m values is = record { home = is.home_breaks refl; away = is.away_breaks refl }

-- group 4
pub venues-from_rows : (n : ℕ) (m : Counts) (values : ℕ → Bool) → MirrorsGames n m values → PlaysOthers n m →
    all_satisfied values (venue_rows n) ≡ true → MirrorsVenues n m values
venues-from_rows n m values games others pass i s team slot =
    agree-true (values (h_var n i s)) (nat_lt 0 (home_games n m i s))
    (each_cell n (λ i s. agree (values (h_var n i s)) (nat_lt 0 (home_games n m i s)))
    (sym (venue_rows-law n m values games others) ∙ pass) i s team slot)

pub venue_rows-met : (n : ℕ) (m : Counts) (values : ℕ → Bool) → MirrorsGames n m values → PlaysOthers n m →
    MirrorsVenues n m values → all_satisfied values (venue_rows n) ≡ true
venue_rows-met n m values games others venues =
    venue_rows-law n m values games others
    ∙ all_cells n (λ i s. agree (values (h_var n i s)) (nat_lt 0 (home_games n m i s)))
    (λ i s team slot. true-agree (values (h_var n i s)) (nat_lt 0 (home_games n m i s)) (venues i s team slot))

-- group 7
pub breaks-from_rows : (n : ℕ) (breaks : Bool) (m : Counts) (values : ℕ → Bool) → Mirrors n m values →
    all_satisfied values (break_rows n breaks) ≡ true → breaks ≡ true → MirrorsBreaks n m values
breaks-from_rows n true m values mirrors pass has = MirrorsBreaks-from_rows n m values mirrors pass
breaks-from_rows n false m values mirrors pass has = absurd (cc)

pub break_rows-met_by : (n : ℕ) (breaks : Bool) (m : Counts) (values : ℕ → Bool) → Mirrors n m values →
    (breaks ≡ true → MirrorsBreaks n m values) → all_satisfied values (break_rows n breaks) ≡ true
break_rows-met_by n true m values mirrors has = break_rows-met n m values mirrors (has refl)
break_rows-met_by n false m values mirrors has = refl

-- what the rows of a season say of the decoding
pub record IsMirroredSeason (n : ℕ) (phased breaks : Bool) (m : Counts) (values : ℕ → Bool) : Type 0 where
  pub round_robin : IsRoundRobin n phased m
  pub mirrors : Mirrors n m values
  pub break_values : breaks ≡ true → MirrorsBreaks n m values

pub season-from_rows : (n : ℕ) (phased breaks : Bool) (values : ℕ → Bool) →
    all_satisfied values (season_rows n phased) ≡ true → all_satisfied values (break_rows n breaks) ≡ true →
    IsMirroredSeason n phased breaks (counts_of (decoded n values)) values
season-from_rows n phased breaks values season break_pass =
    let m : Counts = counts_of (decoded n values) in
    let games : MirrorsGames n m values = λ i j s home away differ slot. sym
    (counts_of-decoded_game n values i j s home away differ slot) in
    let others : PlaysOthers n m = λ i s team slot. counts_of-decoded_itself n values i s in
    let six = both_satisfied values (meeting_rows n ++ cell_rows n ++ half_rows n phased ++ venue_rows n ++ slot_rows
    n) (team_rows n) season in
    let five = both_satisfied values (meeting_rows n ++ cell_rows n ++ half_rows n phased ++ venue_rows n)
    (slot_rows n) six.0 in
    let four = both_satisfied values (meeting_rows n ++ cell_rows n ++ half_rows n phased) (venue_rows n) five.0 in
    let three = both_satisfied values (meeting_rows n ++ cell_rows n) (half_rows n phased) four.0 in
    let two = both_satisfied values (meeting_rows n) (cell_rows n) three.0 in
    let cells : cells_wrong n m ≡ 0 = eqb-true (cells_wrong n m) 0
    (sym (cell_rows-law n m values games others) ∙ two.1) in
    let mirrors : Mirrors n m values = Mirrors-from_venues n m values games cells
    (venues-from_rows n m values games others four.1) in
    record {
      round_robin = record {
        pairs = eqb-true (pairs_wrong n m) 0 (sym (meeting_rows-law n m values games) ∙ two.0);
        cells = cells;
        phases = eqb-true (phases_wrong n phased m) 0 (sym (half_rows-law n phased m values games) ∙ three.1);
      };
      mirrors = mirrors;
      break_values = breaks-from_rows n breaks m values mirrors break_pass;
    }

-- the shadow of a round robin mirrors it
pub mirrored-from_shadow : (n : ℕ) (phased breaks : Bool) (m : Counts) (values : ℕ → Bool) →
    IsShadow n breaks m values → IsRoundRobin n phased m → IsMirroredSeason n phased breaks m values
mirrored-from_shadow n phased breaks m values is round_robin =
    let games : MirrorsGames n m values = MirrorsGames-from_shadow n breaks m values is round_robin.cells in
    record {
      round_robin = round_robin;
      mirrors = Mirrors-from_venues n m values games round_robin.cells is.venues;
      break_values = λ has. record { home = is.home_breaks has; away = is.away_breaks has };
    }

-- the shadow of a round robin satisfies the rows of a season
pub season_rows-met : (n : ℕ) (phased breaks : Bool) (m : Counts) (values : ℕ → Bool) → IsShadow n breaks m values →
    IsRoundRobin n phased m → all_satisfied values (season_rows n phased) ≡ true
season_rows-met n phased breaks m values is round_robin =
    let mirrored = mirrored-from_shadow n phased breaks m values is round_robin in
    let games : MirrorsGames n m values = mirrored.mirrors.games in
    let others : PlaysOthers n m = PlaysOthers-from_cells n m round_robin.cells in
    let once : IsPlayedOnce n phased m = IsPlayedOnce-of n phased m round_robin in
    let one = meeting_rows-law n m values games ∙ eq-eqb (pairs_wrong n m) 0 round_robin.pairs in
    let two = satisfied_both values (meeting_rows n) (cell_rows n) one
    (cell_rows-law n m values games others ∙ eq-eqb (cells_wrong n m) 0 round_robin.cells) in
    let three = satisfied_both values (meeting_rows n ++ cell_rows n) (half_rows n phased) two
    (half_rows-law n phased m values games ∙ eq-eqb (phases_wrong n phased m) 0 round_robin.phases) in
    let four = satisfied_both values (meeting_rows n ++ cell_rows n ++ half_rows n phased) (venue_rows n) three
    (venue_rows-met n m values games others is.venues) in
    let five = satisfied_both values (meeting_rows n ++ cell_rows n ++ half_rows n phased ++ venue_rows n)
    (slot_rows n) four (slot_rows-met n phased m values mirrored.mirrors once) in
    satisfied_both values (meeting_rows n ++ cell_rows n ++ half_rows n phased ++ venue_rows n ++ slot_rows n)
    (team_rows n) five (team_rows-met n phased m values mirrored.mirrors others once)
