-- What a schedule has wrong, by the tables of its games.
use Rattle.std.proofs.Common.{◌≡◌, ◌≢◌, ℕ, ◌+◌, ◌≤◌, Bool, true, false, not, ◌&&◌, ◌==◌, if◌then◌else◌, List, [], ◌∷◌, refl, arith, ap, ◌∙◌}
use Rattle.std.proofs.lemmas.Bool.Decides.{nat_tests}
use Rattle.std.specs.Int.{from_bool}
use Rattle.std.specs.List.{count_by, sum_by}
use Rattle.league.specs.Counts.{counts_of, slots_of, teams_of}
use Rattle.league.specs.Meetings.{games_of, meetings_of, pairs_of}
use Rattle.league.specs.Structure.{cells_wrong, first_half, isnt_one, pairs_wrong, phases_wrong}
use Rattle.league.specs.Grid.{entry}
use Rattle.league.specs.Tables.{AreTablesOf}
use Rattle.league.specs.Venues.{games_on}
use Rattle.league.specs.declared.class.Side.TheVariants.{Both}
use Rattle.league.specs.declared.game.Game.{Game}
use Rattle.league.specs.declared.wrongs.Tables.{Tables}
use Rattle.league.proofs.RangeLemmas.{one_if, one_if-le}
use Rattle.league.proofs.SumLemmas.{sum_by-same}

-- the number that a test makes
pub from_bool-is : (b : Bool) → from_bool b ≡ one_if b
from_bool-is true = refl
from_bool-is false = refl

-- the number that a test makes is at most 1
pub from_bool-le : (b : Bool) (found : ℕ) → found ≡ from_bool b → found ≤ 1
from_bool-le b found e = omega (arith, from_bool-is b, one_if-le b)

-- a test of a number that was read
pub isnt_one-read : (read x found : ℕ) → read ≡ x → found ≡ from_bool (isnt_one read) → found ≡ one_if (isnt_one x)
isnt_one-read read x found e is = is ∙ from_bool-is (isnt_one read) ∙ ap (λ (k : ℕ). one_if (isnt_one k)) e

-- a test under one that two teams differ, where they do
pub when_different : (home away : ℕ) (b : Bool) → away ≢ home → one_if b ≡ one_if (not (away == home) && b)
when_different home away b h = grind (arith, nat_tests)

-- a test under one that two teams differ, where they are one team
pub when_same : (home away : ℕ) (b : Bool) → away ≡ home → 0 ≡ one_if (not (away == home) && b)
when_same home away b h = grind (arith, nat_tests)

-- the number of wrong meetings, by the table of meetings
meetings_counted : (n : ℕ) (games : List Game) (tables : Tables) → AreTablesOf n games tables → count_by (λ p. isnt_one (entry tables.meetings p.0 p.1)) (meetings_of n) ≡ pairs_wrong n (counts_of games)
meetings_counted n games tables are =
    sum_by-same (λ p. one_if (isnt_one (entry tables.meetings p.0 p.1))) (λ p. one_if (isnt_one (games_of (counts_of games) (p ∷ []) (slots_of n))))
    (λ p. ap (λ (k : ℕ). one_if (isnt_one k)) (are.meetings p.0 p.1)) (meetings_of n)

-- games of two teams in the first half, in either order
two_halves : (n : ℕ) (games : List Game) (tables : Tables) → AreTablesOf n games tables → (i j : ℕ) → entry tables.halves i j + entry tables.halves j i ≡ games_of (counts_of games) ((i, j) ∷ (j, i) ∷ []) (first_half n)
two_halves n games tables are i j = omega (arith, are.halves i j, are.halves j i)

-- the number of wrong cells, by the table of teams and slots
cells_counted : (n : ℕ) (games : List Game) (tables : Tables) → AreTablesOf n games tables → sum_by (λ i. count_by (λ s. isnt_one (entry tables.cells i s)) (slots_of n)) (teams_of n) ≡ cells_wrong n (counts_of games)
cells_counted n games tables are =
    sum_by-same (λ i. count_by (λ s. isnt_one (entry tables.cells i s)) (slots_of n)) (λ i. count_by (λ s. isnt_one (games_on n (counts_of games) Both i s)) (slots_of n))
    (λ i. sum_by-same (λ s. one_if (isnt_one (entry tables.cells i s))) (λ s. one_if (isnt_one (games_on n (counts_of games) Both i s))) (λ s. ap (λ (k : ℕ). one_if (isnt_one k)) (are.cells i s)) (slots_of n)) (teams_of n)

-- the number of wrong pairs in the first half, by the table of meetings in it
halves_counted : (n : ℕ) (phased : Bool) (games : List Game) (tables : Tables) → AreTablesOf n games tables → (if phased then count_by (λ p. isnt_one (entry tables.halves p.0 p.1 + entry tables.halves p.1 p.0)) (pairs_of (teams_of n)) else 0) ≡ phases_wrong n phased (counts_of games)
halves_counted n true games tables are =
    sum_by-same (λ p. one_if (isnt_one (entry tables.halves p.0 p.1 + entry tables.halves p.1 p.0))) (λ p. one_if (isnt_one (games_of (counts_of games) (p ∷ (p.1, p.0) ∷ []) (first_half n))))
    (λ p. ap (λ (k : ℕ). one_if (isnt_one k)) (two_halves n games tables are p.0 p.1)) (pairs_of (teams_of n))
halves_counted n false games tables are = refl

-- wrong meetings, by the tables of a number of teams and a list of games that were read
pub pairs_wrong-read : (n k : ℕ) (games listed : List Game) (tables : Tables) (count : ℕ) → k ≡ n → listed ≡ games → AreTablesOf k listed tables → count ≡ count_by (λ p. isnt_one (entry tables.meetings p.0 p.1)) (meetings_of k) → count ≡ pairs_wrong n (counts_of games)
pairs_wrong-read n k games listed tables count same_n same_games are is =
    is ∙ meetings_counted k listed tables are ∙ ap (λ (x : ℕ). pairs_wrong x (counts_of listed)) same_n ∙ ap (λ (xs : List Game). pairs_wrong n (counts_of xs)) same_games

-- wrong cells, in the same way
pub cells_wrong-read : (n k : ℕ) (games listed : List Game) (tables : Tables) (count : ℕ) → k ≡ n → listed ≡ games → AreTablesOf k listed tables → count ≡ sum_by (λ i. count_by (λ s. isnt_one (entry tables.cells i s)) (slots_of k)) (teams_of k) → count ≡ cells_wrong n (counts_of games)
cells_wrong-read n k games listed tables count same_n same_games are is =
    is ∙ cells_counted k listed tables are ∙ ap (λ (x : ℕ). cells_wrong x (counts_of listed)) same_n ∙ ap (λ (xs : List Game). cells_wrong n (counts_of xs)) same_games

-- wrong pairs in the first half, in the same way
pub phases_wrong-read : (n k : ℕ) (phased said : Bool) (games listed : List Game) (tables : Tables) (count : ℕ) → k ≡ n
    → said ≡ phased → listed ≡ games → AreTablesOf k listed tables → count ≡ (if said then count_by (λ p. isnt_one
    (entry tables.halves p.0 p.1 + entry tables.halves p.1 p.0)) (pairs_of (teams_of k)) else 0)
    → count ≡ phases_wrong n phased (counts_of games)
phases_wrong-read n k phased said games listed tables count same_n same_phased same_games are is =
    is ∙ halves_counted k said listed tables are ∙ ap (λ (x : ℕ). phases_wrong x said (counts_of listed)) same_n ∙ ap (λ (b : Bool). phases_wrong n b (counts_of listed)) same_phased ∙ ap (λ (xs : List Game). phases_wrong n phased (counts_of xs)) same_games
