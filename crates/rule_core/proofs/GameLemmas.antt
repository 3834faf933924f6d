-- Which games leave a team's games in a slot as they are.
use Rattle.std.proofs.Common.{◌≡◌, ◌≢◌, ℕ, Bool, ◌&&◌, ◌==◌, arith}
use Rattle.std.proofs.lemmas.Bool.Decides.{nat_tests}
use Rattle.league.specs.Counts.{Counts, one_more}
use Rattle.league.specs.Instance.{IsGame}
use Rattle.league.specs.Venues.{away_games, games_on, home_games}
use Rattle.league.specs.declared.game.Game.{Game}
use Rattle.league.specs.declared.class.Side.{Side}
use Rattle.league.specs.declared.class.Side.TheVariants.{H, A, Both}
use Rattle.league.proofs.CountLemmas.{away_games-one_more, home_games-one_more}
use Rattle.league.proofs.RangeLemmas.{one_if}

-- a test of two, of which one fails
first_differs : (a b : ℕ) (c : Bool) → b ≢ a → one_if ((a == b) && c) ≡ 0
first_differs a b c differ = grind (arith, nat_tests)

second_differs : (c : Bool) (a b : ℕ) → b ≢ a → one_if (c && (a == b)) ≡ 0
second_differs c a b differ = grind (arith, nat_tests)

-- a team that isn't at home has as many home games, and one that isn't away as many away games
pub games_on-not_at_home : (n : ℕ) (m : Counts) (g : Game) (i s : ℕ) → IsGame n g → i ≢ g.home.0 → home_games n (one_more m g) i s ≡ home_games n m i s
games_on-not_at_home n m g i s fits differ = omega (arith, home_games-one_more n m g i s fits, first_differs g.home.0 i (g.slot.0 == s) differ)

pub games_on-not_away : (n : ℕ) (m : Counts) (g : Game) (i s : ℕ) → IsGame n g → i ≢ g.away.0 → away_games n (one_more m g) i s ≡ away_games n m i s
games_on-not_away n m g i s fits differ = omega (arith, away_games-one_more n m g i s fits, first_differs g.away.0 i (g.slot.0 == s) differ)

-- in another slot, each team has as many games on each side
pub games_on-elsewhere : (n : ℕ) (m : Counts) (side : Side) (g : Game) (i s : ℕ) → IsGame n g → s ≢ g.slot.0 → games_on n (one_more m g) side i s ≡ games_on n m side i s
games_on-elsewhere n m H g i s fits differ = omega (arith, home_games-one_more n m g i s fits, second_differs (g.home.0 == i) g.slot.0 s differ)
games_on-elsewhere n m A g i s fits differ = omega (arith, away_games-one_more n m g i s fits, second_differs (g.away.0 == i) g.slot.0 s differ)
games_on-elsewhere n m Both g i s fits differ =
    omega (arith, home_games-one_more n m g i s fits, second_differs (g.home.0 == i) g.slot.0 s differ, away_games-one_more n m g i s fits, second_differs (g.away.0 == i) g.slot.0 s differ)
