-- Worked answers: what a league of two teams is solved by, and what no answer is.
use Rattle.std.proofs.Common.{◌≡◌, ◌⊎◌, ℕ, ◌<◌, ◌≤◌, ◌&&◌, ◌||◌, ◌==◌, nat_lt, List, [], ◌∷◌, length, true, false}
use Rattle.std.proofs.Common.{Option, Some, None, inl, inr, arith, refl}
use Rattle.std.specs.Prelude.{IsTrue}
use Rattle.std.specs.List.{All, AllPairs}
use Rattle.std.specs.Ordering.{is_le}
use Rattle.std.proofs.lemmas.Bool.Decides.{nat_tests}
use Rattle.std.proofs.lemmas.List.Elements.{All-cons, All-nil}
use Rattle.std.proofs.lemmas.List.Kept.{AllPairs-cons}
use Rattle.league.specs.Accepted.{IsAccepted}
use Rattle.league.specs.Counts.{counts_of}
use Rattle.league.specs.Instance.{Instance, IsGame}
use Rattle.league.specs.Order.{IsInOrder, game_cmp}
use Rattle.league.specs.declared.game.Game.{Game}
use Rattle.league.proofs.AcceptedLemmas.{MeetsHard-from_sum}
use Rattle.league.specs.declared.class.Class.TheVariants.{Ca1}
use Rattle.league.specs.declared.class.Side.TheVariants.{A, H}
use Rattle.league.proofs.DoubleFour.{four, game}
use Rattle.circle_method.specs.Circle.{double_games}
use Rattle.refutation.specs.Steps.{Step}
use Rattle.refutation.specs.Steps.Step.{Clause}
use Rattle.moves.specs.Moves.{moved}
use Rattle.moves.specs.Neighbours.{home_swap}
use Rattle.descent.specs.Descended.{Descended}
use Rattle.descent.specs.Settled.{IsSettled}
use Rattle.league_search.specs.declared.found.PatternFound.TheVariants.{Patterns, Refuted, Spent}
use Rattle.solve.specs.Solutions.{IsSchedule, IsSpentOn, IsWritable, LeavesOpen, league_score}

abbrev two : Instance
two = record { n = 2; phased = true; constraints = [] }

-- what the circle method gives
abbrev both_games : List Game
both_games = game 1 0 0 ∷ game 0 1 1 ∷ []

pub circle-two : double_games 2 ≡ both_games
circle-two = refl

pub accepted-two : IsAccepted two (counts_of both_games)
accepted-two =
    record {
      round_robin = record { pairs = refl; cells = refl; phases = refl };
      hard = MeetsHard-from_sum two (counts_of both_games) refl;
    }

first_fits : IsGame 2 (game 1 0 0)
first_fits = record { home = omega arith; away = omega arith; differ = λ e. omega arith; slot = omega arith }

second_fits : IsGame 2 (game 0 1 1)
second_fits = record { home = omega arith; away = omega arith; differ = λ e. omega arith; slot = omega arith }

abbrev comes_before : Game → Game → Type 0
comes_before g h = IsTrue (is_le (game_cmp g h))

none_before : AllPairs comes_before []
none_before i j d before inside = absurd (omega (arith, inside))

in_order-two : IsInOrder both_games
in_order-two =
    AllPairs-cons comes_before (game 1 0 0) (game 0 1 1 ∷ [])
    (All-cons (comes_before (game 1 0 0)) (game 0 1 1) [] refl (All-nil (comes_before (game 1 0 0))))
    (AllPairs-cons comes_before (game 0 1 1) [] (All-nil (comes_before (game 0 1 1))) none_before)

-- a descent that has no move to make
abbrev still : Descended
still = record { first = both_games; trail = []; settled = true }

both_fit : All (IsGame 2) both_games
both_fit =
    All-cons (IsGame 2) (game 1 0 0) (game 0 1 1 ∷ []) first_fits
    (All-cons (IsGame 2) (game 0 1 1) [] second_fits (All-nil (IsGame 2)))

-- nothing is lower than nothing
nothing_lower : (a b : ℕ) → (nat_lt a 0 || ((a == 0) && nat_lt b 0)) ≡ true → ⊥
nothing_lower a b lower =
    let none : (nat_lt a 0 || ((a == 0) && nat_lt b 0)) ≡ false = grind (arith, nat_tests) in
    cc

pub settled-two : IsSettled 2 true (league_score two) (counts_of both_games)
settled-two step lowers =
    nothing_lower (league_score two (moved 2 (counts_of both_games) step)).infeasibility
    (league_score two (moved 2 (counts_of both_games) step)).objective lowers.lower

-- both games are an answer, and cost nothing
pub solved-two : IsSchedule two 0 ⊥ both_games 0 still
solved-two = record {
  accepted = accepted-two;
  fit = both_fit;
  in_order = in_order-two;
  cost = refl;
  descends = record {
    first = accepted-two;
    fit = both_fit;
    in_order = in_order-two;
    trail = refl;
    few = omega arith;
    settled = λ yes. settled-two;
    spent = λ no. absurd (cc);
    costly = λ no. absurd (cc);
    lowers = λ no. absurd (cc);
  };
}

dear_two : (objective : ℕ) → 0 < objective → objective ≡ 0 → ⊥
dear_two objective some none = omega (arith, some, none)

pub costs_nothing : (objective : ℕ) → 0 < objective → IsSchedule two 0 ⊥ both_games objective still → ⊥
costs_nothing objective some is = dear_two objective some is.cost

-- a descent that may make no move and doesn't say that it is settled
abbrev open_yet : Descended
open_yet = record { first = both_games; trail = []; settled = false }

none_made : (made : ℕ) → made ≡ 0 → made ≡ 1 → ⊥
none_made made none one = omega (arith, none, one)

-- it is no answer where it may make a move
pub settles : IsSchedule two 1 (Unit {0}) both_games 0 open_yet → ⊥
settles is = none_made 0 refl (is.descends.spent refl)

nothing_left : (cost : ℕ) → cost ≡ 0 → 1 ≤ cost → ⊥
nothing_left cost none some = omega (arith, none, some)

-- nor where the games cost nothing, stopped or not
pub free_settles : IsSchedule two 0 (Unit {0}) both_games 0 open_yet → ⊥
free_settles is = nothing_left 0 refl (is.descends.costly refl)

lowers-none : ⊥ ⊎ (IsSettled 2 true (league_score two) (counts_of both_games) → ⊥) → ⊥
lowers-none (inl may) = may
lowers-none (inr lowers) = lowers settled-two

-- nor where no move lowers the score, and nothing may stop it
pub open_settles : IsSchedule two 0 ⊥ both_games 0 open_yet → ⊥
open_settles is = lowers-none (is.descends.lowers refl)

-- the later game first is no answer
not_first : IsTrue (is_le (game_cmp (game 0 1 1) (game 1 0 0))) → ⊥
not_first is = cc

pub late_first : (objective : ℕ) → IsSchedule two 0 ⊥ (game 0 1 1 ∷ game 1 0 0 ∷ []) objective still → ⊥
late_first objective is = not_first (is.in_order 0 1 (game 0 1 1) (omega arith) (omega arith))

-- ---- what a free constraint counts: team 0 isn't at home in slot 0 (hard, penalty 0), and plays away there once

abbrev free : Instance
free =
    record {
      n = 4;
      phased = true;
      constraints =
          record { hard = true; penalty = 0; class = Ca1 (0 ∷ []) 0 0 H (0 ∷ []) }
          ∷ record { hard = false; penalty = 1; class = Ca1 (0 ∷ []) 0 0 A (0 ∷ []) }
          ∷ [];
    }

pub score-free : league_score free four ≡ record { infeasibility = 0; objective = 1 }
score-free = refl

-- at home in slot 0 it breaks the free constraint, which counts 1, so the move isn't lower
pub score-home : league_score free (moved 4 four (home_swap (0, 3))) ≡ record { infeasibility = 1; objective = 0 }
score-home = refl

-- a hint that names no row can't be written
zero_named : (n : ℕ) → n ≡ 0 → 1 ≤ n → ⊥
zero_named n none some = omega (arith, none, some)

pub no_row_zero : IsWritable (Clause [] (0 ∷ []) ∷ []) → ⊥
no_row_zero is = zero_named 0 refl (is.named 0 (Clause [] []) (omega arith) 0 0 (omega arith))

-- without a limit no log is spent
nothing_spent : (steps : List Step) → ◌≡◌ {A = Option ℕ} None (Some (length steps)) → ⊥
nothing_spent steps is = cc

pub never_spent : (league : Instance) (steps : List Step) → IsSpentOn league None steps → ⊥
never_spent league steps is = nothing_spent is.log.behind.search is.spent.limited

-- ---- what is known of patterns: no set with a team too few, no log without the budget's steps, and no refutation

different : (n : ℕ) → n ≡ 0 → n ≡ 2 → ⊥
different n none two = omega (arith, none, two)

no_step : (most : ℕ) → 0 < most → ◌≡◌ {A = Option ℕ} (Some most) (Some 0) → ⊥
no_step most some is = let same : most ≡ 0 = cc in omega (arith, same, some)

pub no_patterns : (most : ℕ) → LeavesOpen two most (Patterns []) → ⊥
no_patterns most is = different 0 refl is.teams

pub stops_short : (most : ℕ) → 0 < most → LeavesOpen two most (Spent []) → ⊥
stops_short most some is = no_step most some is.limited

pub no_refutation : (league : Instance) (most : ℕ) (log : List Step) → LeavesOpen league most (Refuted log) → ⊥
no_refutation league most log is = is
