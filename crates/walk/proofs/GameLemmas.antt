-- The games of a board, home team by home team.
use Rattle.std.proofs.Common.{◌≡◌, ◌≢◌, ℕ, ◌+◌, ◌*◌, ◌<◌, ◌≤◌, Bool, true, ◌&&◌, ◌==◌, nat_lt, if◌then◌else◌, List, [], ◌∷◌, ◌++◌, arith, ap, sym, ◌∙◌}
use Rattle.std.proofs.lemmas.Bool.Decides.{nat_tests}
use Rattle.std.proofs.lemmas.List.Sums.{sum_by_push}
use Rattle.std.proofs.lemmas.Nat.{mul-le}
use Rattle.league.specs.Counts.{Counts, counts_of, is_game, slot_count}
use Rattle.league.specs.Instance.{IsTeamCount}
use Rattle.league.specs.declared.game.Game.{Game}
use Rattle.league.proofs.RangeLemmas.{one_if}
use Rattle.moves.specs.Places.{IsRound}
use Rattle.moves.specs.Round.{Round, entry, round_counts}
use Rattle.moves.proofs.RoundLemmas.{IsWithin, IsWithin-of}
use Rattle.rule_core.proofs.ListedLemmas.{same_counts}
use Rattle.descent.proofs.SeasonLemmas.{IsBelow, IsWithAways, IsWithMeeting, IsWithTeam, all_aways, all_homes, no_away_more}

-- ---- a board has no games outside of its league, and none of a team against itself

pub within : (r : Round) → IsRound r → IsWithin r.n (round_counts r)
within r is = IsWithin-of r is.table

itself : (h w t i s : ℕ) (x y : Bool) → (x ≡ true → y ≡ true → h ≢ w)
    → one_if (x && y && ((h == i) && (w == i) && (t == s))) ≡ 0
itself h w t i s x y differ = grind (arith, nat_tests)

below-true : (a n : ℕ) → nat_lt a n ≡ true → a < n
below-true a n is = grind (arith, nat_tests)

pub apart : (r : Round) → IsRound r → (i s : ℕ) → round_counts r i i s ≡ 0
apart r is i s =
    let g : Game = entry r.games i s in
    itself g.home.0 g.away.0 g.slot.0 i s (nat_lt i r.n) (nat_lt s (slot_count r.n))
    (λ home slot. (is.table.at i s (below-true i r.n home) (below-true s (slot_count r.n) slot)).fits.differ)

-- ---- the games so far, with one more

one : (h w i j s t x : ℕ) → (i ≡ h → j ≡ w → x ≡ (if s == t then 1 else 0))
    → one_if ((h == i) && (w == j) && (t == s)) ≡ (if (i == h) && (j == w) then x else 0)
one h w i j s t x is = grind (arith, nat_tests)

pub game-more : (m : Counts) (games : List Game) (g : Game)
    → ((s : ℕ) → m g.home.0 g.away.0 s ≡ (if s == g.slot.0 then 1 else 0))
    → IsWithMeeting (counts_of games) m g.home.0 g.away.0 (games ++ g ∷ [])
game-more m games g at i j s =
    sum_by_push (λ x. one_if (is_game i j s x)) games g
    ∙ ap (λ (k : ℕ). counts_of games i j s + k)
    (one g.home.0 g.away.0 i j s g.slot.0 (m i j s)
    (λ home away. ap (λ (a : ℕ). m a j s) home ∙ ap (λ (b : ℕ). m g.home.0 b s) away ∙ at s))

pub aways-itself : (start m : Counts) (home away : ℕ) (games : List Game) → away ≡ home
    → ((i s : ℕ) → m i i s ≡ 0) → IsWithAways start m home away games → IsWithAways start m home (away + 1) games
aways-itself start m home away games same none so_far i j s =
    omega (
      arith,
      so_far i j s,
      no_away_more home away i j (m i j s)
          (λ is_home is_away. ap (λ (k : ℕ). m k j s) (is_home ∙ sym same ∙ sym is_away) ∙ none j s),
    )

pub aways-done : (start m : Counts) (n home away : ℕ) (games : List Game) → IsWithin n m → n ≤ away
    → IsWithAways start m home away games → IsWithTeam start m home games
aways-done start m n home away games inside past so_far i j s =
    omega (
      arith,
      so_far i j s,
      all_aways home away i j (m i j s) (λ more. inside.away i j s (omega (arith, past, more))),
    )

pub below-done : (m : Counts) (n home : ℕ) (games : List Game) → IsWithin n m → n ≤ home → IsBelow m home games
    → counts_of games ≡ m
below-done m n home games inside past so_far =
    same_counts (counts_of games) m
    (λ i j s. so_far i j s ∙ all_homes home i (m i j s) (λ more. inside.home i j s (omega (arith, past, more))))

-- ---- so many games

pub row-fits : (n home length : ℕ) → home < n → length ≤ home * n → length + n ≤ n * n
row-fits n home length below few = omega (arith, below, few, mul-le (home + 1) n n n (omega arith) (omega arith))

pub all-few : (n length : ℕ) → IsTeamCount n → length ≤ n * n → length ≤ 1600
all-few n length teams few = omega (arith, few, mul-le n n 40 40 teams.at_most teams.at_most)
