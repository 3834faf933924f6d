-- What a walk from an accepted start leads to costs no more than the start.
use Rattle.std.proofs.Common.{◌≡◌, ℕ, ◌≤◌, false, ◌&&◌, ◌||◌, ◌==◌, nat_lt, arith, ap}
use Rattle.std.proofs.lemmas.Bool.Decides.{nat_tests}
use Rattle.league.specs.Accepted.{IsAccepted, objective}
use Rattle.league.specs.Counts.{Counts, counts_of}
use Rattle.league.specs.Instance.{Instance}
use Rattle.descent.specs.HardSum.{hard_sum}
use Rattle.descent.specs.Lower.{IsNoWorse}
use Rattle.descent.specs.declared.score.Score.{Score}
use Rattle.descent.proofs.TrailLemmas.{trails-stay_feasible}
use Rattle.walk.specs.Walked.{IsSeasonOf}
use Rattle.walk.specs.Walked as walks
use Rattle.walk.specs.declared.best.Best.{Best}
use Rattle.walk.proofs.WalkLemmas.{accepted-stays, feasible-is, met}
use Rattle.solve.specs.Solutions.{league_score}
use Rattle.solve.specs.Tried.{IsSeason}
use Rattle.solve.specs.declared.lower.Season.{Season}

no_higher : (a b c d : ℕ) → a ≡ 0 → c ≡ 0 → (nat_lt c a || ((c == a) && nat_lt d b)) ≡ false → b ≤ d
no_higher a b c d met_here met_there no_worse = grind (arith, nat_tests)

-- a double round robin that isn't worse than an accepted one costs no more
pub walked-no_higher : (league : Instance) (best : Best) (m : Counts) → IsSeasonOf league best
    → IsNoWorse best.score (walks.league_score league m) → IsAccepted league m
    → objective league (counts_of best.games) ≤ objective league m
walked-no_higher league best m is no_worse accepted =
    let none : best.score.infeasibility ≡ 0 =
    (feasible-is league best is).1 (accepted-stays league best m is no_worse accepted) in
    let cost : best.score.objective ≡ objective league (counts_of best.games) =
    ap (λ (s : Score). s.objective) is.score in
    omega (
      arith,
      cost,
      no_higher best.score.infeasibility best.score.objective (hard_sum 1 league m)
          (objective league m) none ((met league m).1 accepted.hard) no_worse,
    )

-- a descent doesn't end higher than it began
descended-no_higher : (league : Instance) (moves : ℕ) (may_stop : Type 0) (season : Season)
    → IsSeason league moves may_stop season → season.objective ≤ objective league (counts_of season.descent.first)
descended-no_higher league moves may_stop season is =
    let first : Counts = counts_of season.descent.first in
    let stays = trails-stay_feasible league.n league.phased (league_score league) first (counts_of season.schedule)
    season.descent.trail ((met league first).1 is.descends.first.hard) is.descends.trail in
    omega (arith, stays.1, is.cost)

-- nor does the descent from what a walk found
pub found-no_higher : (league : Instance) (moves : ℕ) (may_stop : Type 0) (season : Season) (best : Best) (m : Counts)
    → IsSeason league moves may_stop season → counts_of season.descent.first ≡ counts_of best.games
    → IsSeasonOf league best → IsNoWorse best.score (walks.league_score league m) → IsAccepted league m
    → season.objective ≤ objective league m
found-no_higher league moves may_stop season best m is first season_of no_worse accepted =
    omega (
      arith,
      descended-no_higher league moves may_stop season is,
      ap (λ (c : Counts). objective league c) first,
      walked-no_higher league best m season_of no_worse accepted,
    )
