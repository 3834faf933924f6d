-- What a descent compares.
use Rattle.std.specs.Prelude.{◌≡◌, ◌≤◌, true, List}
use Rattle.league.specs.Counts.{Counts}
use Rattle.rule_core.specs.declared.rule.Entries.{Ghosts}
use Rattle.descent.specs.Tallies.{IsAtMost, infeasibility_on, objective_on}
use Rattle.descent.specs.declared.weigh.Sums.{Sums}
use Rattle.descent.specs.declared.weighted.Weighted.{Weighted}
use Rattle.descent.specs.declared.score.Score.{Score}
pub use Rattle.descent.specs.Lower.{is_lower, IsNoWorse}

-- each score that is lower than this one is at most these bounds
abbrev pub AreBoundsBelow : Sums → Score → Type 0
AreBoundsBelow most before = (after : Score) → is_lower after before ≡ true
    → IsAtMost most.infeasibility after.infeasibility × IsAtMost most.objective after.objective

-- hard rules cost something, or soft ones
abbrev pub IsCostly : Score → Type 0
IsCostly a = a.infeasibility ≡ 0 → 1 ≤ a.objective

-- what weighted rules cost on some counts
abbrev pub score_on : {R : Type 0} → Ghosts R → List (Weighted R) → Counts → Score
score_on E weights m = record { infeasibility = infeasibility_on E m weights; objective = objective_on E m weights }
