-- Weighted rules of a league's constraints, and what the league's definitions say that they cost.
use Rattle.std.specs.Prelude.{◌≡◌, ℕ, max, if◌then◌else◌, List}
use Rattle.std.specs.List.{AllZip}
use Rattle.league.specs.Instance.{Instance}
use Rattle.league.specs.declared.class.Constraint.{Constraint}
use Rattle.rule_core.specs.Rule.{IsRuleOf}
use Rattle.rule_core.specs.declared.rule.Entries.{Ghosts}
use Rattle.descent.specs.declared.weighted.Weighted.{Weighted}
pub use Rattle.descent.specs.HardSum.{hard_sum}

-- what a unit of a constraint's deviation costs, where one of a hard constraint costs at least so much
abbrev pub price_of : ℕ → Constraint → ℕ
price_of least c = if c.hard then max c.penalty least else c.penalty

-- a weighted rule is that of a constraint in a league of n teams
pub record IsWeightedOf {R : Type 0} (E : Ghosts R) (n least : ℕ) (c : Constraint) (w : Weighted R) : Type 0 where
  pub rule : IsRuleOf E n c.class w.rule
  pub hard : w.hard ≡ c.hard
  pub penalty : w.penalty ≡ price_of least c

-- weighted rules are those of a league's constraints, in their order
abbrev pub AreRulesOf : {R : Type 0} → Ghosts R → ℕ → Instance → List (Weighted R) → Type 0
AreRulesOf E least league weights = AllZip (IsWeightedOf E league.n least) league.constraints weights
