-- Worked values, so that a wrong definition does not check: on the canonical double round robin of four teams, in which
-- team 0 is at home in slots 2 and 3 and away in slot 0, and each two teams meet again after two slots.
use Rattle.std.proofs.Common.{◌≡◌, ℕ, ◌≤◌, true, false, List, [], ◌∷◌, length, refl, arith}
use Rattle.league.specs.Counts.{Counts}
use Rattle.league.specs.Deviation.{entry_of, vector_of}
use Rattle.league.specs.Instance.{Instance}
use Rattle.league.specs.declared.class.Class.{Class}
use Rattle.league.specs.declared.class.Class.TheVariants.{Ca1, Se1}
use Rattle.league.specs.declared.class.Constraint.{Constraint}
use Rattle.league.specs.declared.class.Side.TheVariants.{A, H}
use Rattle.league.proofs.DoubleFour.{all_teams, four}
use Rattle.rule_core.specs.Ready.{entry_count}
use Rattle.rule_core.specs.Rule.{IsRuleOf}
use Rattle.rule_core.specs.Touched.{is_watched, most_touched, touched_keys}
use Rattle.rule_core.specs.declared.rule.Entries.{Ghosts}
use Rattle.descent.specs.League.{AreRulesOf, hard_sum, price_of}
use Rattle.descent.specs.Tallies.{infeasibility_on, objective_on}
use Rattle.descent.specs.declared.weighted.Weighted.{Weighted}

-- a hard constraint that costs nothing: no home game of team 0 in slots 2 and 3
abbrev free : Constraint
free = record { hard = true; penalty = 0; class = Ca1 (0 ∷ []) 0 0 H (2 ∷ 3 ∷ []) }

-- three slots between the games of each two teams: each of six pairs lacks one
abbrev apart : Constraint
apart = record { hard = true; penalty = 10; class = Se1 all_teams 3 }

-- no away game of team 0 in slot 0
abbrev wish : Constraint
wish = record { hard = false; penalty = 5; class = Ca1 (0 ∷ []) 0 0 A (0 ∷ []) }

abbrev demands : Instance
demands = record { n = 4; phased = true; constraints = free ∷ apart ∷ wish ∷ [] }

-- the penalty of a hard constraint is raised, that of a soft one stays
pub price-free : price_of 1 free ≡ 1
price-free = refl

pub price-stays : price_of 1 apart ≡ 10
price-stays = refl

pub price-raised : price_of 20 apart ≡ 20
price-raised = refl

pub price-wish : price_of 20 wish ≡ 5
price-wish = refl

-- 0 * 2 + 10 * 6
pub hard_sum-own : hard_sum 0 demands four ≡ 60
hard_sum-own = refl

-- 1 * 2 + 10 * 6
pub hard_sum-one : hard_sum 1 demands four ≡ 62
hard_sum-one = refl

-- 20 * 2 + 20 * 6
pub hard_sum-twenty : hard_sum 20 demands four ≡ 160
hard_sum-twenty = refl

-- classes that are their own rules
abbrev itself : Ghosts Class
itself = record { team_count = λ class. 4; term_count = entry_count; reach_of = most_touched; entry = λ class k m. entry_of 4 m class k; touches = touched_keys; watched = is_watched }

is_rule : (class : Class) → ((m : Counts) → entry_count class ≡ length (vector_of 4 m class)) → entry_count class ≤ 1600 → IsRuleOf itself 4 class class
is_rule class terms short = record { teams = refl; terms = terms; short = short; entries = λ k m. refl; reach = refl; touches = λ g. refl; watched = λ t. refl }

-- the rules of the three, where the first costs so much a unit
abbrev rules : ℕ → List (Weighted Class)
rules price = record { rule = free.class; hard = true; penalty = price } ∷ record { rule = apart.class; hard = true; penalty = 10 } ∷ record { rule = wish.class; hard = false; penalty = 5 } ∷ []

pub rules-own : AreRulesOf itself 0 demands (rules 0)
rules-own = (
  record { rule = is_rule free.class (λ m. refl) (omega arith); hard = refl; penalty = refl },
  (record { rule = is_rule apart.class (λ m. refl) (omega arith); hard = refl; penalty = refl }, (record { rule = is_rule wish.class (λ m. refl) (omega arith); hard = refl; penalty = refl }, tt)),
)

pub rules-raised : AreRulesOf itself 1 demands (rules 1)
rules-raised = (
  record { rule = is_rule free.class (λ m. refl) (omega arith); hard = refl; penalty = refl },
  (record { rule = is_rule apart.class (λ m. refl) (omega arith); hard = refl; penalty = refl }, (record { rule = is_rule wish.class (λ m. refl) (omega arith); hard = refl; penalty = refl }, tt)),
)

pub costs-raised : infeasibility_on itself four (rules 1) ≡ 62
costs-raised = refl

pub wishes-raised : objective_on itself four (rules 1) ≡ 5
wishes-raised = refl

-- a free rule isn't that of a constraint that has to cost something
pub refused-free : AreRulesOf itself 1 demands (rules 0) → ⊥
refused-free are = let none : 0 ≡ 1 = are.0.penalty in absurd (omega (arith, none))

-- two rules aren't those of three constraints
pub refused-short : AreRulesOf itself 0 demands (record { rule = free.class; hard = true; penalty = 0 } ∷ record { rule = apart.class; hard = true; penalty = 10 } ∷ []) → ⊥
refused-short are = are.1.1

-- a soft rule isn't that of a hard constraint
pub refused-soft : AreRulesOf itself 0 (record demands { constraints = apart ∷ [] }) (record { rule = apart.class; hard = false; penalty = 10 } ∷ []) → ⊥
refused-soft are = let same : false ≡ true = are.0.hard in absurd (cc)
