use Rattle.std.proofs.Common.{take}
use Rattle.std.specs.List.{AllZip}
use Rattle.deviation.specs.contracts.any_rule.AnyRuleEntries.TheImpl.{ghosts}
use Rattle.descent.specs.League.{IsWeightedOf}
use Rattle.descent.proofs.league_rules.weighted_rules.Given as goal

-- the rules of the constraints so far
abbrev pub invariant-loop-constraint : goal.invariant-loop-constraint
invariant-loop-constraint l = AllZip (IsWeightedOf ghosts l.n l.least) (take l.constraint-index l.constraint-items) l.rules.items
