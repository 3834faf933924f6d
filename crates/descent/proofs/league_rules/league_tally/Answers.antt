use Rattle.std.proofs.Common.{List, subst, sym}
use Rattle.std.proofs.lemmas.Result.{IfOk-weaker}
use Rattle.deviation.specs.contracts.any_rule.AnyRuleEntries.TheImpl.{ghosts}
use Rattle.deviation.specs.declared.any_rule.AnyRule.{AnyRule}
use Rattle.descent.specs.League.{AreRulesOf}
use Rattle.descent.specs.declared.weighted.Weighted.{Weighted}
use Rattle.descent.proofs.league_rules.league_tally.Goals as goal

pub returns-clause-rules : goal.returns-clause-rules
returns-clause-rules g c = IfOk-weaker c.new.result _ _ (λ tally is. subst (λ (l : List (Weighted AnyRule)). AreRulesOf ghosts c.args.least c.args.league.now l) (sym is) c.in_ok-rules.ensures.rules) c.new.ensures.weights
