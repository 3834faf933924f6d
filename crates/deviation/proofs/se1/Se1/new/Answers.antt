use Rattle.std.proofs.Common.{List, ℕ, ap, refl, sym, ◌∙◌}
use Rattle.league.specs.declared.class.Class.TheVariants.{Se1}
use Rattle.rule_core.proofs.ReadyLemmas.{IsRuleOf-made}
use Rattle.deviation.proofs.se1.Se1.new.Goals as goal

pub returns : goal.returns
returns c = record {
  rule = IsRuleOf-made _ c.args.n (Se1 c.in_ok-of_teams.field-0 c.in-Se1.min) c.args.constraint.now.class _
      (ap (λ (teams : List ℕ). Se1 teams c.in-Se1.min) c.in_ok-of_teams.ensures ∙ sym c.in-Se1.is)
      c.requires.at_most c.requires.fits refl refl refl (λ k m. refl) (λ g. refl) (λ t. refl);
}
