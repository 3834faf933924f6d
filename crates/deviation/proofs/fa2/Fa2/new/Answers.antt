use Rattle.std.proofs.Common.{List, ℕ, ap, refl, sym, ◌∙◌}
use Rattle.league.specs.declared.class.Class.TheVariants.{Fa2}
use Rattle.rule_core.proofs.ReadyLemmas.{IsRuleOf-made}
use Rattle.deviation.proofs.fa2.Fa2.new.Goals as goal

pub returns : goal.returns
returns c = record {
  rule = IsRuleOf-made _ c.args.n (Fa2 c.in_ok-of_teams.field-0 c.in-Fa2.intp c.in_ok-from_slice.field-0.items) c.args.constraint.now.class _
      (ap (λ (teams : List ℕ). Fa2 teams c.in-Fa2.intp c.in_ok-from_slice.field-0.items) c.in_ok-of_teams.ensures
      ∙ ap (λ (slots : List ℕ). Fa2 c.in-Fa2.teams c.in-Fa2.intp slots) (c.in_ok-from_slice.ensures.items ∙ c.numbers.ensures.numbers)
      ∙ sym c.in-Fa2.is)
      c.requires.at_most c.requires.fits refl refl refl (λ k m. refl) (λ g. refl) (λ t. refl);
}
