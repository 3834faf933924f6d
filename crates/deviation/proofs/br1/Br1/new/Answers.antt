use Rattle.std.proofs.Common.{List, ℕ, ap, refl, sym, ◌∙◌}
use Rattle.league.specs.declared.class.Class.TheVariants.{Br1}
use Rattle.rule_core.proofs.ReadyLemmas.{IsRuleOf-made}
use Rattle.deviation.proofs.br1.Br1.new.Goals as goal

pub returns : goal.returns
returns c =
    let scope = c.in_ok-of.field-0 in
    record {
      rule = IsRuleOf-made _ c.args.n (Br1 scope.teams c.in-Br1.intp c.in-Br1.side scope.slots) c.args.constraint.now.class _
          (ap (λ (teams : List ℕ). Br1 teams c.in-Br1.intp c.in-Br1.side scope.slots) c.in_ok-of.ensures.teams
          ∙ ap (λ (slots : List ℕ). Br1 c.in-Br1.teams c.in-Br1.intp c.in-Br1.side slots) c.in_ok-of.ensures.slots
          ∙ sym c.in-Br1.is)
          c.requires.at_most c.requires.fits refl refl refl (λ k m. refl) (λ g. refl) (λ t. refl);
    }
