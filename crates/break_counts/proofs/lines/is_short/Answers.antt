use Rattle.std.proofs.Common.{List, ℕ, subst, sym}
use Rattle.std.specs.Prelude.{slice_get, IsTrue}
use Rattle.refutation.specs.Steps.{Step, divisor_at, parts_at}
use Rattle.refutation.specs.Steps.Step.{Linear}
use Rattle.refutation.specs.declared.step.Part.{Part}
use Rattle.refutation.proofs.StepLemmas.{if_some, slice_get-linear}
use Rattle.break_counts.specs.Lines.{IsShort}
use Rattle.break_counts.proofs.lines.is_short.Goals as goal

pub returns-in-Linear : goal.returns-in-Linear
returns-in-Linear c =
    if_some (slice_get c.args.log.now c.args.k) (Linear (parts_at c.args.log.now c.args.k)
    (divisor_at c.args.log.now c.args.k)) (λ (step : Step). IsTrue c.is_short_sum.result → IsShort step)
    (slice_get-linear c.args.log.now c.args.k c.requires (sym c.in-Linear.ensures))
    (λ holds.
    subst (λ (parts : List Part). IsShort (Linear parts (divisor_at c.args.log.now c.args.k))) c.parts.ensures.parts
    (subst (λ (divisor : ℕ). IsShort (Linear c.parts.result.now divisor)) c.divisor.ensures.divisor
    (c.is_short_sum.ensures holds)))
