use Rattle.std.proofs.Common.{◌≡◌, true, false, refl, sym}
use Rattle.std.specs.Prelude.{slice_get}
use Rattle.refutation.specs.Steps.{Step, clause_at, divisor_at, hints_at, is_linear, parts_at}
use Rattle.refutation.specs.Steps.Step.{Clause, Linear}
use Rattle.refutation.proofs.StepLemmas.{if_some, slice_get-clause, slice_get-linear}
use Rattle.refutation.proofs.text.is_linear.Goals as goal

pub returns-in-Clause : goal.returns-in-Clause
returns-in-Clause c =
    if_some (slice_get c.args.log.now c.args.k) (Clause (clause_at c.args.log.now c.args.k)
    (hints_at c.args.log.now c.args.k)) (λ (step : Step). false ≡ is_linear step)
    (slice_get-clause c.args.log.now c.args.k c.requires (sym c.in-Clause.ensures)) refl

pub returns-in-Linear : goal.returns-in-Linear
returns-in-Linear c =
    if_some (slice_get c.args.log.now c.args.k) (Linear (parts_at c.args.log.now c.args.k)
    (divisor_at c.args.log.now c.args.k)) (λ (step : Step). true ≡ is_linear step)
    (slice_get-linear c.args.log.now c.args.k c.requires (sym c.in-Linear.ensures)) refl
