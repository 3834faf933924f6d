use Rattle.std.proofs.Common.{◌≤◌, List, ℕ, sym, subst}
use Rattle.std.specs.Prelude.{slice_get, IsTrue, ◌↔◌}
use Rattle.std.specs.List.{All}
use Rattle.refutation.specs.Steps.{NamesRows, Step, clause_at, divisor_at, hints_at, parts_at}
use Rattle.refutation.specs.Steps.Step.{Clause, Linear}
use Rattle.refutation.specs.declared.step.Part.{Part}
use Rattle.refutation.proofs.StepLemmas.{if_some, slice_get-clause, slice_get-linear}
use Rattle.refutation.proofs.log.Log.step_names_rows.Goals as goal

pub returns-in-Clause : goal.returns-in-Clause
returns-in-Clause c =
    if_some (slice_get c.args.self.now c.args.k) (Clause (clause_at c.args.self.now c.args.k)
    (hints_at c.args.self.now c.args.k)) (λ (step : Step). IsTrue c.name_rows.result ↔ NamesRows step)
    (slice_get-clause c.args.self.now c.args.k c.requires (sym c.in-Clause.ensures))
    (subst (λ (hints : List ℕ). IsTrue c.name_rows.result ↔ All (λ hint. 1 ≤ hint) hints) c.hints.ensures
    c.name_rows.ensures)

pub returns-in-Linear : goal.returns-in-Linear
returns-in-Linear c =
    if_some (slice_get c.args.self.now c.args.k) (Linear (parts_at c.args.self.now c.args.k)
    (divisor_at c.args.self.now c.args.k)) (λ (step : Step). IsTrue c.parts_name_rows.result ↔ NamesRows step)
    (slice_get-linear c.args.self.now c.args.k c.requires (sym c.in-Linear.ensures))
    (subst (λ (parts : List Part). IsTrue c.parts_name_rows.result ↔ All (λ part. 1 ≤ part.row) parts)
    c.parts.ensures.parts c.parts_name_rows.ensures)
