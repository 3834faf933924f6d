use Rattle.std.proofs.Common.{ap, sym, ◌∙◌}
use Rattle.solve.specs.Chosen as chosen
use Rattle.solve.specs.declared.tries.Tried.{Tried}
use Rattle.solve.proofs.tries.solved_by.Goals as goal

pub returns-in-Found-clause-answer : goal.returns-in-Found-clause-answer
returns-in-Found-clause-answer c =
    c.schedule_found.ensures.found ∙ ap (λ (t : Tried). chosen.solved_by t c.args.patterns) (sym c.in-Found.is)
