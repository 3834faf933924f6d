use Rattle.std.proofs.Common.{ℕ, ◌++◌, Some, ap, ◌∙◌}
use Rattle.robinx.specs.Texts as solutions
use Rattle.command_solve.specs.Solve.{descent_text}
use Rattle.command_solve.proofs.solve_replies.schedule_reply.Goals as goal

pub returns-clause-text : goal.returns-clause-text
returns-clause-text c =
    c.in_ok-text.ensures
    ∙ ap
    (λ (cost : ℕ). solutions.solution_text c.args.schedule.now (Some (0, c.args.objective))
    ++ descent_text cost c.args.descent.now)
    c.in_ok-first.ensures
