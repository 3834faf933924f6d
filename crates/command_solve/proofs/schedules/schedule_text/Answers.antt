use Rattle.std.proofs.Common.{ℕ, ◌++◌, List, ap, ◌∙◌}
use Rattle.command_solve.specs.Solve.{descent_text}
use Rattle.command_solve.proofs.schedules.schedule_text.Goals as goal

pub returns : goal.returns
returns c =
    c.in_ok-add_descent.ensures
    ∙ ap (λ (text : List ℕ). text ++ descent_text c.args.first c.args.descent.now) c.in_ok-text.ensures.text
