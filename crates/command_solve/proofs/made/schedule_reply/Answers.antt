use Rattle.std.proofs.Common.{ℕ, List, ◌++◌, Some, length, ap, ◌∙◌}
use Rattle.robinx.specs.Texts as solutions
use Rattle.command_solve.specs.Solve.{descent_text}
use Rattle.command_solve.specs.Trial.{found_lines, league_lines}
use Rattle.command_solve.proofs.made.schedule_reply.Goals as goal

pub returns-clause-text : goal.returns-clause-text
returns-clause-text c =
    c.in_ok-extend_from_slice.ensures.items
    ∙ ap (λ (text : List ℕ). text ++ c.deref.result.now) c.in_ok-text.ensures
    ∙ ap
    (λ (text : List ℕ). league_lines c.args.league.now.n c.args.seed (length c.args.league.now.constraints)
    ++ found_lines c.args.objective c.in_ok-first.first (length c.args.descent.now.trail) c.args.descent.now.settled
    ++ text)
    (c.deref.ensures.value ∙ c.in_ok-solved.ensures)
    ∙ ap
    (λ (cost : ℕ). league_lines c.args.league.now.n c.args.seed (length c.args.league.now.constraints)
    ++ found_lines c.args.objective cost (length c.args.descent.now.trail) c.args.descent.now.settled
    ++ (solutions.solution_text c.args.schedule.now (Some (0, c.args.objective))
    ++ descent_text cost c.args.descent.now))
    c.in_ok-first.ensures
