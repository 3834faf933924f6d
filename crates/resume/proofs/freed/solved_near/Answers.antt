use Rattle.solve.proofs.KeptLemmas.{some-solution}
use Rattle.resume.proofs.freed.solved_near.Goals as goal

pub returns-in-Ok : goal.returns-in-Ok
returns-in-Ok g c =
    c.schedule_of.ensures c.args.league.now
    (some-solution c.args.league.now c.args.budgets _ c.in-Ok.solved c.in-Ok.ensures.solution)
