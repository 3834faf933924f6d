use Rattle.std.proofs.Common.{inl, refl}
use Rattle.solve.proofs.KeptLemmas.{some-solution}
use Rattle.command_solve.proofs.TrialLemmas.{trial-by}
use Rattle.command_solve.proofs.made.solve_made.Goals as goal

pub found_reply-requires-clause-solution : goal.found_reply-requires-clause-solution
found_reply-requires-clause-solution g c =
    some-solution c.args.league.now c.args.budgets (g.W.Watch.may_stop c.args.watch.now) c.in-Ok.solved
    c.in-Ok.ensures.solution

pub returns-in_ok-found_reply-in-Ok : goal.returns-in_ok-found_reply-in-Ok
returns-in_ok-found_reply-in-Ok g c = inl (
  c.in-Ok.ensures.limit.within refl,
  trial-by c.args.seed c.args.league.now c.args.budgets (g.W.Watch.may_stop c.args.watch.now) c.in-Ok.solved
      c.in_ok-found_reply-in-Ok.field-0 c.in_ok-found_reply-in-Ok.ensures.instance.teams c.in-Ok.ensures.solution
      c.in_ok-found_reply-in-Ok.ensures.written,
)
