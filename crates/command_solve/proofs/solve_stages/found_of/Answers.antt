use Rattle.std.proofs.Common.{inl, refl}
use Rattle.solve.proofs.KeptLemmas.{some-solution}
use Rattle.command_solve.proofs.SolveFound.{found-by}
use Rattle.command_solve.proofs.solve_stages.found_of.Goals as goal

pub found_reply-requires : goal.found_reply-requires
found_reply-requires g c = record {
  solution = some-solution c.args.league.now c.args.budgets (g.W.Watch.may_stop c.args.watch.now) c.in-Ok.solved
      c.in-Ok.ensures.solution;
}

pub returns-in_ok-found_reply-in-Ok : goal.returns-in_ok-found_reply-in-Ok
returns-in_ok-found_reply-in-Ok g c = inl (
  c.in-Ok.ensures.limit.within refl,
  found-by c.args.league.now c.args.budgets (g.W.Watch.may_stop c.args.watch.now) c.in-Ok.solved
      c.in_ok-found_reply-in-Ok.field-0 c.in_ok-found_reply-in-Ok.ensures.instance.teams c.in-Ok.ensures.solution
      c.in-Ok.ensures.circle c.in-Ok.ensures.short c.in-Ok.ensures.crowded c.in-Ok.ensures.few
      c.in_ok-found_reply-in-Ok.ensures.written,
)
