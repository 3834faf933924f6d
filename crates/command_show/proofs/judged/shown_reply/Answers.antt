use Rattle.std.proofs.Common.{arith}
use Rattle.std.proofs.lemmas.List.Sorted.{All-permutation, length_permutation}
use Rattle.league.specs.Instance.{IsGame}
use Rattle.command_show.proofs.TextLemmas.{accepted-ordered}
use Rattle.command_show.proofs.judged.shown_reply.Goals as goal

pub assess-requires-clause-few : goal.assess-requires-clause-few
assess-requires-clause-few c = omega (arith, length_permutation _ _ c.put_in_order.ensures.permutation, c.requires.few)

pub assess-requires-clause-fit : goal.assess-requires-clause-fit
assess-requires-clause-fit c = All-permutation (IsGame c.args.league.now.n) _ _ c.put_in_order.ensures.permutation c.requires.fit

pub form_text-requires-clause-few : goal.form_text-requires-clause-few
form_text-requires-clause-few c = omega (arith, length_permutation _ _ c.put_in_order.ensures.permutation, c.requires.few)

pub form_text-requires-clause-fit : goal.form_text-requires-clause-fit
form_text-requires-clause-fit c = All-permutation (IsGame c.args.league.now.n) _ _ c.put_in_order.ensures.permutation c.requires.fit

pub form_text-requires-clause-assessed : goal.form_text-requires-clause-assessed
form_text-requires-clause-assessed c = record {
  structure = c.in_ok-assessed.ensures.structure;
  vectors = c.in_ok-assessed.ensures.vectors;
  infeasible = c.in_ok-assessed.ensures.infeasibility;
  cost = c.in_ok-assessed.ensures.objective;
  feasible = c.in_ok-assessed.ensures.feasible;
}

pub returns : goal.returns
returns c = record {
  feasible = c.in_ok-assessed.assessed.feasible;
  accepted = accepted-ordered c.args.league.now c.args.schedule c.put_in_order.new.self c.in_ok-assessed.assessed.feasible c.put_in_order.ensures.permutation c.in_ok-assessed.ensures.feasible;
  ordered = c.put_in_order.new.self;
  same = c.put_in_order.ensures.permutation;
  in_order = c.put_in_order.ensures.in_order;
  status = c.status_of.ensures;
  text = c.in_ok-text.ensures;
}
