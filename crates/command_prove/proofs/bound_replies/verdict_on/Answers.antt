use Rattle.std.proofs.lemmas.Result.{on_ok_weaker}
use Rattle.command_prove.proofs.bound_replies.verdict_on.Goals as goal

-- at a bound of at least 1
pub returns-clause-within : goal.returns-clause-within
returns-clause-within c = on_ok_weaker c.check_bound.result (λ keeps some. keeps) c.check_bound.ensures.within
