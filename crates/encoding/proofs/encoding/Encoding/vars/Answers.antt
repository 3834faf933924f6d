use Rattle.std.proofs.Common.{subst}
use Rattle.league.specs.Instance.{Instance, IsInstance}
use Rattle.encoding.proofs.KnownLemmas.{rows_of-known}
use Rattle.encoding.proofs.encoding.Encoding.vars.Goals as goal

pub returns-clause-known : goal.returns-clause-known
returns-clause-known c = rows_of-known c.args.self.now
    (subst (λ (league : Instance). IsInstance league) c.self.view_is c.n-n.ensures.instance)
