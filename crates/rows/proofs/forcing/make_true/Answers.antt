use Rattle.std.proofs.Common.{arith}
use Rattle.rows.proofs.TrailLemmas.{IsListed-push}
use Rattle.rows.proofs.forcing.make_true.Goals as goal

pub returns-clause-listed : goal.returns-clause-listed
returns-clause-listed c =
    rw (c.set.ensures, c.in_ok-push.ensures.items, c.var.ensures.var)
    (IsListed-push _ _ _ _ (omega arith) c.requires.known c.requires.listed)
