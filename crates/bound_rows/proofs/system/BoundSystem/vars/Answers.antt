use Rattle.std.proofs.Common.{subst}
use Rattle.encoding.specs.Known.{AreKnown}
use Rattle.bound_rows.specs.BoundRows.{bound_rows, bound_vars}
use Rattle.bound_rows.specs.Bounded.{Bounded}
use Rattle.bound_rows.proofs.KnownLemmas.{bound_rows-known}
use Rattle.bound_rows.proofs.system.BoundSystem.vars.Goals as goal

pub returns-clause-known : goal.returns-clause-known
returns-clause-known c =
    subst (λ (b : Bounded). AreKnown (bound_vars b.league) (bound_rows b.league b.bound)) c.self.view_is
    (bound_rows-known c.self.inside.league c.self.inside.bound c.self.invariant.instance)
