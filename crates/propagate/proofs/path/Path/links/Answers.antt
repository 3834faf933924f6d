use Rattle.std.proofs.Common.{length, arith, subst}
use Rattle.propagate.specs.Links.{IsListed}
use Rattle.propagate.specs.Paths.{SeenPath}
use Rattle.propagate.proofs.LinkLemmas.{IsListed-rows}
use Rattle.propagate.proofs.path.Path.links.Goals as goal

pub returns-clause-listed : goal.returns-clause-listed
returns-clause-listed c =
    subst (λ (p : SeenPath). IsListed p.rows p.given c.args.lit c.links.result.now) c.self.view_is
    (IsListed-rows c.self.inside.counters.rows c.self.inside.added (length c.self.inside.counters.rows) c.args.lit
    c.links.result.now (omega arith) c.links.ensures.listed)
