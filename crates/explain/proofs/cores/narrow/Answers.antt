use Rattle.std.proofs.Common.{Option, arith, subst}
use Rattle.std.specs.Prelude.{IfSome}
use Rattle.explain.specs.Cores.{IsCore}
use Rattle.explain.specs.declared.cores.Core.{Core}
use Rattle.explain.proofs.StandingLemmas.{core-explained, core-shorter}
use Rattle.explain.proofs.cores.narrow.Goals as goal

pub cores-smaller : goal.cores-smaller
cores-smaller g c =
    core-shorter c.args.league.now c.cores.least.members.items c.in_ok-least.least.members.items c.in-Some.core
    (subst (λ (o : Option Core). IfSome o (IsCore c.args.league.now c.cores.least.members.items)) c.in-Some.is
    c.in_ok-core.ensures) c.in_ok-least.ensures.members

pub cores-preserved : goal.cores-preserved
cores-preserved g c =
    let found : IsCore c.args.league.now c.cores.least.members.items c.in-Some.core =
    subst (λ (o : Option Core). IfSome o (IsCore c.args.league.now c.cores.least.members.items)) c.in-Some.is
    c.in_ok-core.ensures in
    let shorter = core-shorter c.args.league.now c.cores.least.members.items c.in_ok-least.least.members.items
    c.in-Some.core found c.in_ok-least.ensures.members in
    record {
      explained = core-explained c.args.league.now c.args.conflicts (g.W.Watch.may_stop c.args.watch.now) c.cores.least.members.items
          c.in_ok-least.least.members.items c.cores.least.log c.in_ok-least.least.log c.in-Some.core
          c.cores.invariant.explained found c.in_ok-least.ensures.members c.in_ok-least.ensures.log;
      no_longer = omega (arith, shorter, c.cores.invariant.no_longer);
    }
