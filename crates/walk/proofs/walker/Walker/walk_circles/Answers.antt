use Rattle.std.proofs.Common.{ℕ, true, subst}
use Rattle.std.specs.List.{All}
use Rattle.league.specs.Counts.{counts_of}
use Rattle.league.specs.Instance.{IsGame}
use Rattle.league.specs.Structure.{IsRoundRobin}
use Rattle.league.proofs.RoundRobinLemmas.{any_phases}
use Rattle.walk.specs.Standing.{IsFurther}
use Rattle.walk.proofs.WalkLemmas.{IsFurther-after, IsFurther-both, IsFurther-same}
use Rattle.walk.proofs.walker.Walker.walk_circles.Goals as goal

pub walk_while_near-requires-clause-fit : goal.walk_while_near-requires-clause-fit
walk_while_near-requires-clause-fit g c =
    subst (λ (n : ℕ). All (IsGame n) c.in_ok-circle.circle) c.n.ensures.n c.in_ok-circle.ensures.fit

pub walk_while_near-requires-clause-round_robin : goal.walk_while_near-requires-clause-round_robin
walk_while_near-requires-clause-round_robin g c =
    any_phases c.args.league.now.n c.args.league.now.phased (counts_of c.in_ok-circle.circle)
    (subst (λ (n : ℕ). IsRoundRobin n true (counts_of c.in_ok-circle.circle)) c.n.ensures.n
    c.in_ok-circle.ensures.round_robin)

pub returns : goal.returns
returns g c =
    let league = c.args.league.now in
    let near = c.walk_while_near.new.self in
    let stands = c.stand_on_best.new.self in
    let stays : IsFurther league near.best.score near.left stands =
    IsFurther-after league near.best stands.best near.left stands.left stands c.in_ok-stand_on_best.ensures.best
    c.in_ok-stand_on_best.ensures.left (IsFurther-same league stands c.in_ok-stand_on_best.ensures.walker) in
    IsFurther-both league c.args.self.now.best.score c.args.self.now.left near stands c.in_ok-walk_while_near.ensures
    stays
