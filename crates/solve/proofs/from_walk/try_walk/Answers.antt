use Rattle.std.proofs.Common.{ℕ, true, subst}
use Rattle.std.specs.List.{All}
use Rattle.league.specs.Counts.{counts_of}
use Rattle.league.specs.Instance.{IsGame}
use Rattle.league.specs.Structure.{IsRoundRobin}
use Rattle.league.proofs.RoundRobinLemmas.{any_phases}
use Rattle.solve.proofs.from_walk.try_walk.Goals as goal

pub walk_from-requires-clause-fit : goal.walk_from-requires-clause-fit
walk_from-requires-clause-fit g c =
    subst (λ (n : ℕ). All (IsGame n) c.in_ok-start.start) c.n.ensures.n c.in_ok-start.ensures.fit

pub walk_from-requires-clause-round_robin : goal.walk_from-requires-clause-round_robin
walk_from-requires-clause-round_robin g c =
    any_phases c.args.league.now.n c.args.league.now.phased (counts_of c.in_ok-start.start)
    (subst (λ (n : ℕ). IsRoundRobin n true (counts_of c.in_ok-start.start)) c.n.ensures.n
    c.in_ok-start.ensures.round_robin)
