use Rattle.std.proofs.Common.{ℕ, Bool, subst, sym}
use Rattle.league.specs.Counts.{counts_of}
use Rattle.league.specs.Structure.{IsRoundRobin}
use Rattle.resume.proofs.kept_walk.Walk.new.Goals as goal

pub new-requires-clause-round_robin : goal.new-requires-clause-round_robin
new-requires-clause-round_robin c =
    subst (λ (b : Bool). IsRoundRobin c.n-n.result b (counts_of c.args.start.now)) (sym c.phased.ensures)
    (subst (λ (n : ℕ). IsRoundRobin n c.args.plan.league.now.phased (counts_of c.args.start.now)) (sym c.n-n.ensures.n)
    c.requires.round_robin)
