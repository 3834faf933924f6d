use Rattle.std.proofs.Common.{ℕ, true, ap, subst, sym, ◌∙◌}
use Rattle.league.specs.Counts.{Counts, counts_of}
use Rattle.league.specs.Structure.{IsRoundRobin}
use Rattle.league.proofs.RoundRobinLemmas.{any_phases}
use Rattle.example_calls.proofs.canonical.show.Goals as goal

-- the season is of the league's number of teams
pub new-requires-clause-round_robin : goal.new-requires-clause-round_robin
new-requires-clause-round_robin c =
    subst (λ (n : ℕ). IsRoundRobin n c.phased.result (counts_of c.in_ok-season.season))
    (c.n.ensures.n ∙ sym c.n-2.ensures.n)
    (any_phases c.n.result c.phased.result (counts_of c.in_ok-season.season) c.in_ok-season.ensures.round_robin)

pub show_descent-requires-clause-round_robin : goal.show_descent-requires-clause-round_robin
show_descent-requires-clause-round_robin c =
    subst (λ (n : ℕ). IsRoundRobin n true (counts_of c.in_ok-season.season)) c.n.ensures.n
    c.in_ok-season.ensures.round_robin

-- the board has the games of the season
pub show_moves-requires-clause-same : goal.show_moves-requires-clause-same
show_moves-requires-clause-same c i j s = ap (λ (m : Counts). m i j s) (sym c.in_ok-board.ensures.counts)
