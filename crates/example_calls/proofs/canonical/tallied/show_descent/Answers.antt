use Rattle.std.proofs.Common.{ℕ, List, true, ap, subst, sym, ◌∙◌}
use Rattle.league.specs.Counts.{Counts, counts_of}
use Rattle.league.specs.Structure.{IsRoundRobin}
use Rattle.league.specs.declared.game.Game.{Game}
use Rattle.example_calls.proofs.canonical.tallied.show_descent.Goals as goal

-- the tally's games are those of the season
pub show_descended-requires : goal.show_descended-requires
show_descended-requires c =
    subst (λ (m : Counts). IsRoundRobin c.in_ok-tally.tally.table.n true m)
    (sym (c.in_ok-tally.ensures.counts ∙ ap (λ (games : List Game). counts_of games) c.games.ensures))
    (subst (λ (n : ℕ). IsRoundRobin n true (counts_of c.args.season.now)) (sym c.in_ok-tally.ensures.n)
    c.requires.round_robin)
