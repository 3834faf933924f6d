use Rattle.std.proofs.Common.{ℕ, ◌*◌, ◌≤◌, subst, sym}
use Rattle.rule_core.specs.Table.{table_counts}
use Rattle.moves.specs.Round.{round_counts}
use Rattle.walk.proofs.WalkLemmas.{counted-on}
use Rattle.walk.proofs.walker.Walker.lower_soft.Goals as goal

pub lower_from-requires-clause-walker : goal.lower_from-requires-clause-walker
lower_from-requires-clause-walker g c =
    let n : ℕ = c.args.league.now.n in
    record {
      standing = c.requires.walker.standing;
      room = subst (λ (room : ℕ). n * n ≤ room) (sym c.copy_games.ensures.room) c.requires.walker.room;
      best = c.requires.walker.best;
    }

pub lower_from-requires-clause-counts : goal.lower_from-requires-clause-counts
lower_from-requires-clause-counts g c =
    counted-on (table_counts c.in_ok-tally.tally.table) (round_counts c.args.self.now.standing.board) c.deref.result.now
    c.copy_games.new.games.items c.in_ok-tally.ensures.counts c.deref.ensures.value c.copy_games.ensures.copy.counts
