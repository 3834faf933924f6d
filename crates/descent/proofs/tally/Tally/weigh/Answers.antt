use Rattle.std.proofs.Common.{List, ap, arith}
use Rattle.league.specs.Counts.{counts_of}
use Rattle.league.specs.declared.game.Game.{Game}
use Rattle.rule_core.specs.Table.{table_counts}
use Rattle.moves.specs.Round.{edited}
use Rattle.descent.proofs.UndoLemmas.{edited-there}
use Rattle.descent.proofs.tally.Tally.weigh.Goals as goal

pub returns-clause-infeasibility : goal.returns-clause-infeasibility
returns-clause-infeasibility g c =
    (c.weigh_games.ensures.weighed (edited (table_counts c.args.self.now.table) c.args.edit.now)
    (λ i j s. omega (
      arith,
      edited-there (table_counts c.args.self.now.table) c.args.edit.now c.requires.there i j s,
      ap (λ (l : List Game). counts_of l i j s) c.out.ensures.games,
      ap (λ (l : List Game). counts_of l i j s) c.into_games.ensures,
    ))).infeasibility (omega (arith, c.weigh_games.type_inv.1.1.0.1))

pub returns-clause-objective : goal.returns-clause-objective
returns-clause-objective g c =
    (c.weigh_games.ensures.weighed (edited (table_counts c.args.self.now.table) c.args.edit.now)
    (λ i j s. omega (
      arith,
      edited-there (table_counts c.args.self.now.table) c.args.edit.now c.requires.there i j s,
      ap (λ (l : List Game). counts_of l i j s) c.out.ensures.games,
      ap (λ (l : List Game). counts_of l i j s) c.into_games.ensures,
    ))).objective (omega (arith, c.weigh_games.type_inv.1.1.0.1)) (omega (arith, c.weigh_games.type_inv.1.1.1.0.1))
