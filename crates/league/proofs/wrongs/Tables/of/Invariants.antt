use Rattle.std.proofs.Common.{◌*◌, take}
use Rattle.league.specs.Tables.{AreAtMost, AreTablesOf}
use Rattle.league.proofs.wrongs.Tables.of.Given as goal

abbrev pub invariant-loop-game : goal.invariant-loop-game
invariant-loop-game l = record {
  counted : AreTablesOf l.n (take l.game-index l.games) l.tables;
  bounded : AreAtMost (2 * l.game-index) l.tables;
}
