use Rattle.std.specs.Prelude.{◌≡◌}
use Rattle.std.specs.List.{AllWithin}
use Rattle.rule_core.specs.Table.{table_counts}
use Rattle.descent.specs.Score.{score_on}
use Rattle.descent.specs.Settled.{IsLowering}
use Rattle.descent.specs.Walks.{KeepsGames}
use Rattle.descent.proofs.walk.Walk.find_between.Given as goal

-- none of the moves so far lowers the score, and only the edit at hand changes
abbrev pub invariant-loop-place : goal.invariant-loop-place
invariant-loop-place g l = record {
  edit_for : l.self.edit.n ≡ l.initial.self.edit.n;
  same : l.self ≡ record l.initial.self { edit = l.self.edit };
  keeps : KeepsGames l.initial.tally l.tally;
  none : AllWithin (λ step. IsLowering l.initial.tally.table.n l.initial.self.board.phased (score_on g.R.Entries l.initial.tally.weights) (table_counts l.initial.tally.table) step → ⊥) l.initial.self.moves.items l.start l.place;
}
