use Rattle.std.specs.Prelude.{◌≡◌}
use Rattle.std.specs.List.{AllWithin}
use Rattle.rule_core.specs.Table.{table_counts}
use Rattle.descent.specs.Walks.{KeepsGames}
use Rattle.resume.specs.Walks.{IsBetter}
use Rattle.resume.proofs.kept_walk.Walk.find_between.Given as goal

-- none of the moves so far betters the season, and only the edit at hand changes
abbrev pub invariant-loop-place : goal.invariant-loop-place
invariant-loop-place g l = record {
  edit_for : l.self.edit.n ≡ l.initial.self.edit.n;
  same : l.self ≡ record l.initial.self { edit = l.self.edit };
  keeps : KeepsGames l.initial.tally l.tally;
  none : AllWithin (λ step. IsBetter l.initial.self.ground.plan (table_counts l.initial.tally.table) step → ⊥) l.initial.self.moves.items l.start l.place;
}
