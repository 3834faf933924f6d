use Rattle.std.proofs.Common.{refl, sym}
use Rattle.rule_core.specs.Table.{table_counts}
use Rattle.descent.specs.Score.{score_on}
use Rattle.descent.proofs.WalkLemmas.{IsDown-kept, IsDown-more, Knows-ended, Knows-found, Knows-settled, costly-down, found-nothing, found-some, lowering-at, lowering-down, settled-down}
use Rattle.descent.proofs.walk.Walk.go_down.Goals as goal

pub returns-in-Ok-None-clause-known : goal.returns-in-Ok-None-clause-known
returns-in-Ok-None-clause-known g c =
    Knows-settled c.args.tally.now.table.n c.args.self.now.board.phased (score_on g.R.Entries c.args.tally.now.weights)
    (table_counts c.find.new.tally.table) (g.W.Watch.may_stop c.args.watch.now)
    (settled-down g.R.Entries c.args.tally.now.table.n c.args.self.now.board.phased c.args.tally.now.weights
    (table_counts c.args.tally.now.table) c.down.self c.down.tally c.find.new.tally c.down.made c.down.invariant
    c.find.ensures.keeps (found-nothing _ _ c.in-Ok-None.field-0 c.in-Ok-None.field-0-is c.in-Ok-None.ensures.found))

pub returns-in-Err-clause-known : goal.returns-in-Err-clause-known
returns-in-Err-clause-known g c =
    Knows-ended c.args.tally.now.table.n c.args.self.now.board.phased (score_on g.R.Entries c.args.tally.now.weights)
    (table_counts c.find.new.tally.table) (g.W.Watch.may_stop c.args.watch.now) c.in-Err.ensures.ended
    (costly-down g.R.Entries c.args.tally.now.table.n c.args.self.now.board.phased c.args.tally.now.weights
    (table_counts c.args.tally.now.table) c.down.self c.down.tally c.find.new.tally c.down.made c.down.invariant
    c.find.ensures.keeps c.in-Err.ensures.costly)

pub make-requires-clause-legal : goal.make-requires-clause-legal
make-requires-clause-legal g c =
    (lowering-at c.find.new.tally.table.n c.down.tally.table.n c.find.new.self.board.phased c.down.self.board.phased
    (score_on g.R.Entries c.down.tally.weights) (score_on g.R.Entries c.down.tally.weights)
    (table_counts c.find.new.tally.table) (table_counts c.down.tally.table) c.in-Ok-Some.step
    (sym c.find.ensures.keeps.teams) (sym c.find.ensures.phased) refl (sym c.find.ensures.keeps.counts)
    (found-some _ _ c.in-Ok-Some.field-0 c.in-Ok-Some.step c.in-Ok-Some.field-0-is c.in-Ok-Some.ensures.found)).legal

pub down-preserved : goal.down-preserved
down-preserved g c =
    IsDown-more g.R.Entries c.args.tally.now.table.n c.args.self.now.board.phased c.args.tally.now.weights
    (table_counts c.args.tally.now.table) c.find.new.self c.make.new.self c.find.new.tally c.make.new.tally
    c.reserve.new.self c.in-Ok-Some.step c.down.made
    (IsDown-kept g.R.Entries c.args.tally.now.table.n c.args.self.now.board.phased c.args.tally.now.weights
    (table_counts c.args.tally.now.table) c.down.self c.find.new.self c.down.tally c.find.new.tally c.down.made
    c.down.invariant c.find.ensures.keeps c.find.ensures.walk c.find.ensures.phased c.find.ensures.trail)
    c.reserve.ensures.list
    (lowering-down g.R.Entries c.args.tally.now.table.n c.args.self.now.board.phased c.args.tally.now.weights
    (table_counts c.args.tally.now.table) c.down.self c.down.tally c.find.new.tally c.down.made c.in-Ok-Some.step
    c.down.invariant c.find.ensures.keeps
    (found-some _ _ c.in-Ok-Some.field-0 c.in-Ok-Some.step c.in-Ok-Some.field-0-is c.in-Ok-Some.ensures.found))
    c.make.ensures.weights c.make.ensures.teams c.make.ensures.counts c.make.ensures.walk c.make.ensures.phased
    c.make.ensures.trail

-- at the limit it is looked for once more
pub returns-in-Ok-None-find-clause-known : goal.returns-in-Ok-None-find-clause-known
returns-in-Ok-None-find-clause-known g c =
    Knows-settled c.args.tally.now.table.n c.args.self.now.board.phased (score_on g.R.Entries c.args.tally.now.weights)
    (table_counts c.find-2.new.tally.table) (g.W.Watch.may_stop c.args.watch.now)
    (settled-down g.R.Entries c.args.tally.now.table.n c.args.self.now.board.phased c.args.tally.now.weights
    (table_counts c.args.tally.now.table) c.down.self c.down.tally c.find-2.new.tally c.down.made c.down.invariant
    c.find-2.ensures.keeps
    (found-nothing _ _ c.in-Ok-None-find.field-0 c.in-Ok-None-find.field-0-is c.in-Ok-None-find.ensures.found))

pub returns-in-Ok-Some-find-clause-known : goal.returns-in-Ok-Some-find-clause-known
returns-in-Ok-Some-find-clause-known g c =
    Knows-found c.args.tally.now.table.n c.args.self.now.board.phased (score_on g.R.Entries c.args.tally.now.weights)
    (table_counts c.find-2.new.tally.table) (g.W.Watch.may_stop c.args.watch.now) c.in-Ok-Some-find._step
    (lowering-down g.R.Entries c.args.tally.now.table.n c.args.self.now.board.phased c.args.tally.now.weights
    (table_counts c.args.tally.now.table) c.down.self c.down.tally c.find-2.new.tally c.down.made
    c.in-Ok-Some-find._step c.down.invariant c.find-2.ensures.keeps
    (found-some _ _ c.in-Ok-Some-find.field-0 c.in-Ok-Some-find._step c.in-Ok-Some-find.field-0-is
    c.in-Ok-Some-find.ensures.found))

pub returns-in-Err-find-clause-known : goal.returns-in-Err-find-clause-known
returns-in-Err-find-clause-known g c =
    Knows-ended c.args.tally.now.table.n c.args.self.now.board.phased (score_on g.R.Entries c.args.tally.now.weights)
    (table_counts c.find-2.new.tally.table) (g.W.Watch.may_stop c.args.watch.now) c.in-Err-find.ensures.ended
    (costly-down g.R.Entries c.args.tally.now.table.n c.args.self.now.board.phased c.args.tally.now.weights
    (table_counts c.args.tally.now.table) c.down.self c.down.tally c.find-2.new.tally c.down.made c.down.invariant
    c.find-2.ensures.keeps c.in-Err-find.ensures.costly)
