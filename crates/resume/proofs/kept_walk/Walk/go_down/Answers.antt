use Rattle.std.proofs.Common.{◌≡◌, ap, inl, sym, ◌∙◌}
use Rattle.rule_core.specs.Table.{table_counts}
use Rattle.league.specs.Counts.{Counts}
use Rattle.moves.specs.Moves.{moved}
use Rattle.descent.proofs.WalkLemmas.{found-nothing, found-some}
use Rattle.resume.specs.declared.ground.Ground.{Ground}
use Rattle.resume.specs.declared.old_plan.OldPlan.{OldPlan}
use Rattle.resume.proofs.WalkLemmas.{IsDown-kept, IsDown-more, IsWalkOn-made, better-at, nearest-at, open-at}
use Rattle.resume.proofs.kept_walk.Walk.go_down.Goals as goal

pub find-requires : goal.find-requires
find-requires g c = record {
  walk = IsWalkOn-made g.R.Entries c.down.self c.down.tally c.down.made c.down.invariant.walks;
}

pub returns-in-Err-clause-down : goal.returns-in-Err-clause-down
returns-in-Err-clause-down g c =
    IsDown-kept g.R.Entries c.args.self.now.ground.plan (table_counts c.args.tally.now.table) c.down.self
    c.find.new.self c.down.tally c.find.new.tally c.down.invariant c.find.ensures.keeps c.find.ensures.walk
    c.find.ensures.ground

pub returns-in-Err-clause-open_yet : goal.returns-in-Err-clause-open_yet
returns-in-Err-clause-open_yet g c said = inl c.in-Err.ensures.ended

pub returns-in-Ok-None-clause-down : goal.returns-in-Ok-None-clause-down
returns-in-Ok-None-clause-down g c =
    IsDown-kept g.R.Entries c.args.self.now.ground.plan (table_counts c.args.tally.now.table) c.down.self
    c.find.new.self c.down.tally c.find.new.tally c.down.invariant c.find.ensures.keeps c.find.ensures.walk
    c.find.ensures.ground

pub returns-in-Ok-None-clause-settled : goal.returns-in-Ok-None-clause-settled
returns-in-Ok-None-clause-settled g c said =
    nearest-at c.args.self.now.ground.plan c.down.self.ground.plan (table_counts c.find.new.tally.table)
    (table_counts c.down.tally.table) c.down.invariant.same (sym c.find.ensures.keeps.counts)
    (found-nothing _ _ c.in-Ok-None.field-0 c.in-Ok-None.field-0-is c.in-Ok-None.ensures.found)

pub down-preserved : goal.down-preserved
down-preserved g c =
    let plan = c.args.self.now.ground.plan in
    let first : Counts = table_counts c.args.tally.now.table in
    let before : Counts = table_counts c.find.new.tally.table in
    let same : c.find.new.self.ground.plan ≡ plan =
    ap (λ (ground : Ground). ground.plan) c.find.ensures.ground ∙ c.down.invariant.same in
    IsDown-more g.R.Entries plan first c.find.new.self c.make.new.self c.find.new.tally c.make.new.tally
    c.in-Ok-Some.step
    (IsDown-kept g.R.Entries plan first c.down.self c.find.new.self c.down.tally c.find.new.tally c.down.invariant
    c.find.ensures.keeps c.find.ensures.walk c.find.ensures.ground)
    (better-at plan c.down.self.ground.plan before (table_counts c.down.tally.table) c.in-Ok-Some.step
    c.down.invariant.same (sym c.find.ensures.keeps.counts)
    (found-some _ _ c.in-Ok-Some.field-0 c.in-Ok-Some.step c.in-Ok-Some.field-0-is c.in-Ok-Some.ensures.found))
    (c.make.ensures.counts ∙ ap (λ (p : OldPlan). moved p.league.now.n before c.in-Ok-Some.step) same)
    c.make.ensures.walk c.make.ensures.plan

-- at the limit it is looked for once more
pub is_settled-requires : goal.is_settled-requires
is_settled-requires g c = record {
  walk = IsWalkOn-made g.R.Entries c.down.self c.down.tally 10000 c.down.invariant.walks;
}

pub returns-clause-down : goal.returns-clause-down
returns-clause-down g c =
    IsDown-kept g.R.Entries c.args.self.now.ground.plan (table_counts c.args.tally.now.table) c.down.self
    c.is_settled.new.self c.down.tally c.is_settled.new.tally c.down.invariant c.is_settled.ensures.keeps
    c.is_settled.ensures.walk c.is_settled.ensures.ground

pub returns-clause-settled : goal.returns-clause-settled
returns-clause-settled g c said =
    nearest-at c.args.self.now.ground.plan c.down.self.ground.plan (table_counts c.is_settled.new.tally.table)
    (table_counts c.down.tally.table) c.down.invariant.same (sym c.is_settled.ensures.keeps.counts)
    (c.is_settled.ensures.settled said)

pub returns-clause-open_yet : goal.returns-clause-open_yet
returns-clause-open_yet g c said =
    open-at c.args.self.now.ground.plan c.down.self.ground.plan _ (table_counts c.is_settled.new.tally.table)
    (table_counts c.down.tally.table) c.down.invariant.same (sym c.is_settled.ensures.keeps.counts)
    (c.is_settled.ensures.open_yet said)
