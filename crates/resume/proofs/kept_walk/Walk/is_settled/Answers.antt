use Rattle.std.proofs.Common.{refl, inr}
use Rattle.rule_core.specs.Table.{table_counts}
use Rattle.descent.proofs.WalkLemmas.{found-nothing, found-some}
use Rattle.resume.proofs.WalkLemmas.{open-better}
use Rattle.resume.proofs.kept_walk.Walk.is_settled.Goals as goal

pub returns-in-Ok-None-clause-settled : goal.returns-in-Ok-None-clause-settled
returns-in-Ok-None-clause-settled g c said =
    found-nothing _ _ c.in-Ok-None.field-0 c.in-Ok-None.field-0-is c.in-Ok-None.ensures.found

pub returns-in-Ok-Some-clause-open_yet : goal.returns-in-Ok-Some-clause-open_yet
returns-in-Ok-Some-clause-open_yet g c said =
    inr
    (open-better c.args.self.now.ground.plan c.args.self.now.ground.plan (table_counts c.args.tally.now.table)
    (table_counts c.args.tally.now.table) c.in-Ok-Some._step refl refl
    (found-some _ _ c.in-Ok-Some.field-0 c.in-Ok-Some._step c.in-Ok-Some.field-0-is c.in-Ok-Some.ensures.found))
