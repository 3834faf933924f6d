use Rattle.std.proofs.Common.{◌<◌, ◌+◌, length, arith, ap, subst, sym, ◌∙◌}
use Rattle.rule_core.specs.Table.{table_counts}
use Rattle.descent.proofs.WalkLemmas.{found-nothing, found-some}
use Rattle.resume.specs.Walks.{IsWalkOn}
use Rattle.resume.specs.declared.kept_walk.Walk.{Walk}
use Rattle.resume.proofs.WalkLemmas.{IsNearest-of_all, IsWalkOn-tried, found-better, found-full, least-nearest}
use Rattle.resume.proofs.kept_walk.Walk.find.Goals as goal

pub returns-then-is_least-clause-found : goal.returns-then-is_least-clause-found
returns-then-is_least-clause-found g c =
    let least = c.is_least.ensures.0 c.if-is_least.true in
    least-nearest c.args.self.now.ground.plan (table_counts c.args.tally.now.table) least.0 least.1

pub returns-in-Some-clause-found : goal.returns-in-Some-clause-found
returns-in-Some-clause-found g c =
    found-better c.args.self.now.ground.plan (table_counts c.args.tally.now.table) c.args.self.now
    c.find_place.new.self c.in-Some.place c.take.result c.find_place.ensures.same
    (found-some _ _ c.in_ok-found.found c.in-Some.place c.in-Some.is c.in_ok-found.ensures.found) c.take.ensures.step

pub returns-in-Some-clause-edit : goal.returns-in-Some-clause-edit
returns-in-Some-clause-edit g c =
    found-full c.args.self.now.ground.plan (table_counts c.args.tally.now.table) c.args.self.now
    c.find_place.new.self c.take.new.self c.in-Some.place c.take.result c.find_place.ensures.same
    (found-some _ _ c.in_ok-found.found c.in-Some.place c.in-Some.is c.in_ok-found.ensures.found) c.take.ensures.step
    c.take.ensures.next

pub returns-in-None-clause-found : goal.returns-in-None-clause-found
returns-in-None-clause-found g c =
    IsNearest-of_all g.R.Entries c.args.self.now c.args.tally.now (table_counts c.args.tally.now.table) c.requires.walk
    (found-nothing _ _ c.in_ok-found.found c.in-None.is c.in_ok-found.ensures.found)

pub returns-in-Some-clause-walk : goal.returns-in-Some-clause-walk
returns-in-Some-clause-walk g c =
    let walk = c.args.self.now in
    let place = c.in-Some.place in
    let found = found-some _ _ c.in_ok-found.found place c.in-Some.is c.in_ok-found.ensures.found in
    let within : place < length walk.moves.items = found.within in
    subst (λ (w : Walk). IsWalkOn g.R.Entries w c.find_place.new.tally)
    (sym (c.take.ensures.next ∙ ap (λ (w : Walk). record w { next = place + 1 }) c.find_place.ensures.same))
    (IsWalkOn-tried g.R.Entries walk c.args.tally.now c.find_place.new.tally c.find_place.new.self.edit (place + 1)
    c.requires.walk c.find_place.ensures.keeps c.find_place.ensures.edit_for (omega arith))

pub returns-in-None-clause-walk : goal.returns-in-None-clause-walk
returns-in-None-clause-walk g c =
    let walk = c.args.self.now in
    subst (λ (w : Walk). IsWalkOn g.R.Entries w c.find_place.new.tally) (sym c.find_place.ensures.same)
    (IsWalkOn-tried g.R.Entries walk c.args.tally.now c.find_place.new.tally c.find_place.new.self.edit walk.next
    c.requires.walk c.find_place.ensures.keeps c.find_place.ensures.edit_for c.requires.walk.next_within)

pub returns-in-Some-clause-ground : goal.returns-in-Some-clause-ground
returns-in-Some-clause-ground g c =
    ap (λ (w : Walk). w.ground) c.take.ensures.next ∙ ap (λ (w : Walk). w.ground) c.find_place.ensures.same

pub returns-in-None-clause-ground : goal.returns-in-None-clause-ground
returns-in-None-clause-ground g c = ap (λ (w : Walk). w.ground) c.find_place.ensures.same
