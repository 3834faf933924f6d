use Rattle.std.proofs.Common.{◌<◌, ◌+◌, length, arith, ap, subst, sym, ◌∙◌}
use Rattle.rule_core.specs.Table.{table_counts}
use Rattle.descent.specs.Score.{score_on}
use Rattle.descent.specs.Walks.{IsWalkOn}
use Rattle.descent.specs.declared.walk.Walk.{Walk}
use Rattle.descent.proofs.SettledLemmas.{IsSettled-of_all}
use Rattle.descent.proofs.WalkLemmas.{IsWalkOn-tried, found-edit, found-lowers, found-nothing, found-some}
use Rattle.descent.proofs.walk.Walk.find.Goals as goal

pub returns-in-Some-clause-found : goal.returns-in-Some-clause-found
returns-in-Some-clause-found g c =
    found-lowers c.args.tally.now.table.n c.args.self.now.board.phased (score_on g.R.Entries c.args.tally.now.weights)
    (table_counts c.args.tally.now.table) c.args.self.now c.find_place.new.self c.in-Some.place c.take.result
    c.find_place.ensures.same (found-some _ _ c.in_ok-found.found c.in-Some.place c.in-Some.is c.in_ok-found.ensures.found)
    c.take.ensures.step

pub returns-in-Some-clause-edit : goal.returns-in-Some-clause-edit
returns-in-Some-clause-edit g c =
    found-edit c.args.tally.now.table.n c.args.self.now.board.phased (score_on g.R.Entries c.args.tally.now.weights)
    (table_counts c.args.tally.now.table) c.args.self.now c.find_place.new.self c.take.new.self c.in-Some.place
    c.take.result c.find_place.ensures.same
    (found-some _ _ c.in_ok-found.found c.in-Some.place c.in-Some.is c.in_ok-found.ensures.found) c.take.ensures.step
    c.take.ensures.next

pub returns-in-None-clause-found : goal.returns-in-None-clause-found
returns-in-None-clause-found g c =
    IsSettled-of_all c.args.tally.now.table.n c.args.self.now.board.phased
    (score_on g.R.Entries c.args.tally.now.weights) (table_counts c.args.tally.now.table) c.args.self.now.moves.items
    c.requires.walk.listed (found-nothing _ _ c.in_ok-found.found c.in-None.is c.in_ok-found.ensures.found)

pub returns-in-Some-clause-walk : goal.returns-in-Some-clause-walk
returns-in-Some-clause-walk g c =
    let walk = c.args.self.now in
    let n = c.args.tally.now.table.n in
    let m = table_counts c.args.tally.now.table in
    let place = c.in-Some.place in
    let found = found-some _ _ c.in_ok-found.found place c.in-Some.is c.in_ok-found.ensures.found in
    let within : place < length walk.moves.items = found.within in
    subst (λ (w : Walk). IsWalkOn n m w)
    (sym (c.take.ensures.next ∙ ap (λ (w : Walk). record w { next = place + 1 }) c.find_place.ensures.same))
    (IsWalkOn-tried n m walk c.find_place.new.self.edit (place + 1) c.requires.walk c.find_place.ensures.edit_for
    (omega arith))

pub returns-in-None-clause-walk : goal.returns-in-None-clause-walk
returns-in-None-clause-walk g c =
    let walk = c.args.self.now in
    let n = c.args.tally.now.table.n in
    let m = table_counts c.args.tally.now.table in
    subst (λ (w : Walk). IsWalkOn n m w) (sym c.find_place.ensures.same)
    (IsWalkOn-tried n m walk c.find_place.new.self.edit walk.next c.requires.walk c.find_place.ensures.edit_for
    c.requires.walk.next_within)
