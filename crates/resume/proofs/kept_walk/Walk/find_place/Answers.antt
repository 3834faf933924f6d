use Rattle.std.proofs.Common.{rules, ◌≡◌, ◌≤◌, length, ap, subst, sym, ◌∙◌}
use Rattle.descent.proofs.WalkLemmas.{found-nothing, found-some}
use Rattle.resume.specs.Walks.{IsWalkOn}
use Rattle.resume.specs.declared.kept_walk.Walk.{Walk}
use Rattle.resume.proofs.WalkLemmas.{IsWalkOn-tried, found-round}
use Rattle.resume.proofs.kept_walk.Walk.find_place.Goals as goal

pub find_between-requires-in-None-clause-walk : goal.find_between-requires-in-None-clause-walk
find_between-requires-in-None-clause-walk g c =
    let walk = c.args.self.now in
    subst (λ (w : Walk). IsWalkOn g.R.Entries w c.find_between.new.tally) (sym c.find_between.ensures.same)
    (IsWalkOn-tried g.R.Entries walk c.args.tally.now c.find_between.new.tally c.find_between.new.self.edit walk.next
    c.requires.walk c.find_between.ensures.keeps c.find_between.ensures.edit_for c.requires.walk.next_within)

pub find_between-requires-in-None-clause-end : goal.find_between-requires-in-None-clause-end
find_between-requires-in-None-clause-end g c =
    subst (λ (w : Walk). c.args.self.now.next ≤ length w.moves.items) (sym c.find_between.ensures.same)
    c.requires.walk.next_within

pub returns-in-Some-clause-found : goal.returns-in-Some-clause-found
returns-in-Some-clause-found g c =
    found-some _ _ c.in_ok-behind.behind c.in-Some.place c.in-Some.is c.in_ok-behind.ensures.found

pub returns-in_ok-before-in-None-clause-same : goal.returns-in_ok-before-in-None-clause-same
returns-in_ok-before-in-None-clause-same g c =
    c.find_between-in-None.ensures.same
    ∙ ap (λ (w : Walk). record w { edit = c.find_between-in-None.new.self.edit }) c.find_between.ensures.same

pub returns-in_ok-before-in-None-clause-found : goal.returns-in_ok-before-in-None-clause-found
returns-in_ok-before-in-None-clause-found g c =
    let at_end : c.len-end.result ≡ length c.args.self.now.moves.items = search rules in
    found-round c.args.self.now c.find_between.new.self c.args.tally.now c.find_between.new.tally c.len-end.result
    c.find_between-in-None.new.self.edit c.in_ok-before-in-None.before c.find_between.ensures.keeps c.find_between.ensures.same at_end
    (found-nothing _ _ c.in_ok-behind.behind c.in-None.is c.in_ok-behind.ensures.found) c.in_ok-before-in-None.ensures.found
