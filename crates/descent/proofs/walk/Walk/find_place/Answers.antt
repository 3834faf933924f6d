use Rattle.std.proofs.Common.{rules, ◌≡◌, length, ap, ◌∙◌}
use Rattle.descent.specs.declared.walk.Walk.{Walk}
use Rattle.descent.proofs.WalkLemmas.{found-nothing, found-round, found-some}
use Rattle.descent.proofs.walk.Walk.find_place.Goals as goal

pub returns-in-Some-clause-found : goal.returns-in-Some-clause-found
returns-in-Some-clause-found g c =
    found-some _ _ c.in_ok-behind.behind c.in-Some.place c.in-Some.is c.in_ok-behind.ensures.found

pub returns-in_ok-before-in-None-clause-same : goal.returns-in_ok-before-in-None-clause-same
returns-in_ok-before-in-None-clause-same g c =
    c.find_between-in-None.ensures.same
    ∙ ap (λ (w : Walk). record w { edit = c.find_between-in-None.new.self.edit }) c.find_between.ensures.same

pub returns-in_ok-before-in-None-clause-found : goal.returns-in_ok-before-in-None-clause-found
returns-in_ok-before-in-None-clause-found g c =
    let at_end : c.len-end.result ≡ length c.args.self.now.moves.items = search rules in
    found-round g.R.Entries c.args.self.now c.find_between.new.self c.args.tally.now c.find_between.new.tally
    c.len-end.result c.find_between-in-None.new.self.edit c.in_ok-before-in-None.before c.requires.walk c.find_between.ensures.keeps
    c.find_between.ensures.same at_end
    (found-nothing _ _ c.in_ok-behind.behind c.in-None.is c.in_ok-behind.ensures.found) c.in_ok-before-in-None.ensures.found
