use Rattle.std.proofs.Common.{List, ap, ◌∙◌}
use Rattle.rule_core.specs.Table.{table_counts}
use Rattle.league.specs.Counts.{Counts}
use Rattle.league.specs.declared.game.Game.{Game}
use Rattle.moves.specs.Round.{edited}
use Rattle.descent.specs.Tallies.{IsWithin}
use Rattle.descent.proofs.LeagueLemmas.{objective-league}
use Rattle.resume.specs.Walks.{LeadsNearer, times_in}
use Rattle.resume.proofs.BetterLemmas.{none-leads, some-leads, within-leads}
use Rattle.resume.proofs.better.is_nearer.Goals as goal

pub returns-in-None-clause-nearer : goal.returns-in-None-clause-nearer
returns-in-None-clause-nearer g c =
    let plan = c.args.ground.now.plan in
    let old : Counts = table_counts c.args.ground.now.old in
    let m : Counts = table_counts c.args.tally.now.table in
    none-leads plan m c.args.edit.now c.times_in-out.result c.times_in-into.result c.objective.result
    (c.times_in-out.ensures ∙ ap (λ (games : List Game). times_in old games) c.out.ensures.games
    ∙ ap (λ (k : Counts). times_in k c.args.edit.now.out) c.requires.ground.old)
    (c.times_in-into.ensures ∙ ap (λ (games : List Game). times_in old games) c.into_games.ensures
    ∙ ap (λ (k : Counts). times_in k c.args.edit.now.into) c.requires.ground.old)
    (c.objective.ensures ∙ objective-league g.R.Entries 1 plan.league.now c.args.tally.now.weights m c.requires.ground.rules)
    c.in-None.ensures

pub returns-in-Some-clause-nearer : goal.returns-in-Some-clause-nearer
returns-in-Some-clause-nearer g c =
    let plan = c.args.ground.now.plan in
    let old : Counts = table_counts c.args.ground.now.old in
    let m : Counts = table_counts c.args.tally.now.table in
    some-leads c.weigh_within.result c.is_some.result
    (IsWithin g.R.Entries c.in-Some.most (edited m c.args.edit.now) c.args.tally.now.weights)
    (LeadsNearer plan m c.args.edit.now) c.is_some.ensures c.weigh_within.ensures.within
    (within-leads g.R.Entries plan c.args.tally.now.weights m c.args.edit.now c.in-Some.most c.times_in-out.result
    c.times_in-into.result c.objective.result c.requires.ground.rules
    (c.times_in-out.ensures ∙ ap (λ (games : List Game). times_in old games) c.out.ensures.games
    ∙ ap (λ (k : Counts). times_in k c.args.edit.now.out) c.requires.ground.old)
    (c.times_in-into.ensures ∙ ap (λ (games : List Game). times_in old games) c.into_games.ensures
    ∙ ap (λ (k : Counts). times_in k c.args.edit.now.into) c.requires.ground.old)
    (c.objective.ensures ∙ objective-league g.R.Entries 1 plan.league.now c.args.tally.now.weights m c.requires.ground.rules)
    c.in-Some.ensures.0 c.in-Some.ensures.1)
