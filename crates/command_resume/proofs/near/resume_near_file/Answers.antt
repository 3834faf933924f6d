use Rattle.std.proofs.Common.{ℕ, rules, subst}
use Rattle.robin_io.specs.Outside.{Store, store_between}
use Rattle.robin_watch.specs.Limits.{IsKeptTo}
use Rattle.answers.specs.SeenReply.{answer_of}
use Rattle.answers.specs.Stages.{Outcome}
use Rattle.answers.proofs.StageLemmas.{Answers-wider}
use Rattle.command_resume.specs.Near.{IsNearBy}
use Rattle.command_resume.specs.Seasons.{plays}
use Rattle.command_resume.specs.declared.season.Season.{Season}
use Rattle.command_resume.proofs.StageLemmas.{plays-season, plays-wider}
use Rattle.command_resume.proofs.near.resume_near_file.Goals as goal

-- what is found of the season is the answer
pub returns-clause-answer : goal.returns-clause-answer
returns-clause-answer g c =
    let season : Season = c.in_ok-season.season in
    let answer = answer_of c.in_ok-reply.reply in
    plays-season (store_between g.S.Shelf c.args.shelf.now c.season_in.new.shelf)
    c.args.instance.now c.args.solution.now c.args.resumption.k
    (λ season. IsNearBy season.league season.played c.args.resumption.k
    (IsKeptTo c.args.resumption.budgets.conflicts (g.W.Watch.may_stop c.args.watch.now))
    (g.W.Watch.may_stop c.args.watch.now)) season c.in_ok-season.ensures.season
    answer
    (subst (λ (j : ℕ). IsNearBy season.league season.played j
    (IsKeptTo c.args.resumption.budgets.conflicts (g.W.Watch.may_stop c.args.watch.now))
    (g.W.Watch.may_stop c.args.watch.now) answer)
    c.in_ok-season.ensures.season.slots_are c.in_ok-reply.ensures)

-- the files are refused
pub returns-in_err-season-clause-answer : goal.returns-in_err-season-clause-answer
returns-in_err-season-clause-answer g c =
    let store : Store = store_between g.S.Shelf c.args.shelf.now c.season_in.new.shelf in
    let never : Season → Outcome = λ season answer. ⊥ in
    Answers-wider (plays store c.args.instance.now c.args.solution.now c.args.resumption.k never) _
    (λ answer. plays-wider store c.args.instance.now c.args.solution.now c.args.resumption.k never
    (λ season. IsNearBy season.league season.played c.args.resumption.k
    (IsKeptTo c.args.resumption.budgets.conflicts (g.W.Watch.may_stop c.args.watch.now))
    (g.W.Watch.may_stop c.args.watch.now)) answer (λ season none. absurd none))
    _ (search rules)
