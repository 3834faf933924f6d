use Rattle.std.proofs.Common.{List, Option, ℕ, ◌+◌, length, codes, rules, subst, sym}
use Rattle.std.proofs.lemmas.Result.{err_from_is_err_and}
use Rattle.robin_io.specs.Outside.{Store, store_between}
use Rattle.robin_io.specs.Rests.{IsRest}
use Rattle.robin_io.proofs.StoreLemmas.{rest-between}
use Rattle.robin_watch.specs.Limits.{IsKeptTo}
use Rattle.league.specs.Instance.{Instance}
use Rattle.league.specs.declared.game.Game.{Game}
use Rattle.robinx.specs.declared.instance.TheConstants.{SOLUTION_LIMIT}
use Rattle.answers.specs.SeenReply.{Answers}
use Rattle.answers.specs.Stages.{IsFile, IsUnread, Outcome}
use Rattle.answers.proofs.StageLemmas.{Answers-wider, unread-end}
use Rattle.command_prove.specs.Floor.{IsShownWith}
use Rattle.command_prove.specs.Measured.{IsUnmeasured}
use Rattle.command_prove.proofs.ProveStages.{proved-last, proved-unmeasured, proved-unread}
use Rattle.command_prove.proofs.prove_stages.prove_file.Goals as goal

-- the solution has the contents that it had before the instance was read
pub returns-clause-answer : goal.returns-clause-answer
returns-clause-answer g c =
    let may_stop = g.W.Watch.may_stop c.args.watch.now in
    let shown : Instance → List Game → Outcome =
    IsShownWith c.args.aim.floor (IsKeptTo c.args.aim.conflicts may_stop) may_stop in
    let store : Store = store_between g.S.Shelf c.args.shelf.now c.file.new.shelf in
    let first = c.in_ok-measured.ensures.stage in
    let is_second : IsFile (store.contents c.args.solution.now) SOLUTION_LIMIT c.deref.result.now =
    subst (λ (bytes : List ℕ). IsFile (store.contents c.args.solution.now) SOLUTION_LIMIT bytes) (sym c.deref.ensures.value)
    (subst (λ (known : Option (List ℕ)). IsFile known SOLUTION_LIMIT c.in_ok-second.second.items)
    (c.measured_in.ensures.contents c.args.solution.now) c.in_ok-second.ensures.stage) in
    Answers-wider _ _
    (proved-last store c.args.instance.now c.args.solution.now shown first.0 c.deref.result.now
    c.in_ok-measured.measured.league first.1.file first.1.says first.1.counted.few is_second) c.show_file.result
    c.show_file.ensures

-- the league isn't read, or its rows have too many terms, or memory ran out
pub returns-in_err-measured-clause-answer : goal.returns-in_err-measured-clause-answer
returns-in_err-measured-clause-answer g c =
    let may_stop = g.W.Watch.may_stop c.args.watch.now in
    let shown : Instance → List Game → Outcome =
    IsShownWith c.args.aim.floor (IsKeptTo c.args.aim.conflicts may_stop) may_stop in
    let store : Store = store_between g.S.Shelf c.args.shelf.now c.measured_in.new.shelf in
    Answers-wider (IsUnmeasured store c.args.instance.now) _
    (proved-unmeasured store c.args.instance.now c.args.solution.now shown) c.from_residual.result (search rules)

-- the solution isn't read, or memory ran out
pub returns-in_err-second-clause-answer : goal.returns-in_err-second-clause-answer
returns-in_err-second-clause-answer g c =
    let may_stop = g.W.Watch.may_stop c.args.watch.now in
    let shown : Instance → List Game → Outcome =
    IsShownWith c.args.aim.floor (IsKeptTo c.args.aim.conflicts may_stop) may_stop in
    let store : Store = store_between g.S.Shelf c.args.shelf.now c.file.new.shelf in
    let rest : Store = store_between g.S.Shelf c.measured_in.new.shelf c.file.new.shelf in
    let first = c.in_ok-measured.ensures.stage in
    let name : List ℕ = c.args.solution.now in
    let front : ℕ = length first.0 in
    let is_rest : IsRest front store rest =
    rest-between g.S.Shelf c.args.shelf.now c.measured_in.new.shelf c.file.new.shelf front
    c.measured_in.ensures.contents first.2 c.measured_in.ensures.later in
    let p = err_from_is_err_and c.from_residual-in_err-second.result c.from_residual-in_err-second.ensures.1 in
    let unread : Answers (IsUnread (codes "solution") (store.contents name) SOLUTION_LIMIT (store.took_more (front + SOLUTION_LIMIT))
    (store.failed name)) c.from_residual-in_err-second.result =
    rw (p.1, p.2)
    (unread-end front store rest is_rest (codes "solution") name SOLUTION_LIMIT c.in_err-second.field-0.0
    (λ reply is. rw is at c.in_err-second.ensures.stage)) in
    Answers-wider _ _
    (proved-unread store c.args.instance.now name shown _ _ first.1.file first.1.says first.1.counted.few) _ unread
