use Rattle.std.proofs.Common.{List, Option, ℕ, ◌+◌, length, codes, rules, subst, sym}
use Rattle.robin_io.specs.Outside.{Store, store_between}
use Rattle.robinx.specs.declared.instance.TheConstants.{INSTANCE_LIMIT, SOLUTION_LIMIT}
use Rattle.answers.specs.Stages.{IsFile, IsUnread}
use Rattle.answers.proofs.StageLemmas.{Answers-wider}
use Rattle.command_check.proofs.ValidateLemmas.{validated-last, validated-unread}
use Rattle.command_check.proofs.validate_stages.validate.Goals as goal

-- the second file has the contents that it had before the first was read
pub returns-clause-answer : goal.returns-clause-answer
returns-clause-answer g c =
    let store : Store = store_between g.S.Shelf c.args.shelf.now c.file-2.new.shelf in
    let is_first : IsFile (store.contents c.args.instance.now) INSTANCE_LIMIT c.deref.result.now = subst (λ (bytes : List ℕ). IsFile (store.contents c.args.instance.now) INSTANCE_LIMIT bytes) (sym c.deref.ensures.value) c.in_ok-first.ensures.stage in
    let is_second : IsFile (store.contents c.args.solution.now) SOLUTION_LIMIT c.deref-2.result.now = subst
    (λ (bytes : List ℕ). IsFile (store.contents c.args.solution.now) SOLUTION_LIMIT bytes) (sym c.deref-2.ensures.value)
    (subst (λ (known : Option (List ℕ)). IsFile known SOLUTION_LIMIT c.in_ok-second.second.items)
    (c.file.ensures.contents c.args.solution.now) c.in_ok-second.ensures.stage) in
    Answers-wider _ _ (validated-last store c.args.instance.now c.args.solution.now _ _ _ is_first c.in_ok-league.ensures is_second) _ c.judge_file.ensures

-- the second file isn't read, or memory ran out
pub returns-in_err-second-clause-answer : goal.returns-in_err-second-clause-answer
returns-in_err-second-clause-answer g c =
    let store : Store = store_between g.S.Shelf c.args.shelf.now c.file-2.new.shelf in
    let is_first : IsFile (store.contents c.args.instance.now) INSTANCE_LIMIT c.deref.result.now = subst (λ (bytes : List ℕ). IsFile (store.contents c.args.instance.now) INSTANCE_LIMIT bytes) (sym c.deref.ensures.value) c.in_ok-first.ensures.stage in
    Answers-wider (λ answer. IsUnread (codes "solution") (store.contents c.args.solution.now) SOLUTION_LIMIT
    (store.took_more (length c.deref.result.now + SOLUTION_LIMIT)) (store.failed c.args.solution.now) answer) _
    (validated-unread store c.args.instance.now c.args.solution.now _ _ is_first c.in_ok-league.ensures) _
    (search rules)
