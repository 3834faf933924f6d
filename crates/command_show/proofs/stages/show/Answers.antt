use Rattle.std.proofs.Common.{List, Option, ℕ, ◌+◌, length, codes, rules, subst, sym}
use Rattle.robin_io.specs.Outside.{Store, store_between}
use Rattle.robinx.specs.declared.instance.TheConstants.{INSTANCE_LIMIT, SOLUTION_LIMIT}
use Rattle.answers.specs.Stages.{IsFile, IsUnread}
use Rattle.answers.proofs.StageLemmas.{Answers-wider}
use Rattle.command_show.proofs.StageLemmas.{shown-last, shown-unread}
use Rattle.command_show.proofs.stages.show.Goals as goal

-- the second file has the contents that it had before the first was read
pub returns-clause-answer : goal.returns-clause-answer
returns-clause-answer g c =
    let store : Store = store_between g.S.Shelf c.args.shelf.now c.file-2.new.shelf in
    let is_first : IsFile (store.contents c.args.instance.now) INSTANCE_LIMIT c.as_slice-bytes.result.now = subst (λ (bytes : List ℕ). IsFile (store.contents c.args.instance.now) INSTANCE_LIMIT bytes) (sym c.as_slice-bytes.ensures.value) c.in_ok-first.ensures.stage in
    let is_second : IsFile (store.contents c.args.solution.now) SOLUTION_LIMIT c.as_slice-season.result.now = subst (λ (bytes : List ℕ). IsFile (store.contents c.args.solution.now) SOLUTION_LIMIT bytes) (sym c.as_slice-season.ensures.value) (subst (λ (known : Option (List ℕ)). IsFile known SOLUTION_LIMIT c.in_ok-second.second.items) (c.file.ensures.contents c.args.solution.now) c.in_ok-second.ensures.stage) in
    Answers-wider _ _ (shown-last store c.args.instance.now c.args.solution.now _ _ c.args.form _ _ is_first c.in_ok-league.ensures c.in_ok-names.ensures.says is_second) _ c.show_file.ensures

-- the second file isn't read, or memory ran out
pub returns-in_err-second-clause-answer : goal.returns-in_err-second-clause-answer
returns-in_err-second-clause-answer g c =
    let store : Store = store_between g.S.Shelf c.args.shelf.now c.file-2.new.shelf in
    let is_first : IsFile (store.contents c.args.instance.now) INSTANCE_LIMIT c.as_slice-bytes.result.now = subst (λ (bytes : List ℕ). IsFile (store.contents c.args.instance.now) INSTANCE_LIMIT bytes) (sym c.as_slice-bytes.ensures.value) c.in_ok-first.ensures.stage in
    Answers-wider (λ answer. IsUnread (codes "solution") (store.contents c.args.solution.now) SOLUTION_LIMIT (store.took_more (length c.as_slice-bytes.result.now + SOLUTION_LIMIT)) (store.failed c.args.solution.now) answer) _ (shown-unread store c.args.instance.now c.args.solution.now _ c.args.form _ _ is_first c.in_ok-league.ensures c.in_ok-names.ensures.says) _ (search rules)
