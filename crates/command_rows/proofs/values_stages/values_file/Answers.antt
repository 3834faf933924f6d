use Rattle.std.proofs.Common.{List, Option, ℕ, ◌+◌, ◌<◌, ◌≡◌, length, codes, rules, subst, sym}
use Rattle.std.proofs.lemmas.Result.{err_from_is_err_and}
use Rattle.robin_io.specs.Counts.{raised}
use Rattle.robin_io.specs.Outside.{Store, store_between}
use Rattle.robin_io.specs.Rests.{IsRest}
use Rattle.robin_io.proofs.StoreLemmas.{rest-between}
use Rattle.robinx.specs.declared.instance.TheConstants.{INSTANCE_LIMIT}
use Rattle.answers.specs.Reply.{too_large}
use Rattle.answers.specs.SeenReply.{Answers}
use Rattle.answers.specs.Stages.{IsFile, IsUnread}
use Rattle.answers.proofs.StageLemmas.{Answers-wider, unread-end}
use Rattle.command_check.specs.Check.{most_log_bytes}
use Rattle.encoding.specs.Limit.{most_terms}
use Rattle.encoding.specs.Encoding.{encoding_size}
use Rattle.command_rows.proofs.ValuesStages.{valued-large, valued-last, valued-unread}
use Rattle.command_rows.proofs.values_stages.values_file.Goals as goal

-- the file of values has the contents that it had before the instance was read
pub returns-clause-answer : goal.returns-clause-answer
returns-clause-answer g c =
    let store : Store = store_between g.S.Shelf c.args.shelf.now c.file-2.new.shelf in
    let is_first : IsFile (store.contents c.args.instance.now) INSTANCE_LIMIT c.deref.result.now =
    subst (λ (bytes : List ℕ). IsFile (store.contents c.args.instance.now) INSTANCE_LIMIT bytes) (sym c.deref.ensures.value)
    c.in_ok-first.ensures.stage in
    let is_second : IsFile (store.contents c.args.values.now) most_log_bytes c.deref-2.result.now =
    subst (λ (bytes : List ℕ). IsFile (store.contents c.args.values.now) most_log_bytes bytes) (sym c.deref-2.ensures.value)
    (subst (λ (known : Option (List ℕ)). IsFile known most_log_bytes c.in_ok-second.second.items)
    (c.file.ensures.contents c.args.values.now) c.in_ok-second.ensures.stage) in
    Answers-wider _ _
    (valued-last store c.args.instance.now c.args.values.now _ _ _ is_first c.in_ok-league.ensures
    c.in_ok-encoding.ensures.1 is_second) _ (rw c.in_ok-encoding.ensures.0 at c.judge_values.ensures)

-- the file of values isn't read, or memory ran out
pub returns-in_err-second-clause-answer : goal.returns-in_err-second-clause-answer
returns-in_err-second-clause-answer g c =
    let store : Store = store_between g.S.Shelf c.args.shelf.now c.file-2.new.shelf in
    let is_first : IsFile (store.contents c.args.instance.now) INSTANCE_LIMIT c.deref.result.now =
    subst (λ (bytes : List ℕ). IsFile (store.contents c.args.instance.now) INSTANCE_LIMIT bytes) (sym c.deref.ensures.value)
    c.in_ok-first.ensures.stage in
    let rest : Store = store_between g.S.Shelf c.file.new.shelf c.file-2.new.shelf in
    let name : List ℕ = c.args.values.now in
    let front : ℕ = length c.deref.result.now in
    let taken : g.S.Shelf.taken c.file.new.shelf ≡ raised (g.S.Shelf.taken c.args.shelf.now) front =
    subst (λ (n : ℕ). g.S.Shelf.taken c.file.new.shelf ≡ raised (g.S.Shelf.taken c.args.shelf.now) n)
    (sym c.deref.ensures.len) c.in_ok-first.ensures.count in
    let is_rest : IsRest front store rest =
    rest-between g.S.Shelf c.args.shelf.now c.file.new.shelf c.file-2.new.shelf front c.file.ensures.contents taken
    c.file.ensures.later in
    let p = err_from_is_err_and c.from_residual-in_err-second.result c.from_residual-in_err-second.ensures.1 in
    let unread : Answers (IsUnread (codes "values") (store.contents name) most_log_bytes (store.took_more (front + most_log_bytes))
    (store.failed name)) c.from_residual-in_err-second.result =
    rw (p.1, p.2)
    (unread-end front store rest is_rest (codes "values") name most_log_bytes c.in_err-second.field-0.0
    (λ reply is. rw is at c.in_err-second.ensures.stage)) in
    Answers-wider _ _
    (valued-unread store c.args.instance.now name _ _ is_first c.in_ok-league.ensures
    c.in_ok-encoding.ensures.1) _ unread

-- the rows have too many terms, or memory ran out
pub returns-in_err-encoding-clause-answer : goal.returns-in_err-encoding-clause-answer
returns-in_err-encoding-clause-answer g c =
    let store : Store = store_between g.S.Shelf c.args.shelf.now c.file.new.shelf in
    let is_first : IsFile (store.contents c.args.instance.now) INSTANCE_LIMIT c.deref.result.now =
    subst (λ (bytes : List ℕ). IsFile (store.contents c.args.instance.now) INSTANCE_LIMIT bytes) (sym c.deref.ensures.value)
    c.in_ok-first.ensures.stage in
    Answers-wider
    (λ answer. (most_terms < encoding_size c.in_ok-league.league)
    × (answer ≡ too_large (encoding_size c.in_ok-league.league))) _
    (valued-large store c.args.instance.now c.args.values.now _ _ is_first c.in_ok-league.ensures) _
    (search rules)
