use Rattle.std.proofs.Common.{◌≡◌, ℕ, ◌<◌, List, codes, inr, length, rules, subst, sym}
use Rattle.robin_io.specs.Counts.{raised}
use Rattle.robin_io.specs.Outside.{Store, store_between}
use Rattle.league.specs.Instance.{Instance}
use Rattle.robinx.specs.Pieces.{pieces}
use Rattle.robinx.specs.InstanceFile.{instance_of}
use Rattle.robinx.specs.declared.instance.TheConstants.{INSTANCE_LIMIT}
use Rattle.answers.specs.SeenReply.{IsMalformed}
use Rattle.answers.specs.Stages.{IsFile, IsUnread, Outcome}
use Rattle.command_check.specs.Reading.{ReadsLeague}
use Rattle.command_check.proofs.StageLemmas.{checked-large, checked-malformed, reads-league, stage-wider}
use Rattle.command_check.proofs.stages.encoding_in.Goals as goal

-- the file isn't read, or memory ran out
pub returns-in_err-first-clause-stage : goal.returns-in_err-first-clause-stage
returns-in_err-first-clause-stage g c =
    let store : Store = store_between g.S.Shelf c.args.shelf.now c.file.new.shelf in
    let name : List ℕ = c.args.instance.now in
    let goes : Instance → Type 0 =
    ReadsLeague (store.contents name) (g.S.Shelf.taken c.args.shelf.now) (g.S.Shelf.taken c.file.new.shelf) in
    stage-wider goes goes
    (IsUnread (codes "instance") (store.contents name) INSTANCE_LIMIT (store.took_more INSTANCE_LIMIT) (store.failed name)) _
    (λ league is. is) (λ answer unread room log. inr unread) c.from_residual.result (search rules)

-- the file has a fault of form, or memory ran out
pub returns-in_err-league-clause-stage : goal.returns-in_err-league-clause-stage
returns-in_err-league-clause-stage g c =
    let store : Store = store_between g.S.Shelf c.args.shelf.now c.file.new.shelf in
    let name : List ℕ = c.args.instance.now in
    let first : List ℕ = c.deref.result.now in
    let is_first : IsFile (store.contents name) INSTANCE_LIMIT first =
    subst (λ (bytes : List ℕ). IsFile (store.contents name) INSTANCE_LIMIT bytes) (sym c.deref.ensures.value)
    c.in_ok-first.ensures.stage in
    let goes : Instance → Type 0 =
    ReadsLeague (store.contents name) (g.S.Shelf.taken c.args.shelf.now) (g.S.Shelf.taken c.file.new.shelf) in
    stage-wider goes goes (IsMalformed (codes "instance") (instance_of (pieces first))) _ (λ league is. is)
    (λ answer faulty room log. checked-malformed store room name log first is_first answer faulty)
    c.from_residual-in_err-league.result (search rules)

-- the rows are made, or are too many
pub returns-clause-stage : goal.returns-clause-stage
returns-clause-stage g c =
    let store : Store = store_between g.S.Shelf c.args.shelf.now c.file.new.shelf in
    let name : List ℕ = c.args.instance.now in
    let first : List ℕ = c.deref.result.now in
    let before : ℕ = g.S.Shelf.taken c.args.shelf.now in
    let after : ℕ = g.S.Shelf.taken c.file.new.shelf in
    let is_first : IsFile (store.contents name) INSTANCE_LIMIT first =
    subst (λ (bytes : List ℕ). IsFile (store.contents name) INSTANCE_LIMIT bytes) (sym c.deref.ensures.value)
    c.in_ok-first.ensures.stage in
    let taken : after ≡ raised before (length first) =
    subst (λ (n : ℕ). after ≡ raised before n) (sym c.deref.ensures.len) c.in_ok-first.ensures.count in
    stage-wider _ (ReadsLeague (store.contents name) before after) _ _
    (λ encoded made. reads-league (store.contents name) before after first c.in_ok-league.league encoded is_first taken
    c.in_ok-league.ensures made)
    (λ answer large room log. checked-large store room name log first c.in_ok-league.league is_first
    c.in_ok-league.ensures answer large)
    c.encoding_of.result c.encoding_of.ensures.stage
