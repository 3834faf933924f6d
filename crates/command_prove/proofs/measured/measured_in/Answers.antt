use Rattle.std.proofs.Common.{List, ℕ, ◌<◌, ◌≡◌, codes, inr, rules, subst, sym}
use Rattle.robin_io.specs.Counts.{raised}
use Rattle.robin_io.specs.Outside.{Store, store_between}
use Rattle.robinx.specs.Pieces.{pieces}
use Rattle.robinx.specs.InstanceFile.{instance_of}
use Rattle.robinx.specs.declared.instance.TheConstants.{INSTANCE_LIMIT}
use Rattle.answers.specs.Reply.{too_large}
use Rattle.answers.specs.SeenReply.{IsMalformed}
use Rattle.answers.specs.Stages.{IsFile, IsUnread}
use Rattle.bound_rows.specs.BoundRows.{bound_size}
use Rattle.command_prove.proofs.BoundStages.{stage-wider}
use Rattle.command_prove.proofs.MeasureLemmas.{measured-faulty, measured-large}
use Rattle.command_prove.proofs.measured.measured_in.Goals as goal
use Rattle.encoding.specs.Limit.{most_terms}

pub returns-clause-stage : goal.returns-clause-stage
returns-clause-stage g c = (
  c.deref.result.now,
  record {
    file =
        subst (λ (bytes : List ℕ). IsFile (g.S.Shelf.contents c.args.shelf.now c.args.instance.now) INSTANCE_LIMIT bytes)
        (sym c.deref.ensures.value) c.in_ok-first.ensures.stage;
    says = c.in_ok-league.ensures;
    counted = c.in_ok-terms.ensures;
  },
  subst (λ (n : ℕ). g.S.Shelf.taken c.file.new.shelf ≡ raised (g.S.Shelf.taken c.args.shelf.now) n)
      (sym c.deref.ensures.len) c.in_ok-first.ensures.count,
)

-- the file isn't read, or memory ran out
pub returns-in_err-first-clause-stage : goal.returns-in_err-first-clause-stage
returns-in_err-first-clause-stage g c =
    let store : Store = store_between g.S.Shelf c.args.shelf.now c.file.new.shelf in
    stage-wider _
    (IsUnread (codes "instance") (store.contents c.args.instance.now) INSTANCE_LIMIT (store.took_more INSTANCE_LIMIT)
    (store.failed c.args.instance.now)) _ (λ answer unread. inr unread) c.from_residual.result (search rules)

-- the file has a fault of form
pub returns-in_err-league-clause-stage : goal.returns-in_err-league-clause-stage
returns-in_err-league-clause-stage g c =
    let store : Store = store_between g.S.Shelf c.args.shelf.now c.file.new.shelf in
    let is_first : IsFile (store.contents c.args.instance.now) INSTANCE_LIMIT c.deref.result.now =
    subst (λ (bytes : List ℕ). IsFile (store.contents c.args.instance.now) INSTANCE_LIMIT bytes) (sym c.deref.ensures.value)
    c.in_ok-first.ensures.stage in
    stage-wider _ (IsMalformed (codes "instance") (instance_of (pieces c.deref.result.now))) _
    (measured-faulty store c.args.instance.now _ is_first) c.from_residual-in_err-league.result (search rules)

-- the bound rows have too many terms, or memory ran out
pub returns-in_err-terms-clause-stage : goal.returns-in_err-terms-clause-stage
returns-in_err-terms-clause-stage g c =
    let store : Store = store_between g.S.Shelf c.args.shelf.now c.file.new.shelf in
    let is_first : IsFile (store.contents c.args.instance.now) INSTANCE_LIMIT c.deref.result.now =
    subst (λ (bytes : List ℕ). IsFile (store.contents c.args.instance.now) INSTANCE_LIMIT bytes) (sym c.deref.ensures.value)
    c.in_ok-first.ensures.stage in
    stage-wider _
    (λ answer. (most_terms < bound_size c.in_ok-league.league)
    × (answer ≡ too_large (bound_size c.in_ok-league.league))) _
    (measured-large store c.args.instance.now _ _ is_first c.in_ok-league.ensures)
    c.from_residual-in_err-terms.result (search rules)
