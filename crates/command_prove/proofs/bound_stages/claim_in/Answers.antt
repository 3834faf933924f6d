use Rattle.std.proofs.Common.{List, Option, ℕ, ◌+◌, ◌≡◌, Ok, Err, length, codes, rules, subst, sym, ◌∙◌}
use Rattle.std.proofs.lemmas.Result.{err_from_is_err_and}
use Rattle.robin_io.specs.Outside.{Store, store_between}
use Rattle.robin_io.specs.Rests.{IsRest}
use Rattle.robin_io.proofs.StoreLemmas.{rest-between}
use Rattle.answers.specs.SeenReply.{Answers}
use Rattle.answers.specs.Stages.{IsFile, IsUnread}
use Rattle.answers.proofs.StageLemmas.{unread-end}
use Rattle.command_check.specs.Check.{most_log_bytes}
use Rattle.bounds.specs.Certificates.{certificate_of}
use Rattle.command_prove.specs.Faults.{IsMalformed}
use Rattle.command_prove.specs.Measured.{IsUnmeasured}
use Rattle.command_prove.proofs.BoundStages.{bounded-malformed, bounded-unmeasured, bounded-unread, stage-end}
use Rattle.command_prove.proofs.BoundStages.{stage-wider}
use Rattle.command_prove.proofs.bound_stages.claim_in.Goals as goal

-- the certificate has the contents that it had before the instance was read
pub returns-clause-stage : goal.returns-clause-stage
returns-clause-stage g c =
    let first = c.in_ok-league.ensures.stage in (
      record {
        first = first.0;
        second = c.in_ok-second.second.items;
        first_file = first.1.file;
        second_file =
            subst (λ (known : Option (List ℕ)). IsFile known most_log_bytes c.in_ok-second.second.items)
            (c.measured_in.ensures.contents c.args.log.now) c.in_ok-second.ensures.stage;
        says_league = first.1.says;
        small = first.1.counted.few;
        says_certificate =
            subst (λ (b : List ℕ). certificate_of b ≡ Ok c.in_ok-certificate.certificate) c.deref.ensures.value
            c.in_ok-certificate.ensures;
      },
      first.1.counted,
    )

-- the league isn't read, or its rows have too many terms, or memory ran out
pub returns-in_err-league-clause-stage : goal.returns-in_err-league-clause-stage
returns-in_err-league-clause-stage g c =
    let store : Store = store_between g.S.Shelf c.args.shelf.now c.measured_in.new.shelf in
    stage-wider _ (IsUnmeasured store c.args.instance.now) _
    (λ answer ends room. bounded-unmeasured store room c.args.instance.now c.args.log.now answer ends)
    c.from_residual.result (search rules)

-- the certificate isn't read, or memory ran out
pub returns-in_err-second-clause-stage : goal.returns-in_err-second-clause-stage
returns-in_err-second-clause-stage g c =
    let store : Store = store_between g.S.Shelf c.args.shelf.now c.file.new.shelf in
    let rest : Store = store_between g.S.Shelf c.measured_in.new.shelf c.file.new.shelf in
    let first = c.in_ok-league.ensures.stage in
    let name : List ℕ = c.args.log.now in
    let front : ℕ = length first.0 in
    let is_rest : IsRest front store rest =
    rest-between g.S.Shelf c.args.shelf.now c.measured_in.new.shelf c.file.new.shelf front
    c.measured_in.ensures.contents first.2 c.measured_in.ensures.later in
    let p = err_from_is_err_and c.from_residual-in_err-second.result c.from_residual-in_err-second.ensures.1 in
    let unread : Answers (IsUnread (codes "log") (store.contents name) most_log_bytes (store.took_more (front + most_log_bytes))
    (store.failed name)) (Err c.in_err-second.field-0.0) =
    unread-end front store rest is_rest (codes "log") name most_log_bytes c.in_err-second.field-0.0
    (λ reply is. rw is at c.in_err-second.ensures.stage) in
    rw (p.1, p.2)
    (stage-wider _
    (IsUnread (codes "log") (store.contents name) most_log_bytes (store.took_more (front + most_log_bytes))
    (store.failed name)) _
    (λ answer unread room. bounded-unread store room c.args.instance.now name _ _ first.1.file first.1.says
    first.1.counted.few answer unread) (Err c.in_err-second.field-0.0)
    (stage-end _ _ c.in_err-second.field-0.0 unread))

-- the certificate has a fault of form
pub returns-in_err-certificate-clause-stage : goal.returns-in_err-certificate-clause-stage
returns-in_err-certificate-clause-stage g c =
    let store : Store = store_between g.S.Shelf c.args.shelf.now c.file.new.shelf in
    let first = c.in_ok-league.ensures.stage in
    let is_second : IsFile (store.contents c.args.log.now) most_log_bytes c.deref.result.now =
    subst (λ (bytes : List ℕ). IsFile (store.contents c.args.log.now) most_log_bytes bytes) (sym c.deref.ensures.value)
    (subst (λ (known : Option (List ℕ)). IsFile known most_log_bytes c.in_ok-second.second.items)
    (c.measured_in.ensures.contents c.args.log.now) c.in_ok-second.ensures.stage) in
    stage-wider _ (IsMalformed (certificate_of c.deref.result.now)) _
    (λ answer faulty room. bounded-malformed store room c.args.instance.now c.args.log.now _ _ first.1.file
    first.1.says _ first.1.counted.few is_second answer faulty)
    c.from_residual-in_err-certificate.result (search rules)

pub returns-clause-contents : goal.returns-clause-contents
returns-clause-contents g c = λ n. c.file.ensures.contents n ∙ c.measured_in.ensures.contents n
