-- How the stages of `check` make an answer.
use Rattle.std.proofs.Common.{◌≡◌, ℕ, ◌+◌, ◌<◌, ◌≤◌, List, [], length, Option, Result, Ok, Err, codes, inl, inr, sym, true}
use Rattle.std.proofs.Common.{ap, subst, refl, ◌∙◌}
use Rattle.robin_io.specs.Outside.{Store}
use Rattle.robin_io.specs.Counts.{raised}
use Rattle.robin_io.specs.Rests.{IsRest}
use Rattle.league.specs.Instance.{Instance, IsInstance}
use Rattle.rows.specs.Rows.{Row}
use Rattle.robinx.specs.Pieces.{pieces}
use Rattle.robinx.specs.InstanceFile.{instance_of}
use Rattle.robinx.specs.Walk as forms
use Rattle.robinx.specs.declared.instance.TheConstants.{INSTANCE_LIMIT}
use Rattle.answers.specs.Reply.{Answer, log_malformed, too_large}
use Rattle.answers.specs.SeenReply.{IsMalformed, MatchStage}
use Rattle.answers.specs.Stages.{Outcome, IsFile, reads, says, takes}
use Rattle.answers.specs.declared.reply.NoValue.{NoValue}
use Rattle.answers.specs.declared.reply.NoValue.TheVariants.{Refused, Memory, Room}
use Rattle.answers.specs.declared.status.Status.TheVariants.{Yes}
use Rattle.answers.proofs.StageLemmas.{says-value, takes-rest}
use Rattle.encoding.specs.Encoding.{encoding_size, rows_of}
use Rattle.encoding.specs.Variables.{var_count}
use Rattle.refutation.specs.Steps.{Step}
use Rattle.refutation.specs.Logs.{Fault, log_of, no_steps_but, nothing_more}
use Rattle.refutation.specs.Places.{Place, log_from, start}
use Rattle.refutation.specs.Verdict.{verdict_of}
use Rattle.refutation.specs.declared.fault.LogKind.{LogKind}
use Rattle.refutation.specs.declared.verdict.Verdict.{Verdict}
use Rattle.refutation.specs.declared.verdict.Verdict.TheVariants.{Accepted, Rejected}
use Rattle.refutation_check.specs.Judged.{Judged, no_step_of, verdict_so_far}
use Rattle.refutation_check.specs.Room.{has_room}
use Rattle.refutation_check.proofs.VerdictLemmas.{steps_give_verdict}
use Rattle.decoding.proofs.SeasonLemmas.{accepted_logs_exclude}
use Rattle.command_check.specs.Check.{IsVerdict, IsVerdictWithin, checked, encodes, most_log_bytes}
use Rattle.command_check.specs.Check.{says_log, verdict_answer}
use Rattle.command_check.specs.Feeding.{ChecksOn}
use Rattle.command_check.specs.Reading.{ReadsLeague}
use Rattle.command_check.proofs.AnswerLemmas.{log_stages}
use Rattle.command_check.proofs.FeedingLemmas.{log-ended, log-faulty}
use Rattle.encoding.specs.Limit.{most_terms}

-- ---- stages

-- the instance file is read and says a league: what its rows come to is the answer
after-league : (store : Store) (room : Option ℕ) (instance log first : List ℕ) (league : Instance) → IsFile (store.contents instance) INSTANCE_LIMIT first → instance_of (pieces first) ≡ Ok league
    → (answer : Answer) → encodes league (λ rows. takes (codes "log") (store.contents log) most_log_bytes (store.took_more (length first + most_log_bytes)) (store.failed log) (λ bytes. says_log (log_of bytes) (IsVerdict league rows room))) answer → checked store room instance log answer
after-league store room instance log first league is_first says_league answer rest =
    inl (
      first,
      is_first,
      says-value (codes "instance") (instance_of (pieces first)) league (λ l. encodes l (λ rows.
          takes (codes "log") (store.contents log) most_log_bytes (store.took_more (length first + most_log_bytes))
          (store.failed log) (λ bytes. says_log (log_of bytes) (IsVerdict l rows room)))) answer says_league rest,
    )

-- the instance file has a fault of form
pub checked-malformed : (store : Store) (room : Option ℕ) (instance log first : List ℕ)
    → IsFile (store.contents instance) INSTANCE_LIMIT first → (answer : Answer)
    → IsMalformed (codes "instance") (instance_of (pieces first)) answer → checked store room instance log answer
checked-malformed store room instance log first is_first answer faulty =
    inl (
      first,
      is_first,
      subst (λ (said : Result Instance forms.Fault). says (codes "instance") said (log_stages store room log (length first)) answer)
          (sym faulty.1) faulty.2,
    )

-- the league's rows are too many
pub checked-large : (store : Store) (room : Option ℕ) (instance log first : List ℕ) (league : Instance) → IsFile (store.contents instance) INSTANCE_LIMIT first → instance_of (pieces first) ≡ Ok league
    → (answer : Answer) → (most_terms < encoding_size league) × (answer ≡ too_large (encoding_size league)) → checked store room instance log answer
checked-large store room instance log first league is_first says_league answer large = after-league store room instance log first league is_first says_league answer (inr large)

-- the league's rows aren't too many: the rest is the answer to the log
pub checked-log : (store : Store) (room : Option ℕ) (instance log first : List ℕ) (league : Instance) → IsFile (store.contents instance) INSTANCE_LIMIT first → instance_of (pieces first) ≡ Ok league → encoding_size league ≤ most_terms
    → (answer : Answer) → takes (codes "log") (store.contents log) most_log_bytes (store.took_more (length first + most_log_bytes)) (store.failed log) (λ bytes. says_log (log_of bytes) (IsVerdict league (rows_of league) room)) answer → checked store room instance log answer
checked-log store room instance log first league is_first says_league small answer rest = after-league store room instance log first league is_first says_league answer (inl (small, rest))

-- the log's file is read: the answer is that to what it says
pub log-file : (known : Option (List ℕ)) (long failed : Type 0) (next : List ℕ → Outcome) (bytes : List ℕ)
    → IsFile known most_log_bytes bytes → (answer : Answer) → next bytes answer
    → takes (codes "log") known most_log_bytes long failed next answer
log-file known long failed next bytes is_file answer given = inl (bytes, is_file, given)

-- the instance file is read, and the rows of its league are made
pub reads-league : (known : Option (List ℕ)) (before after : ℕ) (bytes : List ℕ) (league encoded : Instance)
    → IsFile known INSTANCE_LIMIT bytes → after ≡ raised before (length bytes) → instance_of (pieces bytes) ≡ Ok league
    → (encoded ≡ league) × (encoding_size league ≤ most_terms) → ReadsLeague known before after encoded
reads-league known before after bytes league encoded file taken says_league made =
    let read : ReadsLeague known before after league =
    record { bytes = bytes; file = file; taken = taken; says_league = says_league; small = made.1 } in
    subst (λ (l : Instance). ReadsLeague known before after l) (sym made.0) read

-- what holds of a stage holds in other words
pub stage-wider : {X : Type 0} (goes goes_wide : X → Type 0) (narrow wide : Outcome)
    → ((x : X) → goes x → goes_wide x) → ((answer : Answer) → narrow answer → wide answer) → (result : Result X NoValue)
    → MatchStage result goes narrow → MatchStage result goes_wide wide
stage-wider goes goes_wide narrow wide goes_on wider (Ok x) given = goes_on x given
stage-wider goes goes_wide narrow wide goes_on wider (Err (Refused refusal)) given = wider _ given
stage-wider goes goes_wide narrow wide goes_on wider (Err Memory) given = tt
stage-wider goes goes_wide narrow wide goes_on wider (Err Room) given = tt

-- what the rest of a run answers to the log is what the whole answers
pub checked-within : (whole rest : Store) (room : Option ℕ) (instance log : List ℕ) (before after : ℕ) (league : Instance)
    → (read : ReadsLeague (whole.contents instance) before after league) → IsRest (length read.bytes) whole rest
    → (answer : Answer)
    → reads rest (codes "log") log most_log_bytes 0
    (λ bytes. says_log (log_of bytes) (IsVerdict league (rows_of league) room)) answer
    → checked whole room instance log answer
checked-within whole rest room instance log before after league read is_rest answer given =
    checked-log whole room instance log read.bytes league read.file read.says_league read.small answer
    (takes-rest (length read.bytes) whole rest is_rest (codes "log") log most_log_bytes
    (λ bytes. says_log (log_of bytes) (IsVerdict league (rows_of league) room)) answer given)

-- ---- the verdict

pub is_accepted : (steps : ℕ) (verdict : Verdict) → (verdict_answer steps verdict).status ≡ Yes → verdict ≡ Accepted
is_accepted steps Accepted accepted = refl
is_accepted steps (Rejected step cause) accepted = cc

-- the verdict on a log that the rows of a league were given
pub verdict-given : (league : Instance) (room : Option ℕ) (steps : List Step) (answer : Answer) → IsInstance league
    → IsVerdictWithin (rows_of league) (var_count league) room steps answer
    → IsVerdict league (rows_of league) room steps answer
verdict-given league room steps answer instance is = record {
  verdict = is.verdict;
  within = is.within;
  refuted = λ accepted. accepted_logs_exclude league steps instance (is_accepted (length steps) (verdict_of (rows_of league) (var_count league) steps) (sym (ap (λ (a : Answer). a.status) is.verdict) ∙ accepted));
}

-- what is judged over the rows of a league says that it accepts nothing, where the verdict says yes
said-verdict : (league : Instance) (room : Option ℕ) (said : Result (List Step) Fault) (answer : Answer) → IsInstance league
    → says_log said (IsVerdictWithin (rows_of league) (var_count league) room) answer
    → says_log said (IsVerdict league (rows_of league) room) answer
said-verdict league room (Ok steps) answer instance is = verdict-given league room steps answer instance is
said-verdict league room (Err fault) answer instance is = is

pub read-verdict : (known : Option (List ℕ)) (long failed : Type 0) (league : Instance) (room : Option ℕ) (answer : Answer)
    → IsInstance league
    → takes (codes "log") known most_log_bytes long failed
    (λ bytes. says_log (log_of bytes) (IsVerdictWithin (rows_of league) (var_count league) room)) answer
    → takes (codes "log") known most_log_bytes long failed
    (λ bytes. says_log (log_of bytes) (IsVerdict league (rows_of league) room)) answer
read-verdict known long failed league room answer instance (inl read) =
    inl (read.0, read.1, said-verdict league room (log_of read.0) answer instance read.2)
read-verdict known long failed league room answer instance (inr unread) = inr unread

said-steps : (said : Result (List Step) Fault) (steps : List Step) (next : List Step → Outcome) (answer : Answer)
    → said ≡ Ok steps → next steps answer → says_log said next answer
said-steps said steps next answer is after = subst (λ r. says_log r next answer) (sym is) after

-- the log ends without a fault
pub ended-verdict : (rows : List Row) (vars : ℕ) (room : Option ℕ) (bytes : List ℕ) (now : Place) (new : Judged) (count : ℕ)
    (verdict : Verdict) (answer : Answer) → ChecksOn start (no_step_of rows vars) bytes now new count
    → log_from now [] ≡ nothing_more → has_room room new ≡ true → verdict ≡ verdict_so_far new
    → answer ≡ verdict_answer count verdict → says_log (log_of bytes) (IsVerdictWithin rows vars room) answer
ended-verdict rows vars room bytes now new count verdict answer checked ended has said is =
    let steps : List Step = checked.steps in
    let judged : verdict ≡ verdict_of rows vars steps =
    said ∙ ap verdict_so_far checked.judged ∙ steps_give_verdict rows vars steps in
    said-steps (log_of bytes) steps (IsVerdictWithin rows vars room) answer
    (log-ended (no_step_of rows vars) bytes now new count checked ended)
    (record {
      verdict = is ∙ ap (λ n. verdict_answer n verdict) checked.counted ∙ ap (verdict_answer (length steps)) judged;
      within = subst (λ (s : Judged). has_room room s ≡ true) checked.judged has;
    })

-- the log ends with a fault
pub faulty-log : (rows : List Row) (vars : ℕ) (room : Option ℕ) (bytes : List ℕ) (now : Place) (new : Judged) (count : ℕ)
    (kind : LogKind) (line : ℕ) (answer : Answer) → ChecksOn start (no_step_of rows vars) bytes now new count
    → log_from now [] ≡ no_steps_but kind line → answer ≡ log_malformed kind line
    → says_log (log_of bytes) (IsVerdictWithin rows vars room) answer
faulty-log rows vars room bytes now new count kind line answer checked fault is =
    let next : List Step → Outcome = IsVerdictWithin rows vars room in
    subst (λ (said : Result (List Step) Fault). says_log said next answer)
    (sym (log-faulty (no_step_of rows vars) bytes now new count kind line checked fault)) is
