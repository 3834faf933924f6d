-- How the stages of `resume` and `audit` make an answer.
use Rattle.std.proofs.Common.{◌≡◌, ℕ, ◌+◌, ◌≤◌, List, length, Option, Result, Ok, Err, codes, ap, arith, inl, inr, sym}
use Rattle.std.proofs.Common.{subst, ◌∙◌}
use Rattle.robin_io.specs.Counts.{raised}
use Rattle.robin_io.specs.Outside.{Store}
use Rattle.robin_io.specs.Rests.{IsRest}
use Rattle.league.specs.Counts.{counts_of, slot_count}
use Rattle.league.specs.Instance.{Instance, IsInstance}
use Rattle.league.specs.declared.game.Game.{Game}
use Rattle.robinx.specs.Pieces.{pieces}
use Rattle.robinx.specs.InstanceFile.{instance_of}
use Rattle.robinx.specs.SolutionFile.{solution_of}
use Rattle.robinx.specs.Walk as forms
use Rattle.robinx.specs.declared.instance.TheConstants.{INSTANCE_LIMIT, SOLUTION_LIMIT}
use Rattle.answers.specs.Reply.{Answer}
use Rattle.answers.specs.SeenReply.{IsMalformed}
use Rattle.answers.specs.Stages.{IsFile, IsUnread, Outcome, reads, says, takes}
use Rattle.answers.proofs.StageLemmas.{says-value, takes-rest}
use Rattle.encoding.specs.Variables.{var_count}
use Rattle.refutation.specs.Logs.{Fault, log_of}
use Rattle.refutation.specs.Steps.{Step}
use Rattle.refutation.specs.Verdict.{verdict_of}
use Rattle.command_check.specs.Check.{IsVerdictWithin, most_log_bytes, says_log}
use Rattle.command_check.proofs.StageLemmas.{is_accepted}
use Rattle.resume.specs.Kept.{resume_rows, resume_size}
use Rattle.resume.proofs.Faithful.{accepted_logs_exclude}
use Rattle.command_resume.specs.Audited.{IsVerdict, audited}
use Rattle.command_resume.specs.Seasons.{has_size, has_slots, plays}
use Rattle.command_resume.specs.SeenSeason.{IsSaid}
use Rattle.command_resume.specs.declared.season.Season.{Season}
use Rattle.encoding.specs.Limit.{most_terms}

-- ---- the stages behind the instance file

-- behind the solution file, where both files have so many bytes
abbrev pub after_second : ℕ → ℕ → (Season → Outcome) → Instance → List ℕ → Outcome
after_second front k next league second =
    says (codes "solution") (solution_of league.n (pieces second))
    (λ played. next (record { league = league; played = played; slots = k; bytes = front + length second }))

-- behind the size of the resume rows
abbrev pub after_size : Store → List ℕ → ℕ → ℕ
    → (Season → Outcome) → Instance → Outcome
after_size store solution front k next league =
    takes (codes "solution") (store.contents solution) SOLUTION_LIMIT (store.took_more (front + SOLUTION_LIMIT)) (store.failed solution)
    (after_second front k next league)

-- behind the league
abbrev pub after_league : Store → List ℕ → ℕ → ℕ
    → (Season → Outcome) → Instance → Outcome
after_league store solution front k next league =
    has_slots league k
    (λ slots. has_size league k (λ size. after_size store solution front k next league))

-- behind the bytes
abbrev pub after_first : Store → List ℕ → ℕ
    → (Season → Outcome) → List ℕ → Outcome
after_first store solution k next first =
    says (codes "instance") (instance_of (pieces first))
    (after_league store solution (length first) k next)

-- ---- single stages, which may go on to more

size-wider : (league : Instance) (k : ℕ) (narrow wide : Outcome) (answer : Answer)
    → (narrow answer → wide answer) → has_size league k (λ size. narrow) answer
    → has_size league k (λ size. wide) answer
size-wider league k narrow wide answer wider (inl h) = inl (h.0, wider h.1)
size-wider league k narrow wide answer wider (inr h) = inr h

slots-wider : (league : Instance) (k : ℕ) (narrow wide : Outcome) (answer : Answer)
    → (narrow answer → wide answer) → has_slots league k (λ slots. narrow) answer
    → has_slots league k (λ slots. wide) answer
slots-wider league k narrow wide answer wider (inl h) = inl (h.0, wider h.1)
slots-wider league k narrow wide answer wider (inr h) = inr h

says-wider : {X : Type 0} (which : List ℕ) (said : Result X forms.Fault) (narrow wide : X → Outcome) (answer : Answer)
    → ((x : X) → narrow x answer → wide x answer) → says which said narrow answer → says which said wide answer
says-wider which (Ok x) narrow wide answer wider given = wider x given
says-wider which (Err fault) narrow wide answer wider given = given

read-wider : (which : List ℕ) (known : Option (List ℕ)) (limit : ℕ) (long failed : Type 0)
    (narrow wide : List ℕ → Outcome) (answer : Answer) → ((bytes : List ℕ) → narrow bytes answer → wide bytes answer)
    → takes which known limit long failed narrow answer → takes which known limit long failed wide answer
read-wider which known limit long failed narrow wide answer wider (inl read) =
    inl (read.0, read.1, wider read.0 read.2)
read-wider which known limit long failed narrow wide answer wider (inr unread) = inr unread

module _ (store : Store)
    (instance solution : List ℕ) (k : ℕ) (next : Season → Outcome) where
  -- the instance file isn't read
  pub plays-unread : (answer : Answer)
      → IsUnread (codes "instance") (store.contents instance) INSTANCE_LIMIT (store.took_more INSTANCE_LIMIT) (store.failed instance)
      answer → plays store instance solution k next answer
  plays-unread answer unread = inr unread

  -- the instance file says no league
  pub plays-malformed : (first : List ℕ) → IsFile (store.contents instance) INSTANCE_LIMIT first → (answer : Answer)
      → IsMalformed (codes "instance") (instance_of (pieces first)) answer
      → plays store instance solution k next answer
  plays-malformed first is_file answer (fault, said, is) =
      inl (
        first,
        is_file,
        subst
            (λ r. says (codes "instance") r
            (after_league store solution (length first) k next) answer)
            (sym said) is,
      )

  -- the instance file says a league
  plays-league : (first : List ℕ) (league : Instance) → IsFile (store.contents instance) INSTANCE_LIMIT first
      → instance_of (pieces first) ≡ Ok league → (answer : Answer)
      → after_league store solution (length first) k next league answer
      → plays store instance solution k next answer
  plays-league first league is_file says_league answer rest =
      inl (
        first,
        is_file,
        says-value (codes "instance") (instance_of (pieces first)) league
            (after_league store solution (length first) k next) answer says_league rest,
      )

  -- whose season is too short, or whose rows are too many
  pub plays-too_long : (first : List ℕ) (league : Instance) → IsFile (store.contents instance) INSTANCE_LIMIT first
      → instance_of (pieces first) ≡ Ok league → (answer : Answer)
      → has_slots league k (λ slots. has_size league k (λ size answer. ⊥)) answer
      → plays store instance solution k next answer
  plays-too_long first league is_file says_league answer refused =
      let rest : Outcome = after_size store solution (length first) k next league in
      plays-league first league is_file says_league answer
      (slots-wider league k (has_size league k (λ size answer. ⊥)) (has_size league k (λ size. rest)) answer
      (size-wider league k (λ answer. ⊥) rest answer (λ none. absurd none)) refused)

  -- whose season is long enough, and whose rows are few enough
  plays-size : (first : List ℕ) (league : Instance) → IsFile (store.contents instance) INSTANCE_LIMIT first
      → instance_of (pieces first) ≡ Ok league → k ≤ slot_count league.n → resume_size league k ≤ most_terms
      → (answer : Answer) → after_size store solution (length first) k next league answer
      → plays store instance solution k next answer
  plays-size first league is_file says_league slots small answer rest =
      plays-league first league is_file says_league answer (inl (slots, inl (small, rest)))

  -- the solution file isn't read
  pub plays-second_unread : (first : List ℕ) (league : Instance) → IsFile (store.contents instance) INSTANCE_LIMIT first
      → instance_of (pieces first) ≡ Ok league → k ≤ slot_count league.n → resume_size league k ≤ most_terms
      → (answer : Answer)
      → IsUnread (codes "solution") (store.contents solution) SOLUTION_LIMIT (store.took_more (length first + SOLUTION_LIMIT))
      (store.failed solution) answer
      → plays store instance solution k next answer
  plays-second_unread first league is_file says_league slots small answer unread =
      plays-size first league is_file says_league slots small answer (inr unread)

  -- the solution file says no games
  pub plays-second_malformed : (first second : List ℕ) (league : Instance)
      → IsFile (store.contents instance) INSTANCE_LIMIT first → instance_of (pieces first) ≡ Ok league
      → k ≤ slot_count league.n → resume_size league k ≤ most_terms
      → IsFile (store.contents solution) SOLUTION_LIMIT second → (answer : Answer)
      → IsMalformed (codes "solution") (solution_of league.n (pieces second)) answer
      → plays store instance solution k next answer
  plays-second_malformed first second league is_file says_league slots small is_second answer (fault, said, is) =
      plays-size first league is_file says_league slots small answer
      (inl (
        second,
        is_second,
        subst
            (λ r. says (codes "solution") r
            (λ played.
            next (record { league = league; played = played; slots = k; bytes = length first + length second }))
            answer)
            (sym said) is,
      ))

  -- both files say a season: what is answered to it is the answer
  pub plays-season : (season : Season) → IsSaid store.contents instance solution k season → (answer : Answer)
      → next season answer → plays store instance solution k next answer
  plays-season season said answer rest =
      let numbered : next (record {
        league = season.league;
        played = season.played;
        slots = k;
        bytes = season.bytes;
      }) answer =
      subst
      (λ (j : ℕ).
      next (record { league = season.league; played = season.played; slots = j; bytes = season.bytes }) answer)
      said.slots_are rest in
      let counted : next (record {
        league = season.league;
        played = season.played;
        slots = k;
        bytes = length said.first + length said.second;
      }) answer =
      subst
      (λ (b : ℕ). next (record { league = season.league; played = season.played; slots = k; bytes = b }) answer)
      said.bytes_are numbered in
      plays-size said.first season.league said.first_file said.says_league said.slots said.small answer
      (inl (
        said.second,
        said.second_file,
        says-value (codes "solution") (solution_of season.league.n (pieces said.second)) season.played
            (λ played.
            next (record {
              league = season.league;
              played = played;
              slots = k;
              bytes = length said.first + length said.second;
            }))
            answer said.says_played counted,
      ))

-- ---- refusals

-- the stages may go on to anything where they refuse
pub plays-wider : (store : Store)
    (instance solution : List ℕ) (k : ℕ) (narrow wide : Season → Outcome) (answer : Answer)
    → ((season : Season) → narrow season answer → wide season answer)
    → plays store instance solution k narrow answer
    → plays store instance solution k wide answer
plays-wider store instance solution k narrow wide answer wider given =
    read-wider (codes "instance") (store.contents instance) INSTANCE_LIMIT (store.took_more INSTANCE_LIMIT) (store.failed instance)
    (after_first store solution k narrow) (after_first store solution k wide)
    answer
    (λ first. says-wider (codes "instance") (instance_of (pieces first))
    (after_league store solution (length first) k narrow)
    (after_league store solution (length first) k wide) answer
    (λ league. slots-wider league k
    (has_size league k (λ size. after_size store solution (length first) k narrow league))
    (has_size league k (λ size. after_size store solution (length first) k wide league)) answer
    (size-wider league k (after_size store solution (length first) k narrow league)
    (after_size store solution (length first) k wide league) answer
    (read-wider (codes "solution") (store.contents solution) SOLUTION_LIMIT (store.took_more (length first + SOLUTION_LIMIT))
    (store.failed solution) (after_second (length first) k narrow league) (after_second (length first) k wide league) answer
    (λ second. says-wider (codes "solution") (solution_of league.n (pieces second))
    (λ played.
    narrow (record { league = league; played = played; slots = k; bytes = length first + length second }))
    (λ played. wide (record { league = league; played = played; slots = k; bytes = length first + length second }))
    answer
    (λ played.
    wider (record { league = league; played = played; slots = k; bytes = length first + length second })))))))
    given

-- two files were read, one after the other
pub raised-twice : (old between now front more : ℕ) → between ≡ raised old front → now ≡ raised between more
    → now ≡ raised old (front + more)
raised-twice old between now front more first second =
    let told : now ≡ raised (raised old front) more = subst (λ (n : ℕ). now ≡ raised n more) first second in
    omega (arith, told)

-- ---- `audit`

said-verdict : (league : Instance) (played : List Game) (k : ℕ) (room : Option ℕ) (said : Result (List Step) Fault) (answer : Answer)
    → IsInstance league → k ≤ slot_count league.n
    → says_log said (IsVerdictWithin (resume_rows league (counts_of played) k) (var_count league) room) answer
    → says_log said (IsVerdict league played k room) answer
said-verdict league played k room (Ok steps) answer instance slots is = record {
  verdict = is.verdict;
  within = is.within;
  none = λ accepted.
      accepted_logs_exclude league played k steps instance slots
      (is_accepted (length steps) (verdict_of (resume_rows league (counts_of played) k) (var_count league) steps)
      (sym (ap (λ (a : Answer). a.status) is.verdict) ∙ accepted));
}
said-verdict league played k room (Err fault) answer instance slots is = is

-- where the verdict over the resume rows says yes, no accepted schedule keeps the played games
pub read-verdict : (known : Option (List ℕ)) (long failed : Type 0) (league : Instance) (played : List Game) (k : ℕ)
    (room : Option ℕ) (answer : Answer) → IsInstance league → k ≤ slot_count league.n
    → takes (codes "log") known most_log_bytes long failed
    (λ bytes.
    says_log (log_of bytes) (IsVerdictWithin (resume_rows league (counts_of played) k) (var_count league) room)) answer
    → takes (codes "log") known most_log_bytes long failed
    (λ bytes. says_log (log_of bytes) (IsVerdict league played k room))
    answer
read-verdict known long failed league played k room answer instance slots =
    read-wider (codes "log") known most_log_bytes long failed
    (λ bytes. says_log (log_of bytes) (IsVerdictWithin (resume_rows league (counts_of played) k) (var_count league) room))
    (λ bytes. says_log (log_of bytes) (IsVerdict league played k room)) answer
    (λ bytes. said-verdict league played k room (log_of bytes) answer instance slots)

-- what is answered to the log by the counts from there on is the answer of the whole run
abbrev pub at_log : Store → Option ℕ → List ℕ → ℕ → Season → Outcome
at_log store room log k season =
    takes (codes "log") (store.contents log) most_log_bytes (store.took_more (season.bytes + most_log_bytes)) (store.failed log)
    (λ bytes. says_log (log_of bytes) (IsVerdict season.league season.played k room))

pub audited-within : (whole rest : Store) (room : Option ℕ) (instance solution : List ℕ) (k : ℕ) (log : List ℕ) (season : Season)
    → IsSaid whole.contents instance solution k season → IsRest season.bytes whole rest → (answer : Answer)
    → reads rest (codes "log") log most_log_bytes 0
    (λ bytes. says_log (log_of bytes) (IsVerdict season.league season.played season.slots room)) answer
    → audited whole room instance solution k log answer
audited-within whole rest room instance solution k log season said is_rest answer given =
    let verdict : ℕ → List ℕ → Outcome =
    λ slots bytes. says_log (log_of bytes) (IsVerdict season.league season.played slots room) in
    let numbered : reads rest (codes "log") log most_log_bytes 0 (verdict k) answer =
    subst (λ (slots : ℕ). reads rest (codes "log") log most_log_bytes 0 (verdict slots) answer) said.slots_are given in
    plays-season whole instance solution k (at_log whole room log k) season said answer
    (takes-rest season.bytes whole rest is_rest (codes "log") log most_log_bytes (verdict k) answer numbered)
