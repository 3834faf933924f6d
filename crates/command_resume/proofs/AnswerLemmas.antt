-- What follows from an answer of `resume`, and of `audit`.
use Rattle.std.proofs.Common.{◌∷◌, [], ◌≡◌, ℕ, ◌+◌, ◌<◌, ◌≤◌, List, length, Option, Some, Result, Ok, Err, codes, ap, arith}
use Rattle.std.proofs.Common.{inl, inr, refl, sym, subst, ◌∙◌}
use Rattle.std.specs.Prelude.{IfSome}
use Rattle.robin_io.specs.Outside.{Store}
use Rattle.league.specs.Counts.{counts_of, slot_count}
use Rattle.league.specs.Instance.{Instance}
use Rattle.league.specs.declared.game.Game.{Game}
use Rattle.robinx.specs.Pieces.{pieces}
use Rattle.robinx.specs.InstanceFile.{instance_of}
use Rattle.robinx.specs.SolutionFile.{solution_of}
use Rattle.robinx.specs.Walk as forms
use Rattle.robinx.specs.declared.instance.TheConstants.{INSTANCE_LIMIT, SOLUTION_LIMIT}
use Rattle.answers.specs.Reply.{Answer}
use Rattle.answers.specs.Stages.{IsFile, NoneFails, Outcome, says, takes}
use Rattle.answers.specs.declared.status.Status.{Status}
use Rattle.answers.specs.declared.status.Status.TheVariants.{Yes, File, Refuted, Spent, ReadFault}
use Rattle.answers.proofs.StageLemmas.{first-works, says-known, second-works, takes-known, third-works}
use Rattle.refutation.specs.Logs.{Fault, log_of}
use Rattle.refutation.specs.Steps.{Step}
use Rattle.command_check.specs.Check.{most_log_bytes, says_log}
use Rattle.command_check.proofs.AnswerLemmas.{IsAnswered, answered-as, log-answered, reads-answered, said-known, same_bytes}
use Rattle.command_check.proofs.AnswerLemmas.{same_value, says-answered}
use Rattle.encoding.specs.Variables.{var_count}
use Rattle.refutation_check.specs.Room.{KeepsRoom}
use Rattle.resume.specs.Kept.{resume_rows, resume_size}
use Rattle.resume.specs.Resumable.{NoneResumes}
use Rattle.command_resume.specs.Audited.{IsVerdict, IsWellFormedAudit, audited}
use Rattle.command_resume.specs.Near.{IsNear, IsNearBy, IsNearSeason, neared}
use Rattle.command_resume.specs.Resumed.{IsFound, IsFoundBy, IsPlanned, resumed}
use Rattle.command_resume.specs.Seasons.{IsWellFormedSeason, SaySeason, has_size, has_slots, plays}
use Rattle.command_resume.specs.declared.season.Season.{Season}
use Rattle.command_resume.proofs.StageLemmas.{after_first, after_league, after_second, after_size, at_log}
use Rattle.encoding.specs.Limit.{most_terms}

-- ---- well-formed files

slots-known : (league : Instance) (k : ℕ) (next : Outcome) (answer : Answer) → k ≤ slot_count league.n
    → has_slots league k (λ slots. next) answer → next answer
slots-known league k next answer within (inl h) = h.1
slots-known league k next answer within (inr h) = let above : slot_count league.n < k = h.0 in absurd (omega arith)

size-known : (league : Instance) (k : ℕ) (next : Outcome) (answer : Answer) → resume_size league k ≤ most_terms
    → has_size league k (λ size. next) answer → next answer
size-known league k next answer small (inl h) = h.1
size-known league k next answer small (inr h) =
    let large : most_terms < resume_size league k = h.0 in absurd (omega arith)

-- two files that are known and well-formed, at which nothing fails: what is answered to their season is the answer
plays-known : (store : Store)
    (instance solution : List ℕ) (k : ℕ) (next : Season → Outcome) (league : Instance) (played : List Game)
    (answer : Answer) (good : IsWellFormedSeason store instance solution k league played)
    → (store.failed instance → ⊥) → (store.failed solution → ⊥) → plays store instance solution k next answer
    → next (record {
      league = league;
      played = played;
      slots = k;
      bytes = length good.say.first + length good.say.second;
    }) answer
plays-known store instance solution k next league played answer good first_works second_works given =
    let say = good.say in
    says-known (codes "solution") (solution_of league.n (pieces say.second)) played
    (λ games.
    next (record { league = league; played = games; slots = k; bytes = length say.first + length say.second }))
    answer say.says_played
    (takes-known (codes "solution") (store.contents solution) SOLUTION_LIMIT
    (store.took_more (length say.first + SOLUTION_LIMIT)) (store.failed solution) (after_second (length say.first) k next league)
    answer say.second say.second_known good.second_within second_works
    (size-known league k (after_size store solution (length say.first) k next league) answer
    good.small
    (slots-known league k
    (has_size league k (λ size. after_size store solution (length say.first) k next league)) answer
    good.slots
    (says-known (codes "instance") (instance_of (pieces say.first)) league
    (after_league store solution (length say.first) k next) answer say.says_league
    (takes-known (codes "instance") (store.contents instance) INSTANCE_LIMIT (store.took_more INSTANCE_LIMIT) (store.failed instance)
    (after_first store solution k next) answer say.first say.first_known good.first_within
    first_works given)))))

pub resumed-well_formed : (store : Store)
    (instance solution : List ℕ) (k : ℕ) (limits : Option ℕ → Type 0) (league : Instance) (played : List Game)
    (answer : Answer) → IsWellFormedSeason store instance solution k league played
    → NoneFails store (instance ∷ solution ∷ []) → resumed store instance solution k limits answer → IsFoundBy league played k limits answer
resumed-well_formed store instance solution k limits league played answer good works given =
    plays-known store instance solution k
    (λ season. IsFoundBy season.league season.played k limits) league played answer good
    (first-works store instance (solution ∷ []) works) (second-works store instance solution [] works) given

pub audited-well_formed : (store : Store) (room : Option ℕ)
    (instance solution : List ℕ) (k : ℕ) (log : List ℕ) (league : Instance) (played : List Game) (steps : List Step)
    (answer : Answer) → IsWellFormedAudit store instance solution k log league played steps
    → NoneFails store (instance ∷ solution ∷ log ∷ []) → audited store room instance solution k log answer → IsVerdict league played k room steps answer
audited-well_formed store room instance solution k log league played steps answer good works given =
    let front : ℕ = length good.season.say.first + length good.season.say.second in
    said-known (log_of good.third) steps (IsVerdict league played k room) answer good.says_steps
    (takes-known (codes "log") (store.contents log) most_log_bytes (store.took_more (front + most_log_bytes)) (store.failed log)
    (λ bytes. says_log (log_of bytes) (IsVerdict league played k room)) answer good.third good.known good.within
    (third-works store instance solution log [] works)
    (plays-known store instance solution k (at_log store room log k) league played
    answer good.season (first-works store instance (solution ∷ log ∷ []) works)
    (second-works store instance solution (log ∷ []) works) given))

-- ---- an answer that isn't a refusal

slots-answered : (league : Instance) (k : ℕ) (next : Outcome) (answer : Answer) → IsAnswered answer
    → has_slots league k (λ slots. next) answer → next answer
slots-answered league k next answer is (inl h) = h.1
slots-answered league k next answer is (inr h) = absurd (is.0 (ap (λ (a : Answer). a.status) h.1))

size-answered : (league : Instance) (k : ℕ) (next : Outcome) (answer : Answer) → IsAnswered answer
    → has_size league k (λ size. next) answer → next answer
size-answered league k next answer is (inl h) = h.1
size-answered league k next answer is (inr h) = absurd (is.0 (ap (λ (a : Answer). a.status) h.1))

-- the files were read and said a season, to which this is answered
record IsOfSeason (store : Store) (instance solution : List ℕ) (k : ℕ)
    (next : Season → Outcome) (answer : Answer) : Type 0 where
  first : List ℕ
  second : List ℕ
  league : Instance
  played : List Game
  first_file : IsFile (store.contents instance) INSTANCE_LIMIT first
  second_file : IsFile (store.contents solution) SOLUTION_LIMIT second
  says_league : instance_of (pieces first) ≡ Ok league
  says_played : solution_of league.n (pieces second) ≡ Ok played
  rest : next (record { league = league; played = played; slots = k; bytes = length first + length second }) answer

plays-answered : (store : Store)
    (instance solution : List ℕ) (k : ℕ) (next : Season → Outcome) (answer : Answer) → IsAnswered answer
    → plays store instance solution k next answer
    → IsOfSeason store instance solution k next answer
plays-answered store instance solution k next answer is given =
    let read = reads-answered (codes "instance") (store.contents instance) INSTANCE_LIMIT (store.took_more INSTANCE_LIMIT)
    (store.failed instance) (after_first store solution k next) answer is given in
    let front : ℕ = length read.0 in
    let said = says-answered (codes "instance") (instance_of (pieces read.0))
    (after_league store solution front k next) answer is read.2 in
    let league : Instance = said.0 in
    let rest : Outcome = after_size store solution front k next league in
    let sized : rest answer =
    size-answered league k rest answer is
    (slots-answered league k (has_size league k (λ size. rest)) answer is said.2) in
    let second = reads-answered (codes "solution") (store.contents solution) SOLUTION_LIMIT
    (store.took_more (front + SOLUTION_LIMIT)) (store.failed solution) (after_second front k next league) answer is sized in
    let games = says-answered (codes "solution") (solution_of league.n (pieces second.0))
    (λ played.
    next (record { league = league; played = played; slots = k; bytes = front + length second.0 })) answer is
    second.2 in
    record {
      first = read.0;
      second = second.0;
      league = league;
      played = games.0;
      first_file = read.1;
      second_file = second.1;
      says_league = said.1;
      says_played = games.1;
      rest = games.2;
    }

-- ---- files that are known

-- what is answered to the season that they say
of_known : (store : Store) (instance solution : List ℕ) (k : ℕ) (next : Season → Outcome)
    (league : Instance) (played : List Game) (answer : Answer) → SaySeason store instance solution league played
    → IsOfSeason store instance solution k next answer
    → (bytes : ℕ) × next (record { league = league; played = played; slots = k; bytes = bytes }) answer
of_known store instance solution k next league played answer say of =
    let first : of.first ≡ say.first =
    same_bytes (store.contents instance) INSTANCE_LIMIT of.first say.first of.first_file say.first_known in
    let second : of.second ≡ say.second =
    same_bytes (store.contents solution) SOLUTION_LIMIT of.second say.second of.second_file say.second_known in
    let leagues : of.league ≡ league =
    same_value (instance_of (pieces of.first)) of.league league of.says_league
    (ap (λ (b : List ℕ). instance_of (pieces b)) first ∙ say.says_league) in
    let games : of.played ≡ played =
    same_value (solution_of of.league.n (pieces of.second)) of.played played of.says_played
    (ap (λ (b : List ℕ). solution_of of.league.n (pieces b)) second
    ∙ ap (λ (l : Instance). solution_of l.n (pieces say.second)) leagues ∙ say.says_played) in
    let bytes : ℕ = length of.first + length of.second in (
      bytes,
      subst (λ (g : List Game). next (record { league = league; played = g; slots = k; bytes = bytes }) answer) games
          (subst
          (λ (l : Instance). next (record { league = l; played = of.played; slots = k; bytes = bytes }) answer)
          leagues of.rest),
    )

-- ---- a schedule, a refutation, a verdict

found-planned : (league : Instance) (played : List Game) (k : ℕ) (conflicts : Option ℕ) (answer : Answer)
    → answer.status ≡ Yes → IsFound league played k conflicts answer → IsPlanned league played k answer
found-planned league played k conflicts answer ended found =
    elim found.found [
      | inl planned ↦ planned
      | inr (inl excluded) ↦ let same : Refuted ≡ Yes = sym excluded.status ∙ ended in absurd (cc)
      | inr (inr spent) ↦ let same : Spent ≡ Yes = sym spent.status ∙ ended in absurd (cc)
    ]

found-excluded : (league : Instance) (played : List Game) (k : ℕ) (conflicts : Option ℕ) (answer : Answer)
    → answer.status ≡ Refuted → IsFound league played k conflicts answer → NoneResumes league (counts_of played) k
found-excluded league played k conflicts answer ended found =
    elim found.found [
      | inl planned ↦ let same : Yes ≡ Refuted = sym planned.status ∙ ended in absurd (cc)
      | inr (inl excluded) ↦ excluded.refutes.none
      | inr (inr spent) ↦ let same : Spent ≡ Refuted = sym spent.status ∙ ended in absurd (cc)
    ]

found_by-planned : (league : Instance) (played : List Game) (k : ℕ) (limits : Option ℕ → Type 0) (answer : Answer)
    → answer.status ≡ Yes → IsFoundBy league played k limits answer → IsPlanned league played k answer
found_by-planned league played k limits answer ended (inl counted) =
    let same : Refuted ≡ Yes = sym counted.status ∙ ended in absurd (cc)
found_by-planned league played k limits answer ended (inr found) =
    found-planned league played k found.1.0 answer ended found.1.2

found_by-excluded : (league : Instance) (played : List Game) (k : ℕ) (limits : Option ℕ → Type 0) (answer : Answer)
    → answer.status ≡ Refuted → IsFoundBy league played k limits answer → NoneResumes league (counts_of played) k
found_by-excluded league played k limits answer ended (inl counted) = counted.none
found_by-excluded league played k limits answer ended (inr found) =
    found-excluded league played k found.1.0 answer ended found.1.2

-- where the answer is a schedule, it is accepted and keeps the played games
pub resumed-planned : (store : Store)
    (instance solution : List ℕ) (k : ℕ) (limits : Option ℕ → Type 0) (league : Instance) (played : List Game)
    (answer : Answer) → SaySeason store instance solution league played → answer.status ≡ Yes
    → resumed store instance solution k limits answer → IsPlanned league played k answer
resumed-planned store instance solution k limits league played answer say ended given =
    let next : Season → Outcome = λ season. IsFoundBy season.league season.played k limits in
    let answered : IsAnswered answer = answered-as answer Yes ended (λ same. cc) (λ same. cc) in
    let found : IsFoundBy league played k limits answer =
    (of_known store instance solution k next league played answer say
    (plays-answered store instance solution k next answer answered given)).1 in
    found_by-planned league played k limits answer ended found

-- where it is a refutation, no accepted schedule keeps them
pub resumed-excluded : (store : Store)
    (instance solution : List ℕ) (k : ℕ) (limits : Option ℕ → Type 0) (league : Instance) (played : List Game)
    (answer : Answer) → SaySeason store instance solution league played → answer.status ≡ Refuted
    → resumed store instance solution k limits answer
    → NoneResumes league (counts_of played) k
resumed-excluded store instance solution k limits league played answer say ended given =
    let next : Season → Outcome = λ season. IsFoundBy season.league season.played k limits in
    let answered : IsAnswered answer = answered-as answer Refuted ended (λ same. cc) (λ same. cc) in
    let found : IsFoundBy league played k limits answer =
    (of_known store instance solution k next league played answer say
    (plays-answered store instance solution k next answer answered given)).1 in
    found_by-excluded league played k limits answer ended found

-- where the verdict on a log says yes, no accepted schedule keeps the played games
pub audited-excluded : (store : Store) (room : Option ℕ)
    (instance solution : List ℕ) (k : ℕ) (log : List ℕ) (league : Instance) (played : List Game)
    (answer : Answer) → SaySeason store instance solution league played → answer.status ≡ Yes
    → audited store room instance solution k log answer → NoneResumes league (counts_of played) k
audited-excluded store room instance solution k log league played answer say ended given =
    let next : Season → Outcome = at_log store room log k in
    let answered : IsAnswered answer = answered-as answer Yes ended (λ same. cc) (λ same. cc) in
    let at = of_known store instance solution k next league played answer say
    (plays-answered store instance solution k next answer answered given) in
    let read = reads-answered (codes "log") (store.contents log) most_log_bytes (store.took_more (at.0 + most_log_bytes))
    (store.failed log) (λ bytes. says_log (log_of bytes) (IsVerdict league played k room)) answer answered at.1 in
    let said = log-answered (log_of read.0) (IsVerdict league played k room) answer answered read.2 in
    said.1.none ended

-- where the answer is a verdict, the steps of the log keep to the limit
pub audited-kept : (store : Store) (room : Option ℕ)
    (instance solution : List ℕ) (k : ℕ) (log : List ℕ) (league : Instance) (played : List Game) (steps : List Step)
    (answer : Answer) → IsWellFormedAudit store instance solution k log league played steps → IsAnswered answer
    → audited store room instance solution k log answer
    → KeepsRoom (resume_rows league (counts_of played) k) (var_count league) room steps
audited-kept store room instance solution k log league played steps answer good answered given =
    let next : Season → Outcome = at_log store room log k in
    let verdict : List Step → Outcome = IsVerdict league played k room in
    let at = of_known store instance solution k next league played answer good.season.say
    (plays-answered store instance solution k next answer answered given) in
    let read = reads-answered (codes "log") (store.contents log) most_log_bytes (store.took_more (at.0 + most_log_bytes))
    (store.failed log) (λ bytes. says_log (log_of bytes) verdict) answer answered at.1 in
    let same : read.0 ≡ good.third =
    same_bytes (store.contents log) most_log_bytes read.0 good.third read.1 good.known in
    (said-known (log_of good.third) steps verdict answer good.says_steps
    (subst (λ (b : List ℕ). says_log (log_of b) verdict answer) same read.2)).within

-- ---- `resume --near`

pub neared-well_formed : (store : Store)
    (instance solution : List ℕ) (k : ℕ) (limits : Option ℕ → Type 0) (may_stop : Type 0) (league : Instance) (played : List Game)
    (answer : Answer) → IsWellFormedSeason store instance solution k league played
    → NoneFails store (instance ∷ solution ∷ []) → neared store instance solution k limits may_stop answer
    → IsNearBy league played k limits may_stop answer
neared-well_formed store instance solution k limits may_stop league played answer good works given =
    plays-known store instance solution k
    (λ season. IsNearBy season.league season.played k limits may_stop) league played answer good
    (first-works store instance (solution ∷ []) works) (second-works store instance solution [] works) given

near-season : (league : Instance) (played : List Game) (k : ℕ) (conflicts : Option ℕ) (may_stop : Type 0) (answer : Answer)
    → answer.status ≡ Yes → IsNear league played k conflicts may_stop answer → IsNearSeason league played k may_stop answer
near-season league played k conflicts may_stop answer ended near =
    elim near.found [
      | inl season ↦ season
      | inr (inl excluded) ↦ let same : Refuted ≡ Yes = sym excluded.status ∙ ended in absurd (cc)
      | inr (inr spent) ↦ let same : Spent ≡ Yes = sym spent.status ∙ ended in absurd (cc)
    ]

near-excluded : (league : Instance) (played : List Game) (k : ℕ) (conflicts : Option ℕ) (may_stop : Type 0) (answer : Answer)
    → answer.status ≡ Refuted → IsNear league played k conflicts may_stop answer → NoneResumes league (counts_of played) k
near-excluded league played k conflicts may_stop answer ended near =
    elim near.found [
      | inl season ↦ let same : Yes ≡ Refuted = sym season.status ∙ ended in absurd (cc)
      | inr (inl excluded) ↦ excluded.refutes.none
      | inr (inr spent) ↦ let same : Spent ≡ Refuted = sym spent.status ∙ ended in absurd (cc)
    ]

near_by-season : (league : Instance) (played : List Game) (k : ℕ) (limits : Option ℕ → Type 0) (may_stop : Type 0)
    (answer : Answer) → answer.status ≡ Yes → IsNearBy league played k limits may_stop answer
    → IsNearSeason league played k may_stop answer
near_by-season league played k limits may_stop answer ended (inl counted) =
    let same : Refuted ≡ Yes = sym counted.status ∙ ended in absurd (cc)
near_by-season league played k limits may_stop answer ended (inr near) =
    near-season league played k near.1.0 may_stop answer ended near.1.2

near_by-excluded : (league : Instance) (played : List Game) (k : ℕ) (limits : Option ℕ → Type 0) (may_stop : Type 0)
    (answer : Answer) → answer.status ≡ Refuted → IsNearBy league played k limits may_stop answer
    → NoneResumes league (counts_of played) k
near_by-excluded league played k limits may_stop answer ended (inl counted) = counted.none
near_by-excluded league played k limits may_stop answer ended (inr near) =
    near-excluded league played k near.1.0 may_stop answer ended near.1.2

-- where the answer is a schedule, it is accepted and keeps the played games
pub neared-season : (store : Store)
    (instance solution : List ℕ) (k : ℕ) (limits : Option ℕ → Type 0) (may_stop : Type 0) (league : Instance) (played : List Game)
    (answer : Answer) → SaySeason store instance solution league played → answer.status ≡ Yes
    → neared store instance solution k limits may_stop answer → IsNearSeason league played k may_stop answer
neared-season store instance solution k limits may_stop league played answer say ended given =
    let next : Season → Outcome = λ season. IsNearBy season.league season.played k limits may_stop in
    let answered : IsAnswered answer = answered-as answer Yes ended (λ same. cc) (λ same. cc) in
    let near : IsNearBy league played k limits may_stop answer =
    (of_known store instance solution k next league played answer say
    (plays-answered store instance solution k next answer answered given)).1 in
    near_by-season league played k limits may_stop answer ended near

-- where it is a refutation, no accepted schedule keeps them
pub neared-excluded : (store : Store)
    (instance solution : List ℕ) (k : ℕ) (limits : Option ℕ → Type 0) (may_stop : Type 0) (league : Instance) (played : List Game)
    (answer : Answer) → SaySeason store instance solution league played → answer.status ≡ Refuted
    → neared store instance solution k limits may_stop answer
    → NoneResumes league (counts_of played) k
neared-excluded store instance solution k limits may_stop league played answer say ended given =
    let next : Season → Outcome = λ season. IsNearBy season.league season.played k limits may_stop in
    let answered : IsAnswered answer = answered-as answer Refuted ended (λ same. cc) (λ same. cc) in
    let near : IsNearBy league played k limits may_stop answer =
    (of_known store instance solution k next league played answer say
    (plays-answered store instance solution k next answer answered given)).1 in
    near_by-excluded league played k limits may_stop answer ended near
