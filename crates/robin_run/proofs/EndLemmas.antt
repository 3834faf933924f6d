-- How the answers to each command end a run: none does so as want of memory does.
use Rattle.std.proofs.Common.{◌≡◌, ℕ, ◌+◌, Bool, true, false, if◌then◌else◌, List, length, Option, Some, None, Result}
use Rattle.std.proofs.Common.{Ok, Err, codes, inl, inr, refl, sym, subst, ◌∙◌}
use Rattle.robin_io.specs.Outside.{Output, Store}
use Rattle.robin_watch.specs.Limits.{IsKeptTo}
use Rattle.rows.specs.Literals.{Literal}
use Rattle.rows.specs.Rows.{Row}
use Rattle.rows.specs.Values.{assigned}
use Rattle.league.specs.Instance.{Instance}
use Rattle.league.specs.declared.game.Game.{Game}
use Rattle.robinx.specs.Pieces.{pieces}
use Rattle.robinx.specs.InstanceFile.{instance_of}
use Rattle.robinx.specs.SolutionFile.{solution_of}
use Rattle.robinx.specs.Walk.{Fault}
use Rattle.robinx.specs.declared.instance.TheConstants.{INSTANCE_LIMIT, SOLUTION_LIMIT}
use Rattle.robin_watch.specs.declared.budgets.Budgets.{Budgets}
use Rattle.command_line.specs.Words.{Command}
use Rattle.command_line.specs.Words.Command.{Audit, Bound, Check, Circle, Demands, Explain, Make, Part, Patterns, Prove, Resume, ResumeNear}
use Rattle.command_line.specs.Words.Command.{Help, Rows, Sheet, Show, Solve, SolveFrom, Trial, Validate, Values, Version}
use Rattle.command_line.specs.declared.goal.Goal.{Goal}
use Rattle.command_line.specs.declared.goal.Goal.TheVariants.{Accepted, AtMost, Least}
use Rattle.answers.specs.Reply.{Answer}
use Rattle.answers.specs.Stages.{IsWritten, Outcome, says, takes}
use Rattle.answers.specs.declared.status.Status.{Status}
use Rattle.answers.specs.declared.status.Status.TheVariants.{Yes, No, File, Refuted, Spent, ReadFault}
use Rattle.answers.specs.declared.status.Status.TheVariants.{WriteFault}
use Rattle.answers.specs.declared.status.Status.TheVariants.{Memory, Better}
use Rattle.encoding.specs.Encoding.{rows_of}
use Rattle.refutation.specs.Steps.{Step}
use Rattle.refutation.specs.Logs as logs
use Rattle.refutation.specs.Logs.{log_of}
use Rattle.refutation.specs.declared.verdict.Verdict.{Verdict}
use Rattle.refutation.specs.declared.verdict.Verdict.TheVariants.{Accepted, Rejected}
use Rattle.bounds.specs.Certificates.{certificate_of}
use Rattle.bounds.specs.declared.certificate.Certificate.{Certificate}
use Rattle.command_check.specs.Validate.{IsJudgement, validated}
use Rattle.robinx.specs.Names.{Names}
use Rattle.robinx.specs.NamesFile.{names_of}
use Rattle.command_show.specs.Demands.{AreDemands, demanded, demands_answer, first_absent, numbers_asked}
use Rattle.command_show.specs.Show as showing
use Rattle.command_show.specs.Show.{form_text, labels_of}
use Rattle.command_show.specs.declared.form.Form.{Form}
use Rattle.command_show.specs.declared.form.Form.TheVariants.{Text, Csv}
use Rattle.command_check.specs.Check.{IsVerdict, checked, encodes, most_log_bytes, says_log, verdict_answer}
use Rattle.command_solve.specs.Patterns.{AreFound, AreSearched, patterned}
use Rattle.command_solve.specs.From.{IsBegun, IsFoundFrom, begun}
use Rattle.command_solve.specs.Solve.{IsFound, IsFoundBy, solved}
use Rattle.command_explain.specs.Explained as explaining
use Rattle.command_explain.specs.Explained.{explained}
use Rattle.command_explain.specs.Parted.{IsPart, part_answer, parted}
use Rattle.explain.specs.Parts.{first_unknown}
use Rattle.command_prove.specs.Bound.{IsBoundVerdict, bound_answer, bound_verdict, bounded, has_few_terms}
use Rattle.command_prove.specs.Bound.{says_certificate}
use Rattle.command_prove.specs.Floor.{IsFloorShown, IsShownWith}
use Rattle.command_prove.specs.Prove.{IsShown, proved}
use Rattle.command_resume.specs.Audited as auditing
use Rattle.command_resume.specs.Audited.{audited}
use Rattle.command_resume.specs.Near as nearing
use Rattle.command_resume.specs.Near.{neared}
use Rattle.command_resume.specs.Resumed as resuming
use Rattle.command_resume.specs.Resumed.{resumed}
use Rattle.command_resume.specs.Seasons.{has_size, has_slots}
use Rattle.instance_gen.specs.Draws.{seeded}
use Rattle.instance_gen.specs.Made.{made_league}
use Rattle.command_solve.specs.Trial.{IsTrialBy, tried}
use Rattle.command_rows.specs.Rowed.{league_rows, rowed, rows_answer, system_of}
use Rattle.opb_forms.specs.Values.{values_of}
use Rattle.command_rows.specs.Valued.{IsValued, found_of, missed_from, says_values, valued}
use Rattle.robin_run.specs.Answer.{IsAnswer}
use Rattle.robin_run.specs.Ends.{EndsByWords, may_end}
use Rattle.robin_run.specs.Run.{Answered, Run}

-- ---- stages

ends-as : (Ends : Status → Type 0) (a b : Answer) → a ≡ b → Ends b.status → Ends a.status
ends-as Ends a b is ends = subst (λ (answer : Answer). Ends answer.status) (sym is) ends

ends-with : (Ends : Status → Type 0) (answer : Answer) (status : Status) → answer.status ≡ status → Ends status
    → Ends answer.status
ends-with Ends answer status is ends = subst Ends (sym is) ends

read-ends : (Ends : Status → Type 0) → Ends File → Ends ReadFault → (which : List ℕ) (known : Option (List ℕ))
    (limit : ℕ) (long failed : Type 0) (next : List ℕ → Outcome) (answer : Answer)
    → ((bytes : List ℕ) → next bytes answer → Ends answer.status) → takes which known limit long failed next answer
    → Ends answer.status
read-ends Ends file fault which known limit long failed next answer later (inl read) = later read.0 read.2
read-ends Ends file fault which known limit long failed next answer later (inr (inl h)) = ends-as Ends answer _ h.2 file
read-ends Ends file fault which known limit long failed next answer later (inr (inr h)) = ends-as Ends answer _ h.1
    fault

said-ends : {A : Type 0} (Ends : Status → Type 0) → Ends File → (which : List ℕ) (said : Result A Fault)
    (next : A → Outcome) (answer : Answer) → ((x : A) → next x answer → Ends answer.status)
    → says which said next answer → Ends answer.status
said-ends Ends file which (Ok x) next answer later given = later x given
said-ends Ends file which (Err fault) next answer later given = ends-as Ends answer _ given file

-- the first file, and the league that it says
league-ends : (Ends : Status → Type 0) → Ends File → Ends ReadFault → (known : Option (List ℕ)) (long failed : Type 0)
    (next : List ℕ → Instance → Outcome) (answer : Answer)
    → ((bytes : List ℕ) (league : Instance) → next bytes league answer → Ends answer.status)
    → takes (codes "instance") known INSTANCE_LIMIT long failed
    (λ bytes. says (codes "instance") (instance_of (pieces bytes)) (next bytes)) answer
    → Ends answer.status
league-ends Ends file fault known long failed next answer later given =
    read-ends Ends file fault (codes "instance") known INSTANCE_LIMIT long failed
    (λ bytes. says (codes "instance") (instance_of (pieces bytes)) (next bytes)) answer
    (λ bytes at_bytes. said-ends Ends file (codes "instance") (instance_of (pieces bytes)) (next bytes) answer
    (λ league at_league. later bytes league at_league) at_bytes) given

-- the second file, and the games that it says
games-ends : (Ends : Status → Type 0) → Ends File → Ends ReadFault → (n : ℕ) (known : Option (List ℕ))
    (long failed : Type 0) (next : List ℕ → List Game → Outcome) (answer : Answer)
    → ((bytes : List ℕ) (games : List Game) → next bytes games answer → Ends answer.status)
    → takes (codes "solution") known SOLUTION_LIMIT long failed
    (λ bytes. says (codes "solution") (solution_of n (pieces bytes)) (next bytes)) answer
    → Ends answer.status
games-ends Ends file fault n known long failed next answer later given =
    read-ends Ends file fault (codes "solution") known SOLUTION_LIMIT long failed
    (λ bytes. says (codes "solution") (solution_of n (pieces bytes)) (next bytes)) answer
    (λ bytes at_bytes. said-ends Ends file (codes "solution") (solution_of n (pieces bytes)) (next bytes) answer
    (λ games at_games. later bytes games at_games) at_bytes) given

encodes-ends : (Ends : Status → Type 0) → Ends File → (league : Instance) (next : List Row → Outcome) (answer : Answer)
    → ((rows : List Row) → next rows answer → Ends answer.status) → encodes league next answer → Ends answer.status
encodes-ends Ends file league next answer later (inl h) = later (rows_of league) h.1
encodes-ends Ends file league next answer later (inr h) = ends-as Ends answer _ h.1 file

-- ---- `validate`

feasible-ends : (Ends : Status → Type 0) → Ends Yes → Ends No → (feasible : Bool) → Ends (if feasible then Yes else No)
feasible-ends Ends ends_yes ends_no true = ends_yes
feasible-ends Ends ends_yes ends_no false = ends_no

judgement-ends : (Ends : Status → Type 0) → Ends Yes → Ends No → (league : Instance) (games : List Game)
    (answer : Answer) → IsJudgement league games answer → Ends answer.status
judgement-ends Ends ends_yes ends_no league games answer judgement =
    ends-with Ends answer _ judgement.status (feasible-ends Ends ends_yes ends_no judgement.feasible)

validated-ends : (Ends : Status → Type 0) → Ends File → Ends ReadFault → Ends Yes → Ends No
    → (store : Store)
    (instance solution : List ℕ) (answer : Answer) → validated store instance solution answer
    → Ends answer.status
validated-ends Ends file fault ends_yes ends_no store instance solution answer given =
    league-ends Ends file fault (store.contents instance) (store.took_more INSTANCE_LIMIT) (store.failed instance)
    (λ first league. takes (codes "solution") (store.contents solution) SOLUTION_LIMIT
    (store.took_more (length first + SOLUTION_LIMIT)) (store.failed solution)
    (λ second. says (codes "solution") (solution_of league.n (pieces second)) (IsJudgement league))) answer
    (λ first league at_league. games-ends Ends file fault league.n (store.contents solution)
    (store.took_more (length first + SOLUTION_LIMIT)) (store.failed solution) (λ second. IsJudgement league) answer
    (λ second games judgement. judgement-ends Ends ends_yes ends_no league games answer judgement) at_league) given

-- ---- `show`

-- the stages behind the names
abbrev read_next : Store → List ℕ → Form → List ℕ → Instance → Names → Outcome
read_next store solution form first league names =
    takes (codes "solution") (store.contents solution) SOLUTION_LIMIT (store.took_more (length first + SOLUTION_LIMIT))
    (store.failed solution)
    (λ second. says (codes "solution") (solution_of league.n (pieces second))
    (showing.IsShown league (form_text form league names)))

seen-ends : (Ends : Status → Type 0) → Ends File → Ends ReadFault → Ends Yes → Ends No → (store : Store)
    (instance solution : List ℕ) (form : Form) (answer : Answer) → showing.shown store instance solution form answer
    → Ends answer.status
seen-ends Ends file fault ends_yes ends_no store instance solution form answer given =
    league-ends Ends file fault (store.contents instance) (store.took_more INSTANCE_LIMIT) (store.failed instance)
    (λ first league. says (codes "instance") (names_of league.n (pieces first)) (read_next store solution form first league)) answer
    (λ first league at_league. said-ends Ends file (codes "instance") (names_of league.n (pieces first))
    (read_next store solution form first league) answer (λ names at_names. games-ends Ends file fault league.n (store.contents solution)
    (store.took_more (length first + SOLUTION_LIMIT)) (store.failed solution)
    (λ second. showing.IsShown league (form_text form league names)) answer
    (λ second games shown. ends-with Ends answer _ shown.status (feasible-ends Ends ends_yes ends_no shown.feasible))
    at_names) at_league) given

-- of what a league demands
demands_answer-ends : (Ends : Status → Type 0) → Ends File → Ends Yes → (league : Instance)
    (labels : List (List ℕ)) (numbers : List ℕ) (absent : Option ℕ)
    → Ends (demands_answer league labels numbers absent).status
demands_answer-ends Ends file ends_yes league labels numbers None = ends_yes
demands_answer-ends Ends file ends_yes league labels numbers (Some k) = file

demanded-ends : (Ends : Status → Type 0) → Ends File → Ends ReadFault → Ends Yes
    → (store : Store) (instance : List ℕ) (members : Option (List ℕ)) (answer : Answer)
    → demanded store instance members answer → Ends answer.status
demanded-ends Ends file fault ends_yes store instance members answer given =
    league-ends Ends file fault (store.contents instance) (store.took_more INSTANCE_LIMIT) (store.failed instance)
    (λ bytes league. says (codes "instance") (names_of league.n (pieces bytes)) (AreDemands league members)) answer
    (λ bytes league at_league. said-ends Ends file (codes "instance") (names_of league.n (pieces bytes))
    (AreDemands league members) answer (λ names demands. ends-as Ends answer _ demands
    (demands_answer-ends Ends file ends_yes league (labels_of league.n names) (numbers_asked league members)
    (first_absent league (numbers_asked league members)))) at_league) given

-- ---- `check`, and logs

verdict-ends : (Ends : Status → Type 0) → Ends Yes → Ends No → (steps : ℕ) (verdict : Verdict)
    → Ends (verdict_answer steps verdict).status
verdict-ends Ends ends_yes ends_no steps Accepted = ends_yes
verdict-ends Ends ends_yes ends_no steps (Rejected step cause) = ends_no

said_log-ends : (Ends : Status → Type 0) → Ends File → (said : Result (List Step) logs.Fault)
    (next : List Step → Outcome) (answer : Answer) → ((steps : List Step) → next steps answer → Ends answer.status)
    → says_log said next answer → Ends answer.status
said_log-ends Ends file (Ok steps) next answer later given = later steps given
said_log-ends Ends file (Err fault) next answer later given = ends-as Ends answer _ given file

-- a file of a log, and the steps that it says
log-ends : (Ends : Status → Type 0) → Ends File → Ends ReadFault → (known : Option (List ℕ)) (long failed : Type 0)
    (next : List Step → Outcome) (answer : Answer) → ((steps : List Step) → next steps answer → Ends answer.status)
    → takes (codes "log") known most_log_bytes long failed (λ bytes. says_log (log_of bytes) next) answer
    → Ends answer.status
log-ends Ends file fault known long failed next answer later given =
    read-ends Ends file fault (codes "log") known most_log_bytes long failed
    (λ bytes. says_log (log_of bytes) next) answer
    (λ bytes at_bytes. said_log-ends Ends file (log_of bytes) next answer later at_bytes) given

checked-ends : (Ends : Status → Type 0) → Ends File → Ends ReadFault → Ends Yes → Ends No
    → (store : Store) (room : Option ℕ) (instance log : List ℕ) (answer : Answer)
    → checked store room instance log answer → Ends answer.status
checked-ends Ends file fault ends_yes ends_no store room instance log answer given =
    league-ends Ends file fault (store.contents instance) (store.took_more INSTANCE_LIMIT) (store.failed instance)
    (λ first league. encodes league
    (λ rows. takes (codes "log") (store.contents log) most_log_bytes (store.took_more (length first + most_log_bytes)) (store.failed log)
    (λ bytes. says_log (log_of bytes) (IsVerdict league rows room)))) answer
    (λ first league at_league. encodes-ends Ends file league
    (λ rows. takes (codes "log") (store.contents log) most_log_bytes (store.took_more (length first + most_log_bytes)) (store.failed log)
    (λ bytes. says_log (log_of bytes) (IsVerdict league rows room))) answer
    (λ rows at_rows. log-ends Ends file fault (store.contents log) (store.took_more (length first + most_log_bytes)) (store.failed log)
    (IsVerdict league rows room) answer
    (λ steps verdict. ends-as Ends answer _ verdict.verdict (verdict-ends Ends ends_yes ends_no (length steps) _))
    at_rows)
    at_league) given

-- ---- `solve`, `patterns` and `explain`

-- the ends of a search
searched-ends : (Ends : Status → Type 0) → Ends Yes → Ends Refuted → Ends Spent → (league : Instance)
    (budgets : Budgets) (may_stop : Type 0) (rows : List Row) (answer : Answer)
    → IsFound league budgets may_stop rows answer → Ends answer.status
searched-ends Ends ends_yes refuted spent league budgets may_stop rows answer found =
    elim found.found [
      | inl schedule ↦ ends-with Ends answer Yes schedule.status ends_yes
      | inr (inl log) ↦ ends-with Ends answer Refuted log.status refuted
      | inr (inr log) ↦ ends-with Ends answer Spent log.status spent
    ]

solved-ends : (Ends : Status → Type 0) → Ends File → Ends ReadFault → Ends Yes → Ends Refuted → Ends Spent
    → (store : Store) (instance : List ℕ)
    (budgets : Budgets) (may_stop : Type 0) (answer : Answer) → solved store instance budgets may_stop answer
    → Ends answer.status
solved-ends Ends file fault ends_yes refuted spent store instance budgets may_stop answer given =
    league-ends Ends file fault (store.contents instance) (store.took_more INSTANCE_LIMIT) (store.failed instance)
    (λ bytes league. encodes league (IsFoundBy league budgets may_stop)) answer
    (λ bytes league at_league. encodes-ends Ends file league (IsFoundBy league budgets may_stop) answer
    (λ rows found. searched-ends Ends ends_yes refuted spent league found.kept may_stop rows answer found.is_found)
    at_league)
    given

started-ends : (Ends : Status → Type 0) → Ends File → Ends Yes → Ends No → Ends Refuted → Ends Spent → (league : Instance)
    (budgets : Budgets) (may_stop : Type 0) (start : List Game) (answer : Answer)
    → IsBegun league budgets may_stop start answer → Ends answer.status
started-ends Ends file ends_yes ends_no refuted spent league budgets may_stop start answer (inl none) =
    ends-with Ends answer No none.status ends_no
started-ends Ends file ends_yes ends_no refuted spent league budgets may_stop start answer (inr begun) =
    encodes-ends Ends file league (IsFoundFrom league start budgets may_stop) answer
    (λ rows found. searched-ends Ends ends_yes refuted spent league found.found.kept may_stop rows answer
    found.found.is_found)
    begun.1

begun-ends : (Ends : Status → Type 0) → Ends File → Ends ReadFault → Ends Yes → Ends No → Ends Refuted → Ends Spent
    → (store : Store) (instance solution : List ℕ) (budgets : Budgets) (may_stop : Type 0) (answer : Answer)
    → begun store instance solution budgets may_stop answer → Ends answer.status
begun-ends Ends file fault ends_yes ends_no refuted spent store instance solution budgets may_stop answer given =
    league-ends Ends file fault (store.contents instance) (store.took_more INSTANCE_LIMIT) (store.failed instance)
    (λ first league. takes (codes "solution") (store.contents solution) SOLUTION_LIMIT
    (store.took_more (length first + SOLUTION_LIMIT)) (store.failed solution)
    (λ second. says (codes "solution") (solution_of league.n (pieces second)) (IsBegun league budgets may_stop))) answer
    (λ first league at_league. games-ends Ends file fault league.n (store.contents solution)
    (store.took_more (length first + SOLUTION_LIMIT)) (store.failed solution) (λ second. IsBegun league budgets may_stop) answer
    (λ second start at_start. started-ends Ends file ends_yes ends_no refuted spent league budgets may_stop start answer at_start)
    at_league) given

patterns_searched-ends : (Ends : Status → Type 0) → Ends Yes → Ends Refuted → Ends Spent → (league : Instance)
    (conflicts : Option ℕ) (answer : Answer) → AreSearched league conflicts answer → Ends answer.status
patterns_searched-ends Ends ends_yes refuted spent league conflicts answer (inl found) = ends-with Ends answer Yes found.status
    ends_yes
patterns_searched-ends Ends ends_yes refuted spent league conflicts answer (inr (inl log)) =
    ends-with Ends answer Refuted log.status refuted
patterns_searched-ends Ends ends_yes refuted spent league conflicts answer (inr (inr log)) =
    ends-with Ends answer Spent log.status spent

patterns-ends : (Ends : Status → Type 0) → Ends Yes → Ends Refuted → Ends Spent → (league : Instance)
    (conflicts : Option ℕ) (answer : Answer) → AreFound league conflicts answer → Ends answer.status
patterns-ends Ends ends_yes refuted spent league conflicts answer (inl counted) =
    ends-with Ends answer Refuted counted.1.status refuted
patterns-ends Ends ends_yes refuted spent league conflicts answer (inr searched) =
    patterns_searched-ends Ends ends_yes refuted spent league conflicts answer searched.1

patterned-ends : (Ends : Status → Type 0) → Ends File → Ends ReadFault → Ends Yes → Ends Refuted → Ends Spent
    → (store : Store) (instance : List ℕ)
    (conflicts : Option ℕ) (answer : Answer) → patterned store instance conflicts answer
    → Ends answer.status
patterned-ends Ends file fault ends_yes refuted spent store instance conflicts answer given =
    league-ends Ends file fault (store.contents instance) (store.took_more INSTANCE_LIMIT) (store.failed instance)
    (λ bytes league. encodes league (λ rows. AreFound league conflicts)) answer
    (λ bytes league at_league. encodes-ends Ends file league (λ rows. AreFound league conflicts) answer
    (λ rows found. patterns-ends Ends ends_yes refuted spent league conflicts answer found) at_league) given

explaining-ends : (Ends : Status → Type 0) → Ends Yes → Ends Refuted → Ends Spent → (league : Instance)
    (conflicts : Option ℕ) (may_stop : Type 0) (answer : Answer) → explaining.IsFound league conflicts may_stop answer
    → Ends answer.status
explaining-ends Ends ends_yes refuted spent league conflicts may_stop answer found =
    elim found.found [
      | inl met ↦ ends-with Ends answer Yes met.status ends_yes
      | inr (inl named) ↦ ends-with Ends answer Refuted named.status refuted
      | inr (inr log) ↦ ends-with Ends answer Spent log.status spent
    ]

explained-ends : (Ends : Status → Type 0) → Ends File → Ends ReadFault → Ends Yes → Ends Refuted → Ends Spent
    → (store : Store) (instance : List ℕ)
    (conflicts : Option ℕ) (may_stop : Type 0) (answer : Answer) → explained store instance conflicts may_stop answer
    → Ends answer.status
explained-ends Ends file fault ends_yes refuted spent store instance conflicts may_stop answer given =
    league-ends Ends file fault (store.contents instance) (store.took_more INSTANCE_LIMIT) (store.failed instance)
    (λ bytes league. encodes league (λ rows. explaining.IsFound league conflicts may_stop)) answer
    (λ bytes league at_league. encodes-ends Ends file league (λ rows. explaining.IsFound league conflicts may_stop) answer
    (λ rows found. explaining-ends Ends ends_yes refuted spent league conflicts may_stop answer found) at_league) given

-- ---- `part`

part-ends : (Ends : Status → Type 0) → Ends File → Ends Yes → (league : Instance) (members : List ℕ)
    (unknown : Option ℕ) → Ends (part_answer league members unknown).status
part-ends Ends file ends_yes league members None = ends_yes
part-ends Ends file ends_yes league members (Some k) = file

parted-ends : (Ends : Status → Type 0) → Ends File → Ends ReadFault → Ends Yes
    → (store : Store)
    (instance members : List ℕ) (answer : Answer) → parted store instance members answer
    → Ends answer.status
parted-ends Ends file fault ends_yes store instance members answer given =
    league-ends Ends file fault (store.contents instance) (store.took_more INSTANCE_LIMIT) (store.failed instance)
    (λ bytes league. IsPart league members) answer
    (λ bytes league part. ends-as Ends answer _ part.is
    (part-ends Ends file ends_yes league members (first_unknown league members))) given

-- ---- `prove` and `bound`

few-ends : (Ends : Status → Type 0) → Ends File → (league : Instance) (next : Unit {0} → Outcome) (answer : Answer)
    → (next tt answer → Ends answer.status) → has_few_terms league next answer → Ends answer.status
few-ends Ends file league next answer later (inl h) = later h.1
few-ends Ends file league next answer later (inr h) = ends-as Ends answer _ h.1 file

shown-ends : (Ends : Status → Type 0) → Ends Yes → Ends No → Ends Better → Ends Spent → (league : Instance)
    (conflicts : Option ℕ) (may_stop : Type 0) (games : List Game) (answer : Answer)
    → IsShown league conflicts may_stop games answer → Ends answer.status
shown-ends Ends ends_yes ends_no better spent league conflicts may_stop games answer (inl rejected) =
    ends-with Ends answer No rejected.status ends_no
shown-ends Ends ends_yes ends_no better spent league conflicts may_stop games answer (inr (inl least)) =
    ends-with Ends answer Yes least.status ends_yes
shown-ends Ends ends_yes ends_no better spent league conflicts may_stop games answer (inr (inr (inl least))) =
    ends-with Ends answer Yes least.status ends_yes
shown-ends Ends ends_yes ends_no better spent league conflicts may_stop games answer (inr (inr (inr (inl bettered)))) =
    ends-with Ends answer Better bettered.status better
shown-ends Ends ends_yes ends_no better spent league conflicts may_stop games answer (inr (inr (inr (inr log)))) =
    ends-with Ends answer Spent log.status spent

-- of a floor that is asked for
floor-ends : (Ends : Status → Type 0) → Ends Yes → Ends No → Ends Better → Ends Spent → (league : Instance) (asked : ℕ)
    (conflicts : Option ℕ) (games : List Game) (answer : Answer)
    → IsFloorShown league asked conflicts games answer → Ends answer.status
floor-ends Ends ends_yes ends_no better spent league asked conflicts games answer (inl rejected) =
    ends-with Ends answer No rejected.status ends_no
floor-ends Ends ends_yes ends_no better spent league asked conflicts games answer (inr (inl reached)) =
    ends-with Ends answer Yes reached.status ends_yes
floor-ends Ends ends_yes ends_no better spent league asked conflicts games answer (inr (inr (inl undercut))) =
    ends-with Ends answer Better undercut.0.status better
floor-ends Ends ends_yes ends_no better spent league asked conflicts games answer (inr (inr (inr missed))) =
    ends-with Ends answer Spent missed.status spent

shown_with-ends : (Ends : Status → Type 0) → Ends Yes → Ends No → Ends Better → Ends Spent → (league : Instance)
    (floor : Option ℕ) (limits : Option ℕ → Type 0) (may_stop : Type 0) (games : List Game) (answer : Answer)
    → IsShownWith floor limits may_stop league games answer → Ends answer.status
shown_with-ends Ends ends_yes ends_no better spent league None limits may_stop games answer (conflicts, is, shown) =
    shown-ends Ends ends_yes ends_no better spent league conflicts may_stop games answer shown
shown_with-ends Ends ends_yes ends_no better spent league (Some asked) limits may_stop games answer (conflicts, is, shown) =
    floor-ends Ends ends_yes ends_no better spent league asked conflicts games answer shown

proved-ends : (Ends : Status → Type 0) → Ends File → Ends ReadFault → Ends Yes → Ends No → Ends Better → Ends Spent
    → (store : Store)
    (instance solution : List ℕ) (floor : Option ℕ) (limits : Option ℕ → Type 0) (may_stop : Type 0) (answer : Answer)
    → proved store instance solution (IsShownWith floor limits may_stop) answer → Ends answer.status
proved-ends Ends file fault ends_yes ends_no better spent store instance solution floor limits may_stop answer
    given =
    let shown : Instance → List Game → Outcome = IsShownWith floor limits may_stop in
    league-ends Ends file fault (store.contents instance) (store.took_more INSTANCE_LIMIT) (store.failed instance)
    (λ first league. has_few_terms league
    (λ few. takes (codes "solution") (store.contents solution) SOLUTION_LIMIT (store.took_more (length first + SOLUTION_LIMIT))
    (store.failed solution)
    (λ second. says (codes "solution") (solution_of league.n (pieces second)) (shown league)))) answer
    (λ first league at_league. few-ends Ends file league
    (λ few. takes (codes "solution") (store.contents solution) SOLUTION_LIMIT (store.took_more (length first + SOLUTION_LIMIT))
    (store.failed solution)
    (λ second. says (codes "solution") (solution_of league.n (pieces second)) (shown league))) answer
    (λ at_few. games-ends Ends file fault league.n (store.contents solution) (store.took_more (length first + SOLUTION_LIMIT))
    (store.failed solution) (λ second. shown league) answer
    (λ second games is. shown_with-ends Ends ends_yes ends_no better spent league floor limits may_stop games answer is)
    at_few)
    at_league)
    given

bound_verdict-ends : (Ends : Status → Type 0) → Ends Yes → Ends No → (bound steps : ℕ) (verdict : Verdict)
    → Ends (bound_answer bound steps verdict).status
bound_verdict-ends Ends ends_yes ends_no bound steps Accepted = ends_yes
bound_verdict-ends Ends ends_yes ends_no bound steps (Rejected step cause) = ends_no

said_certificate-ends : (Ends : Status → Type 0) → Ends File → (said : Result Certificate logs.Fault)
    (next : Certificate → Outcome) (answer : Answer)
    → ((certificate : Certificate) → next certificate answer → Ends answer.status) → says_certificate said next answer
    → Ends answer.status
said_certificate-ends Ends file (Ok certificate) next answer later given = later certificate given
said_certificate-ends Ends file (Err fault) next answer later given = ends-as Ends answer _ given file

bounded-ends : (Ends : Status → Type 0) → Ends File → Ends ReadFault → Ends Yes → Ends No
    → (store : Store) (room : Option ℕ)
    (instance log : List ℕ) (answer : Answer) → bounded store room instance log answer
    → Ends answer.status
bounded-ends Ends file fault ends_yes ends_no store room instance log answer given =
    league-ends Ends file fault (store.contents instance) (store.took_more INSTANCE_LIMIT) (store.failed instance)
    (λ first league. has_few_terms league
    (λ few. takes (codes "log") (store.contents log) most_log_bytes (store.took_more (length first + most_log_bytes)) (store.failed log)
    (λ second. says_certificate (certificate_of second) (IsBoundVerdict league room)))) answer
    (λ first league at_league. few-ends Ends file league
    (λ few. takes (codes "log") (store.contents log) most_log_bytes (store.took_more (length first + most_log_bytes)) (store.failed log)
    (λ second. says_certificate (certificate_of second) (IsBoundVerdict league room))) answer
    (λ at_few. read-ends Ends file fault (codes "log") (store.contents log) most_log_bytes
    (store.took_more (length first + most_log_bytes)) (store.failed log)
    (λ second. says_certificate (certificate_of second) (IsBoundVerdict league room)) answer
    (λ second at_second. said_certificate-ends Ends file (certificate_of second) (IsBoundVerdict league room) answer
    (λ certificate verdict. ends-as Ends answer _ verdict.verdict
    (bound_verdict-ends Ends ends_yes ends_no certificate.bound (length certificate.log)
    (bound_verdict league certificate.bound certificate.log))) at_second) at_few) at_league) given

-- ---- `resume` and `audit`

slots-ends : (Ends : Status → Type 0) → Ends File → (league : Instance) (k : ℕ) (next : Unit {0} → Outcome)
    (answer : Answer) → (next tt answer → Ends answer.status) → has_slots league k next answer → Ends answer.status
slots-ends Ends file league k next answer later (inl h) = later h.1
slots-ends Ends file league k next answer later (inr h) = ends-as Ends answer _ h.1 file

size-ends : (Ends : Status → Type 0) → Ends File → (league : Instance) (k : ℕ) (next : Unit {0} → Outcome)
    (answer : Answer) → (next tt answer → Ends answer.status) → has_size league k next answer → Ends answer.status
size-ends Ends file league k next answer later (inl h) = later h.1
size-ends Ends file league k next answer later (inr h) = ends-as Ends answer _ h.1 file

-- the stages that read the second file, and go on with the league, the games and how many bytes both files had
abbrev season_from : Store → List ℕ
    → (Instance → List Game → ℕ → Outcome) → List ℕ → Instance → Outcome
season_from store solution next first league =
    takes (codes "solution") (store.contents solution) SOLUTION_LIMIT (store.took_more (length first + SOLUTION_LIMIT))
    (store.failed solution)
    (λ second. says (codes "solution") (solution_of league.n (pieces second))
    (λ played. next league played (length first + length second)))

plays-ends : (Ends : Status → Type 0) → Ends File → Ends ReadFault → (store : Store) (instance solution : List ℕ) (k : ℕ)
    (next : Instance → List Game → ℕ → Outcome) (answer : Answer)
    → ((league : Instance) (played : List Game) (bytes : ℕ) → next league played bytes answer → Ends answer.status)
    → takes (codes "instance") (store.contents instance) INSTANCE_LIMIT (store.took_more INSTANCE_LIMIT) (store.failed instance)
    (λ first. says (codes "instance") (instance_of (pieces first))
    (λ league. has_slots league k
    (λ slots. has_size league k (λ size. season_from store solution next first league)))) answer
    → Ends answer.status
plays-ends Ends file fault store instance solution k next answer later given =
    league-ends Ends file fault (store.contents instance) (store.took_more INSTANCE_LIMIT) (store.failed instance)
    (λ first league. has_slots league k
    (λ slots. has_size league k (λ size. season_from store solution next first league))) answer
    (λ first league at_league. slots-ends Ends file league k
    (λ slots. has_size league k (λ size. season_from store solution next first league)) answer
    (λ at_slots. size-ends Ends file league k
    (λ size. season_from store solution next first league) answer
    (λ at_size. games-ends Ends file fault league.n (store.contents solution) (store.took_more (length first + SOLUTION_LIMIT))
    (store.failed solution) (λ second played. next league played (length first + length second)) answer
    (λ second played at_season. later league played (length first + length second) at_season) at_size) at_slots)
    at_league) given

resuming-ends : (Ends : Status → Type 0) → Ends Yes → Ends Refuted → Ends Spent → (league : Instance)
    (played : List Game) (k : ℕ) (conflicts : Option ℕ) (answer : Answer)
    → resuming.IsFound league played k conflicts answer → Ends answer.status
resuming-ends Ends ends_yes refuted spent league played k conflicts answer found =
    elim found.found [
      | inl planned ↦ ends-with Ends answer Yes planned.status ends_yes
      | inr (inl log) ↦ ends-with Ends answer Refuted log.status refuted
      | inr (inr log) ↦ ends-with Ends answer Spent log.status spent
    ]

resuming_by-ends : (Ends : Status → Type 0) → Ends Yes → Ends Refuted → Ends Spent → (league : Instance)
    (played : List Game) (k : ℕ) (limits : Option ℕ → Type 0) (answer : Answer)
    → resuming.IsFoundBy league played k limits answer → Ends answer.status
resuming_by-ends Ends ends_yes refuted spent league played k limits answer (inl counted) =
    ends-with Ends answer Refuted counted.status refuted
resuming_by-ends Ends ends_yes refuted spent league played k limits answer (inr found) =
    resuming-ends Ends ends_yes refuted spent league played k found.1.0 answer found.1.2

resumed-ends : (Ends : Status → Type 0) → Ends File → Ends ReadFault → Ends Yes → Ends Refuted → Ends Spent
    → (store : Store)
    (instance solution : List ℕ) (k : ℕ) (limits : Option ℕ → Type 0) (answer : Answer)
    → resumed store instance solution k limits answer → Ends answer.status
resumed-ends Ends file fault ends_yes refuted spent store instance solution k limits answer
    given =
    plays-ends Ends file fault store instance solution k
    (λ league played bytes. resuming.IsFoundBy league played k limits) answer
    (λ league played bytes found. resuming_by-ends Ends ends_yes refuted spent league played k limits answer found)
    given

nearing-ends : (Ends : Status → Type 0) → Ends Yes → Ends Refuted → Ends Spent → (league : Instance)
    (played : List Game) (k : ℕ) (conflicts : Option ℕ) (may_stop : Type 0) (answer : Answer)
    → nearing.IsNear league played k conflicts may_stop answer → Ends answer.status
nearing-ends Ends ends_yes refuted spent league played k conflicts may_stop answer found =
    elim found.found [
      | inl planned ↦ ends-with Ends answer Yes planned.status ends_yes
      | inr (inl log) ↦ ends-with Ends answer Refuted log.status refuted
      | inr (inr log) ↦ ends-with Ends answer Spent log.status spent
    ]

nearing_by-ends : (Ends : Status → Type 0) → Ends Yes → Ends Refuted → Ends Spent → (league : Instance)
    (played : List Game) (k : ℕ) (limits : Option ℕ → Type 0) (may_stop : Type 0) (answer : Answer)
    → nearing.IsNearBy league played k limits may_stop answer → Ends answer.status
nearing_by-ends Ends ends_yes refuted spent league played k limits may_stop answer (inl counted) =
    ends-with Ends answer Refuted counted.status refuted
nearing_by-ends Ends ends_yes refuted spent league played k limits may_stop answer (inr found) =
    nearing-ends Ends ends_yes refuted spent league played k found.1.0 may_stop answer found.1.2

neared-ends : (Ends : Status → Type 0) → Ends File → Ends ReadFault → Ends Yes → Ends Refuted → Ends Spent
    → (store : Store)
    (instance solution : List ℕ) (k : ℕ) (limits : Option ℕ → Type 0) (may_stop : Type 0) (answer : Answer)
    → neared store instance solution k limits may_stop answer → Ends answer.status
neared-ends Ends file fault ends_yes refuted spent store instance solution k limits may_stop answer
    given =
    plays-ends Ends file fault store instance solution k
    (λ league played bytes. nearing.IsNearBy league played k limits may_stop) answer
    (λ league played bytes found. nearing_by-ends Ends ends_yes refuted spent league played k limits may_stop answer found)
    given

audited-ends : (Ends : Status → Type 0) → Ends File → Ends ReadFault → Ends Yes → Ends No
    → (store : Store) (room : Option ℕ)
    (instance solution : List ℕ) (k : ℕ) (log : List ℕ) (answer : Answer)
    → audited store room instance solution k log answer → Ends answer.status
audited-ends Ends file fault ends_yes ends_no store room instance solution k log answer given =
    plays-ends Ends file fault store instance solution k
    (λ league played bytes. takes (codes "log") (store.contents log) most_log_bytes (store.took_more (bytes + most_log_bytes))
    (store.failed log) (λ third. says_log (log_of third) (auditing.IsVerdict league played k room))) answer
    (λ league played bytes at_season. log-ends Ends file fault (store.contents log) (store.took_more (bytes + most_log_bytes))
    (store.failed log) (auditing.IsVerdict league played k room) answer
    (λ steps verdict. ends-as Ends answer _ verdict.verdict (verdict-ends Ends ends_yes ends_no (length steps) _))
    at_season) given

-- ---- `rows` and `values`

rows-ends : (Ends : Status → Type 0) → Ends File → Ends Yes → (league : Instance) (goal : Goal) (answer : Answer)
    → league_rows goal league answer → Ends answer.status
rows-ends Ends file ends_yes league Accepted answer given =
    encodes-ends Ends file league (λ rows a. a ≡ rows_answer (system_of Accepted league)) answer
    (λ rows is. ends-as Ends answer _ is ends_yes) given
rows-ends Ends file ends_yes league (AtMost bound) answer given =
    few-ends Ends file league (λ few a. a ≡ rows_answer (system_of (AtMost bound) league)) answer
    (λ is. ends-as Ends answer _ is ends_yes) given
rows-ends Ends file ends_yes league Least answer given =
    few-ends Ends file league (λ few a. a ≡ rows_answer (system_of Least league)) answer
    (λ is. ends-as Ends answer _ is ends_yes) given

rowed-ends : (Ends : Status → Type 0) → Ends File → Ends ReadFault → Ends Yes → (store : Store) (instance : List ℕ)
    (goal : Goal) (answer : Answer) → rowed store instance goal answer → Ends answer.status
rowed-ends Ends file fault ends_yes store instance goal answer given =
    league-ends Ends file fault (store.contents instance) (store.took_more INSTANCE_LIMIT) (store.failed instance)
    (λ bytes. league_rows goal) answer
    (λ bytes league at_league. rows-ends Ends file ends_yes league goal answer at_league) given

found-ends : (Ends : Status → Type 0) → Ends Yes → Ends No → (league : Instance) (values : ℕ → Bool)
    (missed : Option ℕ) (answer : Answer) → found_of league values missed answer → Ends answer.status
found-ends Ends ends_yes ends_no league values None answer season = ends-with Ends answer Yes season.status ends_yes
found-ends Ends ends_yes ends_no league values (Some k) answer is = ends-as Ends answer _ is ends_no

said_values-ends : (Ends : Status → Type 0) → Ends File → (said : Result (List Literal) ℕ)
    (next : List Literal → Outcome) (answer : Answer) → ((lits : List Literal) → next lits answer → Ends answer.status)
    → says_values said next answer → Ends answer.status
said_values-ends Ends file (Ok lits) next answer later given = later lits given
said_values-ends Ends file (Err line) next answer later given = ends-as Ends answer _ given file

-- the stages behind the rows, where the instance file had so many bytes
abbrev values_from : Store → List ℕ → ℕ → Instance → List Row → Outcome
values_from store values front league rows =
    takes (codes "values") (store.contents values) most_log_bytes (store.took_more (front + most_log_bytes))
    (store.failed values) (λ bytes. says_values (values_of bytes) (IsValued league rows))

valued-ends : (Ends : Status → Type 0) → Ends File → Ends ReadFault → Ends Yes → Ends No → (store : Store)
    (instance values : List ℕ) (answer : Answer) → valued store instance values answer → Ends answer.status
valued-ends Ends file fault ends_yes ends_no store instance values answer given =
    league-ends Ends file fault (store.contents instance) (store.took_more INSTANCE_LIMIT) (store.failed instance)
    (λ first league. encodes league (values_from store values (length first) league)) answer
    (λ first league at_league. encodes-ends Ends file league (values_from store values (length first) league) answer
    (λ rows at_rows. read-ends Ends file fault (codes "values") (store.contents values) most_log_bytes
    (store.took_more (length first + most_log_bytes)) (store.failed values)
    (λ bytes. says_values (values_of bytes) (IsValued league rows)) answer
    (λ bytes at_bytes. said_values-ends Ends file (values_of bytes) (IsValued league rows) answer
    (λ lits found. found-ends Ends ends_yes ends_no league (assigned found.values) (missed_from 1 rows (assigned found.values))
    answer found.found) at_bytes)
    at_rows) at_league) given

-- ---- `trial`

tried-ends : (Ends : Status → Type 0) → Ends File → Ends Yes → (n seed : ℕ) (budgets : Budgets) (may_stop : Type 0)
    (answer : Answer) → tried n seed budgets may_stop answer → Ends answer.status
tried-ends Ends file ends_yes n seed budgets may_stop answer given =
    encodes-ends Ends file (made_league n (seeded seed))
    (λ rows. IsTrialBy n seed (made_league n (seeded seed)) budgets.moves may_stop) answer
    (λ rows trial. ends-with Ends answer Yes trial.is_trial.status ends_yes) given

-- ---- a run

-- a run with these words may end with this status
abbrev EndsBy : Option Command → Status → Type 0
EndsBy words status = may_end words status ≡ true

answer-ends : (may_stop : Type 0) (room : Option ℕ) (words : Option Command) (store : Store) (answer : Answer)
    → IsAnswer may_stop room words store answer → EndsBy words answer.status
answer-ends may_stop room None store answer given = ends-as (EndsBy None) answer _ given refl
answer-ends may_stop room (Some (Validate instance solution)) store answer given =
    validated-ends (EndsBy (Some (Validate instance solution))) refl refl refl refl store instance
    solution answer given
answer-ends may_stop room (Some (Show instance solution most width)) store answer given =
    seen-ends (EndsBy (Some (Show instance solution most width))) refl refl refl refl store instance
    solution (Text most width) answer given
answer-ends may_stop room (Some (Demands instance members)) store answer given =
    demanded-ends (EndsBy (Some (Demands instance members))) refl refl refl store instance members answer given
answer-ends may_stop room (Some (Sheet instance solution)) store answer given =
    seen-ends (EndsBy (Some (Sheet instance solution))) refl refl refl refl store instance
    solution Csv answer given
answer-ends may_stop room (Some (Check instance log)) store answer given =
    checked-ends (EndsBy (Some (Check instance log))) refl refl refl refl store room instance log answer
    given
answer-ends may_stop room (Some (Solve instance budgets)) store answer given =
    solved-ends (EndsBy (Some (Solve instance budgets))) refl refl refl refl refl store instance
    budgets may_stop answer given
answer-ends may_stop room (Some (SolveFrom instance solution budgets)) store answer given =
    begun-ends (EndsBy (Some (SolveFrom instance solution budgets))) refl refl refl refl refl refl store instance
    solution budgets may_stop answer given
answer-ends may_stop room (Some (Patterns instance conflicts)) store answer given =
    patterned-ends (EndsBy (Some (Patterns instance conflicts))) refl refl refl refl refl store
    instance conflicts answer given
answer-ends may_stop room (Some (Explain instance conflicts)) store answer given =
    explained-ends (EndsBy (Some (Explain instance conflicts))) refl refl refl refl refl store
    instance conflicts may_stop answer given
answer-ends may_stop room (Some (Part instance members)) store answer given =
    parted-ends (EndsBy (Some (Part instance members))) refl refl refl store instance members answer
    given
answer-ends may_stop room (Some (Prove instance solution floor conflicts)) store answer given =
    proved-ends (EndsBy (Some (Prove instance solution floor conflicts))) refl refl refl refl refl refl store instance
    solution floor (IsKeptTo conflicts may_stop) may_stop answer given
answer-ends may_stop room (Some (Bound instance log)) store answer given =
    bounded-ends (EndsBy (Some (Bound instance log))) refl refl refl refl store room instance log answer
    given
answer-ends may_stop room (Some (Resume instance solution k conflicts)) store answer given =
    resumed-ends (EndsBy (Some (Resume instance solution k conflicts))) refl refl refl refl refl store instance solution
    k (IsKeptTo conflicts may_stop) answer given
answer-ends may_stop room (Some (ResumeNear instance solution k budgets)) store answer given =
    neared-ends (EndsBy (Some (ResumeNear instance solution k budgets))) refl refl refl refl refl store instance solution
    k (IsKeptTo budgets.conflicts may_stop) may_stop answer given
answer-ends may_stop room (Some (Audit instance solution k log)) store answer given =
    audited-ends (EndsBy (Some (Audit instance solution k log))) refl refl refl refl store room instance
    solution k log answer given
answer-ends may_stop room (Some (Rows instance goal)) store answer given =
    rowed-ends (EndsBy (Some (Rows instance goal))) refl refl refl store instance goal answer given
answer-ends may_stop room (Some (Values instance values)) store answer given =
    valued-ends (EndsBy (Some (Values instance values))) refl refl refl refl store instance values answer given
answer-ends may_stop room (Some (Circle n)) store answer given =
    ends-as (EndsBy (Some (Circle n))) answer _ given refl
answer-ends may_stop room (Some (Make n seed)) store answer given =
    ends-as (EndsBy (Some (Make n seed))) answer _ given.made refl
answer-ends may_stop room (Some (Trial n seed budgets)) store answer given =
    tried-ends (EndsBy (Some (Trial n seed budgets))) refl refl n seed budgets may_stop answer given
answer-ends may_stop room (Some (Help topic)) store answer given = ends-as (EndsBy (Some (Help topic))) answer _ given refl
answer-ends may_stop room (Some Version) store answer given = ends-as (EndsBy (Some Version)) answer _ given refl

written-ends : (may_stop : Type 0) (room : Option ℕ) (words : Option Command) (store : Store) (answer : Answer)
    (ended : Status) (output : Output)
    → IsAnswer may_stop room words store answer → IsWritten answer ended output → (ended ≡ WriteFault → ⊥) → may_end words ended ≡ true
written-ends may_stop room words store answer ended output answered (inl h) whole =
    subst (EndsBy words) (sym h.0) (answer-ends may_stop room words store answer answered)
written-ends may_stop room words store answer ended output answered (inr h) whole = absurd (whole h.0)

-- a run whose text is written whole ends as its words may
pub ends-by-words : (run : Run) → Answered run → EndsByWords run
ends-by-words run answered memory whole =
    let told = answered memory in
    written-ends run.may_stop run.room run.command run.store told.0 run.ended run.output told.1 told.2 whole

no_memory : (words : Option Command) → may_end words Memory ≡ false
no_memory None = refl
no_memory (Some (Validate instance solution)) = refl
no_memory (Some (Show instance solution most width)) = refl
no_memory (Some (Demands instance members)) = refl
no_memory (Some (Sheet instance solution)) = refl
no_memory (Some (Check instance log)) = refl
no_memory (Some (Solve instance budgets)) = refl
no_memory (Some (SolveFrom instance solution budgets)) = refl
no_memory (Some (Patterns instance conflicts)) = refl
no_memory (Some (Explain instance conflicts)) = refl
no_memory (Some (Part instance members)) = refl
no_memory (Some (Prove instance solution floor conflicts)) = refl
no_memory (Some (Bound instance log)) = refl
no_memory (Some (Resume instance solution k conflicts)) = refl
no_memory (Some (ResumeNear instance solution k budgets)) = refl
no_memory (Some (Audit instance solution k log)) = refl
no_memory (Some (Rows instance goal)) = refl
no_memory (Some (Values instance values)) = refl
no_memory (Some (Circle n)) = refl
no_memory (Some (Make n seed)) = refl
no_memory (Some (Trial n seed budgets)) = refl
no_memory (Some (Help topic)) = refl
no_memory (Some Version) = refl

-- where an answer is written, the run doesn't end as want of memory does
pub written-memory : (may_stop : Type 0) (room : Option ℕ) (words : Option Command) (store : Store) (answer : Answer)
    (ended : Status) (output : Output)
    → IsAnswer may_stop room words store answer → IsWritten answer ended output → ended ≡ Memory → ⊥
written-memory may_stop room words store answer ended output answered (inl h) memory =
    let may : may_end words Memory ≡ true =
    subst (EndsBy words) (sym h.0 ∙ memory) (answer-ends may_stop room words store answer answered) in
    let none : may_end words Memory ≡ false = no_memory words in
    cc
written-memory may_stop room words store answer ended output answered (inr h) memory =
    let same : WriteFault ≡ Memory = sym h.0 ∙ memory in cc
