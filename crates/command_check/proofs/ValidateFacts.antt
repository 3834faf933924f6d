-- A worked judgement, so that a wrong definition of what `validate` may answer does not check.
use Rattle.std.proofs.Common.{◌≡◌, ℕ, ◌+◌, ◌∙◌, Bool, true, false, if◌then◌else◌, List, Option, Some, None, Result, Ok, Err, codes, ap, arith, inl, inr, refl, subst}
use Rattle.std.specs.Prelude.{bytes_eq}
use Rattle.robin_io.specs.Outside.{Store}
use Rattle.robinx.specs.Pieces.{pieces, pieces_from}
use Rattle.robinx.specs.Tags.{attributes_at}
use Rattle.robinx.specs.declared.tag_fault.FormKind.TheVariants.{BadNesting}
use Rattle.league.specs.Accepted.{IsAccepted}
use Rattle.league.specs.Counts.{counts_of}
use Rattle.league.specs.Instance.{Instance}
use Rattle.league.specs.declared.game.Game.{Game}
use Rattle.robinx.specs.InstanceFile.{instance_of}
use Rattle.robinx.specs.SolutionFile.{solution_of}
use Rattle.robinx.specs.Walk.{Fault, walk}
use Rattle.robinx.specs.declared.instance.TheConstants.{SOLUTION_LIMIT}
use Rattle.answers.specs.Reply.{Answer, malformed}
use Rattle.answers.specs.Stages.{Outcome, says, takes}
use Rattle.answers.specs.declared.status.Status.{Status}
use Rattle.answers.specs.declared.status.Status.TheVariants.{Yes, No}
use Rattle.command_check.specs.Report.{report_text}
use Rattle.command_check.proofs.ReportFacts.{demanding, report_text-thrice, thrice, thrice_report}
use Rattle.command_check.specs.Validate.{IsJudgement, IsWellFormedPair, validated}

-- a store of two files
abbrev pub league_file : List ℕ
league_file = codes "<Instance><Structure><Format><numberRoundRobin>2</numberRoundRobin><compactness>C</compactness><gameMode>P</gameMode></Format></Structure><Resources><Teams><team id=\"0\"/><team id=\"1\"/></Teams><Slots><slot id=\"0\"/><slot id=\"1\"/></Slots></Resources><Constraints><CapacityConstraints><CA1 teams=\"0;1\" max=\"1\" mode=\"H\" slots=\"0\" type=\"HARD\" penalty=\"5\"/></CapacityConstraints><GameConstraints><GA1 meetings=\"0,1\" min=\"0\" max=\"0\" slots=\"0\" type=\"SOFT\" penalty=\"7\"/></GameConstraints></Constraints></Instance>"

abbrev pub season_file : List ℕ
season_file = codes "<Solution><Games><ScheduledMatch home=\"0\" away=\"1\" slot=\"0\"/><ScheduledMatch home=\"0\" away=\"1\" slot=\"0\"/><ScheduledMatch home=\"0\" away=\"1\" slot=\"0\"/></Games></Solution>"

abbrev pub contents : List ℕ → Option (List ℕ)
contents name = if bytes_eq name (codes "league") then Some league_file else if bytes_eq name (codes "season") then Some season_file else None

abbrev pub never : ℕ → Type 0
never n = ⊥

abbrev pub nowhere : List ℕ → Type 0
nowhere name = ⊥

abbrev pub store : Store
store = record { contents = contents; took_more = never; failed = nowhere }

says_league : instance_of (pieces league_file) ≡ Ok demanding
unfolding attributes_at pieces_from walk
says_league = refl

says_games : solution_of 2 (pieces season_file) ≡ Ok thrice
unfolding attributes_at pieces_from walk
says_games = refl

is_above : (k : ℕ) → k + 1 ≡ 0 → ⊥
is_above k h = omega arith

-- 0-1 three times is no round robin
refused : IsAccepted demanding (counts_of thrice) → ⊥
refused h = is_above 1 h.round_robin.pairs

abbrev pub the_answer : Answer
the_answer = record { status = No; text = thrice_report }

same_answer : (answer : Answer) → answer.status ≡ No → answer.text ≡ thrice_report → answer ≡ the_answer
same_answer answer status text =
    let first : answer ≡ record { status = No; text = answer.text } = ap (λ (s : Status). let a : Answer = record { status = s; text = answer.text } in a) status in
    first ∙ ap (λ (t : List ℕ). let a : Answer = record { status = No; text = t } in a) text

-- a season played thrice has one judgement by a demanding league
judgement-one : (answer : Answer) → IsJudgement demanding thrice answer → answer ≡ the_answer
judgement-one answer h =
    let by : (b : Bool) → h.feasible ≡ b → answer ≡ the_answer = λ b. elim b as (λ (b : Bool). h.feasible ≡ b → answer ≡ the_answer) [
      | true ↦ λ is. absurd (refused (h.accepted.0 is))
      | false ↦ λ is. same_answer answer (subst (λ (b : Bool). answer.status ≡ (if b then Yes else No)) is h.status) (subst (λ (b : Bool). answer.text ≡ report_text demanding thrice b) is h.text ∙ report_text-thrice)
    ] in
    by h.feasible refl

-- what is said of the second file's bytes
after_second : (second : List ℕ) (answer : Answer) → second ≡ season_file → says (codes "solution") (solution_of 2 (pieces second)) (IsJudgement demanding) answer → answer ≡ the_answer
after_second second answer is h =
    let told : says (codes "solution") (solution_of 2 (pieces season_file)) (IsJudgement demanding) answer = subst (λ (bytes : List ℕ). says (codes "solution") (solution_of 2 (pieces bytes)) (IsJudgement demanding) answer) is h in
    judgement-one answer (subst (λ (said : Result (List Game) Fault). says (codes "solution") said (IsJudgement demanding) answer) says_games told)

abbrev second_step : Instance → Outcome
second_step league answer = takes (codes "solution") (Some season_file) SOLUTION_LIMIT ⊥ ⊥ (λ second. says (codes "solution") (solution_of league.n (pieces second)) (IsJudgement league)) answer

at_second : (answer : Answer) → second_step demanding answer → answer ≡ the_answer
at_second answer (inl read) = after_second read.0 answer read.1.same read.2
at_second answer (inr (inl long)) = absurd long.0
at_second answer (inr (inr failed)) = absurd failed.0

-- what is said of the first file's bytes
after_first : (first : List ℕ) (answer : Answer) → first ≡ league_file → says (codes "instance") (instance_of (pieces first)) second_step answer → answer ≡ the_answer
after_first first answer is h =
    let told : says (codes "instance") (instance_of (pieces league_file)) second_step answer = subst (λ (bytes : List ℕ). says (codes "instance") (instance_of (pieces bytes)) second_step answer) is h in
    at_second answer (subst (λ (said : Result Instance Fault). says (codes "instance") said second_step answer) says_league told)

-- where nothing fails, the judgement is the one answer to `validate league season`
pub validated-one : (answer : Answer) → validated store (codes "league") (codes "season") answer → answer ≡ the_answer
validated-one answer (inl read) = after_first read.0 answer read.1.same read.2
validated-one answer (inr (inl long)) = absurd long.0
validated-one answer (inr (inr failed)) = absurd failed.0

-- the first file has a fault, whatever the second is: this is the one answer to `validate season league`
says_fault : instance_of (pieces season_file) ≡ Err (BadNesting, 1)
unfolding attributes_at pieces_from walk
says_fault = refl

abbrev any_step : Instance → Outcome
any_step league answer = takes (codes "solution") (Some league_file) SOLUTION_LIMIT ⊥ ⊥ (λ second. says (codes "solution") (solution_of league.n (pieces second)) (IsJudgement league)) answer

fault_first : (first : List ℕ) (answer : Answer) → first ≡ season_file → says (codes "instance") (instance_of (pieces first)) any_step answer → answer ≡ malformed (codes "instance") BadNesting 1
fault_first first answer is h =
    let told : says (codes "instance") (instance_of (pieces season_file)) any_step answer = subst (λ (bytes : List ℕ). says (codes "instance") (instance_of (pieces bytes)) any_step answer) is h in
    subst (λ (said : Result Instance Fault). says (codes "instance") said any_step answer) says_fault told

pub validated-fault : (answer : Answer) → validated store (codes "season") (codes "league") answer → answer ≡ malformed (codes "instance") BadNesting 1
validated-fault answer (inl read) = fault_first read.0 answer read.1.same read.2
validated-fault answer (inr (inl long)) = absurd long.0
validated-fault answer (inr (inr failed)) = absurd failed.0

-- the two files are a well-formed pair, and their judgement has one status and one text
pub pair-two : IsWellFormedPair store (codes "league") (codes "season") demanding thrice
pair-two = record {
  first = league_file;
  second = season_file;
  first_known = refl;
  second_known = refl;
  first_within = omega arith;
  second_within = omega arith;
  says_league = says_league;
  says_games = says_games;
}

pub judged-one : (answer : Answer) → IsJudgement demanding thrice answer
    → (answer.status ≡ No) × (answer.text ≡ thrice_report)
judged-one answer judged =
    let is : answer ≡ the_answer = judgement-one answer judged in
    (ap (λ (a : Answer). a.status) is, ap (λ (a : Answer). a.text) is)
