-- What is shown of a schedule, answered.
use Rattle.std.proofs.Common.{◌≡◌, ℕ, ◌-◌, ◌<◌, ◌≤◌, ◌==◌, Bool, true, false, if◌then◌else◌, List, Option, None, Some}
use Rattle.std.proofs.Common.{Result, Ok, Err, refl, arith, ap, subst, sym, ◌∙◌, inl, inr}
use Rattle.std.specs.Prelude.{IfOk, IsTrue}
use Rattle.std.proofs.lemmas.Bool.Decides.{nat_tests}
use Rattle.league.specs.Accepted.{IsAccepted, objective}
use Rattle.league.specs.Counts.{Counts, counts_of}
use Rattle.league.specs.Instance.{Instance, IsTeamCount}
use Rattle.league.specs.declared.game.Game.{Game}
use Rattle.robinx.specs.Pieces.{pieces}
use Rattle.robinx.specs.SolutionFile.{solution_of}
use Rattle.robinx.specs.Texts.{solution_text}
use Rattle.robinx.proofs.SolutionLemmas.{solution-reads_back}
use Rattle.solve.proofs.AnswerLemmas.{refutes-few}
use Rattle.solve.proofs.FewLemmas.{round_robin-few}
use Rattle.answers.specs.Reply.{Answer}
use Rattle.answers.specs.SeenReply.{answer_of}
use Rattle.answers.specs.declared.reply.Reply.{Reply}
use Rattle.answers.specs.declared.status.Status.{Status}
use Rattle.answers.specs.declared.status.Status.TheVariants as statuses
use Rattle.answers.specs.declared.status.Status.TheVariants.{Yes, No}
use Rattle.refutation.specs.Logs.{Fault, log_of}
use Rattle.refutation.specs.Steps.{Step}
use Rattle.refutation.specs.Texts.{log_text}
use Rattle.refutation.specs.Verdict.{verdict_of}
use Rattle.refutation.specs.Writable.{HasShortLines}
use Rattle.refutation.specs.declared.verdict.Verdict.TheVariants.{Accepted}
use Rattle.clause_search.specs.Answers.{Refutes}
use Rattle.bound_rows.specs.BoundRows.{bound_rows, bound_vars}
use Rattle.bound_rows.specs.Faithful.{IsLowerBound}
use Rattle.bounds.specs.Certificates.{certificate_of, certificate_text}
use Rattle.bounds.specs.declared.certificate.Certificate.{Certificate}
use Rattle.bounds.specs.Proofs as proofs
use Rattle.bounds.specs.declared.proved.Proved.{Proved}
use Rattle.bounds.specs.declared.proved.Proved.TheVariants.{Least, Better, Spent}
use Rattle.command_check.specs.Validate.{IsJudgement}
use Rattle.command_prove.specs.Bound.{bound_verdict}
use Rattle.floors.specs.Floors.{IsFloor}
use Rattle.floors.specs.declared.floor.Floor.{Floor}
use Rattle.command_prove.specs.Floor.{IsShownWith}
use Rattle.command_prove.specs.Prove.{IsCertified, IsRejected, IsShown, IsShownBy, spent_text}
use Rattle.command_prove.specs.Told.{CanBeWritten, Tells, TellsBeside, TellsFloored, TellsLeast}

-- ---- what a test says

pub failed : (b : Bool) → b ≡ false → IsTrue b → ⊥
failed b is passes = cc

-- ---- a schedule that isn't accepted

rejected-status : (feasible : Bool) (status : Status) → (IsTrue feasible → ⊥)
    → status ≡ (if feasible then Yes else No) → status ≡ No
rejected-status true status fails is = absurd (fails refl)
rejected-status false status fails is = is

rejected-judged : (league : Instance) (games : List Game) (answer : Answer) → (IsAccepted league (counts_of games) → ⊥)
    → IsJudgement league games answer → IsRejected league games answer
rejected-judged league games answer fails judged = record {
  judgement = judged;
  status = rejected-status judged.feasible answer.status (λ is. fails (judged.accepted.0 is)) judged.status;
}

-- whatever is asked for
rejected-with : (league : Instance) (floor : Option ℕ) (limits : Option ℕ → Type 0) (may_stop : Type 0)
    (conflicts : Option ℕ) (games : List Game) (answer : Answer) → limits conflicts → IsRejected league games answer
    → IsShownWith floor limits may_stop league games answer
rejected-with league None limits may_stop conflicts games answer is rejected = (conflicts, is, inl rejected)
rejected-with league (Some asked) limits may_stop conflicts games answer is rejected = (conflicts, is, inl rejected)

-- ---- one that is

least-by : (league : Instance) (limit : Option ℕ) (cost : ℕ) (steps : List Step) (test : Bool) → (cost == 0) ≡ test
    → (1 ≤ cost → Refutes (bound_rows league (cost - 1)) (bound_vars league) limit steps)
    → (if test then Accepted else verdict_of (bound_rows league (cost - 1)) (bound_vars league) steps) ≡ Accepted
least-by league limit cost steps true is refutes = refl
least-by league limit cost steps false is refutes =
    let some : 1 ≤ cost = grind (arith, nat_tests) in
    (refutes some).accepted

pub least-verdict : (league : Instance) (limit : Option ℕ) (cost : ℕ) (steps : List Step)
    → (1 ≤ cost → Refutes (bound_rows league (cost - 1)) (bound_vars league) limit steps)
    → bound_verdict league cost steps ≡ Accepted
least-verdict league limit cost steps refutes = least-by league limit cost steps (cost == 0) refl refutes

abbrev certificate_said : List Step → ℕ → Result Certificate Fault
certificate_said log cost = Ok (record { bound = cost; log = log })

-- what is found of a floor, by the verdict of `bound`
floor-verdict_by : (league : Instance) (floor : Floor) (test : Bool) → (floor.bound == 0) ≡ test → IsFloor league floor
    → (if test then Accepted else verdict_of (bound_rows league (floor.bound - 1)) (bound_vars league) floor.log)
    ≡ Accepted
floor-verdict_by league floor true is found = refl
floor-verdict_by league floor false is found =
    let some : 1 ≤ floor.bound = grind (arith, nat_tests) in
    found.accepted some

pub floor-verdict : (league : Instance) (floor : Floor) → IsFloor league floor
    → bound_verdict league floor.bound floor.log ≡ Accepted
floor-verdict league floor found = floor-verdict_by league floor (floor.bound == 0) refl found

pub floor-certified : (league : Instance) (floor : Floor) → IsFloor league floor
    → certificate_of (certificate_text floor.bound floor.log)
    ≡ Ok (record { bound = floor.bound; log = floor.log }) → IsCertified league floor.bound floor.log
floor-certified league floor found reads_back = record {
  least = found.least;
  proves = floor-verdict league floor found;
  reads_back = reads_back;
}

-- a floor that isn't below the objective is the objective, and else the log is written too
shown-floored : {may_stop : Type 0} (league : Instance) (limit : Option ℕ) (games : List Game) (costs : ℕ)
    (floor : Floor) (log : List Step) (answer : Answer) → costs ≡ objective league (counts_of games)
    → IsAccepted league (counts_of games) → proofs.IsSpentBelow league (counts_of games) limit may_stop log
    → IsFloor league floor → TellsBeside costs floor log answer → IsShown league limit may_stop games answer
shown-floored league limit games costs floor log answer same accepted is found (inl told) =
    let most : floor.bound ≤ objective league (counts_of games) = found.least (counts_of games) accepted in
    let least : costs ≤ floor.bound = told.0 in
    let bound_is : floor.bound ≡ objective league (counts_of games) = omega (arith, most, least, same) in
    let read : certificate_of (certificate_text floor.bound floor.log) ≡ certificate_said floor.log floor.bound =
    ap (λ (text : List ℕ). certificate_of text) (sym told.1.text) ∙ told.1.reads_back found.short found.nothing in
    inr (inr (inl (record {
      steps = log;
      floor = floor.log;
      accepted = accepted;
      some = is.some;
      budget = is.spent.limited;
      spent = is.spent.spent;
      few = is.spent.few;
      certified =
          subst (λ (c : ℕ). IsCertified league c floor.log) bound_is (floor-certified league floor found read);
      status = told.1.status;
      text = told.1.text ∙ ap (λ (c : ℕ). certificate_text c floor.log) bound_is;
    })))
shown-floored league limit games costs floor log answer same accepted is found (inr told) =
    inr (inr (inr (inr (record {
      steps = log;
      bound = floor.bound;
      floor = floor.log;
      accepted = accepted;
      some = is.some;
      settled = is.settled;
      budget = is.spent.limited;
      spent = is.spent.spent;
      few = is.spent.few;
      below = subst (λ (c : ℕ). floor.bound < c) same told.0;
      certified = floor-certified league floor found told.1.floor_reads_back;
      status = told.1.status;
      text = told.1.text ∙ ap (λ (c : ℕ). spent_text c floor.bound floor.log log) same;
      reads_back = told.1.reads_back;
    }))))

pub shown-told : {may_stop : Type 0} (league : Instance) (limit : Option ℕ) (games : List Game) (costs : ℕ)
    (proved : Proved) (answer : Answer) → costs ≡ objective league (counts_of games) → IsTeamCount league.n
    → IsAccepted league (counts_of games) → proofs.IsProved league (counts_of games) limit may_stop proved
    → Tells league costs proved answer → IsShown league limit may_stop games answer
shown-told league limit games costs (Least cost log) answer same teams accepted is told = inr (inl (record {
  steps = log;
  accepted = accepted;
  least = subst (λ (c : ℕ). IsLowerBound league c) is.cost is.least;
  proves = subst (λ (c : ℕ). bound_verdict league c log ≡ Accepted) is.cost
      (least-verdict league limit cost log is.refutes);
  within = λ some. refutes-few (bound_rows league (cost - 1)) (bound_vars league) limit log
      (is.refutes (omega (arith, some, is.cost)));
  status = told.status;
  text = told.text ∙ ap (λ (c : ℕ). certificate_text c log) is.cost;
  reads_back = λ short. told.reads_back short is.nothing ∙ ap (certificate_said log) is.cost;
}))
shown-told league limit games costs (Better better cost) answer same teams accepted is told = inr (inr (inr (inl (record {
  better = better;
  accepted = accepted;
  better_accepted = is.accepted;
  fit = is.fit;
  in_order = is.in_order;
  lower = subst (λ (c : ℕ). c < objective league (counts_of games)) is.cost is.lower;
  status = told.0;
  text = told.1 ∙ ap (λ (c : ℕ). solution_text better (Some (0, c))) is.cost;
  reads_back = ap (λ (written : List ℕ). solution_of league.n (pieces written)) told.1
      ∙ solution-reads_back league.n better (Some (0, cost)) teams.at_most
      (round_robin-few league.n league.phased better teams is.fit is.accepted.round_robin) is.fit;
}))))
shown-told league limit games costs (Spent log) answer same teams accepted is told =
    shown-floored league limit games costs told.0 log answer same accepted is told.1 told.2

pub proved-written : (league : Instance) (m : Counts) (limit : Option ℕ) (may_stop : Type 0) (proved : Proved)
    → proofs.IsProved league m limit may_stop proved → CanBeWritten proved
proved-written league m limit may_stop (Least cost log) is = is.named
proved-written league m limit may_stop (Better better cost) is = tt
proved-written league m limit may_stop (Spent log) is = is.named

-- ---- the same of a reply, unless memory ran out

-- what is written beside a floor that is no less than the schedule's objective, and beside one that is
pub told-least : {E : Type 0} (league : Instance) (costs : ℕ) (floor : Floor) (log : List Step)
    (result : Result Reply E) → IsFloor league floor → costs ≤ floor.bound
    → IfOk result (λ reply. TellsLeast floor.bound floor.log (answer_of reply))
    → IfOk result (λ reply. TellsFloored league costs log (answer_of reply))
told-least {E} league costs floor log (Ok reply) found least told = (floor, found, inl (least, told))
told-least {E} league costs floor log (Err error) found least told = tt

pub told-spent : {E : Type 0} (league : Instance) (costs : ℕ) (floor : Floor) (log : List Step)
    (result : Result Reply E) → IsFloor league floor → floor.bound < costs
    → IfOk result (λ reply. (answer_of reply).status ≡ statuses.Spent)
    → IfOk result (λ reply. (answer_of reply).text ≡ spent_text costs floor.bound floor.log log)
    → IfOk result (λ _. certificate_of (certificate_text floor.bound floor.log)
    ≡ Ok (record { bound = floor.bound; log = floor.log }))
    → IfOk result (λ _. HasShortLines log → log_of (log_text log) ≡ Ok log)
    → IfOk result (λ reply. TellsFloored league costs log (answer_of reply))
told-spent {E} league costs floor log (Ok reply) found below status text floor_reads_back reads_back = (
  floor,
  found,
  inr (
    below,
    record { status = status; text = text; floor_reads_back = floor_reads_back; reads_back = reads_back },
  ),
)
told-spent {E} league costs floor log (Err error) found below status text floor_reads_back reads_back = tt

pub told-better : {E : Type 0} (objective : ℕ) (games : List Game) (result : Result Reply E)
    → IfOk result (λ reply. (answer_of reply).status ≡ statuses.Better)
    → IfOk result (λ reply. (answer_of reply).text ≡ solution_text games (Some (0, objective)))
    → IfOk result
    (λ reply. ((answer_of reply).status ≡ statuses.Better)
    × ((answer_of reply).text ≡ solution_text games (Some (0, objective))))
told-better {E} objective games (Ok reply) status text = (status, text)
told-better {E} objective games (Err error) status text = tt

pub replied-rejected : {E : Type 0} (league : Instance) (floor : Option ℕ) (limits : Option ℕ → Type 0)
    (may_stop : Type 0) (conflicts : Option ℕ) (games : List Game) (result : Result Reply E) → limits conflicts
    → (IsAccepted league (counts_of games) → ⊥)
    → IfOk result (λ reply. IsJudgement league games (answer_of reply))
    → IfOk result (λ reply. IsShownWith floor limits may_stop league games (answer_of reply))
replied-rejected {E} league floor limits may_stop conflicts games (Ok reply) is fails judged =
    rejected-with league floor limits may_stop conflicts games (answer_of reply) is
    (rejected-judged league games (answer_of reply) fails judged)
replied-rejected {E} league floor limits may_stop conflicts games (Err error) is fails judged = tt

pub replied-told : {E : Type 0} (league : Instance) (limit : Option ℕ) (may_stop : Type 0) (games : List Game)
    (costs : ℕ) (proved : Proved) (result : Result Reply E) → costs ≡ objective league (counts_of games)
    → IsTeamCount league.n → IsAccepted league (counts_of games)
    → proofs.IsProved league (counts_of games) limit may_stop proved
    → IfOk result (λ reply. Tells league costs proved (answer_of reply))
    → IfOk result (λ reply. IsShown league limit may_stop games (answer_of reply))
replied-told {E} league limit may_stop games costs proved (Ok reply) same teams accepted is told =
    shown-told league limit games costs proved (answer_of reply) same teams accepted is told
replied-told {E} league limit may_stop games costs proved (Err error) same teams accepted is told = tt

-- a reply within the limit to which the search kept
pub replied-by : {E : Type 0} (league : Instance) (limits : Option ℕ → Type 0) (may_stop : Type 0)
    (games : List Game) (result : Result Reply E) (conflicts : Option ℕ) → limits conflicts
    → IfOk result (λ reply. IsShown league conflicts may_stop games (answer_of reply))
    → IfOk result (λ reply. IsShownBy league limits may_stop games (answer_of reply))
replied-by {E} league limits may_stop games (Ok reply) conflicts is shown = (conflicts, is, shown)
replied-by {E} league limits may_stop games (Err error) conflicts is shown = tt
