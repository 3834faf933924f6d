-- What is shown of a floor that is asked for, answered.
use Rattle.std.proofs.Common.{◌≡◌, ℕ, ◌-◌, ◌<◌, ◌≤◌, min, List, [], length, Option, Some, Result, Ok, Err, arith, ap, subst, sym, ◌∙◌, inl, inr}
use Rattle.std.specs.Prelude.{IfOk}
use Rattle.league.specs.Accepted.{IsAccepted, objective}
use Rattle.league.specs.Counts.{counts_of}
use Rattle.league.specs.Instance.{Instance, IsTeamCount}
use Rattle.league.specs.declared.game.Game.{Game}
use Rattle.robinx.specs.Pieces.{pieces}
use Rattle.robinx.specs.SolutionFile.{solution_of}
use Rattle.robinx.specs.Texts.{solution_text}
use Rattle.robinx.proofs.SolutionLemmas.{solution-reads_back}
use Rattle.solve.proofs.FewLemmas.{round_robin-few}
use Rattle.answers.specs.Reply.{Answer}
use Rattle.answers.specs.SeenReply.{answer_of}
use Rattle.answers.specs.declared.reply.Reply.{Reply}
use Rattle.answers.specs.declared.status.Status.TheVariants as statuses
use Rattle.refutation.specs.Logs.{log_of}
use Rattle.refutation.specs.Steps.{Step}
use Rattle.refutation.specs.Texts.{log_text}
use Rattle.refutation.specs.Writable.{HasShortLines}
use Rattle.refutation.specs.declared.verdict.Verdict.TheVariants.{Accepted}
use Rattle.clause_search.specs.News.{IsSpent}
use Rattle.bound_rows.specs.BoundRows.{bound_rows, bound_vars}
use Rattle.bound_rows.specs.Faithful.{IsLowerBound}
use Rattle.bounds.specs.Certificates.{certificate_of, certificate_text}
use Rattle.bounds.specs.Proofs.{IsSought, IsSoughtBy, IsSpentUnder}
use Rattle.bounds.specs.declared.proved.Proved.{Proved}
use Rattle.bounds.specs.declared.proved.Proved.TheVariants.{Least, Better, Spent}
use Rattle.floors.specs.Floors.{IsFloor}
use Rattle.floors.specs.declared.floor.Floor.{Floor}
use Rattle.command_prove.specs.Bound.{bound_verdict}
use Rattle.command_prove.specs.Floor.{IsFloorShown, IsFloorShownBy, reached_text}
use Rattle.command_prove.specs.Prove.{IsBettered, spent_text}
use Rattle.command_prove.specs.Told.{CanBeWritten, TellsFloor, TellsMissed, TellsNear}
use Rattle.command_prove.proofs.ShownLemmas.{floor-certified, floor-verdict, least-verdict}

-- ---- what is told is shown

-- the log of a bound that no schedule costs less than
reached-told : (league : Instance) (limit : Option ℕ) (asked costs sought : ℕ) (games : List Game) (bound : ℕ)
    (log : List Step) (answer : Answer) → costs ≡ objective league (counts_of games) → sought ≡ min asked costs
    → IsAccepted league (counts_of games) → IsSought league sought limit (Least bound log)
    → TellsFloor league costs sought (Least bound log) answer → IsFloorShown league asked limit games answer
reached-told league limit asked costs sought games bound log answer same lower accepted (is_bound, none) told = inr (inl (record {
  bound = bound;
  steps = log;
  accepted = accepted;
  reached = omega (arith, is_bound, lower, same);
  least = subst (λ (b : ℕ). IsLowerBound league b) (sym is_bound) none.least;
  proves = subst (λ (b : ℕ). bound_verdict league b log ≡ Accepted) (sym is_bound)
      (least-verdict league limit sought log none.refutes);
  status = told.status;
  text = told.text ∙ ap (λ (c : ℕ). reached_text c bound log) same;
  reads_back = λ short. told.reads_back short (λ is. none.nothing (sym is_bound ∙ is));
}))

-- a schedule that costs less than the bound
undercut-told : (league : Instance) (limit : Option ℕ) (asked costs sought : ℕ) (games better : List Game) (cost : ℕ)
    (answer : Answer) → costs ≡ objective league (counts_of games) → sought ≡ min asked costs → IsTeamCount league.n
    → IsAccepted league (counts_of games) → IsSought league sought limit (Better better cost)
    → TellsFloor league costs sought (Better better cost) answer → IsFloorShown league asked limit games answer
undercut-told league limit asked costs sought games better cost answer same lower teams accepted is told =
    let found : IsBettered league games answer = record {
      better = better;
      accepted = accepted;
      better_accepted = is.accepted;
      fit = is.fit;
      in_order = is.in_order;
      lower = omega (arith, is.cost, is.lower, lower, same);
      status = told.0;
      text = told.1 ∙ ap (λ (c : ℕ). solution_text better (Some (0, c))) is.cost;
      reads_back = ap (λ (written : List ℕ). solution_of league.n (pieces written)) told.1
          ∙ solution-reads_back league.n better (Some (0, cost)) teams.at_most
          (round_robin-few league.n league.phased better teams is.fit is.accepted.round_robin) is.fit;
    } in
    let under : objective league (counts_of better) < asked = omega (arith, is.cost, is.lower, lower) in
    inr (inr (inl (found, under)))

-- a floor that isn't below the bound is high enough, and else the log is written too
missed-told : (league : Instance) (limit : Option ℕ) (asked costs sought : ℕ) (games : List Game) (floor : Floor)
    (log : List Step) (answer : Answer) → costs ≡ objective league (counts_of games) → sought ≡ min asked costs
    → IsAccepted league (counts_of games) → IsSpentUnder league sought limit log → IsFloor league floor
    → TellsNear costs sought floor log answer → IsFloorShown league asked limit games answer
missed-told league limit asked costs sought games floor log answer same lower accepted is found (inl told) =
    let enough : sought ≤ floor.bound = told.0 in
    inr (inl (record {
      bound = floor.bound;
      steps = floor.log;
      accepted = accepted;
      reached = omega (arith, enough, lower, same);
      least = found.least;
      proves = floor-verdict league floor found;
      status = told.1.status;
      text = told.1.text ∙ ap (λ (c : ℕ). reached_text c floor.bound floor.log) same;
      reads_back = λ short. told.1.reads_back short found.nothing;
    }))
missed-told league limit asked costs sought games floor log answer same lower accepted is found (inr told) =
    let sought_is : sought ≡ min asked (objective league (counts_of games)) =
    lower ∙ ap (λ (c : ℕ). min asked c) same in
    inr (inr (inr (record {
      steps = log;
      bound = floor.bound;
      floor = floor.log;
      accepted = accepted;
      below = subst (λ (c : ℕ). floor.bound < c) sought_is told.0;
      budget = is.spent.limited;
      spent = subst (λ (c : ℕ). IsSpent (length log) (bound_rows league (c - 1)) (bound_vars league) log) sought_is
          is.spent.spent;
      few = is.spent.few;
      certified = floor-certified league floor found told.1.floor_reads_back;
      status = told.1.status;
      text = told.1.text ∙ ap (λ (c : ℕ). spent_text c floor.bound floor.log log) same;
      reads_back = told.1.reads_back;
    })))

floor-told : (league : Instance) (limit : Option ℕ) (asked costs sought : ℕ) (games : List Game) (proved : Proved)
    (answer : Answer) → costs ≡ objective league (counts_of games) → sought ≡ min asked costs → IsTeamCount league.n
    → IsAccepted league (counts_of games) → IsSought league sought limit proved
    → TellsFloor league costs sought proved answer → IsFloorShown league asked limit games answer
floor-told league limit asked costs sought games (Least bound log) answer same lower teams accepted is told =
    reached-told league limit asked costs sought games bound log answer same lower accepted is told
floor-told league limit asked costs sought games (Better better cost) answer same lower teams accepted is told =
    undercut-told league limit asked costs sought games better cost answer same lower teams accepted is told
floor-told league limit asked costs sought games (Spent log) answer same lower teams accepted is told =
    missed-told league limit asked costs sought games told.0 log answer same lower accepted is told.1 told.2

pub sought-written : (league : Instance) (bound : ℕ) (limit : Option ℕ) (proved : Proved)
    → IsSought league bound limit proved → CanBeWritten proved
sought-written league bound limit (Least cost log) is = is.1.named
sought-written league bound limit (Better better cost) is = tt
sought-written league bound limit (Spent log) is = is.named

-- ---- the same of a reply, unless memory ran out

-- what is written beside a floor that is no less than the number sought, and beside one that is
pub told-reached : {E : Type 0} (league : Instance) (costs sought : ℕ) (floor : Floor) (log : List Step)
    (result : Result Reply E) → IsFloor league floor → sought ≤ floor.bound
    → IfOk result (λ reply. (answer_of reply).status ≡ statuses.Yes)
    → IfOk result (λ reply. (answer_of reply).text ≡ reached_text costs floor.bound floor.log)
    → IfOk result (λ _. HasShortLines floor.log → (floor.bound ≡ 0 → floor.log ≡ [])
    → certificate_of (certificate_text floor.bound floor.log) ≡ Ok (record { bound = floor.bound; log = floor.log }))
    → IfOk result (λ reply. TellsMissed league costs sought log (answer_of reply))
told-reached {E} league costs sought floor log (Ok reply) found enough status text reads_back =
    (floor, found, inl (enough, record { status = status; text = text; reads_back = reads_back }))
told-reached {E} league costs sought floor log (Err error) found enough status text reads_back = tt

pub told-missed : {E : Type 0} (league : Instance) (costs sought : ℕ) (floor : Floor) (log : List Step)
    (result : Result Reply E) → IsFloor league floor → floor.bound < sought
    → IfOk result (λ reply. (answer_of reply).status ≡ statuses.Spent)
    → IfOk result (λ reply. (answer_of reply).text ≡ spent_text costs floor.bound floor.log log)
    → IfOk result (λ _. certificate_of (certificate_text floor.bound floor.log)
    ≡ Ok (record { bound = floor.bound; log = floor.log }))
    → IfOk result (λ _. HasShortLines log → log_of (log_text log) ≡ Ok log)
    → IfOk result (λ reply. TellsMissed league costs sought log (answer_of reply))
told-missed {E} league costs sought floor log (Ok reply) found below status text floor_reads_back reads_back = (
  floor,
  found,
  inr (
    below,
    record { status = status; text = text; floor_reads_back = floor_reads_back; reads_back = reads_back },
  ),
)
told-missed {E} league costs sought floor log (Err error) found below status text floor_reads_back reads_back = tt

-- the certificate of a search
pub told-none : {E : Type 0} (league : Instance) (costs sought bound : ℕ) (log : List Step) (result : Result Reply E)
    → IfOk result (λ reply. (answer_of reply).status ≡ statuses.Yes)
    → IfOk result (λ reply. (answer_of reply).text ≡ reached_text costs bound log)
    → IfOk result (λ _. HasShortLines log → (bound ≡ 0 → log ≡ [])
    → certificate_of (certificate_text bound log) ≡ Ok (record { bound = bound; log = log }))
    → IfOk result (λ reply. TellsFloor league costs sought (Least bound log) (answer_of reply))
told-none {E} league costs sought bound log (Ok reply) status text reads_back =
    record { status = status; text = text; reads_back = reads_back }
told-none {E} league costs sought bound log (Err error) status text reads_back = tt

-- for each accepted schedule of the cost that is told
pub replied-floor : {E : Type 0} (league : Instance) (limits : Option ℕ → Type 0) (asked costs sought : ℕ)
    (proved : Proved) (result : Result Reply E) → sought ≡ min asked costs → IsTeamCount league.n
    → IsSoughtBy league sought limits proved
    → IfOk result (λ reply. TellsFloor league costs sought proved (answer_of reply))
    → IfOk result (λ reply. (games : List Game) → IsAccepted league (counts_of games)
    → costs ≡ objective league (counts_of games) → IsFloorShownBy league asked limits games (answer_of reply))
replied-floor {E} league limits asked costs sought proved (Ok reply) lower teams (limit, is, found) told =
    λ games accepted same.
    (limit, is, floor-told league limit asked costs sought games proved (answer_of reply) same lower teams accepted found told)
replied-floor {E} league limits asked costs sought proved (Err error) lower teams sought_by told = tt

-- for one of them
pub floor-for : {E : Type 0} (league : Instance) (limits : Option ℕ → Type 0) (asked costs : ℕ) (games : List Game)
    (result : Result Reply E) → IsAccepted league (counts_of games) → costs ≡ objective league (counts_of games)
    → IfOk result (λ reply. (season : List Game) → IsAccepted league (counts_of season)
    → costs ≡ objective league (counts_of season) → IsFloorShownBy league asked limits season (answer_of reply))
    → IfOk result (λ reply. IsFloorShownBy league asked limits games (answer_of reply))
floor-for {E} league limits asked costs games (Ok reply) accepted same shown = shown games accepted same
floor-for {E} league limits asked costs games (Err error) accepted same shown = tt
