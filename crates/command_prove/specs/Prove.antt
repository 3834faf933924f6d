-- What `prove` answers: its stages in their order, and what is shown of a schedule.
use Rattle.std.specs.Prelude.{◌≡◌, ℕ, ◌+◌, ◌-◌, ◌<◌, ◌≤◌, ◌^◌, ◌⊎◌, List, ◌++◌, length, codes, decimal}
use Rattle.std.specs.Prelude.{Option, Some, Ok, IfSome}
use Rattle.std.specs.List.{All}
use Rattle.robin_io.specs.Outside.{Store}
use Rattle.league.specs.Accepted.{IsAccepted, objective}
use Rattle.league.specs.Counts.{counts_of}
use Rattle.league.specs.Instance.{Instance, IsGame}
use Rattle.league.specs.Order.{IsInOrder}
use Rattle.league.specs.declared.game.Game.{Game}
use Rattle.robinx.specs.Pieces.{pieces}
use Rattle.robinx.specs.InstanceFile.{instance_of}
use Rattle.robinx.specs.SolutionFile.{solution_of}
use Rattle.robinx.specs.Texts.{solution_text}
use Rattle.robinx.specs.declared.instance.TheConstants.{INSTANCE_LIMIT, SOLUTION_LIMIT}
use Rattle.answers.specs.Reply.{Answer}
use Rattle.answers.specs.Stages.{◌>>=◌, Outcome, reads, says}
use Rattle.answers.specs.declared.status.Status.TheVariants.{Yes, No, Spent, Better}
use Rattle.refutation.specs.Logs.{log_of}
use Rattle.refutation.specs.Steps.{Step}
use Rattle.refutation.specs.Texts.{log_text}
use Rattle.refutation.specs.Writable.{HasShortLines}
use Rattle.refutation.specs.declared.verdict.Verdict.TheVariants.{Accepted}
use Rattle.clause_search.specs.News.{IsSpent}
use Rattle.descent.specs.Settled.{IsSettled}
use Rattle.solve.specs.Solutions.{league_score}
use Rattle.bound_rows.specs.BoundRows.{bound_rows, bound_size, bound_vars}
use Rattle.bound_rows.specs.Faithful.{IsLowerBound}
use Rattle.bounds.specs.Certificates.{certificate_of, certificate_text}
use Rattle.command_check.specs.Validate.{IsJudgement, IsWellFormedPair}
use Rattle.command_prove.specs.Bound.{bound_verdict, has_few_terms}
use Rattle.encoding.specs.Limit.{most_terms}

-- ---- what is shown of a schedule

-- the league doesn't accept it, and the report of `validate` says why
pub record IsRejected (league : Instance) (games : List Game) (answer : Answer) : Type 0 where
  pub judgement : IsJudgement league games answer
  pub status : answer.status ≡ No

-- No schedule that the league accepts has a lower objective. A certificate whose log has one step more than the budget
-- at most, and is accepted, is written; where no line of it passes the limit of a line, it reads back as it.
pub record IsLeast (league : Instance) (conflicts : Option ℕ) (games : List Game) (answer : Answer) : Type 0 where
  pub steps : List Step
  pub accepted : IsAccepted league (counts_of games)
  pub least : IsLowerBound league (objective league (counts_of games))
  pub proves : bound_verdict league (objective league (counts_of games)) steps ≡ Accepted
  pub within : 1 ≤ objective league (counts_of games) → IfSome conflicts (λ most. length steps ≤ most + 1)
  pub status : answer.status ≡ Yes
  pub text : answer.text ≡ certificate_text (objective league (counts_of games)) steps
  pub reads_back : HasShortLines steps
      → certificate_of answer.text ≡ Ok (record { bound = objective league (counts_of games); log = steps })

-- A floor: no schedule that the league accepts has an objective below it. The certificate that says so is accepted by
-- the verdict of `bound`, and its text reads back as it.
pub record IsCertified (league : Instance) (bound : ℕ) (steps : List Step) : Type 0 where
  pub least : IsLowerBound league bound
  pub proves : bound_verdict league bound steps ≡ Accepted
  pub reads_back : certificate_of (certificate_text bound steps) ≡ Ok (record { bound = bound; log = steps })

-- No schedule that the league accepts has a lower objective, as a floor says: a search with a budget spent it over the
-- bound rows of one less than the objective, and the floor that was found then is the objective. A certificate of the
-- floor, which is accepted, is written alone, and reads back as it. Its log may have any number of steps, since no search
-- makes it. Without a budget there is no such answer.
pub record IsLeastByFloor (league : Instance) (conflicts : Option ℕ) (games : List Game) (answer : Answer) : Type 0
  where
    pub steps : List Step
    pub floor : List Step
    pub accepted : IsAccepted league (counts_of games)
    pub some : 1 ≤ objective league (counts_of games)
    pub budget : conflicts ≡ Some (length steps)
    pub spent : IsSpent (length steps) (bound_rows league (objective league (counts_of games) - 1)) (bound_vars league)
        steps
    pub few : length steps < 3 ^ bound_vars league
    pub certified : IsCertified league (objective league (counts_of games)) floor
    pub status : answer.status ≡ Yes
    pub text : answer.text ≡ certificate_text (objective league (counts_of games)) floor

-- A schedule of games of the league, which accepts it, in order, with a lower objective, is written as a solution file,
-- with it, and reads back as these games.
pub record IsBettered (league : Instance) (games : List Game) (answer : Answer) : Type 0 where
  pub better : List Game
  pub accepted : IsAccepted league (counts_of games)
  pub better_accepted : IsAccepted league (counts_of better)
  pub fit : All (IsGame league.n) better
  pub in_order : IsInOrder better
  pub lower : objective league (counts_of better) < objective league (counts_of games)
  pub status : answer.status ≡ Better
  pub text : answer.text ≡ solution_text better (Some (0, objective league (counts_of better)))
  pub reads_back : solution_of league.n (pieces answer.text) ≡ Ok better

-- the line of the schedule's objective
abbrev pub objective_line : ℕ → List ℕ
objective_line cost = codes "objective " ++ (decimal cost ++ codes "\n")

-- that line, a certificate of a floor and a log
abbrev pub spent_text : ℕ → ℕ → List Step → List Step → List ℕ
spent_text cost bound floor steps = objective_line cost ++ certificate_text bound floor ++ log_text steps

-- No single legal move betters the schedule, where nothing may stop the run. Behind the schedule's objective a
-- certificate of a floor below it is written, and then a log that is spent at the budget over the bound rows of one less
-- than the objective. If no line of the log passes the limit of a line, its text reads back as the log. The budget is
-- below 3 to the number of variables, so a greater budget, or none, is never spent.
pub record IsSpentBelow (league : Instance) (conflicts : Option ℕ) (may_stop : Type 0) (games : List Game)
    (answer : Answer) : Type 0
  where
    pub steps : List Step
    pub bound : ℕ
    pub floor : List Step
    pub accepted : IsAccepted league (counts_of games)
    pub some : 1 ≤ objective league (counts_of games)
    pub settled : may_stop ⊎ IsSettled league.n league.phased (league_score league) (counts_of games)
    pub budget : conflicts ≡ Some (length steps)
    pub spent : IsSpent (length steps) (bound_rows league (objective league (counts_of games) - 1)) (bound_vars league)
        steps
    pub few : length steps < 3 ^ bound_vars league
    pub below : bound < objective league (counts_of games)
    pub certified : IsCertified league bound floor
    pub status : answer.status ≡ Spent
    pub text : answer.text ≡ spent_text (objective league (counts_of games)) bound floor steps
    pub reads_back : HasShortLines steps → log_of (log_text steps) ≡ Ok steps

-- what is shown of a schedule, by a search that learns at most so many clauses, in a run that may be stopped where
-- `may_stop` says so
abbrev pub IsShown : Instance → Option ℕ → Type 0 → List Game → Outcome
IsShown league conflicts may_stop games answer =
    IsRejected league games answer
    ⊎ (IsLeast league conflicts games answer
    ⊎ (IsLeastByFloor league conflicts games answer
    ⊎ (IsBettered league games answer ⊎ IsSpentBelow league conflicts may_stop games answer)))

-- that, by a search that keeps to one of these limits
abbrev pub IsShownBy : Instance → (Option ℕ → Type 0) → Type 0 → List Game → Outcome
IsShownBy league limits may_stop games answer =
    (conflicts : Option ℕ) × limits conflicts × IsShown league conflicts may_stop games answer

-- ---- stages

-- `prove`, over what a store shows, where this is shown of the schedule of a league
abbrev pub proved : Store → List ℕ → List ℕ → (Instance → List Game → Outcome) → Outcome
proved store instance solution shown = do
  first ← reads store (codes "instance") instance INSTANCE_LIMIT 0
  league ← says (codes "instance") (instance_of (pieces first))
  few ← has_few_terms league
  second ← reads store (codes "solution") solution SOLUTION_LIMIT (length first)
  games ← says (codes "solution") (solution_of league.n (pieces second))
  shown league games

-- ---- a run

-- a well-formed pair of files, whose league's bound rows aren't too many
pub record IsWellFormedCase
    (store : Store)
    (instance solution : List ℕ)
    (league : Instance)
    (games : List Game)
    : Type 0 where
  pub pair : IsWellFormedPair store instance solution league games
  pub small : bound_size league ≤ most_terms
