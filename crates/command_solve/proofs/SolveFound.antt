-- What is found of a league, answered.
use Rattle.std.proofs.Common.{◌≡◌, ℕ, ◌++◌, true, List, Some, Result, Ok, Err}
use Rattle.std.proofs.Common.{arith, ap, inl, inr, subst, sym, ◌∙◌}
use Rattle.std.specs.Prelude.{IfOk}
use Rattle.robin_watch.specs.declared.budgets.Budgets.{Budgets}
use Rattle.league.specs.Accepted as costs
use Rattle.league.specs.Accepted.{IsAccepted}
use Rattle.league.specs.Counts.{counts_of}
use Rattle.league.specs.Instance.{Instance, IsTeamCount}
use Rattle.league.specs.declared.game.Game.{Game}
use Rattle.circle_method.specs.Circle.{double_games}
use Rattle.robinx.specs.Pieces.{pieces}
use Rattle.robinx.specs.SolutionFile.{solution_of}
use Rattle.robinx.specs.Texts.{solution_text}
use Rattle.encoding.specs.Encoding.{rows_of}
use Rattle.refutation.specs.Steps.{Step}
use Rattle.refutation.specs.Logs.{log_of}
use Rattle.refutation.specs.Texts.{log_text}
use Rattle.answers.specs.Reply.{Answer}
use Rattle.answers.specs.SeenReply.{answer_of}
use Rattle.answers.specs.declared.reply.Reply.{Reply}
use Rattle.answers.specs.declared.status.Status.TheVariants.{Yes, Refuted, Spent}
use Rattle.league_search.specs.declared.found.PatternFound.{PatternFound}
use Rattle.solve.specs.Solutions.{CostsAtMost, HasSchedule, IsRefuted, IsSolution, IsSolutionBy, IsSpentOn}
use Rattle.solve.specs.Solutions.{LeavesOpen, RefutesLeague}
use Rattle.solve.specs.Solutions as solutions
use Rattle.solve.proofs.FewLemmas.{round_robin-few}
use Rattle.solve.specs.declared.solved.Solved.{Solved}
use Rattle.solve.specs.declared.solved.Solved.TheVariants as answers
use Rattle.solve.proofs.LowerLemmas.{IsDescent-climbs, IsDescent-settles}
use Rattle.descent.specs.Descended.{Descended}
use Rattle.venue_counts.specs.VenueCounts.{are_crowded, are_short}
use Rattle.break_counts.specs.BreakCounts.{are_few}
use Rattle.command_solve.specs.From.{IsScheduleWithin}
use Rattle.command_solve.specs.Solve.{IsFound, IsFoundBy, IsSchedule, descent_text}
use Rattle.command_solve.specs.Written.{IsWritten}
use Rattle.command_solve.proofs.ReadingLemmas.{schedule-reads_back}

-- a schedule that is written
abbrev pub schedule-told : (league : Instance) (moves : ℕ) (may_stop : Type 0) (games : List Game) (objective : ℕ)
    (descent : Descended) (answer : Answer) → IsTeamCount league.n
    → solutions.IsSchedule league moves may_stop games objective descent → answer.status ≡ Yes
    → answer.text
    ≡ solution_text games (Some (0, objective))
    ++ descent_text (costs.objective league (counts_of descent.first)) descent
    → IsSchedule league moves may_stop answer
schedule-told league moves may_stop games objective descent answer teams schedule status text = record {
  games = games;
  descent = descent;
  accepted = schedule.accepted;
  fit = schedule.fit;
  in_order = schedule.in_order;
  descends = schedule.descends;
  climbs = IsDescent-climbs league moves may_stop games descent schedule.descends;
  settles = IsDescent-settles league moves may_stop games descent schedule.descends;
  status = status;
  text = text
      ∙ ap
      (λ (cost : ℕ). solution_text games (Some (0, cost))
      ++ descent_text (costs.objective league (counts_of descent.first)) descent)
      schedule.cost;
  reads_back = ap (λ (written : List ℕ). solution_of league.n (pieces written)) text
      ∙ schedule-reads_back league.n games objective (costs.objective league (counts_of descent.first)) descent
      teams.at_most
      (round_robin-few league.n league.phased games teams schedule.fit schedule.accepted.round_robin) schedule.fit;
}

found-schedule : (league : Instance) (budgets : Budgets) (may_stop : Type 0) (games : List Game) (objective : ℕ)
    (descent : Descended) (answer : Answer) → IsTeamCount league.n
    → solutions.IsSchedule league budgets.moves may_stop games objective descent
    → (are_short league ≡ true → ⊥) → (are_crowded league ≡ true → ⊥) → (are_few league ≡ true → ⊥) → answer.status ≡ Yes
    → answer.text
    ≡ solution_text games (Some (0, objective))
    ++ descent_text (costs.objective league (counts_of descent.first)) descent
    → IsFound league budgets may_stop (rows_of league) answer
found-schedule league budgets may_stop games objective descent answer teams schedule not_short not_crowded enough status
    text = record {
      found = inl (schedule-told league budgets.moves may_stop games objective descent answer teams schedule status text);
      circle = λ accepted. status;
      short = λ is. absurd (not_short is);
      crowded = λ is. absurd (not_crowded is);
      few = λ is. absurd (enough is);
    }

found-refuted : (league : Instance) (budgets : Budgets) (may_stop : Type 0) (steps : List Step) (answer : Answer)
    → RefutesLeague league steps → (IsAccepted league (counts_of (double_games league.n)) → ⊥)
    → answer.status ≡ Refuted → answer.text ≡ log_text steps → log_of answer.text ≡ Ok steps
    → IsFound league budgets may_stop (rows_of league) answer
found-refuted league budgets may_stop steps answer refutes no_circle status text reads_back = record {
  found = inr (inl (record {
    steps = steps;
    accepted = refutes.accepted;
    none = refutes.none;
    status = status;
    text = text;
    reads_back = reads_back;
  }));
  circle = λ accepted. absurd (no_circle accepted);
  short = λ is. status;
  crowded = λ is. status;
  few = λ is. status;
}

found-spent : (league : Instance) (budgets : Budgets) (may_stop : Type 0) (steps : List Step)
    (patterns : PatternFound) (answer : Answer) → IsSpentOn league budgets.conflicts steps
    → LeavesOpen league budgets.patterns patterns
    → (IsAccepted league (counts_of (double_games league.n)) → ⊥) → (are_short league ≡ true → ⊥)
    → (are_crowded league ≡ true → ⊥) → (are_few league ≡ true → ⊥) → answer.status ≡ Spent → answer.text ≡ log_text steps
    → log_of answer.text ≡ Ok steps → IsFound league budgets may_stop (rows_of league) answer
found-spent league budgets may_stop steps patterns answer spent leaves no_circle not_short not_crowded enough status text
    reads_back =
    record {
      found = inr (inr (record {
        steps = steps;
        patterns = patterns;
        log = spent.log.behind;
        none = spent.log.none;
        budget = spent.spent.limited;
        spent = spent.spent.spent;
        few = spent.spent.few;
        pattern_rows = leaves;
        status = status;
        text = text;
        reads_back = reads_back;
      }));
      circle = λ accepted. absurd (no_circle accepted);
      short = λ is. absurd (not_short is);
      crowded = λ is. absurd (not_crowded is);
      few = λ is. absurd (enough is);
    }

-- ---- what is written is found

pub written-found : (league : Instance) (budgets : Budgets) (may_stop : Type 0) (solved : Solved) (answer : Answer)
    → IsTeamCount league.n → IsSolution league budgets may_stop solved
    → (IsAccepted league (counts_of (double_games league.n)) → HasSchedule solved)
    → (are_short league ≡ true → IsRefuted solved) → (are_crowded league ≡ true → IsRefuted solved)
    → (are_few league ≡ true → IsRefuted solved) → IsWritten league solved answer
    → IsFound league budgets may_stop (rows_of league) answer
written-found league budgets may_stop (answers.Schedule games objective descent) answer teams schedule circle short crowded
    few written =
    found-schedule league budgets may_stop games objective descent answer teams schedule short crowded few written.0
    written.1
written-found league budgets may_stop (answers.Refuted log) answer teams refutes circle short crowded few written =
    found-refuted league budgets may_stop log answer refutes circle written.0 written.1 written.2
written-found league budgets may_stop (answers.Spent log patterns) answer teams spent circle short crowded few written =
    found-spent league budgets may_stop log patterns answer spent.0 spent.1 circle short crowded few written.0
    written.1 written.2

pub written-within : (league : Instance) (budgets : Budgets) (may_stop : Type 0) (most : ℕ) (solved : Solved)
    (answer : Answer) → IsTeamCount league.n → IsSolution league budgets may_stop solved → CostsAtMost most solved
    → IsWritten league solved answer → IsScheduleWithin league budgets.moves may_stop most answer
written-within league budgets may_stop most (answers.Schedule games objective descent) answer teams schedule at_most
    written =
    record {
      schedule = schedule-told league budgets.moves may_stop games objective descent answer teams schedule written.0
          written.1;
      within = omega (arith, schedule.cost, at_most);
    }
written-within league budgets may_stop most (answers.Refuted log) answer teams refutes at_most written = absurd at_most
written-within league budgets may_stop most (answers.Spent log patterns) answer teams spent at_most written =
    absurd at_most

-- within the budgets to which the run kept
pub found-by : (league : Instance) (budgets : Budgets) (may_stop : Type 0) (solved : Solved) (reply : Reply)
    → IsTeamCount league.n → IsSolutionBy league budgets may_stop solved
    → (IsAccepted league (counts_of (double_games league.n)) → HasSchedule solved)
    → (are_short league ≡ true → IsRefuted solved) → (are_crowded league ≡ true → IsRefuted solved)
    → (are_few league ≡ true → IsRefuted solved) → IsWritten league solved (answer_of reply)
    → IsFoundBy league budgets may_stop (rows_of league) (answer_of reply)
found-by league budgets may_stop solved reply teams by circle short crowded few written = record {
  kept = by.kept;
  are_kept = by.are_kept;
  is_found = written-found league by.kept may_stop solved (answer_of reply) teams by.solution circle short crowded few
      written;
}

-- ---- what is written of a reply, unless memory ran out

pub replied-schedule : {E : Type 0} (league : Instance) (solved : Solved) (games : List Game) (objective : ℕ)
    (descent : Descended) (result : Result Reply E) → solved ≡ answers.Schedule games objective descent
    → IfOk result (λ reply. (answer_of reply).status ≡ Yes)
    → IfOk result (λ reply. (answer_of reply).text
    ≡ solution_text games (Some (0, objective))
    ++ descent_text (costs.objective league (counts_of descent.first)) descent)
    → IfOk result (λ reply. IsWritten league solved (answer_of reply))
replied-schedule {E} league solved games objective descent (Ok reply) is status text =
    subst (λ (s : Solved). IsWritten league s (answer_of reply)) (sym is) (status, text)
replied-schedule {E} league solved games objective descent (Err error) is status text = tt

pub replied-refuted : {E : Type 0} (league : Instance) (solved : Solved) (steps : List Step) (result : Result Reply E)
    → solved ≡ answers.Refuted steps → IfOk result (λ reply. (answer_of reply).status ≡ Refuted)
    → IfOk result (λ reply. (answer_of reply).text ≡ log_text steps)
    → IfOk result (λ reply. log_of (answer_of reply).text ≡ Ok steps)
    → IfOk result (λ reply. IsWritten league solved (answer_of reply))
replied-refuted {E} league solved steps (Ok reply) is status text reads_back =
    subst (λ (s : Solved). IsWritten league s (answer_of reply)) (sym is) (status, text, reads_back)
replied-refuted {E} league solved steps (Err error) is status text reads_back = tt

pub replied-spent : {E : Type 0} (league : Instance) (solved : Solved) (steps : List Step) (patterns : PatternFound)
    (result : Result Reply E) → solved ≡ answers.Spent steps patterns
    → IfOk result (λ reply. (answer_of reply).status ≡ Spent)
    → IfOk result (λ reply. (answer_of reply).text ≡ log_text steps)
    → IfOk result (λ reply. log_of (answer_of reply).text ≡ Ok steps)
    → IfOk result (λ reply. IsWritten league solved (answer_of reply))
replied-spent {E} league solved steps patterns (Ok reply) is status text reads_back =
    subst (λ (s : Solved). IsWritten league s (answer_of reply)) (sym is) (status, text, reads_back)
replied-spent {E} league solved steps patterns (Err error) is status text reads_back = tt
