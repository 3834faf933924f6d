-- What `solve` promises is kept, from a season that is given too.
use Rattle.std.proofs.Common.{[], ◌∷◌}
use Rattle.command_line.specs.Words.Command.{Solve, SolveFrom}
use Rattle.answers.specs.declared.status.Status.TheVariants.{Refuted, Spent, Yes}
use Rattle.encoding.specs.Encoding.{rows_of}
use Rattle.command_solve.specs.From.{IsFoundFrom, IsNoStart}
use Rattle.command_solve.specs.Solve.{IsFoundBy}
use Rattle.command_solve.proofs.SolveAnswers.{solved-refuted, solved-unlimited, solved-well_formed}
use Rattle.command_solve.proofs.FromLemmas.{begun-judged, begun-refuted, begun-unlimited, begun-well_formed, begun-yes}
use Rattle.robin_run.specs.SolveFrom.{SolvesFrom}
use Rattle.robin_run.specs.Run.{Answered, Run}
use Rattle.robin_run.specs.Solve.{Solves}
use Rattle.robin_run.proofs.RunLemmas.{writes, writes-as}

pub solves : (run : Run) → Answered run → Solves run
solves run answered instance budgets is = record {
  solved = λ league good works.
      writes run (instance ∷ []) (Solve instance budgets) (IsFoundBy league budgets run.may_stop (rows_of league))
      answered is works
      (λ answer given. solved-well_formed run.store instance budgets run.may_stop league answer good works.store given);
  unsolvable = λ league said ended.
      let whole = writes-as run (Solve instance budgets) Refuted answered is ended (λ same. cc) (λ same. cc) in
      solved-refuted run.store instance said.bytes budgets run.may_stop league whole.answer said.known
      said.says_league whole.status_is whole.given;
  complete = λ none never ended.
      let whole = writes-as run (Solve instance budgets) Spent answered is ended (λ same. cc) (λ same. cc) in
      solved-unlimited run.store instance budgets run.may_stop whole.answer none never whole.given whole.status_is;
}

-- ---- from a season

pub solves-from : (run : Run) → Answered run → SolvesFrom run
solves-from run answered instance solution budgets is = record {
  judged = λ league season good none works.
      writes run (instance ∷ solution ∷ []) (SolveFrom instance solution budgets) (IsNoStart league season) answered is works
      (λ answer given. begun-judged run.store instance solution budgets run.may_stop league season answer good none works.store given);
  solved = λ league start good works.
      writes run (instance ∷ solution ∷ []) (SolveFrom instance solution budgets)
      (IsFoundFrom league start budgets run.may_stop (rows_of league)) answered is works
      (λ answer given. begun-well_formed run.store instance solution budgets run.may_stop league start answer good works.store given);
  no_worse = λ league start say accepted ended.
      let whole = writes-as run (SolveFrom instance solution budgets) Yes answered is ended (λ same. cc) (λ same. cc) in
      let found = begun-yes run.store instance solution say.first say.second budgets run.may_stop league start
      whole.answer say.first_known say.second_known say.says_league say.says_played whole.status_is whole.given in
      record {
        kept = found.found.kept.moves;
        is_kept = found.found.are_kept.moves;
        answer = whole.answer;
        season = found.no_worse accepted;
        written = whole.written;
      };
  unsolvable = λ league said ended.
      let whole = writes-as run (SolveFrom instance solution budgets) Refuted answered is ended (λ same. cc)
      (λ same. cc) in
      begun-refuted run.store instance solution said.bytes budgets run.may_stop league whole.answer said.known said.says_league
      whole.status_is whole.given;
  complete = λ none never ended.
      let whole = writes-as run (SolveFrom instance solution budgets) Spent answered is ended (λ same. cc) (λ same. cc) in
      begun-unlimited run.store instance solution budgets run.may_stop whole.answer none never whole.given
      whole.status_is;
}
