-- What `check` promises is kept.
use Rattle.std.proofs.Common.{[], ◌∷◌, inl, inr}
use Rattle.command_line.specs.Words.Command.{Check}
use Rattle.answers.specs.declared.status.Status.TheVariants.{Yes, No}
use Rattle.encoding.specs.Encoding.{rows_of}
use Rattle.command_check.specs.Check.{IsVerdict}
use Rattle.command_check.proofs.AnswerLemmas.{answered-as, checked-kept, checked-well_formed, checked-yes}
use Rattle.robin_run.specs.Check.{Checks}
use Rattle.robin_run.specs.Run.{Answered, Run}
use Rattle.robin_run.proofs.RunLemmas.{writes, writes-as}

pub checks : (run : Run) → Answered run → Checks run
checks run answered instance log is = record {
  checked = λ league steps good works.
      writes run (instance ∷ log ∷ []) (Check instance log) (IsVerdict league (rows_of league) run.room steps) answered is works
      (λ answer given. checked-well_formed run.store run.room instance log league steps answer good works.store given);
  within = λ league steps good ended.
      elim ended [
        | inl accepted ↦
            let whole = writes-as run (Check instance log) Yes answered is accepted (λ same. cc) (λ same. cc) in
            checked-kept run.store run.room instance log league steps whole.answer good
            (answered-as whole.answer Yes whole.status_is (λ same. cc) (λ same. cc)) whole.given
        | inr rejected ↦
            let whole = writes-as run (Check instance log) No answered is rejected (λ same. cc) (λ same. cc) in
            checked-kept run.store run.room instance log league steps whole.answer good
            (answered-as whole.answer No whole.status_is (λ same. cc) (λ same. cc)) whole.given
      ];
  refuted = λ league said ended.
      let whole = writes-as run (Check instance log) Yes answered is ended (λ same. cc) (λ same. cc) in
      checked-yes run.store run.room instance log said.bytes league whole.answer said.known said.says_league whole.status_is
      whole.given;
}
