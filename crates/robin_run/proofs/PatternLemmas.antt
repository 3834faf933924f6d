-- What `patterns` promises is kept.
use Rattle.std.proofs.Common.{[], ◌∷◌}
use Rattle.command_line.specs.Words.Command.{Patterns}
use Rattle.answers.specs.declared.status.Status.TheVariants.{Refuted}
use Rattle.answers.proofs.StageLemmas.{first-works}
use Rattle.command_solve.specs.Patterns.{AreFound}
use Rattle.command_solve.proofs.PatternsAnswers.{patterned-refuted, patterned-well_formed}
use Rattle.robin_run.specs.Patterns.{FindsPatterns}
use Rattle.robin_run.specs.Run.{Answered, Run}
use Rattle.robin_run.proofs.RunLemmas.{writes, writes-as}

pub finds-patterns : (run : Run) → Answered run → FindsPatterns run
finds-patterns run answered instance conflicts is = record {
  patterned = λ league good works.
      writes run (instance ∷ []) (Patterns instance conflicts) (AreFound league conflicts) answered is works
      (λ answer given. patterned-well_formed run.store instance good.bytes conflicts league answer good.known
      good.within good.says_league good.small (first-works run.store instance [] works.store) given);
  patternless = λ league said ended.
      let whole = writes-as run (Patterns instance conflicts) Refuted answered is ended (λ same. cc) (λ same. cc) in
      patterned-refuted run.store instance said.bytes conflicts league whole.answer said.known said.says_league
      whole.status_is whole.given;
}
