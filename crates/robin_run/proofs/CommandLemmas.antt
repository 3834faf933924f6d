-- A run that is answered keeps what every command promises.
use Rattle.robin_run.specs.Commands.{KeepsPromises}
use Rattle.robin_run.specs.Run.{Answered, Run}
use Rattle.robin_run.proofs.BoundLemmas.{bounds, proves}
use Rattle.robin_run.proofs.CheckLemmas.{checks}
use Rattle.robin_run.proofs.ExplainLemmas.{explains, parts}
use Rattle.robin_run.proofs.MadeLemmas.{helps, makes, tells-version, tries, writes-circle}
use Rattle.robin_run.proofs.PatternLemmas.{finds-patterns}
use Rattle.robin_run.proofs.ResumeLemmas.{audits, resumes, resumes-near}
use Rattle.robin_run.proofs.RowLemmas.{judges-values, writes-rows}
use Rattle.robin_run.proofs.ShowLemmas.{shows}
use Rattle.robin_run.proofs.SolveLemmas.{solves, solves-from}
use Rattle.robin_run.proofs.ValidateLemmas.{validates}

pub keeps-promises : (run : Run) → Answered run → KeepsPromises run
keeps-promises run answered = record {
  validate = validates run answered;
  show = shows run answered;
  check = checks run answered;
  solve = solves run answered;
  solve_from = solves-from run answered;
  patterns = finds-patterns run answered;
  explain = explains run answered;
  part = parts run answered;
  prove = proves run answered;
  bound = bounds run answered;
  resume = resumes run answered;
  resume_near = resumes-near run answered;
  audit = audits run answered;
  rows = writes-rows run answered;
  values = judges-values run answered;
  circle = writes-circle run answered;
  make = makes run answered;
  trial = tries run answered;
  help = helps run answered;
  version = tells-version run answered;
}
