-- What the commands promise of a run: a field a command, whose sentences stand in a file of its own.
use Rattle.robin_run.specs.Audit.{Audits}
use Rattle.robin_run.specs.Bound.{Bounds}
use Rattle.robin_run.specs.Check.{Checks}
use Rattle.robin_run.specs.Circle.{WritesCircle}
use Rattle.robin_run.specs.Explain.{Explains}
use Rattle.robin_run.specs.SolveFrom.{SolvesFrom}
use Rattle.robin_run.specs.Help.{Helps, TellsVersion}
use Rattle.robin_run.specs.Make.{Makes}
use Rattle.robin_run.specs.Part.{Parts}
use Rattle.robin_run.specs.Patterns.{FindsPatterns}
use Rattle.robin_run.specs.Prove.{Proves}
use Rattle.robin_run.specs.Resume.{Resumes}
use Rattle.robin_run.specs.ResumeNear.{ResumesNear}
use Rattle.robin_run.specs.Rows.{WritesRows}
use Rattle.robin_run.specs.Run.{Run}
use Rattle.robin_run.specs.Show.{Shows}
use Rattle.robin_run.specs.Solve.{Solves}
use Rattle.robin_run.specs.Trial.{Tries}
use Rattle.robin_run.specs.Validate.{Validates}
use Rattle.robin_run.specs.Values.{JudgesValues}

pub record KeepsPromises (run : Run) : Type 0 where
  pub validate : Validates run
  pub show : Shows run
  pub check : Checks run
  pub solve : Solves run
  pub solve_from : SolvesFrom run
  pub patterns : FindsPatterns run
  pub explain : Explains run
  pub part : Parts run
  pub prove : Proves run
  pub bound : Bounds run
  pub resume : Resumes run
  pub resume_near : ResumesNear run
  pub audit : Audits run
  pub rows : WritesRows run
  pub values : JudgesValues run
  pub circle : WritesCircle run
  pub make : Makes run
  pub trial : Tries run
  pub help : Helps run
  pub version : TellsVersion run
