-- Floors (own): numbers below which no schedule that a league accepts costs, with logs that prove it.
use Rattle.std.specs.Prelude.{◌≡◌, ◌-◌, ◌≤◌, []}
use Rattle.std.specs.List.{All}
use Rattle.league.specs.Instance.{Instance}
use Rattle.refutation.specs.Steps.{NamesRows}
use Rattle.refutation.specs.Verdict.{verdict_of}
use Rattle.refutation.specs.Writable.{HasShortLines}
use Rattle.refutation.specs.declared.verdict.Verdict.TheVariants.{Accepted}
use Rattle.bound_rows.specs.BoundRows.{bound_rows, bound_vars}
use Rattle.bound_rows.specs.Faithful.{IsLowerBound}
use Rattle.floors.specs.declared.floor.Floor.{Floor}

-- No accepted schedule costs less than the floor. Of a floor of at least 1 the log is accepted over the bound rows of
-- one less; that none costs less than 0 needs no log. The log's text can be written, and reads back.
pub record IsFloor (league : Instance) (floor : Floor) : Type 0 where
  pub least : IsLowerBound league floor.bound
  pub nothing : floor.bound ≡ 0 → floor.log ≡ []
  pub accepted : 1 ≤ floor.bound
      → verdict_of (bound_rows league (floor.bound - 1)) (bound_vars league) floor.log ≡ Accepted
  pub named : All NamesRows floor.log
  pub short : HasShortLines floor.log
