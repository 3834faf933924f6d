-- Rows that are worked out whose coefficients are within the limit.
use Rattle.planes.specs.Coefs.{AreAtMost}
use Rattle.planes.specs.declared.counts.Counts.{Counts}
use Rattle.planes.specs.declared.counts.TheConstants.{GREATEST}
use Rattle.planes.specs.declared.cut.Outcome.{Outcome}
use Rattle.planes.specs.declared.cut.Outcome.TheVariants.{Active, Refuted, Nothing}

-- no coefficient is above the limit
abbrev pub AreSmall : Counts → Type 0
AreSmall counts = AreAtMost GREATEST counts.coefs.items counts.touched.items

-- an analysis that comes to a row leaves one with small coefficients
abbrev pub LeavesSmall : Outcome → Counts → Type 0
LeavesSmall Active counts = AreSmall counts
LeavesSmall Refuted counts = AreSmall counts
LeavesSmall Nothing _ = Unit {0}
