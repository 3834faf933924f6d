-- The faults of readers, on the line that their caller knows.
use Rattle.std.specs.Prelude.{ℕ}
use Rattle.robinx.specs.declared.tag_fault.Stop.{Stop}
use Rattle.robinx.specs.declared.tag_fault.Stop.TheVariants as stops
use Rattle.robinx.specs.declared.tag_fault.TagFault.{TagFault}
use Rattle.robinx.specs.declared.tag_fault.TagFault.TheVariants as faults

abbrev pub fault_on : ℕ → Stop → TagFault
fault_on line (stops.Form kind) = faults.Form kind line
fault_on line stops.Mem = faults.Mem
