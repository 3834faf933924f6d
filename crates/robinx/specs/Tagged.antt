-- Faults of tags as faults of reading.
use Rattle.robinx.specs.declared.tag_fault.TagFault.{TagFault}
use Rattle.robinx.specs.declared.tag_fault.TagFault.TheVariants as tags
use Rattle.robinx.specs.declared.fault.ReadFault.{ReadFault}
use Rattle.robinx.specs.declared.fault.ReadFault.TheVariants as faults

abbrev pub of_tags : TagFault → ReadFault
of_tags (tags.Form kind line) = faults.Form (record { kind = kind; line = line })
of_tags tags.Mem = faults.Mem
