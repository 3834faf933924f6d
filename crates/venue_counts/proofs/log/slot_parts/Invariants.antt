use Rattle.std.proofs.Common.{map, take}
use Rattle.encoding.specs.Encoding.{rows_of}
use Rattle.venue_counts.specs.CountLogs.{AreNamed, slot_row}
use Rattle.venue_counts.proofs.log.slot_parts.Given as goal

abbrev pub invariant-loop-slot : goal.invariant-loop-slot
invariant-loop-slot l =
    AreNamed (rows_of l.encoding) l.parts.items (map (slot_row l.encoding.n l.home) (take l.slot-index l.slots))
