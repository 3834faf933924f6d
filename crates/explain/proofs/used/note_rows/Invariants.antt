use Rattle.std.proofs.Common.{map, take}
use Rattle.explain.specs.Used.{AreNoted}
use Rattle.explain.proofs.used.note_rows.Given as goal

abbrev pub invariant-loop-part : goal.invariant-loop-part
invariant-loop-part l = AreNoted l.limit (map (λ part. part.row) (take l.part-index l.parts)) l.fn.flags l.flags
