use Rattle.std.proofs.Common.{take}
use Rattle.explain.specs.Used.{AreNoted}
use Rattle.explain.proofs.used.note_hints.Given as goal

abbrev pub invariant-loop-hint : goal.invariant-loop-hint
invariant-loop-hint l = AreNoted l.limit (take l.hint-index l.hints) l.fn.flags l.flags
