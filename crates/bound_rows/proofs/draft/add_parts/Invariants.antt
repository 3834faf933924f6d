use Rattle.std.proofs.Common.{map, take}
use Rattle.bound_rows.specs.BoundRows.{group_of}
use Rattle.bound_rows.specs.Drafts.{Extends}
use Rattle.bound_rows.proofs.draft.add_parts.Given as goal

abbrev pub invariant-loop-part : goal.invariant-loop-part
invariant-loop-part l = Extends l.fn.draft l.draft (map (group_of l.season l.penalty) (take l.part-index l.parts))
