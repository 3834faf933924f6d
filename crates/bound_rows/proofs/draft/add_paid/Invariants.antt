use Rattle.std.proofs.Common.{take}
use Rattle.bound_rows.specs.BoundRows.{groups_of}
use Rattle.bound_rows.specs.Drafts.{Extends}
use Rattle.bound_rows.proofs.draft.add_paid.Given as goal

abbrev pub invariant-loop-constraint : goal.invariant-loop-constraint
invariant-loop-constraint l =
    Extends l.fn.draft l.draft (groups_of l.season (take l.constraint-index l.constraints))
