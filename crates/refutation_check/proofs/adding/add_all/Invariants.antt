use Rattle.std.proofs.Common.{◌≡◌, drop}
use Rattle.rows.specs.Tables.{totals_of}
use Rattle.refutation.specs.Following.{add_parts}
use Rattle.refutation_check.specs.Kept.{all_rows}
use Rattle.refutation_check.proofs.adding.add_all.Given as goal

abbrev pub invariant-loop-part : goal.invariant-loop-part
invariant-loop-part l =
    add_parts (all_rows l.rows l.steps) (drop l.part-index l.parts) (totals_of l.sum)
    ≡ add_parts (all_rows l.rows l.steps) l.parts (totals_of l.fn.sum)
