use Rattle.std.proofs.Common.{◌≡◌, drop}
use Rattle.rows.specs.Tables.{totals_of}
use Rattle.refutation.specs.Following.{add_parts}
use Rattle.league_search.proofs.sum.add_all.Given as goal

-- the parts that are left give what all would
abbrev pub invariant-loop-part : goal.invariant-loop-part
invariant-loop-part l =
    add_parts l.rows (drop l.part-index l.parts) (totals_of l.sum) ≡ add_parts l.rows l.parts (totals_of l.fn.sum)
