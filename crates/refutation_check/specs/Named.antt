-- The row that a number names, as it is kept.
use Rattle.std.specs.Prelude.{◌≤◌, Option, Some, None}
use Rattle.rows.specs.Rows.{Row}
use Rattle.rows.specs.Sums.{weight_of, widest}
use Rattle.refutation_check.specs.declared.named.NamedRow.{NamedRow}
use Rattle.refutation_check.specs.declared.named.NamedRow.TheVariants.{Unknown, Narrow, Wide}

-- the row, or None where the number names none
abbrev pub named_row : NamedRow → Option Row
named_row Unknown = None
named_row (Narrow terms degree) = Some (record { terms = terms.now; degree = degree })
named_row (Wide terms degree) = Some (record { terms = terms.now; degree = degree })

-- a wide row isn't too wide
abbrev pub IsNotTooWide : NamedRow → Type 0
IsNotTooWide Unknown = Unit {0}
IsNotTooWide (Narrow terms degree) = Unit {0}
IsNotTooWide (Wide terms degree) = (weight_of terms.now ≤ widest) × (degree ≤ widest)
