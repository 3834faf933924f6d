-- When a step of a log follows from rows. A clause follows by unit propagation over the rows that its hints name in
-- turn (reverse unit propagation, with the hints of LRAT). A sum of rows follows where it isn't too wide (cutting
-- planes).
use Rattle.std.specs.Prelude.{ℕ, zero, suc, Bool, false, not, ◌||◌, nat_lt, if◌then◌else◌, List, [], ◌∷◌, map}
use Rattle.std.specs.Prelude.{Option, Some, None, Result, Ok, Err, slice_get}
use Rattle.std.specs.List.{filter, list_any}
use Rattle.rows.specs.Literals.{Literal, negate}
use Rattle.rows.specs.Rows.{Row}
use Rattle.rows.specs.Cardinality.{at_least}
use Rattle.rows.specs.Partials.{reach}
use Rattle.rows.specs.Forcing.{all_set, with_forced}
use Rattle.rows.specs.declared.partial.Value.{Value}
use Rattle.rows.specs.declared.partial.Value.TheVariants.{Free}
use Rattle.rows.specs.Sums.{Totals, cancelled, divided, is_same, is_too_wide, no_totals, plus}
use Rattle.refutation.specs.Steps.{Step}
use Rattle.refutation.specs.Steps.Step.{Clause, Linear}
use Rattle.refutation.specs.declared.step.Part.{Part}
use Rattle.refutation.specs.declared.verdict.Cause.{Cause}
use Rattle.refutation.specs.declared.verdict.Cause.TheVariants.{NoConflict, TooWide, UnknownRow, UnknownVariable}

-- ---- clauses as rows

abbrev pub has : List Literal → Literal → Bool
has clause l = list_any (is_same l) clause

-- whether a clause holds a literal and its negation
abbrev pub has_opposites : List Literal → Bool
has_opposites [] = false
has_opposites (l ∷ clause) = has clause (negate l) || has_opposites clause

-- each literal once, where it stands first
abbrev pub distinct : List Literal → List Literal
distinct [] = []
distinct (l ∷ clause) = l ∷ filter (λ m. not (is_same l m)) (distinct clause)

-- the row that all values meet
abbrev pub no_demand : Row
no_demand = record { terms = []; degree = 0 }

-- the row as which a clause stands: at least 1 of its distinct literals
abbrev pub clause_row : List Literal → Row
clause_row clause = if has_opposites clause then no_demand else at_least 1 (distinct clause)

-- ---- the replay of hints

-- the row with a number, from 1
abbrev pub row_numbered : List Row → ℕ → Option Row
row_numbered rows zero = None
row_numbered rows (suc k) = slice_get rows k

-- whether no values of the free variables meet the row
abbrev pub is_in_conflict : (ℕ → Value) → Row → Bool
is_in_conflict values row = nat_lt (reach values row.terms) row.degree

-- The replay at the row that a hint names, if it names one, where `rest` is what the later hints come to: at a row in
-- conflict it ends, and any other row's forced literals become true.
abbrev pub after_row : Option Row → (ℕ → Value) → ((ℕ → Value) → Option Cause) → Option Cause
after_row None values rest = Some UnknownRow
after_row (Some row) values rest = if is_in_conflict values row then None else rest (with_forced values row)

-- why the hints, from these values on, don't come to a row in conflict; None where they do
abbrev pub replay : List Row → List ℕ → (ℕ → Value) → Option Cause
replay rows [] values = Some NoConflict
replay rows (hint ∷ hints) values = after_row (row_numbered rows hint) values (replay rows hints)

abbrev pub all_free : ℕ → Value
all_free v = Free

-- each literal of the clause false, all else free
abbrev pub denied : List Literal → ℕ → Value
denied clause = all_set all_free (map negate clause)

-- why a clause doesn't follow from rows over so many variables by its hints; None where it does
abbrev pub fault_of : List Row → ℕ → List Literal → List ℕ → Option Cause
fault_of rows vars clause hints =
    if list_any (λ l. nat_lt vars l.var) clause then Some UnknownVariable
    else (if has_opposites clause then None else replay rows hints (denied clause))

-- ---- sums of rows

-- The row that a part names is added to a sum, if it is there and the sum stays narrow enough, and `rest` adds the
-- later parts.
abbrev pub add_row : Option Row → ℕ → Totals → (Totals → Result Totals Cause) → Result Totals Cause
add_row None factor sum rest = Err UnknownRow
add_row (Some row) factor sum rest =
    if is_too_wide (plus sum factor row) then Err TooWide else rest (plus sum factor row)

-- the parts added to a sum, or the first fault among them
abbrev pub add_parts : List Row → List Part → Totals → Result Totals Cause
add_parts rows [] sum = Ok sum
add_parts rows (part ∷ parts) sum = add_row (row_numbered rows part.row) part.factor sum (add_parts rows parts)

-- the row of a sum
abbrev pub row_of : ℕ → Result Totals Cause → Result Row Cause
row_of divisor (Ok sum) = Ok (divided divisor (cancelled sum))
row_of divisor (Err cause) = Err cause

-- ---- steps

-- a row, unless there is a fault
abbrev pub row_unless : Option Cause → Row → Result Row Cause
row_unless None row = Ok row
row_unless (Some cause) row = Err cause

-- the row as which a step stands behind these rows, or why it doesn't follow
abbrev pub judged : List Row → ℕ → Step → Result Row Cause
judged rows vars (Clause clause hints) = row_unless (fault_of rows vars clause hints) (clause_row clause)
judged rows vars (Linear parts divisor) = row_of divisor (add_parts rows parts no_totals)
