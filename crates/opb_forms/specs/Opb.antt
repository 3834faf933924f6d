-- What a text in OPB says, the format of the pseudo-Boolean competitions, as far as rows need it: a space stands between
-- two words, numbers have no sign `-`, and constraints are `>=`. A text of any other form says nothing here.
use Rattle.std.specs.Prelude.{ℕ, ◌&&◌, ◌==◌, if◌then◌else◌, List, [], ◌∷◌, length, codes, bytes_eq, nat_eq}
use Rattle.std.specs.Prelude.{Option, Some, None, option_map}
use Rattle.std.specs.List.{slice_split, starts_with}
use Rattle.std.specs.Str.{byte}
use Rattle.std.specs.Str.Parse.{digits_value}
use Rattle.robin_io.specs.Numbers.{is_number}
use Rattle.rows.specs.Literals.{Literal, no, yes}
use Rattle.rows.specs.Rows.{Row}
use Rattle.rows.specs.declared.lit.Term.{Term}
use Rattle.opb_forms.specs.Systems.{System}

-- ---- words

-- a line cut at each space
abbrev pub words_of : List ℕ → List (List ℕ)
words_of line = slice_split (λ b. b == byte " ") line

-- a number in decimal digits
abbrev pub number_in : List ℕ → Option ℕ
number_in word = if is_number word then Some (digits_value 10 word) else None

-- a number with a byte in front of it
abbrev pub number_behind : ℕ → List ℕ → Option ℕ
number_behind mark [] = None
number_behind mark (b ∷ word) = if b == mark then number_in word else None

-- a coefficient: `+5`
abbrev pub coef_in : List ℕ → Option ℕ
coef_in word = number_behind (byte "+") word

-- a literal: `x7`, or negated `~x7`
abbrev pub literal_in : List ℕ → Option Literal
literal_in [] = None
literal_in (b ∷ word) =
    if b == byte "~" then option_map no (number_behind (byte "x") word)
    else option_map yes (number_behind (byte "x") (b ∷ word))

-- ---- sums

-- a term in front of others, which says nothing where its coefficient is 0
abbrev pub with_term : Option ℕ → Option Literal → Option (List Term) → Option (List Term)
with_term (Some coef) (Some lit) (Some terms) =
    Some (if coef == 0 then terms else record { coef = coef; lit = lit } ∷ terms)
with_term _ _ _ = None

-- coefficients and literals in turn
abbrev pub terms_in : List (List ℕ) → Option (List Term)
terms_in [] = Some []
terms_in (word ∷ []) = None
terms_in (coef ∷ lit ∷ words) = with_term (coef_in coef) (literal_in lit) (terms_in words)

-- a sum has at least one term
abbrev pub sum_in : List (List ℕ) → Option (List Term)
sum_in [] = None
sum_in (word ∷ words) = terms_in (word ∷ words)

-- ---- lines

abbrev pub with_degree : Option (List Term) → Option ℕ → Option Row
with_degree (Some terms) (Some degree) = Some (record { terms = terms; degree = degree })
with_degree _ _ = None

-- words cut at `>=`: a sum, and then the degree and `;`
abbrev pub row_from : List (List (List ℕ)) → Option Row
row_from (sum ∷ (degree ∷ end ∷ []) ∷ []) =
    if bytes_eq end (codes ";") then with_degree (sum_in sum) (number_in degree) else None
row_from _ = None

-- a line of a row: `+1 x1 +2 ~x3 >= 1 ;`
abbrev pub row_in : List ℕ → Option Row
row_in line = row_from (slice_split (λ word. bytes_eq word (codes ">=")) (words_of line))

-- words cut at `;`: `min:` and a sum
abbrev pub least_from : List (List (List ℕ)) → Option (List Term)
least_from ((mark ∷ sum) ∷ [] ∷ []) = if bytes_eq mark (codes "min:") then sum_in sum else None
least_from _ = None

-- the line of what is to be least: `min: +1 x1 +2 ~x3 ;`
abbrev pub least_in : List ℕ → Option (List Term)
least_in line = least_from (slice_split (λ word. bytes_eq word (codes ";")) (words_of line))

abbrev pub both : Option ℕ → Option ℕ → Option (ℕ × ℕ)
both (Some vars) (Some count) = Some (vars, count)
both _ _ = None

-- the first line, of so many variables and rows: `* #variable= 3 #constraint= 1`
abbrev pub heading_from : List (List ℕ) → Option (ℕ × ℕ)
heading_from (star ∷ variable ∷ vars ∷ constraint ∷ count ∷ []) =
    if bytes_eq star (codes "*") && (bytes_eq variable (codes "#variable=") && bytes_eq constraint (codes "#constraint="))
    then both (number_in vars) (number_in count)
    else None
heading_from _ = None

-- ---- all lines

abbrev pub with_row : Option Row → Option (List Row) → Option (List Row)
with_row (Some row) (Some rows) = Some (row ∷ rows)
with_row _ _ = None

-- LF ends each line, so that behind the last one nothing stands
abbrev pub no_line : List (List ℕ) → Option (List Row)
no_line [] = Some []
no_line (line ∷ lines) = None

-- lines of rows
abbrev pub rows_in : List (List ℕ) → Option (List Row)
rows_in [] = None
rows_in (line ∷ lines) = if bytes_eq line [] then no_line lines else with_row (row_in line) (rows_in lines)

-- so many rows as the first line says
abbrev pub system_from : ℕ × ℕ → Option (List Term) → Option (List Row) → Option System
system_from heading least (Some rows) =
    if length rows == heading.1
    then Some (record { vars = heading.0; least = least; rows = rows })
    else None
system_from heading least None = None

abbrev pub with_least : ℕ × ℕ → Option (List Term) → Option (List Row) → Option System
with_least heading (Some least) rows = system_from heading (Some least) rows
with_least heading None rows = None

-- the lines behind the first: what is to be least, if anything, and the rows
abbrev pub body_in : ℕ × ℕ → List (List ℕ) → Option System
body_in heading [] = None
body_in heading (line ∷ lines) =
    if starts_with nat_eq line (codes "min:") then with_least heading (least_in line) (rows_in lines)
    else system_from heading None (rows_in (line ∷ lines))

abbrev pub with_heading : Option (ℕ × ℕ) → List (List ℕ) → Option System
with_heading (Some heading) lines = body_in heading lines
with_heading None lines = None

abbrev pub lines_in : List (List ℕ) → Option System
lines_in [] = None
lines_in (first ∷ lines) = with_heading (heading_from (words_of first)) lines

-- a text cut at each LF
abbrev pub lines_of : List ℕ → List (List ℕ)
lines_of bytes = slice_split (λ b. b == byte "\n") bytes

-- what the bytes of a text say
abbrev pub opb_of : List ℕ → Option System
opb_of bytes = lines_in (lines_of bytes)
