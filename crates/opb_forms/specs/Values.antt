-- What a file of values says, as solvers print them: literals that are true, word by word.
use Rattle.std.specs.Prelude.{ℕ, ◌+◌, Bool, true, false, ◌&&◌, ◌||◌, ◌==◌, nat_lt, nat_le, if◌then◌else◌}
use Rattle.std.specs.Prelude.{List, [], ◌∷◌, ◌++◌, Option, Some, None, Result, Ok, Err}
use Rattle.std.specs.List.{fold, slice_split}
use Rattle.std.specs.Str.{byte}
use Rattle.std.specs.Str.Parse.{digits_value}
use Rattle.robin_io.specs.Numbers.{is_number}
use Rattle.rows.specs.Literals.{Literal}

-- ---- words

-- a variable's number, from 1 to 2147483647
abbrev pub number_in : List ℕ → Option ℕ
number_in digits =
    if is_number digits && (nat_lt 0 (digits_value 10 digits) && nat_le (digits_value 10 digits) 2147483647)
    then Some (digits_value 10 digits)
    else None

-- a variable: `x7`, or `7` alone
abbrev pub variable_in : List ℕ → Option ℕ
variable_in [] = None
variable_in (b ∷ word) = if b == byte "x" then number_in word else number_in (b ∷ word)

-- the literal of a variable, alone
abbrev pub signed : Bool → Option ℕ → Option (List Literal)
signed positive None = None
signed positive (Some v) = Some (record { var = v; positive = positive } ∷ [])

-- a variable, or behind `-` or `~` its negation
abbrev pub literal_in : List ℕ → Option (List Literal)
literal_in [] = None
literal_in (b ∷ word) =
    if b == byte "-" || b == byte "~" then signed false (variable_in word)
    else signed true (variable_in (b ∷ word))

-- whether a word says nothing: it is empty, where two spaces follow each other, or `0`, with which lists of values end
abbrev pub is_silent : List ℕ → Bool
is_silent [] = true
is_silent (b ∷ []) = b == byte "0"
is_silent (b ∷ c ∷ word) = false

-- what a word says: nothing or a literal, unless it is neither
abbrev pub said_by_word : List ℕ → Option (List Literal)
said_by_word word = if is_silent word then Some [] else literal_in word

-- ---- lines

-- some literals, and then what is said behind them
abbrev pub joined : Option (List Literal) → Option (List Literal) → Option (List Literal)
joined (Some first) (Some others) = Some (first ++ others)
joined _ _ = None

abbrev pub said_by_words : List (List ℕ) → Option (List Literal)
said_by_words [] = Some []
said_by_words (word ∷ words) = joined (said_by_word word) (said_by_words words)

-- a line cut at each space
abbrev pub words_of : List ℕ → List (List ℕ)
words_of text = slice_split (λ b. b == byte " ") text

-- whether a line is a comment, an objective or a verdict: `c`, `o` or `s` stands in front
abbrev pub is_note : List ℕ → Bool
is_note [] = false
is_note (b ∷ text) = b == byte "c" || (b == byte "o" || b == byte "s")

-- a line of values without the `v` that may stand in front
abbrev pub without_mark : List ℕ → List ℕ
without_mark [] = []
without_mark (b ∷ text) = if b == byte "v" then text else b ∷ text

abbrev pub said_by_line : List ℕ → Option (List Literal)
said_by_line text = if is_note text then Some [] else said_by_words (words_of (without_mark text))

-- ---- all lines

-- some literals, and then what is said behind them, or the number of the first line that says none
abbrev pub after : Option (List Literal) → ℕ → Result (List Literal) ℕ → Result (List Literal) ℕ
after None line others = Err line
after (Some lits) line (Ok others) = Ok (lits ++ others)
after (Some lits) line (Err fault) = Err fault

-- the lines from this number on
abbrev pub said_from : ℕ → List (List ℕ) → Result (List Literal) ℕ
said_from line [] = Ok []
said_from line (text ∷ lines) = after (said_by_line text) line (said_from (line + 1) lines)

-- what the bytes of a file say: literals, or the number of the first line, from 1, in which a word is none
abbrev pub values_of : List ℕ → Result (List Literal) ℕ
values_of bytes = said_from 1 (slice_split (λ b. b == byte "\n") bytes)

-- ---- values

-- a variable has the value that its last literal says, and is false where it has none
abbrev pub value_in : List Literal → ℕ → Bool
value_in lits v = fold (λ value l. if l.var == v then l.positive else value) false lits
