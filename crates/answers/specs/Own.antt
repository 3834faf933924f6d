-- The options that the program itself takes, and the words that it leaves to the command.
use Rattle.std.specs.Prelude.{◌==◌, ℕ, List, [], ◌∷◌, ◌++◌, Bool, true, false, not, ◌&&◌, if◌then◌else◌, codes, bytes_eq}
use Rattle.std.specs.Prelude.{Option, Some, None, is_none}
use Rattle.std.specs.Str.{byte}
use Rattle.answers.specs.declared.own.Own.{Own}
use Rattle.answers.specs.declared.own.Own.TheVariants.{Out, Log}

-- an option as it is written
abbrev pub own_word : Own → List ℕ
own_word Out = codes "--out"
own_word Log = codes "--log"

-- the option that names a file which a word is
abbrev pub own_of : List ℕ → Option Own
own_of word =
    if bytes_eq word (codes "--out") then Some Out
    else (if bytes_eq word (codes "--log") then Some Log else None)

-- whether a word asks to be told nothing of how a run goes
abbrev pub is_quiet : List ℕ → Bool
is_quiet word = bytes_eq word (codes "--quiet")

-- whether a word may name a file that is written
abbrev pub is_name : List ℕ → Bool
is_name [] = false
is_name (first ∷ rest) = not (first == byte "-")

-- the option whose value the next word is, by that whose value this word is
abbrev pub behind : Option Own → List ℕ → Option Own
behind None word = own_of word
behind (Some option) word = None

-- whether a word is left to the command, by the option whose value it is
abbrev pub is_left : Option Own → List ℕ → Bool
is_left (Some option) word = false
is_left None word = is_none (own_of word) && not (is_quiet word)

-- the word, if it is left to the command
abbrev pub left_word : Option Own → List ℕ → List (List ℕ)
left_word before word = if is_left before word then word ∷ [] else []

-- the words that are left to the command
abbrev pub left_from : Option Own → List (List ℕ) → List (List ℕ)
left_from before [] = []
left_from before (word ∷ words) = left_word before word ++ left_from (behind before word) words

-- whether these are one option
abbrev pub is_own : Own → Option Own → Bool
is_own Out None = false
is_own Out (Some Out) = true
is_own Out (Some Log) = false
is_own Log None = false
is_own Log (Some Out) = false
is_own Log (Some Log) = true

-- the words behind each place where an option stands: the empty word where none comes
abbrev pub values_from : Own → Option Own → List (List ℕ) → List (List ℕ)
values_from option before [] = if is_own option before then [] ∷ [] else []
values_from option before (word ∷ words) =
    if is_own option before
    then word ∷ values_from option (behind before word) words
    else values_from option (behind before word) words
