-- Where `-` stands for standard input among the words behind a command.
use Rattle.std.specs.Prelude.{◌==◌, ℕ, ◌+◌, ◌-◌, ◌^◌, min, List, [], ◌∷◌, Bool, true, false, not, ◌&&◌, ◌||◌, if◌then◌else◌}
use Rattle.std.specs.Prelude.{codes, bytes_eq, Option, Some, None, is_some, option_and_then}
use Rattle.std.specs.Str.{byte}
use Rattle.command_line.specs.declared.topic.Topic.{Topic}
use Rattle.command_line.specs.declared.topic.Topic.TheVariants.{Validate, Show, Solve, Patterns, Explain, Part, Check}
use Rattle.command_line.specs.declared.topic.Topic.TheVariants.{Prove, Bound, Resume, Audit, Rows, Values, Circle, Make}
use Rattle.command_line.specs.declared.topic.Topic.TheVariants.{Trial}
use Rattle.answers.specs.declared.input.Place.{Place}
use Rattle.answers.specs.declared.input.Place.TheVariants.{Argument, Value, File}

-- the name of the file that is standard input
abbrev pub input_name : List ℕ
input_name = codes "/dev/stdin"

-- whether a word names an option
abbrev pub is_option : List ℕ → Bool
is_option (first ∷ second ∷ rest) = (first == byte "-") && (second == byte "-")
is_option _ = false

-- whether an argument of a command is a file's name, by how many stand before it
abbrev pub takes_file : Option Topic → ℕ → Bool
takes_file None before = false
takes_file (Some Validate) before = true
takes_file (Some Show) before = true
takes_file (Some Solve) before = true
takes_file (Some Patterns) before = true
takes_file (Some Explain) before = true
takes_file (Some Part) before = before == 0
takes_file (Some Check) before = true
takes_file (Some Prove) before = true
takes_file (Some Bound) before = true
takes_file (Some Resume) before = not (before == 2)
takes_file (Some Audit) before = not (before == 2)
takes_file (Some Rows) before = true
takes_file (Some Values) before = true
takes_file (Some Circle) before = false
takes_file (Some Make) before = false
takes_file (Some Trial) before = false

-- whether a file's name stands at a place
abbrev pub takes_name : Option Topic → Place → Bool
takes_name command (Argument before) = takes_file command before
takes_name command (Value before) = false
takes_name command (File before) = true

-- whether a word is an option that has no value
abbrev pub is_flag : List ℕ → Bool
is_flag word = bytes_eq word (codes "--objective") || bytes_eq word (codes "--near")

-- what the word behind another one is
abbrev pub next : Place → List ℕ → Place
next (Value before) word = Argument before
next (File before) word = Argument before
next (Argument before) word =
    if bytes_eq word (codes "--from") then File before
    else (if is_flag word then Argument before
    else (if is_option word then Value before else Argument (min (before + 1) (2 ^ 64 - 1))))

-- a word as the command reads it
abbrev pub named : Option Topic → Place → List ℕ → List ℕ
named command place word =
    if bytes_eq word (codes "-") && takes_name command place then input_name else word

-- words as the command reads them, of which the first stands at this place
abbrev pub named_from : Option Topic → Place → List (List ℕ) → List (List ℕ)
named_from command place [] = []
named_from command place (word ∷ words) = named command place word ∷ named_from command (next place word) words

-- the words behind the first one that names standard input
abbrev pub behind_input : List (List ℕ) → Option (List (List ℕ))
behind_input [] = None
behind_input (word ∷ words) = if bytes_eq word input_name then Some words else behind_input words

-- whether words name it more than once
abbrev pub is_twice : List (List ℕ) → Bool
is_twice words = is_some (option_and_then behind_input (behind_input words))
