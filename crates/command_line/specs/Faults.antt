-- Why words are refused: what is true of each fault.
use Rattle.std.specs.Prelude.{◌≡◌, ℕ, List, codes, bytes_eq, Bool, true, false, ◌||◌, if◌then◌else◌}
use Rattle.std.specs.Prelude.{Option, Some, None, is_some}
use Rattle.command_line.specs.Topics.{topic_of}
use Rattle.command_line.specs.Words.{budget_in, form_in, is_file_name, is_option, members_in, most_in, number_in}
use Rattle.command_line.specs.Words.{small_in, team_count_in, tries_in}
use Rattle.command_line.specs.declared.topic.Topic.{Topic}
use Rattle.command_line.specs.declared.topic.Topic.TheVariants as topic
use Rattle.command_line.specs.declared.role.Role.{Role}
use Rattle.command_line.specs.declared.role.Role.TheVariants.{Instance, Solution, Log, Values, Slots, Teams, Seed}
use Rattle.command_line.specs.declared.role.Role.TheVariants.{Members, Conflicts, Moves, Tries, Patterns, Draws, Seconds}
use Rattle.command_line.specs.declared.role.Role.TheVariants.{Bound, Floor, Form, Most, Room, Width}
use Rattle.command_line.specs.declared.fault.WordFault.{WordFault}
use Rattle.command_line.specs.declared.fault.WordFault.TheVariants.{NoWord, NoCommand, NotAlone, NoOption, NoValue, Twice}
use Rattle.command_line.specs.declared.fault.WordFault.TheVariants.{Beside, Unfit, Missing, Surplus, Other}

-- whether a word is what it is to be
abbrev pub fits : Role → List ℕ → Bool
fits Instance word = is_file_name word
fits Solution word = is_file_name word
fits Log word = is_file_name word
fits Values word = is_file_name word
fits Slots word = is_some (number_in word)
fits Teams word = is_some (team_count_in word)
fits Seed word = is_some (number_in word)
fits Members word = is_some (members_in word)
fits Conflicts word = is_some (budget_in word)
fits Moves word = is_some (number_in word)
fits Tries word = is_some (tries_in word)
fits Patterns word = is_some (number_in word)
fits Draws word = is_some (number_in word)
fits Seconds word = is_some (number_in word)
fits Room word = is_some (number_in word)
fits Bound word = is_some (number_in word)
fits Floor word = is_some (number_in word)
fits Form word = is_some (form_in word)
fits Most word = is_some (most_in word)
fits Width word = is_some (small_in word)

-- of the options of commands that search, of those that take a time limit too, and of `trial` and `resume`
abbrev pub search_option : List ℕ → Option Role
search_option word = if bytes_eq word (codes "--conflicts") then Some Conflicts else None

abbrev pub timed_option : List ℕ → Option Role
timed_option word =
    if bytes_eq word (codes "--conflicts") then Some Conflicts
    else (if bytes_eq word (codes "--seconds") then Some Seconds else None)

abbrev pub solve_option : List ℕ → Option Role
solve_option word =
    if bytes_eq word (codes "--conflicts") then Some Conflicts
    else (if bytes_eq word (codes "--moves") then Some Moves
    else (if bytes_eq word (codes "--tries") then Some Tries
    else (if bytes_eq word (codes "--patterns") then Some Patterns
    else (if bytes_eq word (codes "--seed") then Some Draws
    else (if bytes_eq word (codes "--seconds") then Some Seconds else None)))))

-- of the options of `solve`: those of `trial`, and the season to begin with
abbrev pub start_option : List ℕ → Option Role
start_option word = if bytes_eq word (codes "--from") then Some Solution else solve_option word

-- of the options of `prove`: those of a search, and the floor
abbrev pub prove_option : List ℕ → Option Role
prove_option word = if bytes_eq word (codes "--floor") then Some Floor else timed_option word

-- of the option of the commands that check logs
abbrev pub log_option : List ℕ → Option Role
log_option word = if bytes_eq word (codes "--room") then Some Room else None

-- of the option of `rows`
abbrev pub row_option : List ℕ → Option Role
row_option word = if bytes_eq word (codes "--bound") then Some Bound else None

-- what the value of an option of `show` is to be
abbrev pub show_option : List ℕ → Option Role
show_option word =
    if bytes_eq word (codes "--form") then Some Form
    else (if bytes_eq word (codes "--most") then Some Most
    else (if bytes_eq word (codes "--width") then Some Width else None))

-- what the value of an option of a command is to be, where the command has this option with a value
abbrev pub option_role : Topic → List ℕ → Option Role
option_role topic.Solve word = start_option word
option_role topic.Trial word = solve_option word
option_role topic.Patterns word = search_option word
option_role topic.Explain word = timed_option word
option_role topic.Prove word = prove_option word
option_role topic.Resume word = solve_option word
option_role topic.Rows word = row_option word
option_role topic.Show word = show_option word
option_role topic.Check word = log_option word
option_role topic.Bound word = log_option word
option_role topic.Audit word = log_option word
option_role _ word = None

-- whether a word is an option of a command that has no value, or none that it must have
abbrev pub is_flag : Topic → List ℕ → Bool
is_flag topic.Rows word = bytes_eq word (codes "--objective")
is_flag topic.Resume word = bytes_eq word (codes "--near")
is_flag topic.Show word = bytes_eq word (codes "--demands")
is_flag _ word = false

-- the words that ask for help or for the version
abbrev pub is_question : List ℕ → Bool
is_question word = bytes_eq word (codes "--help") || bytes_eq word (codes "--version")

-- what a fault says of the word that it names is so
abbrev pub IsSo : WordFault → Type 0
IsSo NoWord = Unit {0}
IsSo (NoCommand word) = topic_of word.now ≡ None
IsSo (NotAlone word) = is_question word.now ≡ true
IsSo (NoOption command word) =
    (is_option word.now ≡ true) × (option_role command word.now ≡ None) × (is_flag command word.now ≡ false)
IsSo (NoValue word) = is_option word.now ≡ true
IsSo (Twice word) = is_option word.now ≡ true
IsSo (Beside command word) = is_flag command word.now ≡ true
IsSo (Unfit role word) = fits role word.now ≡ false
IsSo (Missing command role) = Unit {0}
IsSo (Surplus command word) = Unit {0}
IsSo (Other command) = Unit {0}
