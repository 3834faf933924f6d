-- What the words of the command line, without the program's name, ask for.
use Rattle.std.specs.Prelude.{ℕ, ◌^◌, ◌-◌, nat_le, nat_lt, ◌==◌, List, [], ◌∷◌, codes, bytes_eq}
use Rattle.std.specs.Prelude.{Bool, true, false, not, ◌&&◌, if◌then◌else◌, Option, Some, None, option_and_then}
use Rattle.std.specs.Prelude.{option_map, unwrap_or}
use Rattle.std.specs.Option.{option_or}
use Rattle.std.specs.Str.{byte}
use Rattle.std.specs.Str.Parse.{digits_value}
use Rattle.std.specs.List.{list_any, slice_split}
use Rattle.league.specs.Instance.{IsTeamCount, is_team_count}
use Rattle.robin_watch.specs.declared.budgets.Budgets.{Budgets}
use Rattle.robin_io.specs.Numbers.{is_number}
use Rattle.command_line.specs.Topics.{topic_of}
use Rattle.command_line.specs.declared.goal.Goal.{Goal}
use Rattle.command_line.specs.declared.goal.Goal.TheVariants.{Accepted, AtMost, Least}
use Rattle.command_line.specs.declared.topic.Topic.{Topic}

-- a command with its arguments
pub data Command : Type 0 where
  Validate : (instance solution : List ℕ) → Command
  Show : (instance solution : List ℕ) → (most width : ℕ) → Command
  Demands : (instance : List ℕ) → (members : Option (List ℕ)) → Command
  Sheet : (instance solution : List ℕ) → Command
  Check : (instance log : List ℕ) → Command
  Solve : (instance : List ℕ) → (budgets : Budgets) → Command
  SolveFrom : (instance solution : List ℕ) → (budgets : Budgets) → Command
  Patterns : (instance : List ℕ) → (conflicts : Option ℕ) → Command
  Explain : (instance : List ℕ) → (conflicts : Option ℕ) → Command
  Part : (instance members : List ℕ) → Command
  Prove : (instance solution : List ℕ) → (floor conflicts : Option ℕ) → Command
  Bound : (instance log : List ℕ) → Command
  Resume : (instance solution : List ℕ) → (k : ℕ) → (conflicts : Option ℕ) → Command
  ResumeNear : (instance solution : List ℕ) → (k : ℕ) → (budgets : Budgets) → Command
  Audit : (instance solution : List ℕ) → (k : ℕ) → (log : List ℕ) → Command
  Rows : (instance : List ℕ) → (goal : Goal) → Command
  Values : (instance values : List ℕ) → Command
  Circle : (n : ℕ) → Command
  Make : (n seed : ℕ) → Command
  Trial : (n seed : ℕ) → (budgets : Budgets) → Command
  Help : (topic : Option Topic) → Command
  Version : Command

-- whether a word names a file: any word that doesn't begin with `-`
abbrev pub is_file_name : List ℕ → Bool
is_file_name [] = true
is_file_name (first ∷ rest) = not (first == byte "-")

-- whether a number has no leading zero: only the number 0 begins with `0`
abbrev pub is_shortest : List ℕ → Bool
is_shortest (first ∷ second ∷ rest) = not (first == byte "0")
is_shortest _ = true

-- the number that a word writes: decimal digits without a leading zero, at most 18446744073709551615
abbrev pub number_in : List ℕ → Option ℕ
number_in word =
    if is_number word && (is_shortest word && nat_lt (digits_value 10 word) (2 ^ 64))
    then Some (digits_value 10 word)
    else None

-- the number of teams that a word writes, where a league may have so many
abbrev pub team_count_in : List ℕ → Option ℕ
team_count_in word = option_and_then (λ n. if is_team_count n then Some n else None) (number_in word)

-- the most conflicts of a search where the words don't say it (own choice)
abbrev pub usual_conflicts : ℕ
usual_conflicts = 2000

-- the budget that a word writes: a number of conflicts, or `all`, which is none
abbrev pub budget_in : List ℕ → Option (Option ℕ)
budget_in word = if bytes_eq word (codes "all") then Some None else option_map Some (number_in word)

-- how many tries there may be
abbrev pub tries_in : List ℕ → Option ℕ
tries_in word = option_and_then (λ n. if nat_le 1 n && nat_le n 100 then Some n else None) (number_in word)

-- ---- words with options

-- whether a word names an option: it begins with `--`
abbrev pub is_option : List ℕ → Bool
is_option (first ∷ second ∷ rest) = (first == byte "-") && (second == byte "-")
is_option _ = false

-- whether a word is `--near` of `resume`, which has no value
abbrev pub is_near : List ℕ → Bool
is_near word = bytes_eq word (codes "--near")

-- whether a word names an option that has a value
abbrev pub has_value : List ℕ → Bool
has_value word = is_option word && not (is_near word)

-- The word behind the name of an option that has a value is this value, whatever it begins with. All other words are
-- arguments, in order: `--near` too, which is no file's name and no number.
abbrev pub arguments_of : List (List ℕ) → List (List ℕ)
arguments_of [] = []
arguments_of (word ∷ []) = word ∷ []
arguments_of (word ∷ next ∷ rest) = if has_value word then arguments_of rest else word ∷ arguments_of (next ∷ rest)

-- the values of the option of a name
abbrev pub values_of : List ℕ → List (List ℕ) → List (List ℕ)
values_of name [] = []
values_of name (word ∷ []) = []
values_of name (word ∷ next ∷ rest) =
    if has_value word
    then (if bytes_eq word name then next ∷ values_of name rest else values_of name rest)
    else values_of name (next ∷ rest)

-- whether each option that has a value has one of these names, and the value
abbrev pub has_options : List (List ℕ) → List (List ℕ) → Bool
has_options names [] = true
has_options names (word ∷ []) = not (has_value word)
has_options names (word ∷ next ∷ rest) =
    if has_value word
    then list_any (λ name. bytes_eq word name) names && has_options names rest
    else has_options names (next ∷ rest)

-- what an option says that stands at most once, and what is usual where it doesn't stand
abbrev pub said : {X : Type 0} → X → (List ℕ → Option X) → List (List ℕ) → Option X
said usual read [] = Some usual
said usual read (value ∷ []) = read value
said usual read _ = None

-- the one file among some arguments
abbrev pub one_file : List (List ℕ) → Option (List ℕ)
one_file (file ∷ []) = if is_file_name file then Some file else None
one_file _ = None

-- the one number among some arguments
abbrev pub one_number : List (List ℕ) → Option ℕ
one_number (word ∷ []) = number_in word
one_number _ = None

-- the two files among some arguments
abbrev pub two_files : List (List ℕ) → Option (List ℕ × List ℕ)
two_files [] = None
two_files (first ∷ rest) =
    if is_file_name first then option_map (λ second. (first, second)) (one_file rest) else None

-- two files and a number, as arguments
abbrev pub files_and_number : List (List ℕ) → Option (List ℕ × List ℕ × ℕ)
files_and_number [] = None
files_and_number (first ∷ []) = None
files_and_number (first ∷ second ∷ rest) =
    if is_file_name first && is_file_name second
    then option_map (λ number. (first, second, number)) (one_number rest)
    else None

-- how many clauses a search may learn; where the words don't say it, an own choice
abbrev pub conflicts_in : List (List ℕ) → Option (Option ℕ)
conflicts_in words = said (Some usual_conflicts) budget_in (values_of (codes "--conflicts") words)

-- the limit that a word writes
abbrev pub limit_in : List ℕ → Option (Option ℕ)
limit_in word = option_map Some (number_in word)

-- after how many seconds a run is to end: where the words don't say it, it has no such limit
abbrev pub seconds_in : List (List ℕ) → Option (Option ℕ)
seconds_in words = said None limit_in (values_of (codes "--seconds") words)

-- The time limit that the words of a command line say. It is no part of the command: what is promised of a run is the
-- same with it and without.
abbrev pub time_limit : List (List ℕ) → Option ℕ
time_limit [] = None
time_limit (command ∷ words) = unwrap_or (seconds_in words) None

-- how many megabytes the steps of a log may take: where the words don't say it, there is no such limit
abbrev pub room_in : List (List ℕ) → Option (Option ℕ)
room_in words = said None limit_in (values_of (codes "--room") words)

-- The same limit for the words of a command line. It is no part of the command: a run that it ends is one whose memory
-- ran out.
abbrev pub room_limit : List (List ℕ) → Option ℕ
room_limit [] = None
room_limit (command ∷ words) = unwrap_or (room_in words) None

-- how many tries there are where the words don't say it: one, or with a time limit as many as it leaves time for (own
-- choice)
abbrev pub usual_tries : Option ℕ → ℕ
usual_tries None = 1
usual_tries (Some seconds) = 2 ^ 64 - 1

-- ---- commands with options

infixl 10 ◌>>=◌
-- what the next step makes of a value, if there is one
abbrev ◌>>=◌ : {A B : Type 0} → Option A → (A → Option B) → Option B
o >>= f = option_and_then f o

-- what the words say of how far it goes; where they don't say it, own choices
abbrev pub budgets_in : List (List ℕ) → Option Budgets
budgets_in words = do
  conflicts ← conflicts_in words
  moves ← said 40000 number_in (values_of (codes "--moves") words)
  seconds ← seconds_in words
  tries ← said (usual_tries seconds) tries_in (values_of (codes "--tries") words)
  patterns ← said 500 number_in (values_of (codes "--patterns") words)
  seed ← said 0 number_in (values_of (codes "--seed") words)
  Some (record { conflicts = conflicts; moves = moves; tries = tries; patterns = patterns; seed = seed })

-- how many clauses a search may learn, where a time limit may be said too
abbrev pub timed_conflicts_in : List (List ℕ) → Option (Option ℕ)
timed_conflicts_in words = do
  seconds ← seconds_in words
  conflicts_in words

-- the names of options: of those that say how far a search goes, without a time limit and with it, how far `solve` and
-- `trial` go, of all of `solve`, and of all of `prove`
abbrev pub search_options : List (List ℕ)
search_options = codes "--conflicts" ∷ []

abbrev pub timed_options : List (List ℕ)
timed_options = codes "--conflicts" ∷ codes "--seconds" ∷ []

abbrev pub solve_options : List (List ℕ)
solve_options =
    codes "--conflicts" ∷ codes "--moves" ∷ codes "--tries" ∷ codes "--patterns" ∷ codes "--seed"
    ∷ codes "--seconds" ∷ []

abbrev pub start_options : List (List ℕ)
start_options = codes "--from" ∷ solve_options

abbrev pub prove_options : List (List ℕ)
prove_options = codes "--floor" ∷ timed_options

-- the name of the option of the commands that check logs
abbrev pub log_options : List (List ℕ)
log_options = codes "--room" ∷ []

-- `solve` of a file from the season of another file
abbrev pub starting : List ℕ → Budgets → List ℕ → Option Command
starting file budgets start = if is_file_name start then Some (SolveFrom file start budgets) else None

-- `solve` over one file, with options before, between and behind
abbrev pub solving : List (List ℕ) → Option Command
solving words =
    if has_options start_options words
    then option_and_then (λ file. option_and_then (λ budgets.
    said (Solve file budgets) (starting file budgets) (values_of (codes "--from") words)) (budgets_in words))
    (one_file (arguments_of words))
    else None

-- `patterns` over one file, with how many clauses its search may learn said before or behind it
abbrev pub patterning : List (List ℕ) → Option Command
patterning words =
    if has_options search_options words
    then option_and_then (λ file. option_map (Patterns file) (conflicts_in words)) (one_file (arguments_of words))
    else None

-- `explain` over one file, with how many clauses each search may learn, and a time limit, said before or behind it
abbrev pub explaining : List (List ℕ) → Option Command
explaining words =
    if has_options timed_options words
    then option_and_then (λ file. option_map (Explain file) (timed_conflicts_in words)) (one_file (arguments_of words))
    else None

-- the number that no season is to cost less than, where the words say one
abbrev pub floor_in : List (List ℕ) → Option (Option ℕ)
floor_in words = said None limit_in (values_of (codes "--floor") words)

-- `prove` over two files, with a floor or none, how many clauses its search may learn, and a time limit, said before,
-- between or behind them
abbrev pub proving : List (List ℕ) → Option Command
proving words =
    if has_options prove_options words
    then option_and_then (λ files. option_and_then (λ floor.
    option_map (Prove files.0 files.1 floor) (timed_conflicts_in words)) (floor_in words))
    (two_files (arguments_of words))
    else None

-- `resume` over two files, with a number of slots, and with the same options
abbrev pub resuming_kept : List (List ℕ) → Option Command
resuming_kept words =
    if has_options timed_options words
    then option_and_then (λ found. option_map (Resume found.0 found.1 found.2) (timed_conflicts_in words))
    (files_and_number (arguments_of words))
    else None

-- some arguments without the first `--near`, where it is among them
abbrev pub without_near : List (List ℕ) → Option (List (List ℕ))
without_near [] = None
without_near (word ∷ words) = if is_near word then Some words else option_map (λ rest. word ∷ rest) (without_near words)

-- two files, a number, and `--near` anywhere among them
abbrev pub near_files_and_number : List (List ℕ) → Option (List ℕ × List ℕ × ℕ)
near_files_and_number words = option_and_then files_and_number (without_near words)

-- `resume` near the old plan, over two files, with a number of slots, and with the options of `trial`
abbrev pub resuming_near : List (List ℕ) → Option Command
resuming_near words =
    if has_options solve_options words
    then option_and_then (λ found. option_map (ResumeNear found.0 found.1 found.2) (budgets_in words))
    (near_files_and_number (arguments_of words))
    else None

-- `resume`, near the old plan or not
abbrev pub resuming : List (List ℕ) → Option Command
resuming words = option_or (resuming_near words) (resuming_kept words)

-- the number of teams and the seed of a made league, as arguments
unfoldable pub teams_and_seed : List (List ℕ) → Option (ℕ × ℕ)
teams_and_seed [] = None
teams_and_seed (teams ∷ rest) =
    option_and_then (λ n. option_map (λ seed. (n, seed)) (one_number rest)) (team_count_in teams)

-- the name of the option of `rows` that has a value
abbrev pub row_options : List (List ℕ)
row_options = codes "--bound" ∷ []

-- what is asked for with the bound that a word writes
abbrev pub bound_in : List ℕ → Option Goal
bound_in word = option_map AtMost (number_in word)

-- `rows` over one file, with a bound said before or behind it, or none
abbrev pub bounding : List (List ℕ) → Option Command
bounding words =
    if has_options row_options words
    then option_and_then (λ file. option_map (Rows file) (said Accepted bound_in (values_of (codes "--bound") words)))
    (one_file (arguments_of words))
    else None

-- the names of the options of `show`
abbrev pub show_options : List (List ℕ)
show_options = codes "--form" ∷ codes "--most" ∷ codes "--width" ∷ []

-- whether the form that a word names is that of a spreadsheet
abbrev pub form_in : List ℕ → Option Bool
form_in word =
    if bytes_eq word (codes "text") then Some false else (if bytes_eq word (codes "csv") then Some true else None)

-- the number below 4294967296 that a word writes
abbrev pub small_in : List ℕ → Option ℕ
small_in word = option_and_then (λ k. if nat_lt k (2 ^ 32) then Some k else None) (number_in word)

-- how many lines of a list a word asks for; `all` stands for more than any list has
abbrev pub most_in : List ℕ → Option ℕ
most_in word = if bytes_eq word (codes "all") then Some (2 ^ 32 - 1) else small_in word

-- `show` over two files: as a text, with how many lines of a list and how wide a page; where the words don't say it,
-- own choices; or for a spreadsheet
abbrev pub show_of : List ℕ × List ℕ → Bool → ℕ → ℕ → Command
show_of files sheet most width = if sheet then Sheet files.0 files.1 else Show files.0 files.1 most width

-- `show` over two files, with options before, between and behind them
abbrev pub showing_season : List (List ℕ) → Option Command
showing_season words =
    if has_options show_options words
    then option_and_then (λ files. option_and_then (λ sheet. option_and_then (λ most.
    option_map (show_of files sheet most) (said 80 small_in (values_of (codes "--width") words)))
    (said 20 most_in (values_of (codes "--most") words)))
    (said false form_in (values_of (codes "--form") words)))
    (two_files (arguments_of words))
    else None

-- `rows` over one file, where the objective is to be least
abbrev pub costing : List ℕ → Option Command
costing file = if is_file_name file then Some (Rows file Least) else None

-- the same: `--objective` stands behind the file or before it, and has no value
abbrev pub lowering : List (List ℕ) → Option Command
lowering (first ∷ second ∷ []) =
    if bytes_eq second (codes "--objective") then costing first
    else (if bytes_eq first (codes "--objective") then costing second else None)
lowering _ = None

-- `rows`, with one of its options or with none
abbrev pub rowing : List (List ℕ) → Option Command
rowing words = option_or (lowering words) (bounding words)

-- `trial` with a number of teams, a seed and its options
abbrev pub trying : List (List ℕ) → Option Command
trying words =
    if has_options solve_options words
    then option_and_then (λ made. option_map (Trial made.0 made.1) (budgets_in words))
    (teams_and_seed (arguments_of words))
    else None

-- ---- the list of `part` and of `show`

-- the number that a word writes, where it is above another and at most 4294967295
abbrev pub number_above : ℕ → List ℕ → Option ℕ
number_above before word =
    option_and_then (λ k. if nat_lt before k && nat_lt k (2 ^ 32) then Some k else None) (number_in word)

-- the numbers of words, of which the first is above another, and each further one above the one before it
abbrev pub rising : ℕ → List (List ℕ) → Option (List ℕ)
rising before [] = Some []
rising before (word ∷ words) = do
  k ← number_above before word
  later ← rising k words
  Some (k ∷ later)

-- the words of a list, with one `;` between two
abbrev pub words_of : List ℕ → List (List ℕ)
words_of list = slice_split (λ b. b == byte ";") list

-- the numbers that a list writes: one or more, from 1 to 4294967295, each above the one before it
abbrev pub members_in : List ℕ → Option (List ℕ)
members_in list = rising 0 (words_of list)

-- the numbers that a text writes as a list, and none where it is no such list
abbrev pub members_of : List ℕ → List ℕ
members_of list = unwrap_or (members_in list) []

-- what the constraints of a file demand: all of them, or those with the numbers of a list
abbrev pub demanding_all : List ℕ → Option Command
demanding_all file = if is_file_name file then Some (Demands file None) else None

abbrev pub demanding_some : List ℕ → List ℕ → Option Command
demanding_some file list =
    if is_file_name file then option_map (λ members. Demands file (Some members)) (members_in list) else None

-- `show` over a file with `--demands` behind it, and a list or none behind that
abbrev pub demanding : List (List ℕ) → Option Command
demanding (file ∷ option ∷ []) = if bytes_eq option (codes "--demands") then demanding_all file else None
demanding (file ∷ option ∷ list ∷ []) =
    if bytes_eq option (codes "--demands") then demanding_some file list else None
demanding _ = None

-- `show`, of what a league demands or of a season
abbrev pub showing : List (List ℕ) → Option Command
showing words = option_or (demanding words) (showing_season words)

-- `part` over a file, with a list
abbrev pub parting : List ℕ → List ℕ → Option Command
parting file list = if is_file_name file then option_map (Part file) (members_in list) else None

-- ---- commands

-- `make` with a number of teams and a seed
abbrev pub making : List ℕ → List ℕ → Option Command
making teams seed = option_and_then (λ n. option_map (Make n) (number_in seed)) (team_count_in teams)

-- the command of this name over two files
abbrev pub over_files : List ℕ → List ℕ → List ℕ → Option Command
over_files command first second =
    if bytes_eq command (codes "validate") then Some (Validate first second)
    else (if bytes_eq command (codes "values") then Some (Values first second) else None)

-- the command of this name that has no options
abbrev pub plain : List ℕ → List (List ℕ) → Option Command
plain command (argument ∷ []) =
    if bytes_eq command (codes "circle") then option_map Circle (team_count_in argument) else None
plain command (first ∷ second ∷ []) =
    if bytes_eq command (codes "make") then making first second
    else (if bytes_eq command (codes "part") then parting first second
    else (if is_file_name first && is_file_name second then over_files command first second else None))
plain command _ = None

-- `check` over two files, with how much room its steps have said before, between or behind them
abbrev pub checking : List (List ℕ) → Option Command
checking words =
    if has_options log_options words
    then option_and_then (λ files. option_map (λ room. Check files.0 files.1) (room_in words))
    (two_files (arguments_of words))
    else None

-- `bound` over two files, with the same option
abbrev pub bounded_by : List (List ℕ) → Option Command
bounded_by words =
    if has_options log_options words
    then option_and_then (λ files. option_map (λ room. Bound files.0 files.1) (room_in words))
    (two_files (arguments_of words))
    else None

-- a number and a file, as arguments
abbrev pub number_and_file : List (List ℕ) → Option (ℕ × List ℕ)
number_and_file [] = None
number_and_file (word ∷ rest) =
    option_and_then (λ k. option_map (λ file. (k, file)) (one_file rest)) (number_in word)

-- two files, a number and a third file, as arguments
abbrev pub files_with_log : List (List ℕ) → Option (List ℕ × List ℕ × ℕ × List ℕ)
files_with_log [] = None
files_with_log (first ∷ []) = None
files_with_log (first ∷ second ∷ rest) =
    if is_file_name first && is_file_name second
    then option_map (λ found. (first, second, found.0, found.1)) (number_and_file rest)
    else None

-- `audit` over two files, with a number of slots and a log, and with the same option
abbrev pub auditing : List (List ℕ) → Option Command
auditing words =
    if has_options log_options words
    then option_and_then (λ found. option_map (λ room. Audit found.0 found.1 found.2 found.3) (room_in words))
    (files_with_log (arguments_of words))
    else None

-- the words that follow a command, by its name
abbrev pub following : List (List ℕ) → Option Command
following [] = None
following (command ∷ words) =
    if bytes_eq command (codes "solve") then solving words
    else (if bytes_eq command (codes "patterns") then patterning words
    else (if bytes_eq command (codes "explain") then explaining words
    else (if bytes_eq command (codes "prove") then proving words
    else (if bytes_eq command (codes "resume") then resuming words
    else (if bytes_eq command (codes "audit") then auditing words
    else (if bytes_eq command (codes "trial") then trying words
    else (if bytes_eq command (codes "rows") then rowing words
    else (if bytes_eq command (codes "show") then showing words
    else (if bytes_eq command (codes "check") then checking words
    else (if bytes_eq command (codes "bound") then bounded_by words else plain command words))))))))))

-- ---- help and the version

-- help on the command of a name
abbrev pub helping : List ℕ → Option Command
helping name = option_map (λ topic. Help (Some topic)) (topic_of name)

-- `--help` alone, behind the name of a command or before it, and `--version` alone
abbrev pub asking : List (List ℕ) → Option Command
asking (word ∷ []) =
    if bytes_eq word (codes "--help") then Some (Help None)
    else (if bytes_eq word (codes "--version") then Some Version else None)
asking (first ∷ second ∷ []) =
    if bytes_eq second (codes "--help") then helping first
    else (if bytes_eq first (codes "--help") then helping second else None)
asking _ = None

-- the one reading of the words, or none
abbrev pub reading : List (List ℕ) → Option Command
reading words = option_or (asking words) (following words)

-- a league may have the teams of a command, where it names a number of them
abbrev pub HasTeams : Command → Type 0
HasTeams (Validate instance solution) = Unit {0}
HasTeams (Show instance solution most width) = Unit {0}
HasTeams (Demands instance members) = Unit {0}
HasTeams (Sheet instance solution) = Unit {0}
HasTeams (Check instance log) = Unit {0}
HasTeams (Solve instance budgets) = Unit {0}
HasTeams (SolveFrom instance solution budgets) = Unit {0}
HasTeams (Patterns instance conflicts) = Unit {0}
HasTeams (Explain instance conflicts) = Unit {0}
HasTeams (Part instance members) = Unit {0}
HasTeams (Prove instance solution floor conflicts) = Unit {0}
HasTeams (Bound instance log) = Unit {0}
HasTeams (Resume instance solution k conflicts) = Unit {0}
HasTeams (ResumeNear instance solution k budgets) = Unit {0}
HasTeams (Audit instance solution k log) = Unit {0}
HasTeams (Rows instance goal) = Unit {0}
HasTeams (Values instance values) = Unit {0}
HasTeams (Circle n) = IsTeamCount n
HasTeams (Make n seed) = IsTeamCount n
HasTeams (Trial n seed budgets) = IsTeamCount n
HasTeams (Help topic) = Unit {0}
HasTeams Version = Unit {0}

-- whether the words need no file: they are refused, or ask for a schedule or a league that is made, or for help or the
-- version
abbrev pub NeedsNoFile : Option Command → Type 0
NeedsNoFile None = Unit {0}
NeedsNoFile (Some (Circle n)) = Unit {0}
NeedsNoFile (Some (Make n seed)) = Unit {0}
NeedsNoFile (Some (Trial n seed budgets)) = Unit {0}
NeedsNoFile (Some (Help topic)) = Unit {0}
NeedsNoFile (Some Version) = Unit {0}
NeedsNoFile (Some (Validate instance solution)) = ⊥
NeedsNoFile (Some (Show instance solution most width)) = ⊥
NeedsNoFile (Some (Demands instance members)) = ⊥
NeedsNoFile (Some (Sheet instance solution)) = ⊥
NeedsNoFile (Some (Check instance log)) = ⊥
NeedsNoFile (Some (Solve instance budgets)) = ⊥
NeedsNoFile (Some (SolveFrom instance solution budgets)) = ⊥
NeedsNoFile (Some (Patterns instance conflicts)) = ⊥
NeedsNoFile (Some (Explain instance conflicts)) = ⊥
NeedsNoFile (Some (Part instance members)) = ⊥
NeedsNoFile (Some (Prove instance solution floor conflicts)) = ⊥
NeedsNoFile (Some (Bound instance log)) = ⊥
NeedsNoFile (Some (Resume instance solution k conflicts)) = ⊥
NeedsNoFile (Some (ResumeNear instance solution k budgets)) = ⊥
NeedsNoFile (Some (Audit instance solution k log)) = ⊥
NeedsNoFile (Some (Rows instance goal)) = ⊥
NeedsNoFile (Some (Values instance values)) = ⊥
