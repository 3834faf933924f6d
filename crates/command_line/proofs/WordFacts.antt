-- Worked readings of words, so that a wrong definition does not check.
use Rattle.std.proofs.Common.{◌≡◌, ℕ, true, false, List, [], ◌∷◌, Some, None, codes, refl}
use Rattle.command_line.specs.Topics.{topic_of}
use Rattle.command_line.specs.declared.topic.Topic.TheVariants as topic
use Rattle.command_line.specs.declared.goal.Goal.TheVariants as goal
use Rattle.robin_watch.specs.declared.budgets.Budgets.{Budgets}
use Rattle.command_line.specs.Words.{arguments_of, budget_in, has_options, is_file_name, is_option, is_shortest}
use Rattle.command_line.specs.Words.{files_and_number, members_in, members_of, number_above, number_in, one_file}
use Rattle.command_line.specs.Words.{one_number, reading, rising, room_limit, said, two_files}
use Rattle.command_line.specs.Words.{team_count_in, teams_and_seed, time_limit, tries_in, values_of, without_near, words_of, NeedsNoFile}
use Rattle.command_line.specs.Words.Command.{Audit, Bound, Check, Circle, Demands, Explain, Make, Part, Patterns, Prove}
use Rattle.command_line.specs.Words.Command.{Help, Resume, ResumeNear, Rows, Sheet, Show, Solve, SolveFrom, Trial, Validate, Values}
use Rattle.command_line.specs.Words.Command.{Version}

-- a number: 0 itself, no leading zero, no sign, no blank, at most 2 ^ 64 - 1
pub number_in-some : (number_in (codes "0") ≡ Some 0) × (number_in (codes "10") ≡ Some 10) × (number_in (codes "18446744073709551615") ≡ Some 18446744073709551615)
number_in-some = (refl, refl, refl)

pub number_in-none : (number_in [] ≡ None) × (number_in (codes "00") ≡ None) × (number_in (codes "04") ≡ None) × (number_in (codes "+4") ≡ None) × (number_in (codes "4 ") ≡ None) × (number_in (codes "18446744073709551616") ≡ None)
number_in-none = (refl, refl, refl, refl, refl, refl)

pub is_shortest-some : (is_shortest [] ≡ true) × (is_shortest (codes "0") ≡ true) × (is_shortest (codes "100") ≡ true) × (is_shortest (codes "01") ≡ false)
is_shortest-some = (refl, refl, refl, refl)

-- the least and the greatest number of teams, and their neighbours: odd, past the greatest, 0
pub team_count_in-some : (team_count_in (codes "2") ≡ Some 2) × (team_count_in (codes "40") ≡ Some 40)
team_count_in-some = (refl, refl)

pub team_count_in-none : (team_count_in (codes "1") ≡ None) × (team_count_in (codes "39") ≡ None) × (team_count_in (codes "42") ≡ None) × (team_count_in (codes "0") ≡ None) × (team_count_in (codes "") ≡ None)
team_count_in-none = (refl, refl, refl, refl, refl)

-- a file's name is any word that doesn't begin with a hyphen, the empty word and a command's name too
pub is_file_name-some : (is_file_name [] ≡ true) × (is_file_name (codes "a-") ≡ true) × (is_file_name (codes "-a") ≡ false) × (is_file_name (codes "-") ≡ false)
is_file_name-some = (refl, refl, refl, refl)

pub validate-names : reading (codes "validate" ∷ codes "" ∷ codes "circle" ∷ []) ≡ Some (Validate [] (codes "circle"))
validate-names = refl

pub check-names : (reading (codes "check" ∷ codes "a" ∷ codes "" ∷ []) ≡ Some (Check (codes "a") [])) × (reading (codes "check" ∷ codes "a" ∷ codes "b" ∷ []) ≡ Some (Check (codes "a") (codes "b")))
check-names = (refl, refl)

-- one file or three, an option in place of a file's name, another spelling
pub check-none : (reading (codes "check" ∷ codes "a" ∷ []) ≡ None)
    × (reading (codes "check" ∷ codes "a" ∷ codes "b" ∷ codes "c" ∷ []) ≡ None)
    × (reading (codes "check" ∷ codes "a" ∷ codes "-" ∷ []) ≡ None)
    × (reading (codes "check" ∷ codes "-a" ∷ codes "b" ∷ []) ≡ None)
    × (reading (codes "Check" ∷ codes "a" ∷ codes "b" ∷ []) ≡ None)
    × (reading (codes "checks" ∷ codes "a" ∷ codes "b" ∷ []) ≡ None)
check-none = (refl, refl, refl, refl, refl, refl)

pub circle-teams : (reading (codes "circle" ∷ codes "2" ∷ []) ≡ Some (Circle 2)) × (reading (codes "circle" ∷ codes "40" ∷ []) ≡ Some (Circle 40))
circle-teams = (refl, refl)

-- a budget: a number, or `all`, and nothing else
pub budget_in-some : (budget_in (codes "all") ≡ Some None) × (budget_in (codes "0") ≡ Some (Some 0)) × (budget_in (codes "18446744073709551615") ≡ Some (Some 18446744073709551615))
budget_in-some = (refl, refl, refl)

pub budget_in-none : (budget_in [] ≡ None) × (budget_in (codes "All") ≡ None) × (budget_in (codes "00") ≡ None) × (budget_in (codes "-1") ≡ None) × (budget_in (codes "18446744073709551616") ≡ None)
budget_in-none = (refl, refl, refl, refl, refl)

-- ---- `solve`

abbrev usual : Budgets
usual = record { conflicts = Some 2000; moves = 40000; tries = 1; patterns = 500; seed = 0 }

-- with the usual budgets, and with options before the file, between and behind it, in any order
pub solve-usual : reading (codes "solve" ∷ codes "a" ∷ []) ≡ Some (Solve (codes "a") usual)
solve-usual = refl

pub solve-conflicts : (reading (codes "solve" ∷ codes "--conflicts" ∷ codes "7" ∷ codes "a" ∷ []) ≡ Some (Solve (codes "a") (record usual { conflicts = Some 7 }))) × (reading (codes "solve" ∷ codes "a" ∷ codes "--conflicts" ∷ codes "all" ∷ []) ≡ Some (Solve (codes "a") (record usual { conflicts = None }))) × (reading (codes "solve" ∷ codes "--conflicts" ∷ codes "all" ∷ codes "all" ∷ []) ≡ Some (Solve (codes "all") (record usual { conflicts = None })))
solve-conflicts = (refl, refl, refl)

pub solve-moves : (reading (codes "solve" ∷ codes "--moves" ∷ codes "0" ∷ codes "a" ∷ []) ≡ Some (Solve (codes "a") (record usual { moves = 0 }))) × (reading (codes "solve" ∷ codes "a" ∷ codes "--moves" ∷ codes "18446744073709551615" ∷ []) ≡ Some (Solve (codes "a") (record usual { moves = 18446744073709551615 })))
solve-moves = (refl, refl)

pub solve-patterns : (reading (codes "solve" ∷ codes "--patterns" ∷ codes "0" ∷ codes "a" ∷ [])
    ≡ Some (Solve (codes "a") (record usual { patterns = 0 })))
    × (reading (codes "solve" ∷ codes "a" ∷ codes "--patterns" ∷ codes "18446744073709551615" ∷ [])
    ≡ Some (Solve (codes "a") (record usual { patterns = 18446744073709551615 })))
    × (reading (codes "solve" ∷ codes "a" ∷ codes "--patterns" ∷ codes "all" ∷ []) ≡ None)
    × (reading (codes "solve" ∷ codes "a" ∷ codes "--patterns" ∷ []) ≡ None)
    × (reading (codes "patterns" ∷ codes "a" ∷ codes "--patterns" ∷ codes "1" ∷ []) ≡ None)
solve-patterns = (refl, refl, refl, refl, refl)

pub solve-all : reading (codes "solve" ∷ codes "--seed" ∷ codes "5" ∷ codes "--tries" ∷ codes "100" ∷ codes "a" ∷ codes "--moves" ∷ codes "1" ∷ codes "--conflicts" ∷ codes "0" ∷ []) ≡ Some (Solve (codes "a") (record { conflicts = Some 0; moves = 1; tries = 100; patterns = 500; seed = 5 }))
solve-all = refl

-- `--from` names a season's file, once, for `solve` alone
pub solve-from : (reading (codes "solve" ∷ codes "a" ∷ codes "--from" ∷ codes "b" ∷ [])
    ≡ Some (SolveFrom (codes "a") (codes "b") usual))
    × (reading (codes "solve" ∷ codes "--from" ∷ codes "b" ∷ codes "--moves" ∷ codes "0" ∷ codes "a" ∷ [])
    ≡ Some (SolveFrom (codes "a") (codes "b") (record usual { moves = 0 })))
    × (reading (codes "solve" ∷ codes "a" ∷ codes "--from" ∷ codes "-b" ∷ []) ≡ None)
    × (reading (codes "solve" ∷ codes "a" ∷ codes "--from" ∷ []) ≡ None)
    × (reading (codes "solve" ∷ codes "a" ∷ codes "--from" ∷ codes "b" ∷ codes "--from" ∷ codes "b" ∷ []) ≡ None)
    × (reading (codes "trial" ∷ codes "8" ∷ codes "7" ∷ codes "--from" ∷ codes "b" ∷ []) ≡ None)
solve-from = (refl, refl, refl, refl, refl, refl)

-- a time limit changes nothing but how many tries are usual
pub solve-seconds : (reading (codes "solve" ∷ codes "a" ∷ codes "--seconds" ∷ codes "5" ∷ [])
    ≡ Some (Solve (codes "a") (record usual { tries = 18446744073709551615 })))
    × (reading (codes "solve" ∷ codes "--seconds" ∷ codes "0" ∷ codes "a" ∷ codes "--tries" ∷ codes "3" ∷ [])
    ≡ Some (Solve (codes "a") (record usual { tries = 3 })))
    × (reading (codes "solve" ∷ codes "a" ∷ codes "--seconds" ∷ codes "1.5" ∷ []) ≡ None)
    × (reading (codes "solve" ∷ codes "a" ∷ codes "--seconds" ∷ codes "1" ∷ codes "--seconds" ∷ codes "2" ∷ []) ≡ None)
    × (reading (codes "patterns" ∷ codes "a" ∷ codes "--seconds" ∷ codes "5" ∷ []) ≡ None)
solve-seconds = (refl, refl, refl, refl, refl)

-- a time limit of `prove`, `resume` and `explain` changes nothing of what they are asked
pub timed-seconds : (reading (codes "prove" ∷ codes "a" ∷ codes "b" ∷ codes "--seconds" ∷ codes "5" ∷ [])
    ≡ Some (Prove (codes "a") (codes "b") None (Some 2000)))
    × (reading (codes "resume" ∷ codes "--seconds" ∷ codes "0" ∷ codes "a" ∷ codes "b" ∷ codes "3" ∷ codes "--conflicts"
    ∷ codes "all" ∷ []) ≡ Some (Resume (codes "a") (codes "b") 3 None))
    × (reading (codes "prove" ∷ codes "a" ∷ codes "b" ∷ codes "--seconds" ∷ codes "x" ∷ []) ≡ None)
    × (reading (codes "explain" ∷ codes "a" ∷ codes "--seconds" ∷ codes "5" ∷ [])
    ≡ Some (Explain (codes "a") (Some 2000)))
timed-seconds = (refl, refl, refl, refl)

pub time_limit-some : (time_limit (codes "solve" ∷ codes "a" ∷ codes "--seconds" ∷ codes "5" ∷ []) ≡ Some 5)
    × (time_limit (codes "trial" ∷ codes "--seconds" ∷ codes "0" ∷ codes "8" ∷ codes "7" ∷ []) ≡ Some 0)
    × (time_limit (codes "explain" ∷ codes "a" ∷ codes "--seconds" ∷ codes "7" ∷ []) ≡ Some 7)
    × (time_limit (codes "solve" ∷ codes "a" ∷ []) ≡ None) × (time_limit [] ≡ None)
    × (time_limit (codes "solve" ∷ codes "a" ∷ codes "--seconds" ∷ codes "x" ∷ []) ≡ None)
time_limit-some = (refl, refl, refl, refl, refl, refl)

-- a leading zero, an option twice, its value behind `=`, no try and too many
pub solve-wrong_values : (reading (codes "solve" ∷ codes "a" ∷ codes "--moves" ∷ codes "01" ∷ []) ≡ None)
    × (reading (codes "solve" ∷ codes "a" ∷ codes "--moves" ∷ codes "1" ∷ codes "--moves" ∷ codes "2" ∷ []) ≡ None)
    × (reading (codes "solve" ∷ codes "a" ∷ codes "--moves=1" ∷ []) ≡ None)
    × (reading (codes "solve" ∷ codes "a" ∷ codes "--tries" ∷ codes "0" ∷ []) ≡ None)
    × (reading (codes "solve" ∷ codes "a" ∷ codes "--tries" ∷ codes "101" ∷ []) ≡ None)
    × (reading (codes "solve" ∷ codes "a" ∷ codes "--seed" ∷ codes "all" ∷ []) ≡ None)
solve-wrong_values = (refl, refl, refl, refl, refl, refl)

-- no file or two, an option alone, twice, without its value or with a wrong one, another option, another command
pub solve-none : (reading (codes "solve" ∷ []) ≡ None) × (reading (codes "solve" ∷ codes "a" ∷ codes "b" ∷ []) ≡ None)
    × (reading (codes "solve" ∷ codes "--conflicts" ∷ codes "7" ∷ []) ≡ None) × (reading (codes "solve" ∷ codes
    "--conflicts" ∷ codes "7" ∷ codes "--conflicts" ∷ codes "7" ∷ codes "a" ∷ []) ≡ None)
    × (reading (codes "solve" ∷ codes "a" ∷ codes "--conflicts" ∷ []) ≡ None)
    × (reading (codes "solve" ∷ codes "--conflicts" ∷ codes "07" ∷ codes "a" ∷ []) ≡ None)
    × (reading (codes "solve" ∷ codes "--conflicts" ∷ codes "7" ∷ codes "-a" ∷ []) ≡ None)
    × (reading (codes "solve" ∷ codes "--conflicts" ∷ codes "--conflicts" ∷ codes "7" ∷ []) ≡ None)
    × (reading (codes "solve" ∷ codes "--conflict" ∷ codes "7" ∷ codes "a" ∷ []) ≡ None)
    × (reading (codes "solve" ∷ codes "a" ∷ codes "b" ∷ codes "c" ∷ []) ≡ None)
    × (reading (codes "circle" ∷ codes "--conflicts" ∷ codes "7" ∷ codes "4" ∷ []) ≡ None)
    × (reading (codes "solve" ∷ codes "-a" ∷ []) ≡ None)
solve-none = (refl, refl, refl, refl, refl, refl, refl, refl, refl, refl, refl, refl)

-- ---- words with options: `--` begins the name of one, and the next word is its value, whatever that is

abbrev some_words : List (List ℕ)
some_words = codes "a" ∷ codes "--x" ∷ codes "--y" ∷ codes "b" ∷ codes "--x" ∷ codes "1" ∷ codes "-c" ∷ []

pub arguments-some : arguments_of some_words ≡ codes "a" ∷ codes "b" ∷ codes "-c" ∷ []
arguments-some = refl

pub values-some : (values_of (codes "--x") some_words ≡ codes "--y" ∷ codes "1" ∷ []) × (values_of (codes "--y") some_words ≡ [])
values-some = (refl, refl)

pub has_options-some : (has_options (codes "--x" ∷ []) some_words ≡ true) × (has_options (codes "--y" ∷ []) some_words ≡ false) × (has_options (codes "--x" ∷ []) (codes "a" ∷ codes "--x" ∷ []) ≡ false) × (has_options [] (codes "a" ∷ codes "-x" ∷ []) ≡ true)
has_options-some = (refl, refl, refl, refl)

-- `--near` has no value, so the word behind it is an argument
pub arguments-near : (arguments_of (codes "a" ∷ codes "--near" ∷ codes "b" ∷ codes "--x" ∷ codes "--near" ∷ [])
    ≡ codes "a" ∷ codes "--near" ∷ codes "b" ∷ [])
    × (values_of (codes "--x") (codes "--near" ∷ codes "--x" ∷ codes "1" ∷ []) ≡ codes "1" ∷ [])
    × (values_of (codes "--near") (codes "--near" ∷ codes "1" ∷ []) ≡ [])
    × (has_options (codes "--x" ∷ []) (codes "--near" ∷ codes "--x" ∷ codes "--near" ∷ []) ≡ true)
    × (without_near (codes "a" ∷ codes "--near" ∷ codes "--near" ∷ []) ≡ Some (codes "a" ∷ codes "--near" ∷ []))
    × (without_near (codes "a" ∷ []) ≡ None)
arguments-near = (refl, refl, refl, refl, refl, refl)

pub is_option-some : (is_option (codes "--") ≡ true) × (is_option (codes "--a") ≡ true) × (is_option (codes "-a") ≡ false) × (is_option (codes "-") ≡ false) × (is_option [] ≡ false)
is_option-some = (refl, refl, refl, refl, refl)

pub said-some : (said 5 number_in [] ≡ Some 5) × (said 5 number_in (codes "7" ∷ []) ≡ Some 7) × (said 5 number_in (codes "x" ∷ []) ≡ None) × (said 5 number_in (codes "7" ∷ codes "7" ∷ []) ≡ None)
said-some = (refl, refl, refl, refl)

pub tries_in-some : (tries_in (codes "1") ≡ Some 1) × (tries_in (codes "100") ≡ Some 100) × (tries_in (codes "0") ≡ None) × (tries_in (codes "101") ≡ None)
tries_in-some = (refl, refl, refl, refl)

pub one_file-some : (one_file (codes "a" ∷ []) ≡ Some (codes "a")) × (one_file (codes "-a" ∷ []) ≡ None) × (one_file [] ≡ None) × (one_file (codes "a" ∷ codes "a" ∷ []) ≡ None)
one_file-some = (refl, refl, refl, refl)

-- no words, one, too few or too many for a command, an option, another command
pub reading-none : (reading [] ≡ None) × (reading (codes "circle" ∷ []) ≡ None)
    × (reading (codes "circle" ∷ codes "4" ∷ codes "4" ∷ []) ≡ None)
    × (reading (codes "validate" ∷ codes "a" ∷ []) ≡ None)
    × (reading (codes "validate" ∷ codes "a" ∷ codes "--b" ∷ []) ≡ None)
    × (reading (codes "validate" ∷ codes "-a" ∷ codes "b" ∷ []) ≡ None)
    × (reading (codes "Validate" ∷ codes "a" ∷ codes "b" ∷ []) ≡ None)
    × (reading (codes "Circle" ∷ codes "4" ∷ []) ≡ None)
reading-none = (refl, refl, refl, refl, refl, refl, refl, refl)

-- a fourth word and a fifth, of which the first three are a command, and a third of which the first two are one
pub reading-longer : (reading (codes "validate" ∷ codes "a" ∷ codes "b" ∷ codes "c" ∷ []) ≡ None)
    × (reading (codes "validate" ∷ codes "a" ∷ codes "b" ∷ [] ∷ []) ≡ None)
    × (reading (codes "validate" ∷ codes "a" ∷ codes "b" ∷ codes "c" ∷ codes "d" ∷ []) ≡ None)
    × (reading (codes "circle" ∷ codes "4" ∷ [] ∷ []) ≡ None)
reading-longer = (refl, refl, refl, refl)

-- ---- `patterns` and `make`

pub patterns-some : (reading (codes "patterns" ∷ codes "a" ∷ []) ≡ Some (Patterns (codes "a") (Some 2000))) × (reading
    (codes "patterns" ∷ codes "--conflicts" ∷ codes "7" ∷ codes "a" ∷ []) ≡ Some (Patterns (codes "a") (Some 7))) ×
    (reading (codes "patterns" ∷ codes "a" ∷ codes "--conflicts" ∷ codes "all" ∷ []) ≡ Some (Patterns (codes "a") None))
patterns-some = (refl, refl, refl)

-- an option of `solve` alone, no file or two, the option twice or without its value
pub patterns-none : (reading (codes "patterns" ∷ codes "a" ∷ codes "--moves" ∷ codes "1" ∷ []) ≡ None)
    × (reading (codes "patterns" ∷ []) ≡ None) × (reading (codes "patterns" ∷ codes "a" ∷ codes "b" ∷ []) ≡ None) ×
    (reading (codes "patterns" ∷ codes "--conflicts" ∷ codes "7" ∷ codes "--conflicts" ∷ codes "7" ∷ codes "a" ∷ []) ≡
    None) × (reading (codes "patterns" ∷ codes "a" ∷ codes "--conflicts" ∷ []) ≡ None)
patterns-none = (refl, refl, refl, refl, refl)

pub make-some : (reading (codes "make" ∷ codes "2" ∷ codes "0" ∷ []) ≡ Some (Make 2 0)) × (reading (codes "make" ∷ codes "40" ∷ codes "18446744073709551615" ∷ []) ≡ Some (Make 40 18446744073709551615))
make-some = (refl, refl)

-- no seed or two, an odd number of teams, a seed with a leading zero, with a sign, or past 64 bits
pub make-none : (reading (codes "make" ∷ codes "4" ∷ []) ≡ None)
    × (reading (codes "make" ∷ codes "4" ∷ codes "1" ∷ codes "1" ∷ []) ≡ None)
    × (reading (codes "make" ∷ codes "5" ∷ codes "1" ∷ []) ≡ None)
    × (reading (codes "make" ∷ codes "4" ∷ codes "01" ∷ []) ≡ None)
    × (reading (codes "make" ∷ codes "4" ∷ codes "-1" ∷ []) ≡ None)
    × (reading (codes "make" ∷ codes "4" ∷ codes "18446744073709551616" ∷ []) ≡ None)
make-none = (refl, refl, refl, refl, refl, refl)

-- ---- `trial`

-- with the usual budgets, and with options before, between and behind its numbers
pub trial-some : (reading (codes "trial" ∷ codes "8" ∷ codes "7" ∷ []) ≡ Some (Trial 8 7 usual))
    × (reading (codes "trial" ∷ codes "--moves" ∷ codes "1" ∷ codes "2" ∷ codes "--patterns" ∷ codes "3" ∷ codes "0"
    ∷ codes "--conflicts" ∷ codes "all" ∷ [])
    ≡ Some (Trial 2 0 (record usual { conflicts = None; moves = 1; patterns = 3 })))
    × (reading (codes "trial" ∷ codes "40" ∷ codes "18446744073709551615" ∷ [])
    ≡ Some (Trial 40 18446744073709551615 usual))
unfolding teams_and_seed
trial-some = (refl, refl, refl)

-- no seed or two, an odd number of teams, a seed with a leading zero or a sign, an option without its value, twice, or
-- of another name
pub trial-none : (reading (codes "trial" ∷ codes "8" ∷ []) ≡ None)
    × (reading (codes "trial" ∷ []) ≡ None)
    × (reading (codes "trial" ∷ codes "8" ∷ codes "7" ∷ codes "7" ∷ []) ≡ None)
    × (reading (codes "trial" ∷ codes "7" ∷ codes "8" ∷ []) ≡ None)
    × (reading (codes "trial" ∷ codes "8" ∷ codes "07" ∷ []) ≡ None)
    × (reading (codes "trial" ∷ codes "8" ∷ codes "-7" ∷ []) ≡ None)
    × (reading (codes "trial" ∷ codes "8" ∷ codes "7" ∷ codes "--moves" ∷ []) ≡ None)
    × (reading (codes "trial" ∷ codes "8" ∷ codes "7" ∷ codes "--tries" ∷ codes "0" ∷ []) ≡ None)
    × (reading (codes "trial" ∷ codes "8" ∷ codes "7" ∷ codes "--seed" ∷ codes "1" ∷ codes "--seed" ∷ codes "1" ∷ []) ≡ None)
    × (reading (codes "trial" ∷ codes "8" ∷ codes "--file" ∷ codes "a" ∷ codes "7" ∷ []) ≡ None)
unfolding teams_and_seed
trial-none = (refl, refl, refl, refl, refl, refl, refl, refl, refl, refl)

pub teams_and_seed-some : (teams_and_seed [] ≡ None) × (teams_and_seed (codes "4" ∷ codes "1" ∷ []) ≡ Some (4, 1))
    × (teams_and_seed (codes "4" ∷ []) ≡ None) × (one_number (codes "9" ∷ []) ≡ Some 9)
    × (one_number (codes "9" ∷ codes "9" ∷ []) ≡ None)
unfolding teams_and_seed
teams_and_seed-some = (refl, refl, refl, refl, refl)

-- ---- `explain` and `part`

pub explain-some : (reading (codes "explain" ∷ codes "a" ∷ []) ≡ Some (Explain (codes "a") (Some 2000)))
    × (reading (codes "explain" ∷ codes "--conflicts" ∷ codes "7" ∷ codes "a" ∷ [])
    ≡ Some (Explain (codes "a") (Some 7)))
    × (reading (codes "explain" ∷ codes "a" ∷ codes "--conflicts" ∷ codes "all" ∷ []) ≡ Some (Explain (codes "a") None))
explain-some = (refl, refl, refl)

-- an option of `solve` alone, no file or two, the option twice or without its value
pub explain-none : (reading (codes "explain" ∷ codes "a" ∷ codes "--moves" ∷ codes "1" ∷ []) ≡ None)
    × (reading (codes "explain" ∷ []) ≡ None) × (reading (codes "explain" ∷ codes "a" ∷ codes "b" ∷ []) ≡ None)
    × (reading (codes "explain" ∷ codes "--conflicts" ∷ codes "7" ∷ codes "--conflicts" ∷ codes "7" ∷ codes "a" ∷ [])
    ≡ None)
    × (reading (codes "explain" ∷ codes "a" ∷ codes "--conflicts" ∷ []) ≡ None)
explain-none = (refl, refl, refl, refl, refl)

-- a list: its words, one more than it has semicolons, and its numbers, each above the one before
pub words_of-some : (words_of [] ≡ [] ∷ []) × (words_of (codes "7") ≡ codes "7" ∷ [])
    × (words_of (codes "2;17;") ≡ codes "2" ∷ codes "17" ∷ [] ∷ [])
words_of-some = (refl, refl, refl)

pub rising-some : (rising 5 [] ≡ Some []) × (rising 5 (codes "6" ∷ codes "8" ∷ []) ≡ Some (6 ∷ 8 ∷ []))
    × (rising 5 (codes "5" ∷ []) ≡ None) × (rising 0 (codes "6" ∷ codes "6" ∷ []) ≡ None)
rising-some = (refl, refl, refl, refl)

-- the least number and the greatest, and their neighbours
pub number_above-some : (number_above 0 (codes "1") ≡ Some 1) × (number_above 0 (codes "0") ≡ None)
    × (number_above 0 (codes "4294967295") ≡ Some 4294967295) × (number_above 0 (codes "4294967296") ≡ None)
    × (number_above 7 (codes "7") ≡ None) × (number_above 7 (codes "8") ≡ Some 8)
number_above-some = (refl, refl, refl, refl, refl, refl)

pub members_in-some : (members_in (codes "3") ≡ Some (3 ∷ []))
    × (members_in (codes "1;2;4294967295") ≡ Some (1 ∷ 2 ∷ 4294967295 ∷ []))
members_in-some = (refl, refl)

-- no number, 0, a leading zero, numbers that don't rise, a semicolon at an end or twice, a blank, a comma
pub members_in-none : (members_in [] ≡ None) × (members_in (codes "0") ≡ None) × (members_in (codes "01") ≡ None)
    × (members_in (codes "2;1") ≡ None) × (members_in (codes "2;2") ≡ None) × (members_in (codes "1;") ≡ None)
    × (members_in (codes ";1") ≡ None) × (members_in (codes "1;;2") ≡ None) × (members_in (codes "1; 2") ≡ None)
    × (members_in (codes "1,2") ≡ None)
members_in-none = (refl, refl, refl, refl, refl, refl, refl, refl, refl, refl)

pub members_of-some : (members_of (codes "1;3") ≡ 1 ∷ 3 ∷ []) × (members_of (codes "3;1") ≡ [])
members_of-some = (refl, refl)

pub part-some : reading (codes "part" ∷ codes "a" ∷ codes "1;3" ∷ []) ≡ Some (Part (codes "a") (1 ∷ 3 ∷ []))
part-some = refl

-- no list or two, a list that is none, an option in place of the file, an option
pub part-none : (reading (codes "part" ∷ codes "a" ∷ []) ≡ None)
    × (reading (codes "part" ∷ codes "a" ∷ codes "1" ∷ codes "2" ∷ []) ≡ None)
    × (reading (codes "part" ∷ codes "a" ∷ codes "1;" ∷ []) ≡ None)
    × (reading (codes "part" ∷ codes "-a" ∷ codes "1" ∷ []) ≡ None)
    × (reading (codes "part" ∷ codes "a" ∷ codes "1" ∷ codes "--conflicts" ∷ codes "7" ∷ []) ≡ None)
part-none = (refl, refl, refl, refl, refl)

-- ---- `prove` and `bound`

-- with the usual budget, and with the option before the files, between and behind them
pub prove-some : (reading (codes "prove" ∷ codes "a" ∷ codes "b" ∷ []) ≡ Some (Prove (codes "a") (codes "b") None (Some 2000)))
    × (reading (codes "prove" ∷ codes "--conflicts" ∷ codes "0" ∷ codes "a" ∷ codes "b" ∷ [])
    ≡ Some (Prove (codes "a") (codes "b") None (Some 0)))
    × (reading (codes "prove" ∷ codes "a" ∷ codes "--conflicts" ∷ codes "7" ∷ codes "b" ∷ [])
    ≡ Some (Prove (codes "a") (codes "b") None (Some 7)))
    × (reading (codes "prove" ∷ codes "a" ∷ codes "b" ∷ codes "--conflicts" ∷ codes "all" ∷ [])
    ≡ Some (Prove (codes "a") (codes "b") None None))
prove-some = (refl, refl, refl, refl)

-- a floor, beside the other options too; twice, without its number, with `all` or with a leading zero; with another
-- command
pub prove-floor : (reading (codes "prove" ∷ codes "a" ∷ codes "b" ∷ codes "--floor" ∷ codes "380" ∷ [])
    ≡ Some (Prove (codes "a") (codes "b") (Some 380) (Some 2000)))
    × (reading (codes "prove" ∷ codes "--floor" ∷ codes "0" ∷ codes "a" ∷ codes "--conflicts" ∷ codes "all" ∷ codes "b" ∷ [])
    ≡ Some (Prove (codes "a") (codes "b") (Some 0) None))
    × (reading (codes "prove" ∷ codes "a" ∷ codes "b" ∷ codes "--floor" ∷ codes "1" ∷ codes "--floor" ∷ codes "1" ∷ []) ≡ None)
    × (reading (codes "prove" ∷ codes "a" ∷ codes "b" ∷ codes "--floor" ∷ []) ≡ None)
    × (reading (codes "prove" ∷ codes "a" ∷ codes "b" ∷ codes "--floor" ∷ codes "all" ∷ []) ≡ None)
    × (reading (codes "prove" ∷ codes "a" ∷ codes "b" ∷ codes "--floor" ∷ codes "01" ∷ []) ≡ None)
    × (reading (codes "explain" ∷ codes "a" ∷ codes "--floor" ∷ codes "1" ∷ []) ≡ None)
prove-floor = (refl, refl, refl, refl, refl, refl, refl)

-- no file, one or three, an option in place of a file, an option of `solve` alone, the option twice, without its value
-- or with a wrong one, another spelling
pub prove-none : (reading (codes "prove" ∷ []) ≡ None) × (reading (codes "prove" ∷ codes "a" ∷ []) ≡ None)
    × (reading (codes "prove" ∷ codes "a" ∷ codes "b" ∷ codes "c" ∷ []) ≡ None)
    × (reading (codes "prove" ∷ codes "-a" ∷ codes "b" ∷ []) ≡ None)
    × (reading (codes "prove" ∷ codes "a" ∷ codes "-b" ∷ []) ≡ None)
    × (reading (codes "prove" ∷ codes "a" ∷ codes "b" ∷ codes "--moves" ∷ codes "1" ∷ []) ≡ None)
    × (reading (codes "prove" ∷ codes "--conflicts" ∷ codes "7" ∷ codes "a" ∷ codes "--conflicts" ∷ codes "7" ∷ codes "b"
    ∷ []) ≡ None)
    × (reading (codes "prove" ∷ codes "a" ∷ codes "b" ∷ codes "--conflicts" ∷ []) ≡ None)
    × (reading (codes "prove" ∷ codes "a" ∷ codes "b" ∷ codes "--conflicts" ∷ codes "07" ∷ []) ≡ None)
    × (reading (codes "Prove" ∷ codes "a" ∷ codes "b" ∷ []) ≡ None)
prove-none = (refl, refl, refl, refl, refl, refl, refl, refl, refl, refl)

pub bound-some : (reading (codes "bound" ∷ codes "a" ∷ codes "b" ∷ []) ≡ Some (Bound (codes "a") (codes "b")))
    × (reading (codes "bound" ∷ codes "a" ∷ []) ≡ None)
    × (reading (codes "bound" ∷ codes "a" ∷ codes "b" ∷ codes "c" ∷ []) ≡ None)
    × (reading (codes "bound" ∷ codes "a" ∷ codes "-b" ∷ []) ≡ None)
    × (reading (codes "bound" ∷ codes "a" ∷ codes "b" ∷ codes "--conflicts" ∷ codes "7" ∷ []) ≡ None)
bound-some = (refl, refl, refl, refl, refl)

-- how much room the steps of a log have changes nothing of what is asked; it stands once at most, and has a number
pub room-some : (reading (codes "check" ∷ codes "--room" ∷ codes "9" ∷ codes "a" ∷ codes "b" ∷ [])
    ≡ Some (Check (codes "a") (codes "b")))
    × (reading (codes "bound" ∷ codes "a" ∷ codes "--room" ∷ codes "0" ∷ codes "b" ∷ [])
    ≡ Some (Bound (codes "a") (codes "b")))
    × (reading (codes "audit" ∷ codes "a" ∷ codes "b" ∷ codes "3" ∷ codes "c" ∷ codes "--room" ∷ codes "7" ∷ [])
    ≡ Some (Audit (codes "a") (codes "b") 3 (codes "c")))
    × (reading (codes "check" ∷ codes "a" ∷ codes "b" ∷ codes "--room" ∷ []) ≡ None)
    × (reading (codes "check" ∷ codes "a" ∷ codes "b" ∷ codes "--room" ∷ codes "1.5" ∷ []) ≡ None)
    × (reading (codes "check" ∷ codes "--room" ∷ codes "9" ∷ codes "a" ∷ codes "--room" ∷ codes "9" ∷ codes "b" ∷ [])
    ≡ None)
    × (reading (codes "values" ∷ codes "a" ∷ codes "b" ∷ codes "--room" ∷ codes "9" ∷ []) ≡ None)
room-some = (refl, refl, refl, refl, refl, refl, refl)

pub room_limit-some : (room_limit (codes "check" ∷ codes "a" ∷ codes "b" ∷ codes "--room" ∷ codes "9" ∷ []) ≡ Some 9)
    × (room_limit (codes "audit" ∷ codes "--room" ∷ codes "0" ∷ codes "a" ∷ codes "b" ∷ codes "3" ∷ codes "c" ∷ [])
    ≡ Some 0)
    × (room_limit (codes "check" ∷ codes "a" ∷ codes "b" ∷ []) ≡ None) × (room_limit [] ≡ None)
room_limit-some = (refl, refl, refl, refl)

pub two_files-some : (two_files (codes "a" ∷ codes "b" ∷ []) ≡ Some (codes "a", codes "b")) × (two_files [] ≡ None)
    × (two_files (codes "a" ∷ []) ≡ None) × (two_files (codes "a" ∷ codes "b" ∷ codes "c" ∷ []) ≡ None)
    × (two_files (codes "-a" ∷ codes "b" ∷ []) ≡ None) × (two_files (codes "a" ∷ codes "-b" ∷ []) ≡ None)
two_files-some = (refl, refl, refl, refl, refl, refl)

-- ---- `resume` and `audit`

-- with the usual budget, and with the option among the arguments; any number of 64 bits may be the number of slots
pub resume-some : (reading (codes "resume" ∷ codes "a" ∷ codes "b" ∷ codes "0" ∷ [])
    ≡ Some (Resume (codes "a") (codes "b") 0 (Some 2000)))
    × (reading (codes "resume" ∷ codes "a" ∷ codes "--conflicts" ∷ codes "all" ∷ codes "b" ∷ codes "18" ∷ [])
    ≡ Some (Resume (codes "a") (codes "b") 18 None))
    × (reading (codes "resume" ∷ codes "--conflicts" ∷ codes "7" ∷ codes "a" ∷ codes "b"
    ∷ codes "18446744073709551615" ∷ []) ≡ Some (Resume (codes "a") (codes "b") 18446744073709551615 (Some 7)))
resume-some = (refl, refl, refl)

-- no number or two, a number past 64 bits, with a leading zero, a sign or a letter, a number in place of a file's
-- place, an option of `solve` alone, the option twice
pub resume-none : (reading (codes "resume" ∷ codes "a" ∷ codes "b" ∷ []) ≡ None)
    × (reading (codes "resume" ∷ codes "a" ∷ codes "b" ∷ codes "1" ∷ codes "2" ∷ []) ≡ None)
    × (reading (codes "resume" ∷ codes "a" ∷ codes "b" ∷ codes "18446744073709551616" ∷ []) ≡ None)
    × (reading (codes "resume" ∷ codes "a" ∷ codes "b" ∷ codes "01" ∷ []) ≡ None)
    × (reading (codes "resume" ∷ codes "a" ∷ codes "b" ∷ codes "-1" ∷ []) ≡ None)
    × (reading (codes "resume" ∷ codes "a" ∷ codes "b" ∷ codes "1x" ∷ []) ≡ None)
    × (reading (codes "resume" ∷ codes "1" ∷ codes "a" ∷ codes "b" ∷ []) ≡ None)
    × (reading (codes "resume" ∷ codes "a" ∷ codes "-b" ∷ codes "1" ∷ []) ≡ None)
    × (reading (codes "resume" ∷ codes "a" ∷ codes "b" ∷ codes "1" ∷ codes "--moves" ∷ codes "1" ∷ []) ≡ None)
    × (reading (codes "resume" ∷ codes "--conflicts" ∷ codes "7" ∷ codes "a" ∷ codes "b" ∷ codes "1"
    ∷ codes "--conflicts" ∷ codes "7" ∷ []) ≡ None)
resume-none = (refl, refl, refl, refl, refl, refl, refl, refl, refl, refl)

-- near the old plan: with the usual budgets, and with options
pub near-some : (reading (codes "resume" ∷ codes "a" ∷ codes "b" ∷ codes "7" ∷ codes "--near" ∷ [])
    ≡ Some (ResumeNear (codes "a") (codes "b") 7 usual))
    × (reading (codes "resume" ∷ codes "a" ∷ codes "b" ∷ codes "0" ∷ codes "--near" ∷ codes "--tries" ∷ codes "10"
    ∷ codes "--seed" ∷ codes "3" ∷ [])
    ≡ Some (ResumeNear (codes "a") (codes "b") 0 (record usual { tries = 10; seed = 3 })))
    × (reading (codes "resume" ∷ codes "a" ∷ codes "b" ∷ codes "7" ∷ codes "--near" ∷ codes "--conflicts" ∷ codes "all"
    ∷ codes "--moves" ∷ codes "5" ∷ [])
    ≡ Some (ResumeNear (codes "a") (codes "b") 7 (record usual { conflicts = None; moves = 5 })))
near-some = (refl, refl, refl)

-- `--near` in front, before the second file, before the number, and between and behind options
pub near-anywhere : (reading (codes "resume" ∷ codes "--near" ∷ codes "a" ∷ codes "b" ∷ codes "7" ∷ [])
    ≡ Some (ResumeNear (codes "a") (codes "b") 7 usual))
    × (reading (codes "resume" ∷ codes "a" ∷ codes "--near" ∷ codes "b" ∷ codes "7" ∷ [])
    ≡ Some (ResumeNear (codes "a") (codes "b") 7 usual))
    × (reading (codes "resume" ∷ codes "a" ∷ codes "b" ∷ codes "--near" ∷ codes "7" ∷ [])
    ≡ Some (ResumeNear (codes "a") (codes "b") 7 usual))
    × (reading (codes "resume" ∷ codes "--tries" ∷ codes "2" ∷ codes "a" ∷ codes "--near" ∷ codes "--seed" ∷ codes "3"
    ∷ codes "b" ∷ codes "7" ∷ []) ≡ Some (ResumeNear (codes "a") (codes "b") 7 (record usual { tries = 2; seed = 3 })))
    × (reading (codes "resume" ∷ codes "a" ∷ codes "b" ∷ codes "7" ∷ codes "--moves" ∷ codes "5" ∷ codes "--near" ∷ [])
    ≡ Some (ResumeNear (codes "a") (codes "b") 7 (record usual { moves = 5 })))
near-anywhere = (refl, refl, refl, refl, refl)

-- `--near` as the value of an option, twice, with a value, alone, with too few words or with an option of `solve` alone;
-- and an option of `solve` without it
pub near-none : (reading (codes "resume" ∷ codes "a" ∷ codes "b" ∷ codes "7" ∷ codes "--tries" ∷ codes "--near" ∷ [])
    ≡ None)
    × (reading (codes "resume" ∷ codes "--near" ∷ codes "a" ∷ codes "b" ∷ codes "7" ∷ codes "--near" ∷ []) ≡ None)
    × (reading (codes "resume" ∷ codes "a" ∷ codes "b" ∷ codes "7" ∷ codes "--near" ∷ codes "--near" ∷ []) ≡ None)
    × (reading (codes "resume" ∷ codes "a" ∷ codes "b" ∷ codes "7" ∷ codes "--near" ∷ codes "9" ∷ []) ≡ None)
    × (reading (codes "resume" ∷ codes "--near" ∷ []) ≡ None)
    × (reading (codes "resume" ∷ codes "a" ∷ codes "--near" ∷ codes "7" ∷ []) ≡ None)
    × (reading (codes "resume" ∷ codes "a" ∷ codes "b" ∷ codes "7" ∷ codes "--near" ∷ codes "--from" ∷ codes "b" ∷ [])
    ≡ None)
    × (reading (codes "resume" ∷ codes "a" ∷ codes "b" ∷ codes "7" ∷ codes "--tries" ∷ codes "2" ∷ []) ≡ None)
    × (reading (codes "resume" ∷ codes "a" ∷ codes "-b" ∷ codes "7" ∷ codes "--near" ∷ []) ≡ None)
    × (reading (codes "resume" ∷ codes "a" ∷ codes "b" ∷ codes "07" ∷ codes "--near" ∷ []) ≡ None)
    × (reading (codes "solve" ∷ codes "a" ∷ codes "b" ∷ codes "7" ∷ codes "--near" ∷ []) ≡ None)
near-none = (refl, refl, refl, refl, refl, refl, refl, refl, refl, refl, refl)

-- a time limit behind `--near`, and before it
pub near-seconds : (time_limit (codes "resume" ∷ codes "a" ∷ codes "b" ∷ codes "7" ∷ codes "--near" ∷ codes "--seconds"
    ∷ codes "5" ∷ []) ≡ Some 5)
    × (time_limit (codes "resume" ∷ codes "a" ∷ codes "b" ∷ codes "7" ∷ codes "--near" ∷ codes "--tries" ∷ codes "2"
    ∷ codes "--seconds" ∷ codes "6" ∷ []) ≡ Some 6)
    × (time_limit (codes "resume" ∷ codes "a" ∷ codes "b" ∷ codes "7" ∷ codes "--near" ∷ []) ≡ None)
    × (reading (codes "resume" ∷ codes "a" ∷ codes "b" ∷ codes "7" ∷ codes "--near" ∷ codes "--seconds" ∷ codes "5" ∷ [])
    ≡ Some (ResumeNear (codes "a") (codes "b") 7 (record usual { tries = 18446744073709551615 })))
near-seconds = (refl, refl, refl, refl)

pub near-later : (time_limit (codes "resume" ∷ codes "--seconds" ∷ codes "5" ∷ codes "a" ∷ codes "b" ∷ codes "7"
    ∷ codes "--near" ∷ []) ≡ Some 5)
    × (time_limit (codes "resume" ∷ codes "--near" ∷ codes "a" ∷ codes "--seconds" ∷ codes "6" ∷ []) ≡ Some 6)
    × (time_limit (codes "resume" ∷ codes "--seconds" ∷ codes "--near" ∷ []) ≡ None)
near-later = (refl, refl, refl)

pub audit-some : (reading (codes "audit" ∷ codes "a" ∷ codes "b" ∷ codes "3" ∷ codes "c" ∷ [])
    ≡ Some (Audit (codes "a") (codes "b") 3 (codes "c")))
    × (reading (codes "audit" ∷ codes "a" ∷ codes "b" ∷ codes "18446744073709551615" ∷ codes "c" ∷ [])
    ≡ Some (Audit (codes "a") (codes "b") 18446744073709551615 (codes "c")))
audit-some = (refl, refl)

-- three words or five, a number past 64 bits or with a leading zero, the log before the number, an option in place of
-- each file, an option
pub audit-none : (reading (codes "audit" ∷ codes "a" ∷ codes "b" ∷ codes "3" ∷ []) ≡ None)
    × (reading (codes "audit" ∷ codes "a" ∷ codes "b" ∷ codes "3" ∷ codes "c" ∷ codes "d" ∷ []) ≡ None)
    × (reading (codes "audit" ∷ codes "a" ∷ codes "b" ∷ codes "18446744073709551616" ∷ codes "c" ∷ []) ≡ None)
    × (reading (codes "audit" ∷ codes "a" ∷ codes "b" ∷ codes "03" ∷ codes "c" ∷ []) ≡ None)
    × (reading (codes "audit" ∷ codes "a" ∷ codes "b" ∷ codes "c" ∷ codes "3" ∷ []) ≡ None)
    × (reading (codes "audit" ∷ codes "-a" ∷ codes "b" ∷ codes "3" ∷ codes "c" ∷ []) ≡ None)
    × (reading (codes "audit" ∷ codes "a" ∷ codes "-b" ∷ codes "3" ∷ codes "c" ∷ []) ≡ None)
    × (reading (codes "audit" ∷ codes "a" ∷ codes "b" ∷ codes "3" ∷ codes "-c" ∷ []) ≡ None)
    × (reading (codes "audit" ∷ codes "a" ∷ codes "b" ∷ codes "3" ∷ codes "c" ∷ codes "--conflicts" ∷ codes "7" ∷ [])
    ≡ None)
audit-none = (refl, refl, refl, refl, refl, refl, refl, refl, refl)

pub files_and_number-some : (files_and_number (codes "a" ∷ codes "b" ∷ codes "3" ∷ [])
    ≡ Some (codes "a", codes "b", 3))
    × (files_and_number [] ≡ None) × (files_and_number (codes "a" ∷ []) ≡ None)
    × (files_and_number (codes "a" ∷ codes "b" ∷ []) ≡ None)
    × (files_and_number (codes "a" ∷ codes "b" ∷ codes "3" ∷ codes "3" ∷ []) ≡ None)
    × (files_and_number (codes "a" ∷ codes "3" ∷ codes "b" ∷ []) ≡ None)
    × (files_and_number (codes "-a" ∷ codes "b" ∷ codes "3" ∷ []) ≡ None)
    × (files_and_number (codes "a" ∷ codes "-b" ∷ codes "3" ∷ []) ≡ None)
files_and_number-some = (refl, refl, refl, refl, refl, refl, refl, refl)

-- which words need no file
pub needs_no_file : NeedsNoFile (reading []) × NeedsNoFile (reading (codes "circle" ∷ codes "4" ∷ []))
    × NeedsNoFile (reading (codes "make" ∷ codes "4" ∷ codes "1" ∷ []))
    × NeedsNoFile (reading (codes "trial" ∷ codes "4" ∷ codes "1" ∷ []))
    × (NeedsNoFile (reading (codes "validate" ∷ codes "a" ∷ codes "b" ∷ [])) → ⊥)
    × (NeedsNoFile (reading (codes "check" ∷ codes "a" ∷ codes "b" ∷ [])) → ⊥)
    × (NeedsNoFile (reading (codes "solve" ∷ codes "a" ∷ [])) → ⊥)
    × (NeedsNoFile (reading (codes "patterns" ∷ codes "a" ∷ [])) → ⊥)
    × (NeedsNoFile (reading (codes "explain" ∷ codes "a" ∷ [])) → ⊥)
    × (NeedsNoFile (reading (codes "part" ∷ codes "a" ∷ codes "1" ∷ [])) → ⊥)
    × (NeedsNoFile (reading (codes "prove" ∷ codes "a" ∷ codes "b" ∷ [])) → ⊥)
    × (NeedsNoFile (reading (codes "bound" ∷ codes "a" ∷ codes "b" ∷ [])) → ⊥)
    × (NeedsNoFile (reading (codes "resume" ∷ codes "a" ∷ codes "b" ∷ codes "1" ∷ [])) → ⊥)
    × (NeedsNoFile (reading (codes "resume" ∷ codes "a" ∷ codes "b" ∷ codes "1" ∷ codes "--near" ∷ [])) → ⊥)
    × (NeedsNoFile (reading (codes "audit" ∷ codes "a" ∷ codes "b" ∷ codes "1" ∷ codes "c" ∷ [])) → ⊥)
unfolding teams_and_seed
needs_no_file = (tt, tt, tt, tt, λ h. h, λ h. h, λ h. h, λ h. h, λ h. h, λ h. h, λ h. h, λ h. h, λ h. h, λ h. h, λ h. h)

-- ---- help and the version

pub help-some : (reading (codes "--help" ∷ []) ≡ Some (Help None))
    × (reading (codes "--version" ∷ []) ≡ Some Version)
    × (reading (codes "solve" ∷ codes "--help" ∷ []) ≡ Some (Help (Some topic.Solve)))
    × (reading (codes "--help" ∷ codes "trial" ∷ []) ≡ Some (Help (Some topic.Trial)))
help-some = (refl, refl, refl, refl)

-- of nothing that is a command, of a command with its words, twice, behind a version, and other spellings
pub help-none : (reading (codes "plan" ∷ codes "--help" ∷ []) ≡ None)
    × (reading (codes "solve" ∷ codes "a" ∷ codes "--help" ∷ []) ≡ None)
    × (reading (codes "--help" ∷ codes "--help" ∷ []) ≡ None)
    × (reading (codes "--version" ∷ codes "solve" ∷ []) ≡ None)
    × (reading (codes "help" ∷ []) ≡ None)
    × (reading (codes "-h" ∷ []) ≡ None)
    × (reading (codes "--Version" ∷ []) ≡ None)
help-none = (refl, refl, refl, refl, refl, refl, refl)

-- `--help` where a command takes any word: the name of a solution is none, but what stands behind an option is its value
pub help-value : (reading (codes "validate" ∷ codes "a" ∷ codes "--help" ∷ []) ≡ None)
    × (reading (codes "solve" ∷ codes "--moves" ∷ codes "--help" ∷ codes "a" ∷ []) ≡ None)
help-value = (refl, refl)

-- each command by its name
pub topics : (topic_of (codes "validate") ≡ Some topic.Validate)
    × (topic_of (codes "solve") ≡ Some topic.Solve)
    × (topic_of (codes "patterns") ≡ Some topic.Patterns)
    × (topic_of (codes "explain") ≡ Some topic.Explain)
    × (topic_of (codes "part") ≡ Some topic.Part)
    × (topic_of (codes "check") ≡ Some topic.Check)
    × (topic_of (codes "prove") ≡ Some topic.Prove)
    × (topic_of (codes "bound") ≡ Some topic.Bound)
    × (topic_of (codes "resume") ≡ Some topic.Resume)
    × (topic_of (codes "audit") ≡ Some topic.Audit)
    × (topic_of (codes "circle") ≡ Some topic.Circle)
    × (topic_of (codes "make") ≡ Some topic.Make)
    × (topic_of (codes "trial") ≡ Some topic.Trial)
    × (topic_of (codes "Trial") ≡ None)
topics = (refl, refl, refl, refl, refl, refl, refl, refl, refl, refl, refl, refl, refl, refl)

-- `show` with each option or none, before, between and behind its files
pub show-some : (reading (codes "show" ∷ codes "a" ∷ codes "b" ∷ []) ≡ Some (Show (codes "a") (codes "b") 20 80))
    × (reading (codes "show" ∷ codes "a" ∷ codes "--most" ∷ codes "0" ∷ codes "b" ∷ codes "--width" ∷ codes "4294967295" ∷ []) ≡ Some (Show (codes "a") (codes "b") 0 4294967295))
    × (reading (codes "show" ∷ codes "--form" ∷ codes "text" ∷ codes "a" ∷ codes "b" ∷ []) ≡ Some (Show (codes "a") (codes "b") 20 80))
    × (reading (codes "show" ∷ codes "a" ∷ codes "b" ∷ codes "--form" ∷ codes "csv" ∷ []) ≡ Some (Sheet (codes "a") (codes "b")))
    × (reading (codes "show" ∷ codes "--help" ∷ []) ≡ Some (Help (Some topic.Show)))
    × (reading (codes "show" ∷ codes "a" ∷ codes "b" ∷ codes "--most" ∷ codes "all" ∷ []) ≡ Some (Show (codes "a") (codes "b") 4294967295 80))
show-some = (refl, refl, refl, refl, refl, refl)

pub show-none : (reading (codes "show" ∷ codes "a" ∷ []) ≡ None) × (reading (codes "show" ∷ codes "a" ∷ codes "b" ∷ codes "c" ∷ []) ≡ None)
    × (reading (codes "show" ∷ codes "a" ∷ codes "b" ∷ codes "--most" ∷ codes "4294967296" ∷ []) ≡ None)
    × (reading (codes "show" ∷ codes "a" ∷ codes "b" ∷ codes "--form" ∷ codes "html" ∷ []) ≡ None)
    × (reading (codes "show" ∷ codes "a" ∷ codes "b" ∷ codes "--width" ∷ []) ≡ None)
show-none = (refl, refl, refl, refl, refl)

-- `show` of what a league demands: `--demands` stands behind the one file, with a list or none behind it
pub demands-some : (reading (codes "show" ∷ codes "a" ∷ codes "--demands" ∷ []) ≡ Some (Demands (codes "a") None))
    × (reading (codes "show" ∷ codes "a" ∷ codes "--demands" ∷ codes "1;10" ∷ []) ≡ Some (Demands (codes "a") (Some (1 ∷ 10 ∷ []))))
    × (reading (codes "show" ∷ codes "a" ∷ codes "--demands" ∷ codes "7" ∷ []) ≡ Some (Demands (codes "a") (Some (7 ∷ []))))
demands-some = (refl, refl, refl)

pub demands-none : (reading (codes "show" ∷ codes "--demands" ∷ []) ≡ None)
    × (reading (codes "show" ∷ codes "--demands" ∷ codes "a" ∷ []) ≡ None)
    × (reading (codes "show" ∷ codes "-a" ∷ codes "--demands" ∷ []) ≡ None)
    × (reading (codes "show" ∷ codes "a" ∷ codes "--demands" ∷ codes "" ∷ []) ≡ None)
    × (reading (codes "show" ∷ codes "a" ∷ codes "--demands" ∷ codes "0" ∷ []) ≡ None)
    × (reading (codes "show" ∷ codes "a" ∷ codes "--demands" ∷ codes "10;1" ∷ []) ≡ None)
    × (reading (codes "show" ∷ codes "a" ∷ codes "b" ∷ codes "--demands" ∷ []) ≡ None)
    × (reading (codes "show" ∷ codes "a" ∷ codes "--demands" ∷ codes "1" ∷ codes "2" ∷ []) ≡ None)
demands-none = (refl, refl, refl, refl, refl, refl, refl, refl)

-- `rows` with and without one of its options, before the file and behind it; `values` over two files
pub rows-some : (reading (codes "rows" ∷ codes "a" ∷ []) ≡ Some (Rows (codes "a") goal.Accepted))
    × (reading (codes "rows" ∷ codes "a" ∷ codes "--bound" ∷ codes "7" ∷ []) ≡ Some (Rows (codes "a") (goal.AtMost 7)))
    × (reading (codes "rows" ∷ codes "--bound" ∷ codes "0" ∷ codes "a" ∷ []) ≡ Some (Rows (codes "a") (goal.AtMost 0)))
    × (reading (codes "rows" ∷ codes "a" ∷ codes "--objective" ∷ []) ≡ Some (Rows (codes "a") goal.Least))
    × (reading (codes "rows" ∷ codes "--objective" ∷ codes "a" ∷ []) ≡ Some (Rows (codes "a") goal.Least))
    × (reading (codes "values" ∷ codes "a" ∷ codes "b" ∷ []) ≡ Some (Values (codes "a") (codes "b")))
rows-some = (refl, refl, refl, refl, refl, refl)

-- `--objective` without a file, twice, beside a bound, with a value, beside two files, and spelt otherwise
pub rows-no_objective : (reading (codes "rows" ∷ codes "--objective" ∷ []) ≡ None)
    × (reading (codes "rows" ∷ codes "--objective" ∷ codes "--objective" ∷ []) ≡ None)
    × (reading (codes "rows" ∷ codes "a" ∷ codes "--objective" ∷ codes "--objective" ∷ []) ≡ None)
    × (reading (codes "rows" ∷ codes "a" ∷ codes "--objective" ∷ codes "--bound" ∷ codes "7" ∷ []) ≡ None)
    × (reading (codes "rows" ∷ codes "--bound" ∷ codes "7" ∷ codes "a" ∷ codes "--objective" ∷ []) ≡ None)
    × (reading (codes "rows" ∷ codes "a" ∷ codes "--objective" ∷ codes "7" ∷ []) ≡ None)
    × (reading (codes "rows" ∷ codes "a" ∷ codes "b" ∷ codes "--objective" ∷ []) ≡ None)
    × (reading (codes "rows" ∷ codes "a" ∷ codes "--Objective" ∷ []) ≡ None)
rows-no_objective = (refl, refl, refl, refl, refl, refl, refl, refl)

pub rows-none : (reading (codes "rows" ∷ []) ≡ None) × (reading (codes "rows" ∷ codes "a" ∷ codes "b" ∷ []) ≡ None)
    × (reading (codes "rows" ∷ codes "a" ∷ codes "--bound" ∷ []) ≡ None)
    × (reading (codes "rows" ∷ codes "a" ∷ codes "--bound" ∷ codes "07" ∷ []) ≡ None)
    × (reading (codes "rows" ∷ codes "a" ∷ codes "--seed" ∷ codes "7" ∷ []) ≡ None)
    × (reading (codes "values" ∷ codes "a" ∷ []) ≡ None) × (reading (codes "values" ∷ codes "a" ∷ codes "-" ∷ []) ≡ None)
rows-none = (refl, refl, refl, refl, refl, refl, refl)
