-- The report of `validate`: what the league and the schedule are, how far the schedule is from a round robin and from
-- each constraint, what that costs, and whether the schedule is accepted.
use Rattle.std.specs.Prelude.{ℕ, ◌+◌, Bool, if◌then◌else◌, List, [], ◌∷◌, ◌++◌, length, map, sum, codes, decimal}
use Rattle.std.specs.List.{flat_map}
use Rattle.league.specs.Accepted.{infeasibility, objective}
use Rattle.league.specs.Counts.{counts_of, slot_count}
use Rattle.league.specs.Deviation.{vector_of}
use Rattle.league.specs.Instance.{Instance}
use Rattle.league.specs.Structure.{pairs_wrong, cells_wrong, phases_wrong}
use Rattle.league.specs.declared.class.Constraint.{Constraint}
use Rattle.league.specs.declared.game.Game.{Game}
use Rattle.league.specs.declared.wrongs.Wrongs.{Wrongs}
use Rattle.league.specs.Names.{name_of, name_text}
use Rattle.robinx.specs.Texts.{type_word}

-- the game mode
abbrev pub mode_word : Bool → List ℕ
mode_word phased = if phased then codes "P" else codes "NULL"

-- whether the schedule is accepted
abbrev pub yes_or_no : Bool → List ℕ
yes_or_no feasible = if feasible then codes "yes" else codes "no"

-- the four lines that say what was read
abbrev pub head_text : ℕ → Bool → ℕ → List ℕ
head_text n phased games =
    codes "teams " ++ (decimal n
    ++ (codes "\nslots " ++ (decimal (slot_count n)
    ++ (codes "\nmode " ++ (mode_word phased
    ++ (codes "\ngames " ++ (decimal games ++ codes "\n")))))))

-- the line on the round robin
abbrev pub structure_text : ℕ → ℕ → ℕ → List ℕ
structure_text pairs cells phases =
    codes "structure pairs " ++ (decimal pairs
    ++ (codes " cells " ++ (decimal cells
    ++ (codes " phases " ++ (decimal phases ++ codes "\n")))))

-- the entries of a vector, each after a space
abbrev pub entries_text : List ℕ → List ℕ
entries_text entries = flat_map (λ entry. codes " " ++ decimal entry) entries

-- a constraint's number, what it is in the words of a file, and its deviation
abbrev pub constraint_front : ℕ → Constraint → ℕ → List ℕ
constraint_front number c deviation =
    codes "constraint " ++ (decimal number
    ++ (codes " " ++ (codes (name_text (name_of c.class))
    ++ (codes " " ++ (codes (type_word c.hard)
    ++ (codes " penalty " ++ (decimal c.penalty
    ++ (codes " sum " ++ (decimal deviation ++ codes " entries")))))))))

-- the line of a constraint
abbrev pub constraint_text : ℕ → Constraint → List ℕ → List ℕ
constraint_text number c entries = constraint_front number c (sum entries) ++ (entries_text entries ++ codes "\n")

-- the lines of constraints with their vectors, numbered from here on
abbrev pub constraints_text : ℕ → List Constraint → List (List ℕ) → List ℕ
constraints_text number (c ∷ constraints) (entries ∷ vectors) =
    constraint_text number c entries ++ constraints_text (number + 1) constraints vectors
constraints_text number _ _ = []

-- the last three lines
abbrev pub verdict_text : ℕ → ℕ → Bool → List ℕ
verdict_text infeasible objective feasible =
    codes "infeasibility " ++ (decimal infeasible
    ++ (codes "\nobjective " ++ (decimal objective
    ++ (codes "\nfeasible " ++ (yes_or_no feasible ++ codes "\n")))))

-- the whole report, from what was counted
abbrev pub lines_text : Instance → ℕ → Wrongs → List (List ℕ) → ℕ → ℕ → Bool → List ℕ
lines_text league games wrongs vectors infeasible objective feasible =
    head_text league.n league.phased games
    ++ (structure_text wrongs.pairs_wrong wrongs.cells_wrong wrongs.phases_wrong
    ++ (constraints_text 1 league.constraints vectors
    ++ verdict_text infeasible objective feasible))

-- the report on a schedule that is accepted, or isn't
abbrev pub report_text : Instance → List Game → Bool → List ℕ
report_text league games feasible =
    let m = counts_of games in
    let wrongs : Wrongs = record {
      pairs_wrong = pairs_wrong league.n m;
      cells_wrong = cells_wrong league.n m;
      phases_wrong = phases_wrong league.n league.phased m;
    } in
    let vectors = map (λ c. vector_of league.n m c.class) league.constraints in
    lines_text league (length games) wrongs vectors (infeasibility league m) (objective league m) feasible
