-- What a season misses: the constraints that it doesn't meet, the gravest first, each with its lines.
use Rattle.std.specs.Prelude.{ℕ, ◌+◌, ◌-◌, ◌*◌, Bool, not, ◌&&◌, ◌||◌, ◌==◌, nat_le, nat_lt, if◌then◌else◌, List, [], ◌∷◌, ◌++◌}
use Rattle.std.specs.Prelude.{length, map, sum, take, codes, decimal, Option, Some, None, slice_get}
use Rattle.std.specs.List.{count_by, flat_map, fold, insert, position_or_len}
use Rattle.league.specs.Counts.{counts_of}
use Rattle.league.specs.Deviation.{vector_of}
use Rattle.league.specs.Instance.{Instance}
use Rattle.league.specs.declared.class.Class.{Class}
use Rattle.league.specs.declared.class.Class.TheVariants.{Br2}
use Rattle.league.specs.declared.class.Constraint.{Constraint}
use Rattle.league.specs.declared.game.Game.{Game}
use Rattle.season_misses.specs.Demands.{constraint_text}
use Rattle.season_misses.specs.Phrases.{many}
use Rattle.season_misses.specs.Reasons.{reasons_of}
use Rattle.season_misses.specs.declared.reason.Reason.{Reason}
use Rattle.season_misses.specs.Lines.{all_breaks_line, breaks_by_team, breaks_told, line_of}
use Rattle.season_misses.specs.Rows.{Row, rows_of}
use Rattle.season_misses.specs.declared.miss.Miss.{Miss}

-- ---- lists that are cut

-- how many more than `most` there are, where there are more
abbrev pub more_text : List ℕ → List ℕ → ℕ → ℕ → List ℕ
more_text front back most count =
    if nat_le count most then []
    else front ++ (codes "and " ++ (decimal (count - most) ++ (back ++ codes "\n")))

-- a line of a list
abbrev pub list_line : List ℕ → List ℕ → List ℕ
list_line front text = front ++ (text ++ codes "\n")

-- the lines of a list, `most` of them, and how many more there are
abbrev pub cut_lines : List ℕ → List ℕ → ℕ → List (List ℕ) → List ℕ
cut_lines front back most lines =
    flat_map (list_line front) (take most lines) ++ more_text front back most (length lines)

-- ---- the lines of a constraint

-- BR2: how many breaks, and which team has them
abbrev pub all_breaks_text : List (List ℕ) → ℕ → List ℕ → ℕ → Reason → List ℕ
all_breaks_text names most teams intp reason =
    list_line (codes "  ") (all_breaks_line intp (breaks_told reason.cause))
    ++ cut_lines (codes "    ") (codes " teams more") most (breaks_by_team names (breaks_told reason.cause) teams)

-- any other class: a line a row
abbrev pub row_line : ℕ → List (List ℕ) → Class → Row → List ℕ
row_line n names class row = list_line (codes "  ") (line_of n names class row)

abbrev pub rows_text : ℕ → List (List ℕ) → ℕ → Class → List Row → List ℕ
rows_text n names most class rows =
    flat_map (row_line n names class) (take most rows) ++ more_text (codes "  ") (codes " more") most (length rows)

-- the lines of a constraint with these reasons
abbrev pub reasons_text : ℕ → List (List ℕ) → ℕ → Class → List Reason → List ℕ
reasons_text n names most (Br2 teams intp slots) reasons = flat_map (all_breaks_text names most teams intp) reasons
reasons_text n names most class reasons = rows_text n names most class (rows_of reasons)

-- a constraint that is missed by so much, at such a cost
abbrev pub head_text : ℕ → List (List ℕ) → Constraint → Miss → List ℕ
head_text n names c miss =
    constraint_text n names (miss.place + 1) c
    ++ (codes "; missed by " ++ (decimal miss.deviation ++ (codes ", costs " ++ (decimal miss.cost ++ codes "\n"))))

-- the same with its lines
abbrev pub miss_text : ℕ → List (List ℕ) → ℕ → List Game → Constraint → Miss → List ℕ
miss_text n names most games c miss =
    head_text n names c miss ++ reasons_text n names most c.class (reasons_of n games c.class)

-- ---- the constraints that are missed

-- a constraint at a place, where its vector isn't 0
abbrev pub miss_at : ℕ → Constraint → List ℕ → List Miss
miss_at place c vector =
    if sum vector == 0 then []
    else record { place = place; hard = c.hard; deviation = sum vector; cost = c.penalty * sum vector } ∷ []

-- the constraints from a place on that are missed, by their vectors
abbrev pub misses_from : ℕ → List Constraint → List (List ℕ) → List Miss
misses_from place (c ∷ constraints) (vector ∷ vectors) =
    miss_at place c vector ++ misses_from (place + 1) constraints vectors
misses_from place _ _ = []

-- the constraints that some games miss, in file order
abbrev pub misses_of : Instance → List Game → List Miss
misses_of league games =
    misses_from 0 league.constraints (map (λ c. vector_of league.n (counts_of games) c.class) league.constraints)

-- whether one costs more than another, or as much and stands earlier in the file
abbrev pub is_graver : Miss → Miss → Bool
is_graver a b = if a.cost == b.cost then nat_lt a.place b.place else nat_lt b.cost a.cost

-- whether one is told before another: hard ones before soft ones, and then the graver first
abbrev pub is_before : Miss → Miss → Bool
is_before a b = if a.hard then not b.hard || is_graver a b else not b.hard && is_graver a b

-- with one more, put before the first that it is told before
abbrev pub with_miss : List Miss → Miss → List Miss
with_miss others miss = insert others (position_or_len (is_before miss) others) miss

-- the gravest first
abbrev pub gravest_first : List Miss → List Miss
gravest_first misses = fold with_miss [] misses

-- ---- the whole

-- how many are missed, and of how many constraints
abbrev pub counts_text : ℕ → List Miss → List ℕ
counts_text constraints misses =
    let hard = count_by (λ miss. miss.hard) misses in
    codes "missed: " ++ (decimal hard ++ (codes " hard and " ++ (decimal (length misses - hard)
    ++ (codes " soft of " ++ (many constraints (codes "constraint") ++ codes "\n")))))

-- the constraint of a miss, with its lines
abbrev pub told_at : ℕ → List (List ℕ) → ℕ → List Game → Miss → Option Constraint → List ℕ
told_at n names most games miss (Some c) = miss_text n names most games c miss
told_at n names most games miss None = []

abbrev pub told : Instance → List (List ℕ) → ℕ → List Game → Miss → List ℕ
told league names most games miss =
    told_at league.n names most games miss (slice_get league.constraints miss.place)

-- what the games miss: `most` constraints, with `most` lines each
abbrev pub misses_text : Instance → List (List ℕ) → ℕ → List Game → List ℕ
misses_text league names most games =
    let misses = gravest_first (misses_of league games) in
    counts_text (length league.constraints) misses
    ++ (flat_map (told league names most games) (take most misses) ++ more_text [] (codes " more") most (length misses))
