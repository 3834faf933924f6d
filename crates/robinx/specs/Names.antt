-- The names of a league's teams and slots.
use Rattle.std.specs.Prelude.{◌≡◌, ℕ, Bool, true, not, ◌&&◌, if◌then◌else◌, List, [], ◌∷◌, ◌++◌, length, map}
use Rattle.std.specs.Prelude.{slice_index_or, bytes_eq, codes, decimal}
use Rattle.std.specs.List.{All, list_any}
use Rattle.league.specs.Counts.{teams_of, slot_count}
use Rattle.robinx.specs.Plain.{IsPlain}

-- The names of the teams and of the slots, by their numbers, in UTF-8; empty where there is none.
pub record Names : Type 0 where
  pub teams : List (List ℕ)
  pub slots : List (List ℕ)

-- there are as many names as a league of n teams has teams and slots
pub record IsNames (n : ℕ) (names : Names) : Type 0 where
  pub teams : length names.teams ≡ n
  pub slots : length names.slots ≡ slot_count n

-- each of them may be printed
pub record ArePlain (names : Names) : Type 0 where
  pub teams : All IsPlain names.teams
  pub slots : All IsPlain names.slots

-- the name of a team, and of a slot
abbrev pub team_name : Names → ℕ → List ℕ
team_name names i = slice_index_or names.teams i []

abbrev pub slot_name : Names → ℕ → List ℕ
slot_name names s = slice_index_or names.slots s []

-- a name, and where it is empty another
abbrev pub or_else : List ℕ → List ℕ → List ℕ
or_else [] other = other
or_else (b ∷ name) other = b ∷ name

-- one of these teams by its name, or that it is the team of this number
abbrev pub shown : List (List ℕ) → ℕ → List ℕ
shown teams i = or_else (slice_index_or teams i []) (codes "team " ++ decimal i)

-- all teams as they are shown
abbrev pub all_shown : List (List ℕ) → List (List ℕ)
all_shown teams = map (shown teams) (teams_of (length teams))

-- whether no two are the same
abbrev pub are_distinct : List (List ℕ) → Bool
are_distinct [] = true
are_distinct (name ∷ others) = not (list_any (bytes_eq name) others) && are_distinct others

-- a name, with the team's number before it unless all names are distinct
abbrev pub labelled : Bool → ℕ → List ℕ → List ℕ
labelled distinct i name = if distinct then name else codes "#" ++ (decimal i ++ (codes " " ++ name))

-- what one of these teams is called: as it is shown, with its number where any two teams are shown alike
abbrev pub label_among : List (List ℕ) → ℕ → List ℕ
label_among teams i = labelled (are_distinct (all_shown teams)) i (shown teams i)

-- what a team is called
abbrev pub label : Names → ℕ → List ℕ
label names i = label_among names.teams i
