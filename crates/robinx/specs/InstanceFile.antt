-- What an instance file says.
use Rattle.std.specs.Prelude.{ℕ, Bool, false, ◌&&◌, ◌==◌, nat_lt, List, [], ◌∷◌, ◌++◌, length, Result, Ok, codes}
use Rattle.std.specs.List.{list_all}
use Rattle.robinx.specs.Fronts.{◌>>=◌, check}
use Rattle.robinx.specs.Tags.{Attribute}
use Rattle.robinx.specs.Pieces.{Pieces}
use Rattle.robinx.specs.declared.tag_fault.FormKind.TheVariants.{MissingElement, WrongCounts, TooMany}
use Rattle.robinx.specs.Walk.{Meaning, Fault, reading}
use Rattle.robinx.specs.Values.{Reading, required, number, only}
use Rattle.robinx.specs.Classes.{constraint_of}
use Rattle.robinx.specs.Words.{game_mode}
use Rattle.league.specs.declared.class.ClassName.{ClassName}
use Rattle.robinx.specs.declared.element.Element.{Element}
use Rattle.robinx.specs.declared.element.Element.TheVariants.{InstanceFile, NumberRoundRobin, Compactness}
use Rattle.robinx.specs.declared.element.Element.TheVariants.{GameMode, Resources, Team, Slot, Constraints, Class}
use Rattle.league.specs.Counts.{teams_of, slots_of}
use Rattle.league.specs.Instance.{Instance, is_team_count}
use Rattle.league.specs.Sets.{is_in}
use Rattle.league.specs.declared.class.Constraint.{Constraint}

-- What was read of an instance: the ids of its teams and slots, how many teams there are, which is 0 until the End of
-- `Resources`, and its constraints, in file order.
pub record Draft : Type 0 where
  pub phased : Bool
  pub teams : List ℕ
  pub slots : List ℕ
  pub n : ℕ
  pub constraints : List Constraint

-- the constraint of a class, of which there may be so many (own limit)
abbrev pub with_constraint : ClassName → List Attribute → Draft → Reading Draft
with_constraint name tag draft = do
  few ← check (nat_lt (length draft.constraints) 20000) TooMany
  constraint ← constraint_of name draft.n tag
  Ok (record draft { constraints = draft.constraints ++ constraint ∷ [] })

-- one more team, and one more slot, by their ids
abbrev pub with_team : List Attribute → Draft → Reading Draft
with_team tag draft = do
  id ← required (codes "id") number tag
  Ok (record draft { teams = draft.teams ++ id ∷ [] })

abbrev pub with_slot : List Attribute → Draft → Reading Draft
with_slot tag draft = do
  id ← required (codes "id") number tag
  Ok (record draft { slots = draft.slots ++ id ∷ [] })

-- the teams and the slots come before the constraints
abbrev pub with_season_known : Draft → Reading Draft
with_season_known draft = do
  season ← check (nat_lt 0 draft.n) MissingElement
  Ok draft

-- at the Start of an element
abbrev pub starts : Element → List Attribute → Draft → Reading Draft
starts Team tag draft = with_team tag draft
starts Slot tag draft = with_slot tag draft
starts Constraints tag draft = with_season_known draft
starts (Class name) tag draft = with_constraint name tag draft
starts _ tag draft = Ok draft

-- whether so many ids are these, in any order
abbrev pub are_ids : List ℕ → List ℕ → Bool
are_ids ids wanted = length ids == length wanted && list_all (λ i. is_in i ids) wanted

-- whether there are as many teams as a league may have, and the slots of their season
abbrev pub is_season : List ℕ → List ℕ → Bool
is_season teams slots =
    let n = length teams in
    is_team_count n && are_ids teams (teams_of n) && are_ids slots (slots_of n)

-- a league plays a double round robin
abbrev pub double : List ℕ → Reading (Unit {0})
double value = do
  n ← number value
  check (n == 2) WrongCounts

-- the game mode says whether the league is phased
abbrev pub with_game_mode : List ℕ → Draft → Reading Draft
with_game_mode value draft = do
  phased ← game_mode value
  Ok (record draft { phased = phased })

-- at the End of `Resources` the teams are counted
abbrev pub with_season : Draft → Reading Draft
with_season draft = do
  season ← check (is_season draft.teams draft.slots) WrongCounts
  Ok (record draft { n = length draft.teams })

-- at the End of an element, with its value
abbrev pub ends : Element → List ℕ → Draft → Reading Draft
ends NumberRoundRobin value draft = do
  rounds ← double value
  Ok draft
ends Compactness value draft = do
  compact ← only (codes "C") value
  Ok draft
ends GameMode value draft = with_game_mode value draft
ends Resources value draft = with_season draft
ends _ value draft = Ok draft

-- what the elements of an instance file mean
abbrev pub instance_meaning : Meaning Draft
instance_meaning = record { started = starts; ended = ends }

-- a league whose game mode isn't said isn't phased (own)
abbrev pub nothing : Draft
nothing = record { phased = false; teams = []; slots = []; n = 0; constraints = [] }

-- the league of a draft
abbrev pub league_of : Draft → Instance
league_of draft = record { n = draft.n; phased = draft.phased; constraints = draft.constraints }

-- the league that these pieces say, or the first fault
abbrev pub instance_of : Pieces → Result Instance Fault
instance_of found = do
  draft ← reading instance_meaning InstanceFile nothing found
  Ok (league_of draft)
