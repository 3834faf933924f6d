-- The encodings of small leagues, counted, and single rows of them.
use Rattle.std.proofs.Common.{◌≡◌, ℕ, ◌*◌, ◌-◌, List, [], ◌∷◌, true, map, length, refl, get_or}
use Rattle.league.specs.Instance.{Instance}
use Rattle.league.specs.Counts.{teams_of}
use Rattle.league.specs.declared.class.Class.{Class}
use Rattle.league.specs.declared.class.Class.TheVariants.{Ca1, Br1, Fa2}
use Rattle.league.specs.declared.class.Side.TheVariants.{H, Both}
use Rattle.league.proofs.DoubleFour.{all_slots, all_teams}
use Rattle.rows.specs.Cardinality.{at_least}
use Rattle.rows.specs.Literals.{yes, no}
use Rattle.rows.specs.Rows.{Row, size_of}
use Rattle.encoding.specs.Encoding.{class_rows, rows_of}
use Rattle.encoding.specs.Season.{cell_rows, half_rows, meeting_rows, slot_rows, team_rows, venue_rows}
use Rattle.encoding.specs.Variables.{ab_var, h_var, hb_var, var_count, x_var}

-- a phased league of n teams with these hard classes
abbrev with_hard : ℕ → List Class → Instance
with_hard n classes = record {
  n = n;
  phased = true;
  constraints = map (λ c. record { hard = true; penalty = 1; class = c }) classes;
}

-- the k-th row, from 1
abbrev row : ℕ → Instance → Row
row k league = get_or (rows_of league) (k - 1) (record { terms = []; degree = 0 })

pub four-vars : var_count (with_hard 4 []) ≡ 96
four-vars = refl

pub four-rows : length (rows_of (with_hard 4 [])) ≡ 152
four-rows = refl

pub four-groups : map
    (λ rows. length rows)
    (meeting_rows 4 ∷ cell_rows 4 ∷ half_rows 4 true ∷ venue_rows 4 ∷ slot_rows 4 ∷ team_rows 4 ∷ [])
    ≡ 24 ∷ 48 ∷ 12 ∷ 48 ∷ 12 ∷ 8 ∷ []
four-groups = refl

pub four-row_133 : row 133 (with_hard 4 [])
    ≡ at_least 2 (yes (h_var 4 0 0) ∷ yes (h_var 4 1 0) ∷ yes (h_var 4 2 0) ∷ yes (h_var 4 3 0) ∷ [])
four-row_133 = refl

-- each team plays three games at home
pub four-row_145 : row 145 (with_hard 4 []) ≡ at_least 3 (yes 73 ∷ yes 74 ∷ yes 75 ∷ yes 76 ∷ yes 77 ∷ yes 78 ∷ [])
four-row_145 = refl

pub four-h : map (λ i. h_var 4 i 0) (teams_of 4) ≡ 73 ∷ 79 ∷ 85 ∷ 91 ∷ []
four-h = refl

pub four-ca1 : length (rows_of (with_hard 4 (Ca1 all_teams 0 0 H (0 ∷ []) ∷ []))) ≡ 156
four-ca1 = refl

pub four-ca1_row : row 153 (with_hard 4 (Ca1 all_teams 0 0 H (0 ∷ []) ∷ [])) ≡ at_least 1 (no 73 ∷ [])
four-ca1_row = refl

-- seven home games in six slots can't be
pub four-ca1_seven : row 153 (with_hard 4 (Ca1 (0 ∷ []) 7 7 H all_slots ∷ []))
    ≡ at_least 7 (yes 73 ∷ yes 74 ∷ yes 75 ∷ yes 76 ∷ yes 77 ∷ yes 78 ∷ [])
four-ca1_seven = refl

pub four-br1 : length (rows_of (with_hard 4 (Br1 [] 0 Both [] ∷ []))) ≡ 272
four-br1 = refl

pub four-br1_vars : var_count (with_hard 4 (Br1 [] 0 Both [] ∷ [])) ≡ 136
four-br1_vars = refl

-- the variables at the edges
pub four-last : x_var 4 0 1 0
    ∷ x_var 4 3 2 5
    ∷ h_var 4 3 5
    ∷ hb_var 4 0 1
    ∷ hb_var 4 3 5
    ∷ ab_var 4 0 1
    ∷ ab_var 4 3 5
    ∷ []
    ≡ 1 ∷ 72 ∷ 96 ∷ 97 ∷ 116 ∷ 117 ∷ 136 ∷ []
four-last = refl

-- the sizes of the groups 1 to 6, and of an FA2
abbrev sizes : ℕ → List ℕ
sizes n = map
    (λ rows. size_of rows)
    (meeting_rows n ∷ cell_rows n ∷ half_rows n true ∷ venue_rows n ∷ slot_rows n ∷ team_rows n ∷ [])

pub sizes-2 : sizes 2 ≡ 8 ∷ 16 ∷ 4 ∷ 16 ∷ 8 ∷ 8 ∷ []
sizes-2 = refl

pub sizes-4 : sizes 4 ≡ 144 ∷ 288 ∷ 72 ∷ 192 ∷ 48 ∷ 48 ∷ []
sizes-4 = refl

pub fa2-size : size_of (class_rows 4 (Fa2 all_teams 0 all_slots)) ≡ 6 * 84
fa2-size = refl
