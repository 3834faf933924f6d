-- Rows of four teams, literal by literal: x(i,j,s) is 1 + 6 (3 i + j') + s, where j' is the place of j beside i, h(i,s)
-- is 73 + 6 i + s, hb(i,s) is 97 + 5 i + s - 1, and ab(i,s) is 20 more. What stands here pins the order of rows and
-- terms, of which no law says anything.
use Rattle.std.proofs.Common.{◌≡◌, ℕ, [], ◌∷◌, true, false, length, refl, take}
use Rattle.league.specs.Instance.{Instance}
use Rattle.league.specs.declared.class.Class.TheVariants.{Ca1, Ca2, Ca3, Ca4, Ga1, Br1, Br2, Fa2, Se1}
use Rattle.league.specs.declared.class.Side.TheVariants.{H, A, Both}
use Rattle.league.specs.declared.class.Span.TheVariants.{Global, Every}
use Rattle.league.proofs.DoubleFour.{all_slots, all_teams}
use Rattle.rows.specs.Cardinality.{at_least}
use Rattle.rows.specs.Literals.{Literal, yes, no}
use Rattle.encoding.specs.Encoding.{class_rows, rows_of}
use Rattle.encoding.specs.Season.{break_rows, venue_rows}
use Rattle.encoding.specs.Variables.{var_count}

abbrev p : ℕ → Literal
p v = yes v

abbrev n : ℕ → Literal
n v = no v

pub ca1-away : class_rows 4 (Ca1 (0 ∷ []) 0 1 A (2 ∷ 3 ∷ [])) ≡ at_least 1 (p 75 ∷ p 76 ∷ []) ∷ []
ca1-away = refl

-- a bound that is always met has no row
pub ca1-no_row : class_rows 4 (Ca1 all_teams 0 1 H (0 ∷ [])) ≡ []
ca1-no_row = refl

-- the lower bound's row stands before the upper one's
pub ca1-both_rows : class_rows 4 (Ca1 (0 ∷ []) 2 1 H (2 ∷ 3 ∷ []))
    ≡ at_least 2 (p 75 ∷ p 76 ∷ []) ∷ at_least 1 (n 75 ∷ n 76 ∷ []) ∷ []
ca1-both_rows = refl

-- a lower bound that can't be met is a row whose degree is above its sum
pub ca1-too_many : class_rows 4 (Ca1 (0 ∷ []) 7 7 H (2 ∷ [])) ≡ at_least 7 (p 75 ∷ []) ∷ []
ca1-too_many = refl

pub ca2-in_order : class_rows 4 (Ca2 (1 ∷ []) (0 ∷ 2 ∷ []) 0 0 Both (5 ∷ []))
    ≡ at_least 4 (n 6 ∷ n 24 ∷ n 30 ∷ n 48 ∷ []) ∷ []
ca2-in_order = refl

pub ca2-lower_row : class_rows 4 (Ca2 (1 ∷ []) (0 ∷ 2 ∷ []) 3 4 Both (5 ∷ []))
    ≡ at_least 3 (p 6 ∷ p 24 ∷ p 30 ∷ p 48 ∷ []) ∷ []
ca2-lower_row = refl

-- the windows 0 to 4 and 1 to 5 of the game of 0 at home to 1
pub ca3-windows : class_rows 4 (Ca3 (0 ∷ []) (1 ∷ []) 0 4 5 H)
    ≡ at_least 1 (n 1 ∷ n 2 ∷ n 3 ∷ n 4 ∷ n 5 ∷ []) ∷ at_least 1 (n 2 ∷ n 3 ∷ n 4 ∷ n 5 ∷ n 6 ∷ []) ∷ []
ca3-windows = refl

-- both bounds of one window stand before the next window
pub ca3-both_rows : class_rows 4 (Ca3 (0 ∷ []) (1 ∷ []) 1 4 5 H)
    ≡ at_least 1 (p 1 ∷ p 2 ∷ p 3 ∷ p 4 ∷ p 5 ∷ [])
    ∷ at_least 1 (n 1 ∷ n 2 ∷ n 3 ∷ n 4 ∷ n 5 ∷ [])
    ∷ at_least 1 (p 2 ∷ p 3 ∷ p 4 ∷ p 5 ∷ p 6 ∷ [])
    ∷ at_least 1 (n 2 ∷ n 3 ∷ n 4 ∷ n 5 ∷ n 6 ∷ [])
    ∷ []
ca3-both_rows = refl

pub ca3-no_window : class_rows 4 (Ca3 (0 ∷ []) (1 ∷ []) 1 0 7 H) ≡ []
ca3-no_window = refl

-- a game of two teams of both sets counts once
pub ca4-once : class_rows 4 (Ca4 (0 ∷ 1 ∷ []) (0 ∷ 1 ∷ []) 0 0 Both Every (0 ∷ 3 ∷ []))
    ≡ at_least 2 (n 1 ∷ n 19 ∷ []) ∷ at_least 2 (n 4 ∷ n 22 ∷ []) ∷ []
ca4-once = refl

pub ca4-global : class_rows 4 (Ca4 (0 ∷ []) (1 ∷ []) 0 1 A Global (0 ∷ 3 ∷ [])) ≡ at_least 1 (n 19 ∷ n 22 ∷ []) ∷ []
ca4-global = refl

pub ca4-lower_row : class_rows 4 (Ca4 (0 ∷ []) (1 ∷ []) 1 2 A Global (0 ∷ 3 ∷ [])) ≡ at_least 1 (p 19 ∷ p 22 ∷ []) ∷ []
ca4-lower_row = refl

pub ga1-both_rows : class_rows 4 (Ga1 ((0, 1) ∷ []) 2 0 (2 ∷ [])) ≡ at_least 2 (p 3 ∷ []) ∷ at_least 1 (n 3 ∷ []) ∷ []
ga1-both_rows = refl

pub ga1-upper_row : class_rows 4 (Ga1 ((0, 1) ∷ []) 0 0 (2 ∷ [])) ≡ at_least 1 (n 3 ∷ []) ∷ []
ga1-upper_row = refl

-- of no meetings at least one is to take place: a row without terms
pub ga1-no_meetings : class_rows 4 (Ga1 [] 1 0 (2 ∷ [])) ≡ at_least 1 [] ∷ []
ga1-no_meetings = refl

pub br1-first_slot : class_rows 4 (Br1 (0 ∷ []) 0 Both (0 ∷ [])) ≡ []
br1-first_slot = refl

pub br1-both : class_rows 4 (Br1 (1 ∷ []) 1 Both (0 ∷ 2 ∷ 5 ∷ []))
    ≡ at_least 3 (n 103 ∷ n 106 ∷ n 123 ∷ n 126 ∷ []) ∷ []
br1-both = refl

-- the home breaks of all teams stand before the away breaks
pub br2-order : class_rows 4 (Br2 (0 ∷ 1 ∷ []) 0 (0 ∷ 1 ∷ []))
    ≡ at_least 4 (n 97 ∷ n 102 ∷ n 117 ∷ n 122 ∷ []) ∷ []
br2-order = refl

-- the second row has h of the first team before h of the second
pub fa2-order : class_rows 4 (Fa2 (0 ∷ 1 ∷ []) 0 (0 ∷ []))
    ≡ at_least 1 (n 73 ∷ p 79 ∷ []) ∷ at_least 1 (p 73 ∷ n 79 ∷ []) ∷ []
fa2-order = refl

pub fa2-no_row : class_rows 4 (Fa2 (0 ∷ 1 ∷ []) 1 (0 ∷ [])) ≡ []
fa2-no_row = refl

-- windows of min + 1 slots, and the season where it has no more
pub se1-four : length (class_rows 4 (Se1 (0 ∷ 1 ∷ []) 4)) ≡ 2
se1-four = refl

pub se1-season : length (class_rows 4 (Se1 (0 ∷ 1 ∷ []) 5)) ≡ 1
se1-season = refl

pub se1-longer : class_rows 2 (Se1 (0 ∷ 1 ∷ []) 99) ≡ at_least 3 (n 1 ∷ n 2 ∷ n 3 ∷ n 4 ∷ []) ∷ []
se1-longer = refl

pub se1-slots : class_rows 2 (Se1 (0 ∷ 1 ∷ []) 0) ≡ at_least 1 (n 1 ∷ n 3 ∷ []) ∷ at_least 1 (n 2 ∷ n 4 ∷ []) ∷ []
se1-slots = refl

-- of two teams: h(0,0) is 5, h(0,1) is 6, hb(0,1) is 9, ab(0,1) is 11
pub breaks-two : take 6 (break_rows 2 true)
    ≡ at_least 1 (p 5 ∷ n 9 ∷ [])
    ∷ at_least 1 (p 6 ∷ n 9 ∷ [])
    ∷ at_least 1 (n 5 ∷ n 6 ∷ p 9 ∷ [])
    ∷ at_least 1 (n 5 ∷ n 11 ∷ [])
    ∷ at_least 1 (n 6 ∷ n 11 ∷ [])
    ∷ at_least 1 (p 5 ∷ p 6 ∷ p 11 ∷ [])
    ∷ []
breaks-two = refl

pub venues-four : take 2 (venue_rows 4)
    ≡ at_least 1 (p 1 ∷ p 7 ∷ p 13 ∷ n 73 ∷ [])
    ∷ record {
      terms = record { coef = 1; lit = n 1 }
          ∷ record { coef = 1; lit = n 7 }
          ∷ record { coef = 1; lit = n 13 }
          ∷ record { coef = 3; lit = p 73 }
          ∷ [];
      degree = 3;
    }
    ∷ []
venues-four = refl

-- a soft constraint has no rows, and no variables for breaks
abbrev soft : Instance
soft = record {
  n = 4;
  phased = true;
  constraints = record { hard = false; penalty = 1; class = Br1 all_teams 0 Both all_slots } ∷ [];
}

pub soft-vars : var_count soft ≡ 96
soft-vars = refl

pub soft-rows : length (rows_of soft) ≡ 152
soft-rows = refl
