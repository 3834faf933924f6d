-- Leagues of six teams: x(i,j,s) is 1 + 10 (5 i + j') + s, h(i,s) is 301 + 10 i + s, hb(i,s) is 361 + 9 i + s - 1, and
-- ab(i,s) is 54 more. Of four: x(i,j,s) is 1 + 6 (3 i + j') + s, and h(i,s) is 73 + 6 i + s.
use Rattle.std.proofs.Common.{◌≡◌, ◌≢◌, ℕ, zero, suc, ◌+◌, ◌<◌, ◌≤◌, Bool, true, false, List, [], ◌∷◌, map, length}
use Rattle.std.proofs.Common.{nat_lt, refl, arith, lit<}
use Rattle.std.proofs.lemmas.List.Elements.{All-from_recursion}
use Rattle.league.specs.Breaks.{is_away_break, is_home_break}
use Rattle.league.specs.Counts.{Counts, counts_of}
use Rattle.league.specs.Instance.{Instance}
use Rattle.league.specs.Venues.{home_games}
use Rattle.league.specs.declared.class.Class.TheVariants.{Ca1, Ca2, Ca3, Ca4, Ga1, Br1, Br2, Fa2, Se1}
use Rattle.league.specs.declared.class.Constraint.{Constraint}
use Rattle.league.specs.declared.class.Side.TheVariants.{H, A, Both}
use Rattle.league.specs.declared.class.Span.TheVariants.{Every}
use Rattle.league.proofs.DoubleFour.{game}
use Rattle.rows.specs.Cardinality.{at_least}
use Rattle.rows.specs.Literals.{yes, no}
use Rattle.rows.specs.Rows.{Row}
use Rattle.rows.specs.Tests.{all_satisfied}
use Rattle.rows.specs.Values.{assigned}
use Rattle.rows.specs.declared.lit.Term.{Term}
use Rattle.encoding.specs.Encoding.{class_rows, encoding_size, rows_of}
use Rattle.encoding.specs.Known.{AreKnown, IsKnown}
use Rattle.encoding.specs.Season.{half_rows}
use Rattle.encoding.specs.Shadow.{IsShadow, decoded}
use Rattle.encoding.specs.Variables.{ab_var, h_var, hb_var, place_beside, var_count, x_var}
use Rattle.decoding.specs.Shortfalls.{meets_hard, shortfall, units_needed}

abbrev league_of : ℕ → Bool → List Constraint → Instance
league_of n phased constraints = record { n = n; phased = phased; constraints = constraints }

abbrev hard_breaks : Constraint
hard_breaks = record { hard = true; penalty = 0; class = Br2 [] 0 [] }

abbrev soft_breaks : Constraint
soft_breaks = record { hard = false; penalty = 9; class = Br2 [] 0 [] }

-- ---- six teams

pub places : map (place_beside 4) (0 ∷ 3 ∷ 5 ∷ []) ≡ 0 ∷ 3 ∷ 4 ∷ []
places = refl

pub variables : x_var 6 4 1 7 ∷ x_var 6 4 5 7 ∷ x_var 6 5 4 9 ∷ h_var 6 0 0 ∷ h_var 6 5 9 ∷ hb_var 6 0 1 ∷ hb_var 6 5 9
    ∷ ab_var 6 0 1 ∷ ab_var 6 5 9 ∷ []
    ≡ 218 ∷ 248 ∷ 300 ∷ 301 ∷ 360 ∷ 361 ∷ 414 ∷ 415 ∷ 468 ∷ []
variables = refl

-- a hard bound on breaks gives them variables, whatever it bounds and costs, and a soft one doesn't
pub variables_of_breaks : map (λ constraints. var_count (league_of 6 false constraints))
    ([] ∷ (soft_breaks ∷ []) ∷ (soft_breaks ∷ hard_breaks ∷ []) ∷ [])
    ≡ 360 ∷ 360 ∷ 468 ∷ []
variables_of_breaks = refl

-- 60 + 120 + 120 + 20 + 12, and in two phases 2 for each of 15 pairs
pub row_counts : (length (rows_of (league_of 6 false [])) ≡ 332) × (length (rows_of (league_of 6 true [])) ≡ 362)
    × (half_rows 6 false ≡ [])
row_counts = (refl, refl, refl)

-- 30 * 20 + 60 * 20 + 60 * 12 + 10 * 12 + 6 * 20, and in two phases 15 * 20
pub sizes : (encoding_size (league_of 6 false []) ≡ 2760) × (encoding_size (league_of 6 true []) ≡ 3060)
sizes = (refl, refl)

-- team 2 against 1 and 4 in slot 3, itself left out, at home and away: (1,2), (2,1), (2,4), (4,2), of which at most one
pub ca2_six : class_rows 6 (Ca2 (2 ∷ []) (1 ∷ 2 ∷ 4 ∷ []) 0 1 Both (3 ∷ []))
    ≡ at_least 3 (no 64 ∷ no 114 ∷ no 134 ∷ no 224 ∷ []) ∷ []
ca2_six = refl

-- of the slots 0 and 3 only the second has one before it: ab(2,3)
pub br1_six : class_rows 6 (Br1 (2 ∷ []) 0 A (0 ∷ 3 ∷ [])) ≡ at_least 1 (no 435 ∷ []) ∷ []
br1_six = refl

-- ---- four teams

-- a window as long as the season is one window
pub ca3_season : class_rows 4 (Ca3 (0 ∷ []) (1 ∷ []) 0 0 6 H)
    ≡ at_least 6 (no 1 ∷ no 2 ∷ no 3 ∷ no 4 ∷ no 5 ∷ no 6 ∷ []) ∷ []
ca3_season = refl

-- the games of 1 and 2 at home to 0: exactly one in slot 2, and exactly one in slot 4
pub ca4_every : class_rows 4 (Ca4 (0 ∷ []) (1 ∷ 2 ∷ []) 1 1 A Every (2 ∷ 4 ∷ []))
    ≡ at_least 1 (yes 21 ∷ yes 39 ∷ [])
    ∷ at_least 1 (no 21 ∷ no 39 ∷ [])
    ∷ at_least 1 (yes 23 ∷ yes 41 ∷ [])
    ∷ at_least 1 (no 23 ∷ no 41 ∷ [])
    ∷ []
ca4_every = refl

-- two meetings in slot 5, at least 1 and at most 0 of them: both rows are there, and no values satisfy both
pub ga1_crossed : class_rows 4 (Ga1 ((0, 3) ∷ (2, 1) ∷ []) 1 0 (5 ∷ []))
    ≡ at_least 1 (yes 18 ∷ yes 48 ∷ []) ∷ at_least 2 (no 18 ∷ no 48 ∷ []) ∷ []
ga1_crossed = refl

-- behind slot 3 team 1 is away in, or team 2 at home in, at least 4 - 2 of eight places; and the other way round
pub fa2_four : class_rows 4 (Fa2 (1 ∷ 2 ∷ []) 2 (3 ∷ []))
    ≡ at_least 2 (no 79 ∷ no 80 ∷ no 81 ∷ no 82 ∷ yes 85 ∷ yes 86 ∷ yes 87 ∷ yes 88 ∷ [])
    ∷ at_least 2 (yes 79 ∷ yes 80 ∷ yes 81 ∷ yes 82 ∷ no 85 ∷ no 86 ∷ no 87 ∷ no 88 ∷ [])
    ∷ []
fa2_four = refl

-- 3 slots between 0 and 3: at most one of their games in each 4 slots in a row
abbrev shifted : ℕ → ℕ → ℕ
shifted first k = first + k

pub se1_four : class_rows 4 (Se1 (0 ∷ 3 ∷ []) 3)
    ≡ map (λ first. at_least 7 (map no (map (shifted first) (0 ∷ 1 ∷ 2 ∷ 3 ∷ 42 ∷ 43 ∷ 44 ∷ 45 ∷ []))))
    (13 ∷ 14 ∷ 15 ∷ [])
se1_four = refl

-- no games of no teams, at most none: nothing is asked for; at least one: nothing satisfies it
pub no_teams : (class_rows 4 (Ca1 [] 1 0 H (0 ∷ [])) ≡ [])
    × (class_rows 4 (Ca1 (0 ∷ []) 1 1 H []) ≡ at_least 1 [] ∷ [])
    × (class_rows 4 (Ca4 [] (0 ∷ []) 1 0 H Every (0 ∷ [])) ≡ at_least 1 [] ∷ [])
no_teams = (refl, refl, refl)

-- ---- seasons of two teams: x(0,1,s) is 1 + s, x(1,0,s) 3 + s, h(0,s) 5 + s, h(1,s) 7 + s

-- (1,0,0) and (0,1,1), with the venues that they say
abbrev played : ℕ → Bool
played = assigned (false ∷ true ∷ true ∷ false ∷ false ∷ true ∷ true ∷ false ∷ [])

-- the values of (1,0,0) and (0,1,1) with team 0 at home in slot 0 too
abbrev misplaced : ℕ → Bool
misplaced = assigned (false ∷ true ∷ true ∷ false ∷ true ∷ true ∷ true ∷ false ∷ [])

pub satisfied_two : (all_satisfied played (rows_of (league_of 2 true [])) ≡ true)
    × (all_satisfied misplaced (rows_of (league_of 2 true [])) ≡ false)
satisfied_two = (refl, refl)

-- games come by slot, then home team
pub decoded_two : (decoded 2 played ≡ game 1 0 0 ∷ game 0 1 1 ∷ [])
    × (decoded 2 (assigned (true ∷ true ∷ true ∷ true ∷ []))
    ≡ game 0 1 0 ∷ game 1 0 0 ∷ game 0 1 1 ∷ game 1 0 1 ∷ [])
    × (decoded 2 (assigned []) ≡ [])
decoded_two = (refl, refl, refl)

-- all false: the first row lacks 1, the second 2, and so 2 units are needed
pub shortfalls : (shortfall (assigned []) (at_least 2 (yes 1 ∷ no 2 ∷ yes 3 ∷ [])) ≡ 1)
    × (units_needed (assigned []) (at_least 2 (yes 1 ∷ no 2 ∷ yes 3 ∷ []) ∷ at_least 2 (yes 1 ∷ yes 2 ∷ []) ∷ []) ≡ 2)
    × (units_needed (assigned []) [] ≡ 0)
shortfalls = (refl, refl, refl)

-- team 0 is to be at home nowhere, at no cost: it still counts where it is hard, and not where it is soft
abbrev nowhere : Bool → Constraint
nowhere hard = record { hard = hard; penalty = 0; class = Ca1 (0 ∷ []) 0 0 H (0 ∷ 1 ∷ []) }

pub meets_free : map (λ hard. meets_hard 2 (counts_of (game 1 0 0 ∷ game 0 1 1 ∷ [])) (nowhere hard ∷ []))
    (true ∷ false ∷ []) ≡ false ∷ true ∷ []
meets_free = refl

-- ---- shadows

-- where nothing is said of breaks, these values are the shadow of the games that they decode to
abbrev turns : Counts
turns = counts_of (game 1 0 0 ∷ game 0 1 1 ∷ [])

turns-games : (i j s : ℕ) → i < 2 → j < 2 → i ≢ j → s < 2 → played (x_var 2 i j s) ≡ nat_lt 0 (turns i j s)
turns-games zero zero s home away differ slot = absurd (differ refl)
turns-games zero (suc zero) zero home away differ slot = refl
turns-games zero (suc zero) (suc zero) home away differ slot = refl
turns-games zero (suc zero) (suc (suc s)) home away differ slot = absurd (omega (arith, slot))
turns-games zero (suc (suc j)) s home away differ slot = absurd (omega (arith, away))
turns-games (suc zero) zero zero home away differ slot = refl
turns-games (suc zero) zero (suc zero) home away differ slot = refl
turns-games (suc zero) zero (suc (suc s)) home away differ slot = absurd (omega (arith, slot))
turns-games (suc zero) (suc zero) s home away differ slot = absurd (differ refl)
turns-games (suc zero) (suc (suc j)) s home away differ slot = absurd (omega (arith, away))
turns-games (suc (suc i)) j s home away differ slot = absurd (omega (arith, home))

turns-venues : (i s : ℕ) → i < 2 → s < 2 → played (h_var 2 i s) ≡ nat_lt 0 (home_games 2 turns i s)
turns-venues zero zero team slot = refl
turns-venues zero (suc zero) team slot = refl
turns-venues (suc zero) zero team slot = refl
turns-venues (suc zero) (suc zero) team slot = refl
turns-venues zero (suc (suc s)) team slot = absurd (omega (arith, slot))
turns-venues (suc zero) (suc (suc s)) team slot = absurd (omega (arith, slot))
turns-venues (suc (suc i)) s team slot = absurd (omega (arith, team))

false_true : false ≡ true → ⊥
false_true is = cc

true_false : true ≡ false → ⊥
true_false is = cc

pub shadow-turns : IsShadow 2 false turns played
shadow-turns = record {
  games = turns-games;
  venues = turns-venues;
  home_breaks = λ breaks. absurd (false_true breaks);
  away_breaks = λ breaks. absurd (false_true breaks);
}

-- with team 0 at home in slot 0 too they aren't
pub shadow-misplaced : IsShadow 2 false turns misplaced → ⊥
shadow-misplaced shadow = true_false (shadow.venues 0 0 (lit< tt) (lit< tt))

-- where breaks have variables, 9 and 10 are those of home breaks at slot 1, 11 and 12 those of away breaks: 0 is at
-- home to 1 in both slots, in slot 1 twice, so that 0 has a home break and 1 an away break
abbrev twice : Counts
twice = counts_of (game 0 1 0 ∷ game 0 1 1 ∷ game 0 1 1 ∷ [])

abbrev stays : ℕ → Bool
stays = assigned
    (true ∷ true ∷ false ∷ false ∷ true ∷ true ∷ false ∷ false ∷ true ∷ false ∷ false ∷ true ∷ [])

stays-games : (i j s : ℕ) → i < 2 → j < 2 → i ≢ j → s < 2 → stays (x_var 2 i j s) ≡ nat_lt 0 (twice i j s)
stays-games zero zero s home away differ slot = absurd (differ refl)
stays-games zero (suc zero) zero home away differ slot = refl
stays-games zero (suc zero) (suc zero) home away differ slot = refl
stays-games zero (suc zero) (suc (suc s)) home away differ slot = absurd (omega (arith, slot))
stays-games zero (suc (suc j)) s home away differ slot = absurd (omega (arith, away))
stays-games (suc zero) zero zero home away differ slot = refl
stays-games (suc zero) zero (suc zero) home away differ slot = refl
stays-games (suc zero) zero (suc (suc s)) home away differ slot = absurd (omega (arith, slot))
stays-games (suc zero) (suc zero) s home away differ slot = absurd (differ refl)
stays-games (suc zero) (suc (suc j)) s home away differ slot = absurd (omega (arith, away))
stays-games (suc (suc i)) j s home away differ slot = absurd (omega (arith, home))

stays-venues : (i s : ℕ) → i < 2 → s < 2 → stays (h_var 2 i s) ≡ nat_lt 0 (home_games 2 twice i s)
stays-venues zero zero team slot = refl
stays-venues zero (suc zero) team slot = refl
stays-venues (suc zero) zero team slot = refl
stays-venues (suc zero) (suc zero) team slot = refl
stays-venues zero (suc (suc s)) team slot = absurd (omega (arith, slot))
stays-venues (suc zero) (suc (suc s)) team slot = absurd (omega (arith, slot))
stays-venues (suc (suc i)) s team slot = absurd (omega (arith, team))

stays-home : (i s : ℕ) → i < 2 → 0 < s → s < 2 → stays (hb_var 2 i s) ≡ is_home_break 2 twice i s
stays-home i zero team some slot = absurd (omega (arith, some))
stays-home zero (suc zero) team some slot = refl
stays-home (suc zero) (suc zero) team some slot = refl
stays-home (suc (suc i)) (suc zero) team some slot = absurd (omega (arith, team))
stays-home i (suc (suc s)) team some slot = absurd (omega (arith, slot))

stays-away : (i s : ℕ) → i < 2 → 0 < s → s < 2 → stays (ab_var 2 i s) ≡ is_away_break 2 twice i s
stays-away i zero team some slot = absurd (omega (arith, some))
stays-away zero (suc zero) team some slot = refl
stays-away (suc zero) (suc zero) team some slot = refl
stays-away (suc (suc i)) (suc zero) team some slot = absurd (omega (arith, team))
stays-away i (suc (suc s)) team some slot = absurd (omega (arith, slot))

pub shadow-breaks : IsShadow 2 true twice stays
shadow-breaks = record {
  games = stays-games;
  venues = stays-venues;
  home_breaks = λ breaks. stays-home;
  away_breaks = λ breaks. stays-away;
}

-- what says nothing of breaks is no shadow there: 9 has to be true
pub shadow-no_breaks : IsShadow 2 true twice
    (assigned (true ∷ true ∷ false ∷ false ∷ true ∷ true ∷ false ∷ false ∷ []))
    → ⊥
shadow-no_breaks shadow = false_true (shadow.home_breaks refl 0 1 (lit< tt) (lit< tt) (lit< tt))

-- 12 has to be true as well; and a game that takes place has its variable true
pub shadow-others : (IsShadow 2 true twice
    (assigned (true ∷ true ∷ false ∷ false ∷ true ∷ true ∷ false ∷ false ∷ true ∷ [])) → ⊥)
    × (IsShadow 2 false turns (assigned (false ∷ false ∷ true ∷ false ∷ false ∷ true ∷ true ∷ [])) → ⊥)
shadow-others = (
  λ shadow. false_true (shadow.away_breaks refl 1 1 (lit< tt) (lit< tt) (lit< tt)),
  λ shadow. false_true (shadow.games 0 1 1 (lit< tt) (lit< tt) (λ is. omega (arith, is)) (lit< tt)),
)

-- ---- known variables: from 1 to the number of them

abbrev known_row : Row
known_row = at_least 1 (yes 1 ∷ no 3 ∷ [])

pub known : IsKnown 3 known_row × (IsKnown 2 known_row → ⊥) × (IsKnown 3 (at_least 1 (yes 0 ∷ [])) → ⊥)
known = (
  All-from_recursion (λ (t : Term). (1 ≤ t.lit.var) × (t.lit.var ≤ 3)) known_row.terms
      ((omega arith, omega arith), ((omega arith, omega arith), tt)),
  λ is. omega (arith, (is 1 (record { coef = 1; lit = yes 1 }) (lit< tt)).1),
  λ is. omega (arith, (is 0 (record { coef = 1; lit = yes 1 }) (lit< tt)).0),
)

-- each row, and a row without terms speaks of no variable
pub known_rows : AreKnown 3 (known_row ∷ at_least 1 [] ∷ []) × AreKnown 0 (at_least 1 [] ∷ [])
    × (AreKnown 3 (known_row ∷ at_least 1 (yes 4 ∷ []) ∷ []) → ⊥)
known_rows = (
  All-from_recursion (IsKnown 3) (known_row ∷ at_least 1 [] ∷ [])
      (known.0, ((λ k d within. absurd (omega (arith, within))), tt)),
  All-from_recursion (IsKnown 0) (at_least 1 [] ∷ []) ((λ k d within. absurd (omega (arith, within))), tt),
  λ are. omega (arith, (are 1 known_row (lit< tt) 0 (record { coef = 1; lit = yes 1 }) (lit< tt)).1),
)
