-- States that parts of the program keep or come to, each over small values: rows that are met, trails of two entries,
-- edits and tables of two teams, bounds of scores, steps over patterns, and the hard constraints of a league.
use Rattle.std.proofs.Common.{◌≡◌, ◌≢◌, ℕ, zero, suc, ◌+◌, ◌*◌, ◌<◌, ◌≤◌, ◌∙◌, Bool, true, false}
use Rattle.std.proofs.Common.{◌&&◌, ◌||◌, ◌==◌, List, [], ◌∷◌, ◌++◌, get_or, length, replicate, set}
use Rattle.std.proofs.Common.{take, Option, Some, None, ap, subst, sym, refl, arith, inl, inr}
use Rattle.std.proofs.Common.{lit<, lit≤}
use Rattle.std.specs.Prelude.{Contains}
use Rattle.std.proofs.lemmas.Bool.Decides.{nat_tests}
use Rattle.std.proofs.lemmas.List.{get_or-set_other}
use Rattle.std.proofs.lemmas.List.Elements.{All-from_recursion}
use Rattle.league.specs.declared.game.Game.{Game}
use Rattle.rows.specs.Cardinality.{at_least}
use Rattle.rows.specs.Literals.{Literal, yes, no}
use Rattle.rows.specs.Partials.{Forces, IsQuietRow, reach, value_of}
use Rattle.rows.specs.Rows.{Row, Satisfies, SatisfiesAll}
use Rattle.rows.specs.Values.{assigned}
use Rattle.rows.specs.declared.lit.Term.{Term}
use Rattle.rows.specs.declared.partial.Value.{Value}
use Rattle.rows.specs.declared.partial.Value.TheVariants.{Free}
use Rattle.propagate.specs.Trails.{AreLawful, EachEntry, IsLawful, IsQuietRowBelow, KnowsVariables, is_decision}
use Rattle.propagate.specs.Trails.{values_of}
use Rattle.propagate.specs.declared.entry.Entry.{Entry}
use Rattle.moves.specs.Moves.{IsOfLeague, game}
use Rattle.moves.specs.Neighbours.{home_swap, part_round_swap, part_team_swap, round_swap, team_swap}
use Rattle.moves.specs.Places.{ArePlaced, IsPlacedAt, IsSlotPlacedAt, is_meeting, is_of}
use Rattle.moves.specs.Round.{AreApart, entry}

true_false : true ≡ false → ⊥
true_false is = cc

pub false_true : false ≡ true → ⊥
false_true is = cc

-- ---- rows: 1 or not 2; and 2 of 2 and 1 of 3, at least 2

abbrev one_or : Row
one_or = at_least 1 (yes 1 ∷ no 2 ∷ [])

abbrev weighted : Row
weighted = record { terms = record { coef = 2; lit = yes 2 } ∷ record { coef = 1; lit = yes 3 } ∷ []; degree = 2 }

-- 1 and 2 true: 1, and 2. 2 alone: 0 of the first. 1 and 3: 1 of the second. No rows are met by whichever values
pub satisfied : SatisfiesAll (assigned (true ∷ true ∷ false ∷ [])) (one_or ∷ weighted ∷ [])
satisfied = All-from_recursion (Satisfies (assigned (true ∷ true ∷ false ∷ []))) (one_or ∷ weighted ∷ [])
    (lit≤ tt, (lit≤ tt, tt))

pub not_satisfied : (SatisfiesAll (assigned (false ∷ true ∷ false ∷ [])) (one_or ∷ weighted ∷ []) → ⊥)
    × (SatisfiesAll (assigned (true ∷ false ∷ true ∷ [])) (one_or ∷ weighted ∷ []) → ⊥)
not_satisfied = (
  λ met. let short : 1 ≤ 0 = met 0 one_or (lit< tt) in omega (arith, short),
  λ met. let short : 2 ≤ 1 = met 1 one_or (lit< tt) in omega (arith, short),
)

pub satisfied-none : (values : ℕ → Bool) → SatisfiesAll values []
satisfied-none values k d within = absurd (omega (arith, within))

-- ---- trails of two entries

abbrev entry_of : Literal → ℕ → Option ℕ → Entry
entry_of lit level reason = record { lit = lit; level = level; reason = reason }

-- a property of an entry and of those before it: the level is their number
abbrev counts_before : List Entry → Entry → Type 0
counts_before before e = e.level ≡ length before

abbrev counted : List Entry
counted = entry_of (yes 8) 0 None ∷ entry_of (no 9) 1 None ∷ []

each_counted : (k : ℕ) (d : Entry) → k < 2 → counts_before (take k counted) (get_or counted k d)
each_counted zero d within = refl
each_counted (suc zero) d within = refl
each_counted (suc (suc k)) d within = absurd (omega (arith, within))

pub each_entry : EachEntry counts_before counted × EachEntry counts_before []
each_entry = (each_counted, λ k d within. absurd (omega (arith, within)))

-- in the other order the first has the level 1
pub each_entry-crossed : EachEntry counts_before (entry_of (no 9) 1 None ∷ entry_of (yes 8) 0 None ∷ []) → ⊥
each_entry-crossed each =
    let level : ◌≡◌ {A = ℕ} 1 0 = each 0 (entry_of (yes 8) 0 None) (lit< tt) in
    omega (arith, level)

-- row 1, not 1, forces not 1; row 2, 1 or 2, then forces 2
abbrev either : Row
either = at_least 1 (yes 1 ∷ yes 2 ∷ [])

abbrev pub rows : List Row
rows = at_least 1 (no 1 ∷ []) ∷ either ∷ []

abbrev trail : List Entry
trail = entry_of (no 1) 0 (Some 1) ∷ entry_of (yes 2) 0 (Some 2) ∷ []

lawful_each : (k : ℕ) (d : Entry) → k < 2 → IsLawful rows 2 (take k trail) (get_or trail k d)
lawful_each zero d within = record {
  new = record { from_one = lit≤ tt; known = lit≤ tt; free = refl; level = refl };
  reason = record {
    row = at_least 1 (no 1 ∷ []);
    numbered = record { from_one = lit≤ tt; there = refl };
    term = record { coef = 1; lit = no 1 };
    literal = refl;
    forces = record { no_conflict = lit≤ tt; there = (0, lit< tt, refl); free = refl; needed = lit< tt };
  };
}
lawful_each (suc zero) d within = record {
  new = record { from_one = lit≤ tt; known = lit≤ tt; free = refl; level = refl };
  reason = record {
    row = either;
    numbered = record { from_one = lit≤ tt; there = refl };
    term = record { coef = 1; lit = yes 2 };
    literal = refl;
    forces = record { no_conflict = lit≤ tt; there = (1, lit< tt, refl); free = refl; needed = lit< tt };
  };
}
lawful_each (suc (suc k)) d within = absurd (omega (arith, within))

pub are_lawful : AreLawful rows 2 trail
are_lawful = lawful_each

-- in the other order they aren't: where nothing has a value row 2 has 2 within reach and forces none of its literals
coefs : (t : Term) → Contains either.terms t → 1 ≡ t.coef
coefs t (zero, within, is) = ap (λ (t : Term). t.coef) is
coefs t (suc zero, within, is) = ap (λ (t : Term). t.coef) is
coefs t (suc (suc k), within, is) = absurd (omega (arith, within))

forced_none : (t : Term) → Forces (values_of []) either t → ⊥
forced_none t forces = let slack : 2 < 1 + t.coef = forces.needed in omega (arith, slack, coefs t forces.there)

abbrev row_in : Option Row → Row
row_in None = record { terms = []; degree = 0 }
row_in (Some row) = row

pub crossed-not_lawful : AreLawful rows 2 (entry_of (yes 2) 0 (Some 2) ∷ entry_of (no 1) 0 (Some 1) ∷ []) → ⊥
crossed-not_lawful are =
    let reason = (are 0 (entry_of (no 1) 0 None) (lit< tt)).reason in
    let same : either ≡ reason.row = ap row_in reason.numbered.there in
    forced_none reason.term (subst (λ (row : Row). Forces (values_of []) row reason.term) (sym same) reason.forces)

-- a decision whose level doesn't count it isn't lawful
pub decided-not_lawful : AreLawful rows 2 (entry_of (no 1) 0 (Some 1) ∷ entry_of (yes 2) 0 None ∷ []) → ⊥
decided-not_lawful are =
    let level : ◌≡◌ {A = ℕ} 0 1 = (are 1 (entry_of (no 1) 0 None) (lit< tt)).new.level in
    omega (arith, level)

-- ---- one row, 1 or 2, is quiet before the decisions: before that of 3, and before that of not 2, but not behind it

-- a clause of two literals is quiet where 2 are within reach
pub quiet_two : (values : ℕ → Value) (l m : Literal) → reach values (at_least 1 (l ∷ m ∷ [])).terms ≡ 2
    → IsQuietRow values (at_least 1 (l ∷ m ∷ []))
quiet_two values l m two = record {
  no_conflict = omega (arith, two);
  none_forced = λ k d within. slack k d within two;
} where
  slack : (k : ℕ) (d : Term) → k < 2 → reach values (at_least 1 (l ∷ m ∷ [])).terms ≡ 2
      → value_of values (get_or (at_least 1 (l ∷ m ∷ [])).terms k d).lit ≡ Free
      → 1 + (get_or (at_least 1 (l ∷ m ∷ [])).terms k d).coef ≤ reach values (at_least 1 (l ∷ m ∷ [])).terms
  slack zero d within two free = omega (arith, two)
  slack (suc zero) d within two free = omega (arith, two)
  slack (suc (suc k)) d within two free = absurd (omega (arith, within))

abbrev decisions : List Entry
decisions = entry_of (yes 3) 1 None ∷ entry_of (no 2) 2 None ∷ []

quiet_each : (k : ℕ) (d : Entry) → k < 2 → is_decision (get_or decisions k d) ≡ true
    → IsQuietRow (values_of (take k decisions)) either
quiet_each zero d within decision = quiet_two (values_of []) (yes 1) (yes 2) refl
quiet_each (suc zero) d within decision = quiet_two (values_of (entry_of (yes 3) 1 None ∷ [])) (yes 1) (yes 2) refl
quiet_each (suc (suc k)) d within decision = absurd (omega (arith, within))

pub quiet_below : IsQuietRowBelow either decisions
quiet_below = quiet_each

-- with the decisions in the other order 1 was to be forced before the second; what is forced there isn't a decision
pub not_quiet_below : IsQuietRowBelow either (entry_of (no 2) 1 None ∷ entry_of (yes 3) 2 None ∷ []) → ⊥
not_quiet_below quiet =
    let slack : 2 ≤ 1 = (quiet 1 (entry_of (no 2) 1 None) (lit< tt) refl).none_forced 0
    (record { coef = 1; lit = yes 1 }) (lit< tt) refl in
    omega (arith, slack)

quiet_forced : (k : ℕ) (d : Entry) → k < 2
    → is_decision (get_or (entry_of (no 2) 1 None ∷ entry_of (yes 1) 1 (Some 2) ∷ []) k d) ≡ true
    → IsQuietRow (values_of (take k (entry_of (no 2) 1 None ∷ entry_of (yes 1) 1 (Some 2) ∷ []))) either
quiet_forced zero d within decision = quiet_two (values_of []) (yes 1) (yes 2) refl
quiet_forced (suc zero) d within decision = absurd (false_true decision)
quiet_forced (suc (suc k)) d within decision = absurd (omega (arith, within))

pub quiet_below-forced : IsQuietRowBelow either (entry_of (no 2) 1 None ∷ entry_of (yes 1) 1 (Some 2) ∷ [])
quiet_below-forced = quiet_forced

-- ---- variables: the row of 2 and 3 has none above 3

pub knows : KnowsVariables 3 weighted × (KnowsVariables 2 weighted → ⊥)
knows = (
  All-from_recursion (λ (t : Term). t.lit.var ≤ 3) weighted.terms (lit≤ tt, (lit≤ tt, tt)),
  λ known. let low : 3 ≤ 2 = known 1 (record { coef = 1; lit = no 0 }) (lit< tt) in omega (arith, low),
)

-- ---- moves of a league of four teams, which has the teams 0 to 3 and the slots 0 to 5

pub of_league : IsOfLeague 4 (home_swap (2, 3)) × IsOfLeague 4 (round_swap (0, 5)) × IsOfLeague 4 (team_swap (3, 0))
    × IsOfLeague 4 (part_round_swap 3 (4, 5)) × IsOfLeague 4 (part_team_swap (0, 3) 5)
of_league = (
  (lit< tt, lit< tt),
  (lit< tt, lit< tt),
  (lit< tt, lit< tt),
  (lit< tt, lit< tt, lit< tt),
  (lit< tt, lit< tt, lit< tt),
)

-- one team or slot further
pub not_of_league : (IsOfLeague 4 (home_swap (2, 4)) → ⊥) × (IsOfLeague 4 (round_swap (0, 6)) → ⊥)
    × (IsOfLeague 4 (team_swap (4, 0)) → ⊥) × (IsOfLeague 4 (part_round_swap 4 (4, 5)) → ⊥)
    × (IsOfLeague 4 (part_round_swap 3 (6, 5)) → ⊥) × (IsOfLeague 4 (part_team_swap (0, 3) 6) → ⊥)
not_of_league = (
  λ of. omega (arith, of.1),
  λ of. omega (arith, of.1),
  λ of. omega (arith, of.0),
  λ of. omega (arith, of.0),
  λ of. omega (arith, of.1),
  λ of. omega (arith, of.2),
)

zero_suc : (n : ℕ) → (0 == suc n) ≡ false
zero_suc n = grind (arith, nat_tests)

-- ---- an edit that turns a game has none of its games on both sides; one that takes out what it puts in has

pub apart : AreApart (record { n = 2; out = game 0 1 1 ∷ []; into = game 1 0 1 ∷ [] })
apart zero j s = inr refl
apart (suc i) j s = inl (rw (zero_suc i) refl)

pub not_apart : AreApart (record { n = 2; out = game 0 1 1 ∷ game 1 0 0 ∷ []; into = game 1 0 0 ∷ [] }) → ⊥
not_apart are = elim (are 1 0 0) [
  | inl none ↦ let same : ◌≡◌ {A = ℕ} 1 0 = none in omega (arith, same)
  | inr none ↦ let same : ◌≡◌ {A = ℕ} 1 0 = none in omega (arith, same)
]

-- ---- tables of two teams, in which the game of 1 at home to 0 is placed in slot 0: the places of either team and slot
-- 0 are 0 and 78, and that of the meeting is 40

abbrev visit : Game
visit = game 1 0 0

abbrev placed : List Game
placed = visit ∷ []

abbrev games : List Game
games = replicate 156 (game 5 5 5)

abbrev new_games : List Game
new_games = set (set games 0 visit) 78 visit

pub placed_at : IsPlacedAt placed games new_games 0 0 × IsPlacedAt placed games new_games 1 0
    × IsPlacedAt placed games new_games 1 1
placed_at = (
  inr ((0, lit< tt, refl), refl),
  inr ((0, lit< tt, refl), refl),
  inl (All-from_recursion (λ (g : Game). is_of 1 1 g ≡ false) placed (refl, tt), refl),
)

placed_home : (g : Game) → Contains placed g → 1 ≡ g.home.0
placed_home g (zero, within, is) = ap (λ (g : Game). g.home.0) is
placed_home g (suc k, within, is) = absurd (omega (arith, within))

other_home : ◌≡◌ {A = ℕ} 1 5 → ⊥
other_home is = omega (arith, is)

-- a place of the game keeps nothing else, and a place of none gets no game
pub not_placed_at : (IsPlacedAt placed games games 1 0 → ⊥) × (IsPlacedAt placed games (set games 1 visit) 0 1 → ⊥)
not_placed_at = (
  λ is. elim is [
    | inl kept ↦ true_false (kept.0 0 visit (lit< tt))
    | inr there ↦ other_home (placed_home (game 5 5 5) there.0)
  ],
  λ is. elim is [
    | inl kept ↦ other_home (ap (λ (g : Game). g.home.0) kept.1)
    | inr there ↦ false_true there.1
  ],
)

abbrev pub slots : List ℕ
slots = replicate 80 9

abbrev new_slots : List ℕ
new_slots = set slots 40 0

pub slot_placed_at : IsSlotPlacedAt placed slots new_slots 1 0 × IsSlotPlacedAt placed slots new_slots 0 1
slot_placed_at = (
  inr (0, lit< tt, refl),
  inl (All-from_recursion (λ (g : Game). is_meeting 0 1 g ≡ false) placed (refl, tt), refl),
)

placed_slot : (g : Game) → Contains placed g → 0 ≡ g.slot.0
placed_slot g (zero, within, is) = ap (λ (g : Game). g.slot.0) is
placed_slot g (suc k, within, is) = absurd (omega (arith, within))

other_slot : ◌≡◌ {A = ℕ} 0 9 → ⊥
other_slot is = omega (arith, is)

pub not_slot_placed_at : IsSlotPlacedAt placed slots slots 1 0 → ⊥
not_slot_placed_at is = elim is [
  | inl kept ↦ true_false (kept.0 0 visit (lit< tt))
  | inr there ↦ other_slot (placed_slot (game 1 0 9) there)
]

same_game : (i s : ℕ) → i * 78 + s ≢ 0 → i * 78 + s ≢ 78 → entry new_games i s ≡ entry games i s
same_game i s first second =
    get_or-set_other (set games 0 visit) 78 (i * 78 + s) visit (game 0 0 0) second
    ∙ get_or-set_other games 0 (i * 78 + s) visit (game 0 0 0) first

other_team : (i s : ℕ) → 2 ≤ i → (((1 == i) || (0 == i)) && (0 == s)) ≡ false
other_team i s above = grind (arith, nat_tests)

later_slot : (i s : ℕ) → 1 ≤ s → (((1 == i) || (0 == i)) && (0 == s)) ≡ false
later_slot i s above = grind (arith, nat_tests)

other_meeting : (i j : ℕ) → 2 ≤ i → ((1 == i) && (0 == j)) ≡ false
other_meeting i j above = grind (arith, nat_tests)

-- no other team and no other slot has it
games_at : (i s : ℕ) → s < 78 → IsPlacedAt placed games new_games i s
games_at zero zero within = placed_at.0
games_at (suc zero) zero within = placed_at.1
games_at (suc (suc i)) zero within = inl (
  All-from_recursion (λ (g : Game). is_of (suc (suc i)) 0 g ≡ false) placed
      (other_team (suc (suc i)) 0 (omega arith), tt),
  same_game (suc (suc i)) 0 (λ is. omega (arith, is)) (λ is. omega (arith, is)),
)
games_at i (suc s) within = inl (
  All-from_recursion (λ (g : Game). is_of i (suc s) g ≡ false) placed (later_slot i (suc s) (omega arith), tt),
  same_game i (suc s) (λ is. omega (arith, is)) (λ is. omega (arith, is, within)),
)

slots_at : (i j : ℕ) → j < 40 → IsSlotPlacedAt placed slots new_slots i j
slots_at zero j within = inl (
  All-from_recursion (λ (g : Game). is_meeting 0 j g ≡ false) placed (refl, tt),
  get_or-set_other slots 40 (0 * 40 + j) 0 0 (λ is. omega (arith, is, within)),
)
slots_at (suc zero) zero within = slot_placed_at.0
slots_at (suc zero) (suc j) within = inl (
  All-from_recursion (λ (g : Game). is_meeting 1 (suc j) g ≡ false) placed (zero_suc j, tt),
  get_or-set_other slots 40 (1 * 40 + suc j) 0 0 (λ is. omega (arith, is)),
)
slots_at (suc (suc i)) j within = inl (
  All-from_recursion (λ (g : Game). is_meeting (suc (suc i)) j g ≡ false) placed
      (other_meeting (suc (suc i)) j (omega arith), tt),
  get_or-set_other slots 40 (suc (suc i) * 40 + j) 0 0 (λ is. omega (arith, is)),
)

pub are_placed : ArePlaced placed games new_games slots new_slots
are_placed = record { games = games_at; slots = slots_at; long = refl; slots_long = refl }

-- the place of one of the two teams isn't enough; nor are tables that are longer
pub not_placed : (ArePlaced placed games (set games 0 visit) slots new_slots → ⊥)
    × (ArePlaced placed games new_games slots (new_slots ++ 9 ∷ []) → ⊥)
not_placed = (λ are. not_placed_at.0 (are.games 1 0 (lit< tt)), λ are. omega (arith, are.slots_long))
