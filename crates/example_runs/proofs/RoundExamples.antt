-- A league of two teams as a table, what moves change of it, and the least closed set of three numbers.
use Rattle.std.proofs.Common.{◌≡◌, ◌≢◌, ℕ, zero, suc, ◌<◌, ◌≤◌, Bool, true, false, List, [], ◌∷◌, ◌++◌}
use Rattle.std.proofs.Common.{replicate, refl, arith, lit<, lit≤}
use Rattle.league.specs.Counts.{Counts, counts_of}
use Rattle.league.specs.Instance.{IsGame}
use Rattle.league.specs.declared.game.Game.{Game}
use Rattle.moves.specs.Closure.{IsLeastClosed}
use Rattle.moves.specs.Moves.{IsLegal, game}
use Rattle.moves.specs.Neighbours.{home_swap}
use Rattle.moves.specs.Places.{IsGameOf, IsRound, IsSlotTable, IsTable, slot_entry}
use Rattle.moves.specs.Round.{Edits, IsEdit, Round, entry, round_counts}
use Rattle.moves.specs.Undo.{IsUndone}
use Rattle.moves.proofs.UndoLaw.{legal_moves-undo}

true_false : true ≡ false → ⊥
true_false is = cc

false_true : false ≡ true → ⊥
false_true is = cc

-- ---- numbers below 3: 0 leads to 2, and 1 to 0, so that what 0 leads to is 0 and 2

abbrev leads : ℕ → ℕ → Bool
leads zero zero = false
leads zero (suc zero) = false
leads zero (suc (suc zero)) = true
leads zero (suc (suc (suc b))) = false
leads (suc zero) zero = true
leads (suc zero) (suc b) = false
leads (suc (suc a)) b = false

abbrev zero_two : ℕ → Bool
zero_two zero = true
zero_two (suc zero) = false
zero_two (suc (suc zero)) = true
zero_two (suc (suc (suc a))) = false

abbrev all_numbers : ℕ → Bool
all_numbers a = true

zero_two-closed : (a b : ℕ) → b < 3 → zero_two a ≡ true → leads a b ≡ true → zero_two b ≡ true
zero_two-closed zero zero below is next = refl
zero_two-closed zero (suc zero) below is next = absurd (false_true next)
zero_two-closed zero (suc (suc zero)) below is next = refl
zero_two-closed zero (suc (suc (suc b))) below is next = absurd (false_true next)
zero_two-closed (suc zero) b below is next = absurd (false_true is)
zero_two-closed (suc (suc a)) b below is next = absurd (false_true next)

zero_two-least : (other : ℕ → Bool) → other 0 ≡ true
    → ((a b : ℕ) → b < 3 → other a ≡ true → leads a b ≡ true → other b ≡ true)
    → (a : ℕ) → zero_two a ≡ true → other a ≡ true
zero_two-least other start closed zero is = start
zero_two-least other start closed (suc zero) is = absurd (false_true is)
zero_two-least other start closed (suc (suc zero)) is = closed 0 2 (lit< tt) start refl
zero_two-least other start closed (suc (suc (suc a))) is = absurd (false_true is)

pub least_closed : IsLeastClosed leads 3 0 zero_two
least_closed = record { start = refl; closed = zero_two-closed; least = zero_two-least }

-- with the bound 2 the step to 2 doesn't count, and 0 is alone
abbrev zero_alone : ℕ → Bool
zero_alone zero = true
zero_alone (suc a) = false

alone_below : (a b : ℕ) → b < 2 → zero_alone a ≡ true → leads a b ≡ true → zero_alone b ≡ true
alone_below zero zero below is next = refl
alone_below zero (suc zero) below is next = absurd (false_true next)
alone_below zero (suc (suc b)) below is next = absurd (omega (arith, below))
alone_below (suc a) b below is next = absurd (false_true is)

alone_least : (other : ℕ → Bool) → other 0 ≡ true
    → ((a b : ℕ) → b < 2 → other a ≡ true → leads a b ≡ true → other b ≡ true)
    → (a : ℕ) → zero_alone a ≡ true → other a ≡ true
alone_least other start closed zero is = start
alone_least other start closed (suc a) is = absurd (false_true is)

pub least_closed-two : IsLeastClosed leads 2 0 zero_alone
least_closed-two = record { start = refl; closed = alone_below; least = alone_least }

-- below 3 it isn't closed, and all numbers aren't the least set; below 2 the set with 2 isn't; and 1 isn't in the set
pub not_least_closed : (IsLeastClosed leads 3 0 zero_alone → ⊥) × (IsLeastClosed leads 3 0 all_numbers → ⊥)
    × (IsLeastClosed leads 2 0 zero_two → ⊥) × (IsLeastClosed leads 3 1 zero_two → ⊥)
not_least_closed = (
  λ is. false_true (is.closed 0 2 (lit< tt) refl refl),
  λ is. false_true (is.least zero_two refl zero_two-closed 1 refl),
  λ is. false_true (is.least zero_alone refl alone_below 2 refl),
  λ is. false_true is.start,
)

-- ---- an edit: the game of slot 0 is turned, and the other stays

abbrev before : List Game
before = game 0 1 0 ∷ game 1 0 1 ∷ []

abbrev turned : List Game
turned = game 1 0 1 ∷ game 1 0 0 ∷ []

abbrev edit : Edits
edit = record { n = 2; out = game 0 1 0 ∷ []; into = game 1 0 0 ∷ [] }

pub is_edit : IsEdit (counts_of before) (counts_of turned) edit
is_edit = record { there = λ i j s. omega arith; moves = λ i j s. omega arith }

-- a game can't be taken out that isn't there, though the counts would come right; nor twice; and what is put in counts
pub no_edits : (IsEdit (counts_of before) (counts_of before)
    (record { n = 2; out = game 1 0 0 ∷ []; into = game 1 0 0 ∷ [] }) → ⊥)
    × (IsEdit (counts_of before) (counts_of before)
    (record { n = 2; out = game 0 1 0 ∷ game 0 1 0 ∷ []; into = game 0 1 0 ∷ game 0 1 0 ∷ [] }) → ⊥)
    × (IsEdit (counts_of before) (counts_of before) edit → ⊥)
no_edits = (
  λ is. let less : 1 ≤ 0 = is.there 1 0 0 in omega (arith, less),
  λ is. let less : 2 ≤ 1 = is.there 0 1 0 in omega (arith, less),
  λ is. let same : ◌≡◌ {A = ℕ} 0 1 = is.moves 1 0 0 in omega (arith, same),
)

-- ---- a move that undoes itself: the venues of 0 and 1

abbrev home_away : Counts
home_away = counts_of before

pub swap-legal : IsLegal 2 true home_away (home_swap (0, 1))
swap-legal = record { own = lit< tt; round_robin = record { pairs = refl; cells = refl; phases = refl } }

pub swap-undone : IsUndone 2 true home_away (home_swap (0, 1))
swap-undone =
    legal_moves-undo 2 true home_away (home_swap (0, 1)) (record { pairs = refl; cells = refl; phases = refl })
    (lit< tt, lit< tt) swap-legal

-- where nothing is played no move of it is undone, since none is legal
pub empty-not_undone : IsUndone 2 true (counts_of []) (home_swap (0, 1)) → ⊥
empty-not_undone is = let none : ◌≡◌ {A = ℕ} 2 0 = is.legal.round_robin.pairs in omega (arith, none)

-- ---- games of a team in a slot

zero_one : ◌≡◌ {A = ℕ} 0 1 → ⊥
zero_one is = omega (arith, is)

one_zero : ◌≡◌ {A = ℕ} 1 0 → ⊥
one_zero is = omega (arith, is)

fits_there : IsGame 2 (game 0 1 0)
fits_there = record { home = lit< tt; away = lit< tt; differ = zero_one; slot = lit< tt }

fits_back : IsGame 2 (game 1 0 1)
fits_back = record { home = lit< tt; away = lit< tt; differ = one_zero; slot = lit< tt }

-- a game is one of its home team and of its away team
pub games_of : IsGameOf 2 home_away 0 0 (game 0 1 0) × IsGameOf 2 home_away 1 0 (game 0 1 0)
games_of = (
  record { fits = fits_there; of = refl; there = lit≤ tt },
  record { fits = fits_there; of = refl; there = lit≤ tt },
)

-- a game of slot 0 isn't one of slot 1; one that isn't played is none; nor is one of a slot that there isn't, though it
-- were played
pub no_games_of : (IsGameOf 2 home_away 0 1 (game 0 1 0) → ⊥) × (IsGameOf 2 home_away 0 0 (game 1 0 0) → ⊥)
    × (IsGameOf 2 (counts_of (game 0 1 2 ∷ [])) 0 2 (game 0 1 2) → ⊥)
no_games_of = (
  λ is. false_true is.of,
  λ is. let less : 1 ≤ 0 = is.there in omega (arith, less),
  λ is. omega (arith, is.fits.slot),
)

-- ---- the table: 78 places for each of 40 teams, of which those of two teams and two slots say something

abbrev table : List Game
table = game 0 1 0 ∷ game 1 0 1 ∷ (replicate 76 (game 5 5 5) ++ game 0 1 0 ∷ game 1 0 1 ∷ replicate 3040 (game 7 7 7))

table_at : (i s : ℕ) → i < 2 → s < 2 → IsGameOf 2 home_away i s (entry table i s)
table_at zero zero team slot = record { fits = fits_there; of = refl; there = lit≤ tt }
table_at zero (suc zero) team slot = record { fits = fits_back; of = refl; there = lit≤ tt }
table_at (suc zero) zero team slot = record { fits = fits_there; of = refl; there = lit≤ tt }
table_at (suc zero) (suc zero) team slot = record { fits = fits_back; of = refl; there = lit≤ tt }
table_at zero (suc (suc s)) team slot = absurd (omega (arith, slot))
table_at (suc zero) (suc (suc s)) team slot = absurd (omega (arith, slot))
table_at (suc (suc i)) s team slot = absurd (omega (arith, team))

pub is_table : IsTable 2 home_away table
is_table = record { long = refl; at = table_at }

-- the counts of the table are those of its home teams' games
abbrev round : Round
round = record { n = 2; phased = true; games = table }

round_at : (i s : ℕ) → i < 2 → s < 2 → IsGameOf 2 (round_counts round) i s (entry table i s)
round_at zero zero team slot = record { fits = fits_there; of = refl; there = lit≤ tt }
round_at zero (suc zero) team slot = record { fits = fits_back; of = refl; there = lit≤ tt }
round_at (suc zero) zero team slot = record { fits = fits_there; of = refl; there = lit≤ tt }
round_at (suc zero) (suc zero) team slot = record { fits = fits_back; of = refl; there = lit≤ tt }
round_at zero (suc (suc s)) team slot = absurd (omega (arith, slot))
round_at (suc zero) (suc (suc s)) team slot = absurd (omega (arith, slot))
round_at (suc (suc i)) s team slot = absurd (omega (arith, team))

pub is_round : IsRound round
is_round = record {
  teams = record { even = refl; at_least = lit≤ tt; at_most = lit≤ tt };
  table = record { long = refl; at = round_at };
  round_robin = record { pairs = refl; cells = refl; phases = refl };
}

-- of no teams there is no round; and where slot 1 holds the game of slot 0 it isn't one
pub no_round : (IsRound (record { n = 0; phased = false; games = table }) → ⊥)
    × (IsRound (record { n = 2; phased = false; games = replicate 3120 (game 0 1 0) }) → ⊥)
no_round = (λ is. omega (arith, is.teams.at_least), λ is. false_true (is.table.at 0 1 (lit< tt) (lit< tt)).of)

-- a table that is too short, and one with the games of team 1 in each other's places
pub no_table : (IsTable 2 home_away before → ⊥)
    × (IsTable 2 home_away
    (game 0 1 0 ∷ game 1 0 1 ∷ (replicate 76 (game 5 5 5) ++ game 1 0 1 ∷ game 0 1 0 ∷ replicate 3040 (game 7 7 7)))
    → ⊥)
no_table = (λ is. omega (arith, is.long), λ is. false_true (is.at 1 0 (lit< tt) (lit< tt)).of)

-- ---- the slots of the meetings: 40 places for each home team

abbrev slots : List ℕ
slots = 9 ∷ 0 ∷ (replicate 38 9 ++ 1 ∷ replicate 1559 9)

slots_below : (i j : ℕ) → i < 2 → j < 2 → i ≢ j → slot_entry slots i j < 2
slots_below zero zero home away differ = absurd (differ refl)
slots_below zero (suc zero) home away differ = lit< tt
slots_below zero (suc (suc j)) home away differ = absurd (omega (arith, away))
slots_below (suc zero) zero home away differ = lit< tt
slots_below (suc zero) (suc zero) home away differ = absurd (differ refl)
slots_below (suc zero) (suc (suc j)) home away differ = absurd (omega (arith, away))
slots_below (suc (suc i)) j home away differ = absurd (omega (arith, home))

slots_there : (i j : ℕ) → i < 2 → j < 2 → i ≢ j → 1 ≤ home_away i j (slot_entry slots i j)
slots_there zero zero home away differ = absurd (differ refl)
slots_there zero (suc zero) home away differ = lit≤ tt
slots_there zero (suc (suc j)) home away differ = absurd (omega (arith, away))
slots_there (suc zero) zero home away differ = lit≤ tt
slots_there (suc zero) (suc zero) home away differ = absurd (differ refl)
slots_there (suc zero) (suc (suc j)) home away differ = absurd (omega (arith, away))
slots_there (suc (suc i)) j home away differ = absurd (omega (arith, home))

pub is_slot_table : IsSlotTable 2 home_away slots
is_slot_table = record { long = refl; below = slots_below; there = slots_there }

-- the game of 0 at home to 1 isn't in slot 1; there is no slot 2, though the game were played there; and the table is
-- as long whatever the league
pub no_slot_table : (IsSlotTable 2 home_away (9 ∷ 1 ∷ (replicate 38 9 ++ 1 ∷ replicate 1559 9)) → ⊥)
    × (IsSlotTable 2 (counts_of (game 0 1 2 ∷ game 1 0 1 ∷ [])) (9 ∷ 2 ∷ (replicate 38 9 ++ 1 ∷ replicate 1559 9)) → ⊥)
    × (IsSlotTable 2 home_away (9 ∷ 0 ∷ (replicate 38 9 ++ 1 ∷ [])) → ⊥)
no_slot_table = (
  λ is. let less : 1 ≤ 0 = is.there 0 1 (lit< tt) (lit< tt) zero_one in omega (arith, less),
  λ is. let less : 2 < 2 = is.below 0 1 (lit< tt) (lit< tt) zero_one in omega (arith, less),
  λ is. omega (arith, is.long),
)
