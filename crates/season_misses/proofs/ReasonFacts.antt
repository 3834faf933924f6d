-- The reasons of each class on a double round robin of four teams, counted by hand. By slot, home team first: 1-2 and
-- 3-0; 0-1 and 3-2; 1-3 and 2-0; 0-3 and 2-1; 0-2 and 3-1; 1-0 and 2-3.
use Rattle.std.proofs.Common.{◌≡◌, ℕ, List, [], ◌∷◌, refl}
use Rattle.league.specs.declared.class.Class.{Class}
use Rattle.league.specs.declared.class.Class.TheVariants.{Ca1, Ca2, Ca3, Ca4, Ga1, Br1, Br2, Fa2, Se1}
use Rattle.league.specs.declared.class.Side.{Side}
use Rattle.league.specs.declared.class.Side.TheVariants.{H, A, Both}
use Rattle.league.specs.declared.class.Span.TheVariants.{Global, Every}
use Rattle.league.specs.declared.game.Game.{Game}
use Rattle.league.proofs.DoubleFour.{all_slots, all_teams, game}
use Rattle.season_misses.specs.Reasons.{reasons_of}
use Rattle.season_misses.specs.declared.reason.Break.{Break}
use Rattle.season_misses.specs.declared.reason.Cause.{Cause}
use Rattle.season_misses.specs.declared.reason.Cause.TheVariants.{Games, Window, Breaks, Lead, Gap}
use Rattle.season_misses.specs.declared.reason.Reason.{Reason}

abbrev season : List Game
season =
    game 1 2 0 ∷ game 3 0 0 ∷ game 0 1 1 ∷ game 3 2 1 ∷ game 1 3 2 ∷ game 2 0 2 ∷ game 0 3 3 ∷ game 2 1 3
    ∷ game 0 2 4 ∷ game 3 1 4 ∷ game 1 0 5 ∷ game 2 3 5 ∷ []

abbrev found : Class → List Reason
found class = reasons_of 4 season class

abbrev reason : ℕ → ℕ → Cause → Reason
reason key amount cause = record { key = key; amount = amount; cause = cause }

abbrev window : ℕ → List Game → Cause
window first games = Window (record { 0 = first }) games

abbrev broken : ℕ → Side → ℕ → List Game → Break
broken team side slot games = record {
  team = record { 0 = team };
  side = side;
  slot = record { 0 = slot };
  games = games;
}

-- team 0 is away in slot 2, and at home in slot 3
pub ca1-too_many : found (Ca1 (0 ∷ []) 0 0 A (2 ∷ 3 ∷ [])) ≡ reason 0 1 (Games (game 2 0 2 ∷ [])) ∷ []
ca1-too_many = refl

-- in slots 0 to 2 team 0 is at home once, 1 too few, and team 1 twice
pub ca1-too_few : found (Ca1 (0 ∷ 1 ∷ []) 2 3 H (0 ∷ 1 ∷ 2 ∷ [])) ≡ reason 0 1 (Games (game 0 1 1 ∷ [])) ∷ []
ca1-too_few = refl

pub ca1-met : found (Ca1 (1 ∷ []) 2 3 H (0 ∷ 1 ∷ 2 ∷ [])) ≡ []
ca1-met = refl

pub ca2-both_sides : found (Ca2 (0 ∷ []) (1 ∷ 2 ∷ []) 0 1 Both (0 ∷ 1 ∷ 2 ∷ []))
    ≡ reason 0 1 (Games (game 0 1 1 ∷ game 2 0 2 ∷ [])) ∷ []
ca2-both_sides = refl

-- in slots 0 to 2 team 3 is away at team 1 alone
pub ca2-none : found (Ca2 (3 ∷ []) (0 ∷ 2 ∷ []) 1 2 A (0 ∷ 1 ∷ 2 ∷ [])) ≡ reason 0 1 (Games []) ∷ []
ca2-none = refl

-- teams 0, 2 and 3 are at home twice in a row, from slot 3, 2 and 0 on; team 1 isn't
pub ca3-home : found (Ca3 all_teams all_teams 0 1 2 H)
    ≡ reason 0 1 (window 3 (game 0 3 3 ∷ game 0 2 4 ∷ []))
    ∷ reason 2 1 (window 2 (game 2 0 2 ∷ game 2 1 3 ∷ []))
    ∷ reason 3 1 (window 0 (game 3 0 0 ∷ game 3 2 1 ∷ [])) ∷ []
ca3-home = refl

-- teams 0 and 1 meet in slot 1, of the windows from 0 and from 1 on, and in slot 5, of that from 3 on
pub ca3-windows : found (Ca3 (0 ∷ []) (1 ∷ []) 0 0 3 Both)
    ≡ reason 0 1 (window 0 (game 0 1 1 ∷ []))
    ∷ reason 0 1 (window 1 (game 0 1 1 ∷ []))
    ∷ reason 0 1 (window 3 (game 1 0 5 ∷ [])) ∷ []
ca3-windows = refl

-- a window longer than the season isn't one
pub ca3-no_window : found (Ca3 (0 ∷ []) (1 ∷ []) 3 9 7 Both) ≡ []
ca3-no_window = refl

-- in slot 0 both games are between teams 0 and 1 and teams 2 and 3, in slot 5 none is
pub ca4-every : found (Ca4 (0 ∷ 1 ∷ []) (2 ∷ 3 ∷ []) 0 1 Both Every (0 ∷ 5 ∷ []))
    ≡ reason 0 1 (Games (game 1 2 0 ∷ game 3 0 0 ∷ [])) ∷ []
ca4-every = refl

pub ca4-global : found (Ca4 (0 ∷ 1 ∷ []) (2 ∷ 3 ∷ []) 3 9 H Global (0 ∷ 1 ∷ 2 ∷ []))
    ≡ reason 0 1 (Games (game 1 2 0 ∷ game 1 3 2 ∷ [])) ∷ []
ca4-global = refl

pub ga1-too_many : found (Ga1 ((0, 1) ∷ (3, 2) ∷ []) 0 1 (1 ∷ []))
    ≡ reason 0 1 (Games (game 0 1 1 ∷ game 3 2 1 ∷ [])) ∷ []
ga1-too_many = refl

pub ga1-none : found (Ga1 ((0, 1) ∷ (3, 2) ∷ []) 1 2 (2 ∷ [])) ≡ reason 0 1 (Games []) ∷ []
ga1-none = refl

-- team 2 is away in slots 0 and 1, and at home in slots 2 and 3; teams 0 and 1 have one break each
pub br1-two_breaks : found (Br1 (0 ∷ 1 ∷ 2 ∷ []) 1 Both all_slots)
    ≡ reason 2 1 (Breaks (
    broken 2 A 1 (game 1 2 0 ∷ game 3 2 1 ∷ []) ∷ broken 2 H 3 (game 2 0 2 ∷ game 2 1 3 ∷ []) ∷ [])) ∷ []
br1-two_breaks = refl

-- on its side alone
pub br1-home : found (Br1 (2 ∷ []) 0 H all_slots)
    ≡ reason 0 1 (Breaks (broken 2 H 3 (game 2 0 2 ∷ game 2 1 3 ∷ []) ∷ [])) ∷ []
br1-home = refl

-- six breaks of all teams
pub br2-six_breaks : found (Br2 all_teams 5 all_slots)
    ≡ reason 0 1 (Breaks (
    broken 0 H 4 (game 0 3 3 ∷ game 0 2 4 ∷ []) ∷ broken 1 A 4 (game 2 1 3 ∷ game 3 1 4 ∷ [])
    ∷ broken 2 A 1 (game 1 2 0 ∷ game 3 2 1 ∷ []) ∷ broken 2 H 3 (game 2 0 2 ∷ game 2 1 3 ∷ [])
    ∷ broken 3 H 1 (game 3 0 0 ∷ game 3 2 1 ∷ []) ∷ broken 3 A 3 (game 1 3 2 ∷ game 0 3 3 ∷ []) ∷ [])) ∷ []
br2-six_breaks = refl

-- after slot 1 team 3 has played two home games and team 2 none
pub fa2-two_apart : found (Fa2 all_teams 1 all_slots)
    ≡ reason 5 1 (Lead (record { 0 = 1 }) [] (game 3 0 0 ∷ game 3 2 1 ∷ [])) ∷ []
fa2-two_apart = refl

-- teams 0 and 1 are one apart after slot 0, 2 and 4: the first slot is told
pub fa2-first_slot : found (Fa2 (0 ∷ 1 ∷ []) 0 all_slots) ≡ reason 0 1 (Lead (record { 0 = 0 }) [] (game 1 2 0 ∷ [])) ∷ []
fa2-first_slot = refl

-- of the slots from 2 on, slot 2 is told
pub fa2-later_slot : found (Fa2 (0 ∷ 1 ∷ []) 0 (2 ∷ 3 ∷ 4 ∷ []))
    ≡ reason 0 1 (Lead (record { 0 = 2 }) (game 0 1 1 ∷ []) (game 1 2 0 ∷ game 1 3 2 ∷ [])) ∷ []
fa2-later_slot = refl

-- teams 0 and 2, and teams 1 and 3, meet in slots 2 and 4
pub se1-one_between : found (Se1 all_teams 2)
    ≡ reason 1 1 (Gap (game 2 0 2) (game 0 2 4)) ∷ reason 4 1 (Gap (game 1 3 2) (game 3 1 4)) ∷ []
se1-one_between = refl
