-- The lines of each class in a league of four teams, worked by hand.
use Rattle.std.proofs.Common.{◌≡◌, ℕ, List, [], ◌∷◌, codes, refl}
use Rattle.std.specs.Fmt.{digits}
use Rattle.league.specs.declared.class.Class.TheVariants.{Ca1, Ca2, Ca3, Ca4, Ga1, Br1, Br2, Fa2, Se1}
use Rattle.league.specs.declared.class.Side.{Side}
use Rattle.league.specs.declared.class.Side.TheVariants.{H, A, Both}
use Rattle.league.specs.declared.class.Span.TheVariants.{Global, Every}
use Rattle.league.specs.declared.game.Game.{Game}
use Rattle.league.proofs.DoubleFour.{all_slots, all_teams}
use Rattle.season_misses.specs.declared.reason.Break.{Break}
use Rattle.season_misses.specs.declared.reason.Cause.{Cause}
use Rattle.season_misses.specs.declared.reason.Cause.TheVariants.{Games, Window, Breaks, Lead, Gap}
use Rattle.season_misses.specs.declared.reason.Reason.{Reason}
use Rattle.season_misses.specs.Amounts.{beyond_text, stretch_text, there_text, windows_text}
use Rattle.season_misses.specs.Games.{games_after, games_text}
use Rattle.season_misses.specs.Lines.{breaks_by_team, line_of}
use Rattle.season_misses.specs.Rows.{Row, rows_from, rows_of}

abbrev pub names : List (List ℕ)
names = codes "Ajax" ∷ codes "Brug" ∷ codes "Club" ∷ codes "Dam" ∷ []

abbrev pub game : ℕ → ℕ → ℕ → Game
game i j s = record { home = record { 0 = i }; away = record { 0 = j }; slot = record { 0 = s } }

abbrev reason : ℕ → ℕ → Cause → Reason
reason key amount cause = record { key = key; amount = amount; cause = cause }

abbrev row : ℕ → ℕ → Cause → Row
row key amount cause = record { reason = reason key amount cause; more = 0 }

abbrev window : ℕ → List Game → Cause
window first games = Window (record { 0 = first }) games

abbrev break_at : ℕ → Side → ℕ → List Game → Break
break_at team side slot games = record { team = record { 0 = team }; side = side; slot = record { 0 = slot }; games = games }

pub games-some : (games_text names [] ≡ []) × (games_after names [] ≡ []) × (games_after names (game 0 1 0 ∷ game 3 2 12 ∷ []) ≡ codes ": Ajax - Brug (0), Dam - Club (12)")
unfolding digits
games-some = (refl, refl, refl)

-- where low is above high the larger of both counts, and of equal ones too few
pub beyond-some : (beyond_text 1 2 0 ≡ codes "1 too few") × (beyond_text 0 2 5 ≡ codes "3 too many") × (beyond_text 3 1 2 ≡ codes "1 too few") × (beyond_text 3 1 3 ≡ codes "2 too many")
unfolding digits
beyond-some = (refl, refl, refl, refl)

pub there-some : (there_text 0 ≡ codes "there is none") × (there_text 1 ≡ codes "there is 1") × (there_text 2 ≡ codes "there are 2")
unfolding digits
there-some = (refl, refl, refl)

pub stretch-some : (stretch_text 4 0 6 ≡ codes "the whole season") × (stretch_text 4 3 1 ≡ codes "slot 3") × (stretch_text 4 3 2 ≡ codes "slots 3 and 4") × (stretch_text 4 2 3 ≡ codes "slots 2 to 4")
unfolding digits
stretch-some = (refl, refl, refl, refl)

pub windows-some : (windows_text 0 3 ≡ []) × (windows_text 1 3 ≡ codes " in each of 2 runs of 3 slots") × (windows_text 2 1 ≡ codes " in each of 3 runs of 1 slot")
unfolding digits
windows-some = (refl, refl, refl)

-- windows from slots 0 and 1 hold the same game, that from slot 3 doesn't follow, and another team's begins anew
abbrev one : Cause
one = window 0 (game 0 1 1 ∷ [])

abbrev next : Cause
next = window 1 (game 0 1 1 ∷ [])

abbrev apart : Cause
apart = window 3 (game 0 1 1 ∷ [])

pub rows-some : rows_of (reason 0 1 one ∷ reason 0 1 next ∷ reason 0 1 apart ∷ reason 1 1 one ∷ []) ≡ record { reason = reason 0 1 one; more = 1 } ∷ row 0 1 apart ∷ row 1 1 one ∷ []
unfolding rows_from
rows-some = refl

pub rows-others : rows_of (reason 0 1 one ∷ reason 1 1 next ∷ reason 1 1 (window 2 (game 0 1 2 ∷ [])) ∷ []) ≡ row 0 1 one ∷ row 1 1 next ∷ row 1 1 (window 2 (game 0 1 2 ∷ [])) ∷ []
unfolding rows_from
rows-others = refl

pub ca1-line : line_of 4 names (Ca1 (0 ∷ []) 0 0 A (2 ∷ 3 ∷ [])) (row 0 1 (Games (game 2 0 2 ∷ []))) ≡ codes "Ajax has 1, 1 too many: Club - Ajax (2)"
unfolding digits
ca1-line = refl

pub ca2-line : line_of 4 names (Ca2 (0 ∷ 3 ∷ []) (0 ∷ 2 ∷ []) 1 2 A (0 ∷ 1 ∷ 2 ∷ [])) (row 1 1 (Games [])) ≡ codes "Dam has none, 1 too few"
unfolding digits
ca2-line = refl

pub ca3-line : line_of 4 names (Ca3 (0 ∷ []) (1 ∷ []) 0 0 3 Both) (record { reason = reason 0 1 one; more = 1 }) ≡ codes "Ajax has 1 in slots 0 to 3, 1 too many in each of 2 runs of 3 slots: Ajax - Brug (1)"
unfolding digits
ca3-line = refl

pub ca3-alone : line_of 4 names (Ca3 (2 ∷ []) all_teams 1 3 2 H) (row 0 1 (window 0 [])) ≡ codes "Club has none in slots 0 and 1, 1 too few"
unfolding digits
ca3-alone = refl

pub ca4-lines : (line_of 4 names (Ca4 (0 ∷ 1 ∷ []) (2 ∷ 3 ∷ []) 0 1 Both Every (0 ∷ 5 ∷ [])) (row 0 1 (Games (game 1 2 0 ∷ game 3 0 0 ∷ []))) ≡ codes "there are 2 in slot 0, 1 too many: Brug - Club (0), Dam - Ajax (0)")
    × (line_of 4 names (Ca4 (0 ∷ 1 ∷ []) (2 ∷ 3 ∷ []) 3 9 H Global (0 ∷ 1 ∷ 2 ∷ [])) (row 0 1 (Games (game 1 2 0 ∷ game 1 3 2 ∷ []))) ≡ codes "there are 2, 1 too few: Brug - Club (0), Brug - Dam (2)")
unfolding digits
ca4-lines = (refl, refl)

pub ga1-line : line_of 4 names (Ga1 ((0, 1) ∷ []) 1 2 (2 ∷ [])) (row 0 1 (Games [])) ≡ codes "there is none, 1 too few"
unfolding digits
ga1-line = refl

abbrev breaks : List Break
breaks = break_at 2 A 1 (game 1 2 0 ∷ game 3 2 1 ∷ []) ∷ break_at 2 H 3 (game 2 0 2 ∷ game 2 1 3 ∷ []) ∷ break_at 3 H 1 [] ∷ []

pub br1-line : line_of 4 names (Br1 (0 ∷ 2 ∷ []) 2 Both all_slots) (row 1 1 (Breaks breaks)) ≡ codes "Club has 3, 1 too many: away Brug - Club (0), Dam - Club (1); at home Club - Ajax (2), Club - Brug (3); at home "
unfolding digits
br1-line = refl

pub br2-lines : (line_of 4 names (Br2 all_teams 1 all_slots) (row 0 2 (Breaks breaks)) ≡ codes "there are 3, 2 too many")
    × (breaks_by_team names breaks all_teams ≡ codes "Club away (1), at home (3)" ∷ codes "Dam at home (1)" ∷ [])
unfolding digits
br2-lines = (refl, refl)

-- the third pair of four teams is 0 and 3, and the last 2 and 3, of which team 3 has more home games
pub fa2-lines : (line_of 4 names (Fa2 all_teams 1 all_slots) (row 5 1 (Lead (record { 0 = 1 }) [] (game 3 0 0 ∷ game 3 2 1 ∷ []))) ≡ codes "after slot 1 Dam has 2 home games and Club none, 2 apart, 1 too many: Dam in 0 and 1")
    × (line_of 4 names (Fa2 all_teams 0 all_slots) (row 2 1 (Lead (record { 0 = 2 }) (game 0 1 0 ∷ game 0 2 2 ∷ []) (game 3 2 1 ∷ []))) ≡ codes "after slot 2 Ajax has 2 home games and Dam 1, 1 apart, 1 too many: Ajax in 0 and 2; Dam in 1")
unfolding digits
fa2-lines = (refl, refl)

pub se1-line : line_of 4 names (Se1 all_teams 2) (row 1 1 (Gap (game 2 0 2) (game 0 2 4))) ≡ codes "Ajax and Club meet in slots 2 and 4, 1 slot between, 1 too few: Club - Ajax (2), Ajax - Club (4)"
unfolding digits
se1-line = refl
