-- The smallest league: two teams, two slots, one slot in each half. In `fair` team 1 is at home in slot 0 and team 0 in
-- slot 1; in `unfair` team 0 is at home in both.
use Rattle.std.proofs.Common.{◌≡◌, ℕ, List, [], ◌∷◌, true, refl}
use Rattle.league.specs.Capacity.{windows_of}
use Rattle.league.specs.Counts.{Counts, counts_of, slot_count, slots_of, teams_of}
use Rattle.league.specs.Deviation.{vector_of}
use Rattle.league.specs.Meetings.{meetings_of, pairs_of}
use Rattle.league.specs.Structure.{pairs_wrong, cells_wrong, phases_wrong}
use Rattle.league.specs.declared.class.Class.TheVariants.{Br1, Br2, Ca3, Ca4, Fa2, Se1}
use Rattle.league.specs.declared.class.Side.TheVariants.{A, Both, H}
use Rattle.league.specs.declared.class.Span.TheVariants.{Every}
use Rattle.league.proofs.DoubleFour.{game}

abbrev fair : Counts
fair = counts_of (game 1 0 0 ∷ game 0 1 1 ∷ [])

abbrev unfair : Counts
unfair = counts_of (game 0 1 0 ∷ game 0 1 1 ∷ [])

-- both games in the last slot
abbrev late : Counts
late = counts_of (game 0 1 1 ∷ game 1 0 1 ∷ [])

abbrev both : List ℕ
both = 0 ∷ 1 ∷ []

abbrev wrongs : Counts → ℕ × ℕ × ℕ
wrongs m = (pairs_wrong 2 m, cells_wrong 2 m, phases_wrong 2 true m)

pub teams-two : teams_of 2 ≡ both
teams-two = refl

pub slots-two : slots_of 2 ≡ both
slots-two = refl

-- the largest league has 78
pub slots-forty : slot_count 40 ≡ 78
slots-forty = refl

pub meetings-two : meetings_of 2 ≡ (0, 1) ∷ (1, 0) ∷ []
meetings-two = refl

pub pairs-two : pairs_of (teams_of 2) ≡ (0, 1) ∷ []
pairs-two = refl

pub pairs-none : pairs_of [] ≡ []
pairs-none = refl

-- in order of the first team, and then of the second
pub pairs-three : pairs_of (2 ∷ 5 ∷ 9 ∷ []) ≡ (2, 5) ∷ (2, 9) ∷ (5, 9) ∷ []
pairs-three = refl

pub structure-fair : wrongs fair ≡ (0, 0, 0)
structure-fair = refl

-- each cell has one game, and each half too; but 0-1 takes place twice and 1-0 never
pub structure-unfair : wrongs unfair ≡ (2, 0, 0)
structure-unfair = refl

-- each meeting takes place once; but no cell has one game, and nobody meets in slot 0
pub structure-late : wrongs late ≡ (0, 4, 1)
structure-late = refl

pub windows-one_slot : windows_of 2 1 ≡ (0 ∷ []) ∷ (1 ∷ []) ∷ []
windows-one_slot = refl

pub windows-season : windows_of 2 2 ≡ both ∷ []
windows-season = refl

pub windows-too_long : windows_of 2 3 ≡ []
windows-too_long = refl

-- one home game of team 0 in each window of one slot, two in the season; none of team 1
pub ca3-one_slot : vector_of 2 unfair (Ca3 both both 0 0 1 H) ≡ 2 ∷ 0 ∷ []
ca3-one_slot = refl

pub ca3-season : vector_of 2 unfair (Ca3 both both 0 1 2 H) ≡ 1 ∷ 0 ∷ []
ca3-season = refl

-- with one set for both sides a game at home is one away too, and counts once
pub ca4-each_slot : vector_of 2 late (Ca4 both both 0 0 Both Every both) ≡ 0 ∷ 2 ∷ []
ca4-each_slot = refl

pub ca4-each_slot_away : vector_of 2 late (Ca4 both both 0 0 A Every both) ≡ 0 ∷ 2 ∷ []
ca4-each_slot_away = refl

-- the patterns are AH and HA, and then HH and AA
pub br1-fair : vector_of 2 fair (Br1 both 0 Both both) ≡ 0 ∷ 0 ∷ []
br1-fair = refl

pub br1-unfair_home : vector_of 2 unfair (Br1 both 0 H both) ≡ 1 ∷ 0 ∷ []
br1-unfair_home = refl

pub br1-unfair_away : vector_of 2 unfair (Br1 both 0 A both) ≡ 0 ∷ 1 ∷ []
br1-unfair_away = refl

pub br2-unfair : vector_of 2 unfair (Br2 both 1 both) ≡ 1 ∷ []
br2-unfair = refl

-- after slot 0 team 1 has one home game more, and after slot 1 they are even
pub fa2-fair_first : vector_of 2 fair (Fa2 both 0 (0 ∷ [])) ≡ 1 ∷ []
fa2-fair_first = refl

pub fa2-fair_last : vector_of 2 fair (Fa2 both 0 (1 ∷ [])) ≡ 0 ∷ []
fa2-fair_last = refl

-- no slot lies between 0 and 1, and none between two games in slot 1
pub se1-fair : vector_of 2 fair (Se1 both 1) ≡ 1 ∷ []
se1-fair = refl

pub se1-late : vector_of 2 late (Se1 both 1) ≡ 1 ∷ []
se1-late = refl
