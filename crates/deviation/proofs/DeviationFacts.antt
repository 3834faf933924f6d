-- Worked examples of all classes on a schedule that is no round robin, so that a wrong definition does not check. The
-- reasoning stands beside each: it was done by hand from the table in docs/DEFINITIONS.md.
use Rattle.std.proofs.Common.{◌≡◌, ℕ, true, false, List, [], ◌∷◌, refl, arith}
use Rattle.league.specs.Accepted.{infeasibility, objective, IsAccepted}
use Rattle.league.specs.Counts.{Counts, counts_of}
use Rattle.league.specs.Deviation.{vector_of}
use Rattle.league.specs.Instance.{Instance}
use Rattle.league.specs.Structure.{cells_wrong, pairs_wrong, phases_wrong}
use Rattle.league.specs.declared.class.Class.{Class}
use Rattle.league.specs.declared.class.Class.TheVariants.{Ca1, Ca2, Ca3, Ca4, Ga1, Br1, Br2, Fa2, Se1}
use Rattle.league.specs.declared.class.Side.TheVariants.{H, A, Both}
use Rattle.league.specs.declared.class.Span.TheVariants.{Global, Every}
use Rattle.league.proofs.AcceptedLemmas.{sum-from_MeetsHard}
use Rattle.league.proofs.DoubleFour.{all_slots, all_teams, four, game}

-- Four teams; team 0 is in every game: twice at home to 1 in slot 0, where it also plays away, and twice in slots 1
-- and 5. By slot it has 2 1 0 1 0 1 home games and 1 1 1 0 0 1 away games; team 1 is at home in slot 2 alone, team 3
-- in slots 0 and 5.
abbrev uneven : Counts
uneven = counts_of (game 0 1 0 ∷ game 0 1 0 ∷ game 3 0 0 ∷ game 2 0 1 ∷ game 0 3 1 ∷ game 1 0 2 ∷ game 0 2 3 ∷ game 3 0 5 ∷ game 0 1 5 ∷ [])

abbrev entries : Class → List ℕ
entries class = vector_of 4 uneven class

-- of 12 meetings, 0 at home to 2 and to 3, 1 to 0 and 2 to 0 stand once
pub structure-pairs : pairs_wrong 4 uneven ≡ 8
structure-pairs = refl

-- of six slots, the teams have one game in 2, 2, 2 and 3
pub structure-cells : cells_wrong 4 uneven ≡ 15
structure-cells = refl

-- in slots 0 to 2 only teams 0 and 2 meet once
pub structure-phases : phases_wrong 4 true uneven ≡ 5
structure-phases = refl

-- in slots 0, 1 and 5 team 0 has 2 + 1 + 1 home games, 3 beyond 1, and team 1 has none
pub ca1-home : entries (Ca1 (0 ∷ 1 ∷ []) 0 1 H (0 ∷ 1 ∷ 5 ∷ [])) ≡ 3 ∷ 0 ∷ []
ca1-home = refl

-- team 0 is away once in each of them, team 1 twice in slot 0 and once in slot 5
pub ca1-away : entries (Ca1 (0 ∷ 1 ∷ []) 0 1 A (0 ∷ 1 ∷ 5 ∷ [])) ≡ 2 ∷ 2 ∷ []
ca1-away = refl

-- in slots 0 to 2, team 0 has two games and one with 1 and one with 2, and those with 3 don't count; team 2 has one
-- with 0
pub ca2-both : entries (Ca2 (0 ∷ 2 ∷ []) (0 ∷ 1 ∷ 2 ∷ []) 0 1 Both (0 ∷ 1 ∷ 2 ∷ [])) ≡ 3 ∷ 0 ∷ []
ca2-both = refl

-- team 0 is away to 2 in slot 1 and to 1 in slot 2
pub ca2-away : entries (Ca2 (0 ∷ 2 ∷ []) (0 ∷ 1 ∷ 2 ∷ []) 0 1 A (0 ∷ 1 ∷ 2 ∷ [])) ≡ 1 ∷ 0 ∷ []
ca2-away = refl

-- the slots 0 to 4 have 4 home games of team 0, 2 beyond 2, and the slots 1 to 5 have 3, 1 beyond: both windows count
pub ca3-two_windows : entries (Ca3 (0 ∷ []) (1 ∷ 2 ∷ 3 ∷ []) 0 2 5 H) ≡ 3 ∷ []
ca3-two_windows = refl

-- windows of two slots overlap: they have 3 1 1 1 1 home games
pub ca3-overlapping : entries (Ca3 (0 ∷ []) (1 ∷ 2 ∷ 3 ∷ []) 0 0 2 H) ≡ 7 ∷ []
ca3-overlapping = refl

-- at home 0 or 3, away 0 or 1: in slot 0 three games, in slot 1 none, in slot 5 two
pub ca4-home : entries (Ca4 (0 ∷ 3 ∷ []) (0 ∷ 1 ∷ []) 0 1 H Global (0 ∷ 1 ∷ 5 ∷ [])) ≡ 4 ∷ []
ca4-home = refl

-- away 0 or 3, at home 0 or 1: 3 at 0 in slot 1
pub ca4-away : entries (Ca4 (0 ∷ 3 ∷ []) (0 ∷ 1 ∷ []) 0 0 A Global (0 ∷ 1 ∷ 5 ∷ [])) ≡ 1 ∷ []
ca4-away = refl

pub ca4-both_every : entries (Ca4 (0 ∷ 3 ∷ []) (0 ∷ 1 ∷ []) 0 0 Both Every (0 ∷ 1 ∷ 5 ∷ [])) ≡ 3 ∷ 1 ∷ 2 ∷ []
ca4-both_every = refl

-- 1 at 0 twice and 0 at 1 once: each is of both sets with both, and counts once
pub ca4-within_one_set : entries (Ca4 (0 ∷ 1 ∷ []) (0 ∷ 1 ∷ []) 0 0 Both Global (0 ∷ 2 ∷ [])) ≡ 3 ∷ []
ca4-within_one_set = refl

-- 1 at 0 has 2 + 1 games and 0 at 3 has 1 + 1
pub ga1-above : entries (Ga1 ((0, 1) ∷ (3, 0) ∷ []) 1 3 (0 ∷ 5 ∷ [])) ≡ 2 ∷ []
ga1-above = refl

-- team 0 has one home break, at slot 1, however many home games it has there and before, and away breaks at slots 1
-- and 2
pub br1-home : entries (Br1 (0 ∷ []) 0 H all_slots) ≡ 1 ∷ []
br1-home = refl

pub br1-away : entries (Br1 (0 ∷ []) 0 A all_slots) ≡ 2 ∷ []
br1-away = refl

pub br1-two_at_one_slot : entries (Br1 (0 ∷ 1 ∷ []) 0 Both (1 ∷ [])) ≡ 2 ∷ 0 ∷ []
br1-two_at_one_slot = refl

-- no other team has a break
pub br2-all : entries (Br2 all_teams 1 all_slots) ≡ 2 ∷ []
br2-all = refl

-- after slots 1 and 2 the teams 0, 1 and 3 have played 3 0 1 and 3 1 1 home games: the differences are 3 2 1 and 2 2 0
pub fa2-largest : entries (Fa2 (0 ∷ 1 ∷ 3 ∷ []) 1 (1 ∷ 2 ∷ [])) ≡ 2 ∷ 1 ∷ 0 ∷ []
fa2-largest = refl

-- the teams 0 and 1 meet in slots 0, 0, 2 and 5, with 0, 1 and 2 slots between: 2 + 1 + 0 are lacking
pub se1-neighbours : entries (Se1 (0 ∷ 1 ∷ []) 2) ≡ 3 ∷ []
se1-neighbours = refl

-- hard: 3 at 3 each, and 2 at 0 each; soft: 2 + 1 at 5 each, and 3 + 1 + 2 at 2 each
abbrev demands : Instance
demands = record {
  n = 4;
  phased = true;
  constraints =
      record { hard = true; penalty = 3; class = Ca1 (0 ∷ 1 ∷ []) 0 1 H (0 ∷ 1 ∷ 5 ∷ []) }
      ∷ record { hard = false; penalty = 5; class = Fa2 (0 ∷ 1 ∷ 3 ∷ []) 1 (1 ∷ 2 ∷ []) }
      ∷ record { hard = true; penalty = 0; class = Br2 all_teams 1 all_slots }
      ∷ record { hard = false; penalty = 2; class = Ca4 (0 ∷ 3 ∷ []) (0 ∷ 1 ∷ []) 0 0 Both Every (0 ∷ 1 ∷ 5 ∷ []) }
      ∷ [];
}

pub infeasibility-uneven : infeasibility demands uneven ≡ 9
infeasibility-uneven = refl

pub objective-uneven : objective demands uneven ≡ 27
objective-uneven = refl

-- a round robin with six breaks, one more than a hard constraint of penalty 0 allows: it costs nothing, and isn't
-- accepted
abbrev strict : Instance
strict = record { n = 4; phased = true; constraints = record { hard = true; penalty = 0; class = Br2 all_teams 5 all_slots } ∷ [] }

pub infeasibility-penalty_0 : infeasibility strict four ≡ 0
infeasibility-penalty_0 = refl

pub refused-penalty_0 : IsAccepted strict four → ⊥
refused-penalty_0 accepted = let none : 1 ≡ 0 = sum-from_MeetsHard strict four accepted.hard in absurd (omega (arith, none))
