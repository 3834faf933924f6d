-- What whole files say, so that a wrong definition does not check.
use Rattle.std.proofs.Common.{◌≡◌, ℕ, true, false, List, [], ◌∷◌, ◌++◌, take, refl}
use Rattle.std.specs.Prelude.{Ok, Err, codes}
use Rattle.robinx.specs.Tags.{attributes_at}
use Rattle.robinx.specs.Pieces.{pieces, pieces_from}
use Rattle.robinx.specs.declared.tag_fault.FormKind.TheVariants.{Truncated, WrongCounts, UnsupportedClass, UnknownSlot, SameTeam}
use Rattle.robinx.specs.Walk.{walk}
use Rattle.robinx.specs.InstanceFile.{instance_of}
use Rattle.robinx.specs.SolutionFile.{solution_of}
use Rattle.robinx.proofs.FileTexts.{text, replaced, league_lines, season_lines, i4, f4, c4, single_quotes}
use Rattle.league.specs.Instance.{Instance}
use Rattle.league.specs.declared.game.Game.{Game}
use Rattle.league.specs.declared.class.Class.TheVariants.{Ca1, Fa2, Se1}
use Rattle.league.specs.declared.class.Side.TheVariants.{H}

abbrev league : Instance
league = record { n = 4; phased = true; constraints = [] }

pub instance_of-i4 : instance_of (pieces i4) ≡ Ok league
unfolding attributes_at pieces_from walk
instance_of-i4 = refl

pub instance_of-single_quotes : instance_of (pieces (239 ∷ 187 ∷ 191 ∷ single_quotes)) ≡ Ok league
unfolding attributes_at pieces_from walk
instance_of-single_quotes = refl

abbrev all_teams : List ℕ
all_teams = 0 ∷ 1 ∷ 2 ∷ 3 ∷ []

abbrev all_slots : List ℕ
all_slots = 0 ∷ 1 ∷ 2 ∷ 3 ∷ 4 ∷ 5 ∷ []

pub instance_of-f4 : instance_of (pieces f4) ≡ Ok (record {
  n = 4;
  phased = true;
  constraints =
      record { hard = false; penalty = 10; class = Ca1 (0 ∷ []) 0 0 H (2 ∷ 3 ∷ []) }
      ∷ record { hard = false; penalty = 10; class = Fa2 all_teams 1 all_slots }
      ∷ record { hard = true; penalty = 10; class = Se1 all_teams 2 }
      ∷ [];
})
unfolding attributes_at pieces_from walk
instance_of-f4 = refl

pub instance_of-empty : instance_of (pieces []) ≡ Err (Truncated, 1)
unfolding attributes_at pieces_from walk
instance_of-empty = refl

-- cut within the tag of line 14, and behind line 20
pub instance_of-cut_in_tag : instance_of (pieces (text (take 13 league_lines) ++ codes "<team id=\"2")) ≡ Err (Truncated, 14)
unfolding attributes_at pieces_from walk
instance_of-cut_in_tag = refl

pub instance_of-cut_after_20 : instance_of (pieces (text (take 20 league_lines))) ≡ Err (Truncated, 21)
unfolding attributes_at pieces_from walk
instance_of-cut_after_20 = refl

-- without the line of a team
pub instance_of-three_teams : instance_of (pieces (text (replaced league_lines 15 1 []))) ≡ Err (WrongCounts, 24)
unfolding attributes_at pieces_from walk
instance_of-three_teams = refl

-- a class that is none of the nine
pub instance_of-other_class : instance_of (pieces (text (replaced league_lines 27 0 ("<BreakConstraints>" ∷ "<BR3 intp=\"1\"/>" ∷ "</BreakConstraints>" ∷ [])))) ≡ Err (UnsupportedClass, 28)
unfolding attributes_at pieces_from walk
instance_of-other_class = refl

-- a lower bound on a capacity class
pub instance_of-min_one : instance_of (pieces (text (replaced league_lines 27 0 ("<CapacityConstraints>" ∷ "<CA1 teams=\"0\" min=\"1\" max=\"1\" mode=\"H\" slots=\"2;3\" type=\"HARD\"/>" ∷ "</CapacityConstraints>" ∷ []))))
    ≡ Ok (record { n = 4; phased = true; constraints = record { hard = true; penalty = 1; class = Ca1 (0 ∷ []) 1 1 H (2 ∷ 3 ∷ []) } ∷ [] })
unfolding attributes_at pieces_from walk
instance_of-min_one = refl

abbrev game : ℕ → ℕ → ℕ → Game
game i j s = record { home = record { 0 = i }; away = record { 0 = j }; slot = record { 0 = s } }

pub solution_of-c4 : solution_of 4 (pieces c4) ≡ Ok (game 3 0 0 ∷ game 1 2 0 ∷ game 1 3 1 ∷ game 2 0 1 ∷ game 3 2 2 ∷ game 0 1 2 ∷ game 0 3 3 ∷ game 2 1 3 ∷ game 3 1 4 ∷ game 0 2 4 ∷ game 2 3 5 ∷ game 1 0 5 ∷ [])
unfolding attributes_at pieces_from walk
solution_of-c4 = refl

-- a slot that there isn't, and a team that meets itself
pub solution_of-unknown_slot : solution_of 4 (pieces (text (replaced season_lines 4 1 ("<ScheduledMatch home=\"3\" away=\"0\" slot=\"6\"/>" ∷ [])))) ≡ Err (UnknownSlot, 4)
unfolding attributes_at pieces_from walk
solution_of-unknown_slot = refl

pub solution_of-same_team : solution_of 4 (pieces (text (replaced season_lines 4 1 ("<ScheduledMatch home=\"3\" away=\"3\" slot=\"0\"/>" ∷ [])))) ≡ Err (SameTeam, 4)
unfolding attributes_at pieces_from walk
solution_of-same_team = refl
