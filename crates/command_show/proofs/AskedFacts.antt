-- What a league of four teams demands, worked by hand.
use Rattle.std.proofs.Common.{◌≡◌, ℕ, List, [], ◌∷◌, Some, None, codes, refl, true, false}
use Rattle.std.specs.Fmt.{digits}
use Rattle.league.specs.Instance.{Instance}
use Rattle.league.specs.declared.class.Class.TheVariants.{Ca1, Se1}
use Rattle.league.specs.declared.class.Constraint.{Constraint}
use Rattle.league.specs.declared.class.Side.TheVariants.{A, H}
use Rattle.league.proofs.DoubleFour.{all_teams}
use Rattle.answers.specs.declared.status.Status.TheVariants.{File}
use Rattle.command_show.specs.Demands.{demands_answer, demands_text, first_absent, numbers_asked}

abbrev labels : List (List ℕ)
labels = codes "Ajax" ∷ codes "Brug" ∷ codes "Club" ∷ codes "Dam" ∷ []

abbrev close : Constraint
close = record { class = Se1 all_teams 2; hard = false; penalty = 3 }

abbrev away : Constraint
away = record { class = Ca1 (0 ∷ []) 0 0 A (2 ∷ 3 ∷ []); hard = true; penalty = 10 }

abbrev home : Constraint
home = record { class = Ca1 (2 ∷ []) 0 1 H (0 ∷ []); hard = true; penalty = 0 }

-- a soft constraint before two hard ones
abbrev league : Instance
league = record { n = 4; phased = false; constraints = close ∷ away ∷ home ∷ [] }

-- all: the hard ones first, in file order
pub demands-all : demands_text league labels (numbers_asked league None) ≡ codes "hard 2 CA1: Ajax: no away game in slots 2 and 3\nhard 3 CA1: Club: at most 1 home game in slot 0\nsoft 1 SE1: each two teams: at least 2 slots between their games\n"
unfolding digits
demands-all = refl

-- some, by their numbers
pub demands-some : demands_text league labels (numbers_asked league (Some (1 ∷ 3 ∷ []))) ≡ codes "hard 3 CA1: Club: at most 1 home game in slot 0\nsoft 1 SE1: each two teams: at least 2 slots between their games\n"
unfolding digits
demands-some = refl

-- the first number that no constraint has
pub absent-some : (first_absent league (1 ∷ 3 ∷ []) ≡ None)
    × (first_absent league (0 ∷ 1 ∷ []) ≡ Some 0)
    × (first_absent league (3 ∷ 4 ∷ 9 ∷ []) ≡ Some 4)
    × (demands_answer league labels (3 ∷ 4 ∷ 9 ∷ []) (Some 4) ≡ record { status = File; text = codes "refused constraint 4 Unknown\n" })
unfolding digits
absent-some = (refl, refl, refl, refl)
