-- Texts of leagues and schedules, worked out by hand, and one of them read.
use Rattle.std.proofs.Common.{◌≡◌, ℕ, true, false, List, [], ◌∷◌, refl}
use Rattle.std.specs.Prelude.{Some, None, Ok}
use Rattle.std.specs.Fmt.{digits}
use Rattle.robinx.specs.Tags.{attributes_at}
use Rattle.robinx.specs.Pieces.{pieces, pieces_from}
use Rattle.league.specs.Instance.{Instance}
use Rattle.league.specs.declared.game.Game.{Game}
use Rattle.league.specs.declared.class.Class.TheVariants.{Ca1, Ca2, Ca3, Ca4, Ga1, Br1, Br2, Fa2, Se1}
use Rattle.league.specs.declared.class.Side.TheVariants.{H, A, Both}
use Rattle.league.specs.declared.class.Span.TheVariants.{Every}
use Rattle.robinx.specs.Walk.{walk}
use Rattle.robinx.specs.InstanceFile.{instance_of}
use Rattle.robinx.specs.Texts.{instance_text, solution_text}
use Rattle.robinx.proofs.FileTexts.{i4, i4_ca1, nine, c4, circle, scored}

pub instance_text-i4 : instance_text (record { n = 4; phased = true; constraints = [] }) ≡ i4
unfolding digits
instance_text-i4 = refl

pub instance_text-i4_ca1 : instance_text (record { n = 4; phased = true; constraints = record { hard = true; penalty = 1; class = Ca1 (0 ∷ []) 0 0 H (2 ∷ 3 ∷ []) } ∷ [] }) ≡ i4_ca1
unfolding digits
instance_text-i4_ca1 = refl

abbrev nine_classes : Instance
nine_classes = record {
  n = 4;
  phased = false;
  constraints =
      record { hard = true; penalty = 1; class = Ca1 (0 ∷ []) 0 0 H (2 ∷ 3 ∷ []) }
      ∷ record { hard = false; penalty = 2; class = Ca2 (0 ∷ []) (1 ∷ 2 ∷ []) 1 1 Both (0 ∷ 1 ∷ 2 ∷ []) }
      ∷ record { hard = false; penalty = 5; class = Ca3 (0 ∷ []) (1 ∷ 2 ∷ 3 ∷ []) 0 2 3 H }
      ∷ record { hard = true; penalty = 1; class = Ca4 (0 ∷ 1 ∷ []) (0 ∷ 1 ∷ []) 0 0 A Every (0 ∷ 5 ∷ []) }
      ∷ record { hard = true; penalty = 1; class = Ga1 ((0, 1) ∷ (3, 2) ∷ []) 1 1 (0 ∷ []) }
      ∷ record { hard = false; penalty = 7; class = Br1 (0 ∷ []) 1 Both (0 ∷ 1 ∷ 2 ∷ []) }
      ∷ record { hard = true; penalty = 1; class = Br2 (0 ∷ 1 ∷ 2 ∷ 3 ∷ []) 4 [] }
      ∷ record { hard = false; penalty = 10; class = Fa2 (0 ∷ 1 ∷ 2 ∷ 3 ∷ []) 2 (0 ∷ 1 ∷ []) }
      ∷ record { hard = true; penalty = 10; class = Se1 (0 ∷ 1 ∷ []) 2 }
      ∷ record { hard = true; penalty = 0; class = Ca1 [] 0 4294967295 A (2 ∷ []) }
      ∷ [];
}

pub instance_text-nine : instance_text nine_classes ≡ nine
unfolding digits
instance_text-nine = refl

-- the names of all classes, each in its group
pub instance_of-nine : instance_of (pieces nine) ≡ Ok nine_classes
unfolding attributes_at pieces_from walk
instance_of-nine = refl

abbrev game : ℕ → ℕ → ℕ → Game
game i j s = record { home = record { 0 = i }; away = record { 0 = j }; slot = record { 0 = s } }

abbrev own_order : List Game
own_order = game 3 0 0 ∷ game 1 2 0 ∷ game 1 3 1 ∷ game 2 0 1 ∷ game 3 2 2 ∷ game 0 1 2 ∷ game 0 3 3 ∷ game 2 1 3 ∷ game 3 1 4 ∷ game 0 2 4 ∷ game 2 3 5 ∷ game 1 0 5 ∷ []

abbrev in_order : List Game
in_order = game 1 2 0 ∷ game 3 0 0 ∷ game 1 3 1 ∷ game 2 0 1 ∷ game 0 1 2 ∷ game 3 2 2 ∷ game 0 3 3 ∷ game 2 1 3 ∷ game 0 2 4 ∷ game 3 1 4 ∷ game 1 0 5 ∷ game 2 3 5 ∷ []

pub solution_text-c4 : solution_text own_order None ≡ c4
unfolding digits
solution_text-c4 = refl

pub solution_text-circle : solution_text in_order None ≡ circle
unfolding digits
solution_text-circle = refl

pub solution_text-scored : solution_text in_order (Some (3, 40)) ≡ scored
unfolding digits
solution_text-scored = refl
