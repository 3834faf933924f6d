-- Six games of four teams of which some slots come from one list and the rest from another.
use Rattle.std.proofs.Common.{◌≡◌, List, [], ◌∷◌, refl}
use Rattle.league.specs.declared.game.Game.{Game}
use Rattle.league.proofs.DoubleFour.{game}
use Rattle.resume.specs.Merged.{merged_games}

abbrev first : List Game
first = game 0 1 0 ∷ game 2 3 0 ∷ game 0 2 1 ∷ game 1 3 1 ∷ []

abbrev second : List Game
second = game 2 0 1 ∷ game 1 0 0 ∷ game 3 1 1 ∷ game 3 2 0 ∷ []

-- slot 0 of the first, slot 1 of the second, as they are listed there
pub one_slot : merged_games 1 first second ≡ game 0 1 0 ∷ game 2 3 0 ∷ game 2 0 1 ∷ game 3 1 1 ∷ []
one_slot = refl

pub no_slot : merged_games 0 first second ≡ second
no_slot = refl

pub both_slots : merged_games 2 first second ≡ first
both_slots = refl
