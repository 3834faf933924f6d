-- Games of four teams that stay or change, counted by hand.
use Rattle.std.proofs.Common.{◌≡◌, List, [], ◌∷◌, refl}
use Rattle.league.specs.declared.game.Game.{Game}
use Rattle.league.proofs.DoubleFour.{game}
use Rattle.resume.specs.Near.{changed, open_games}

-- three slots of an old plan
abbrev old : List Game
old = game 0 1 0 ∷ game 2 3 0 ∷ game 0 2 1 ∷ game 1 3 1 ∷ game 0 3 2 ∷ game 1 2 2 ∷ []

-- the first slot as it was, one game of the second turned round, and those of the third in another slot
abbrev new : List Game
new = game 2 3 0 ∷ game 0 1 0 ∷ game 2 0 1 ∷ game 1 3 1 ∷ game 0 3 3 ∷ game 1 2 3 ∷ []

pub none_changed : (changed 0 old old ≡ 0) × (changed 3 old old ≡ 0) × (changed 0 [] new ≡ 0)
none_changed = (refl, refl, refl)

pub some_changed : (changed 0 old new ≡ 3) × (changed 1 old new ≡ 3) × (changed 2 old new ≡ 2) × (changed 3 old new ≡ 0)
some_changed = (refl, refl, refl, refl)

-- the other way round, a game that is listed twice, and no new games at all
pub all_changed : (changed 1 new old ≡ 3) × (changed 0 (game 0 1 0 ∷ game 0 1 0 ∷ []) (game 1 0 0 ∷ []) ≡ 2)
    × (changed 0 (game 0 1 0 ∷ []) (game 0 1 0 ∷ game 0 1 0 ∷ []) ≡ 0) × (changed 1 old [] ≡ 4)
all_changed = (refl, refl, refl, refl)

pub open_in : (open_games 0 old ≡ 6) × (open_games 1 old ≡ 4) × (open_games 2 old ≡ 2) × (open_games 3 old ≡ 0)
open_in = (refl, refl, refl, refl)
