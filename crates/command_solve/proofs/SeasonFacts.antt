-- Worked seasons, so that a wrong definition does not check.
use Rattle.std.proofs.Common.{◌≡◌, ℕ, [], ◌∷◌, codes, refl}
use Rattle.std.specs.Fmt.{digits}
use Rattle.league.specs.declared.game.Game.{Game}
use Rattle.answers.specs.declared.status.Status.TheVariants.{Yes}
use Rattle.command_solve.specs.Circle.{circle_season, in_order, with_game}

abbrev pub game : ℕ → ℕ → ℕ → Game
game i j s = record { home = record { 0 = i }; away = record { 0 = j }; slot = record { 0 = s } }

-- a game before others of its slot, behind those before it, and beside itself; by slot, then home team, then away team
pub with_game-some : (with_game (game 1 0 2) [] ≡ game 1 0 2 ∷ []) × (with_game (game 1 2 3) (game 3 0 2 ∷ game 1 0 3 ∷ game 2 0 3 ∷ []) ≡ game 3 0 2 ∷ game 1 0 3 ∷ game 1 2 3 ∷ game 2 0 3 ∷ [])
with_game-some = (refl, refl)

pub in_order-some : in_order (game 1 0 5 ∷ game 2 3 0 ∷ game 1 3 0 ∷ game 2 3 0 ∷ game 1 0 0 ∷ []) ≡ game 1 0 0 ∷ game 1 3 0 ∷ game 2 3 0 ∷ game 2 3 0 ∷ game 1 0 5 ∷ []
in_order-some = refl

-- the whole seasons of two and of four teams
pub circle_season-two : circle_season 2 ≡ record { status = Yes; text = codes "<?xml version=\"1.0\" encoding=\"UTF-8\"?>\n<Solution>\n<Games>\n<ScheduledMatch home=\"1\" away=\"0\" slot=\"0\"/>\n<ScheduledMatch home=\"0\" away=\"1\" slot=\"1\"/>\n</Games>\n</Solution>\n" }
unfolding digits
circle_season-two = refl

pub circle_season-four : circle_season 4 ≡ record { status = Yes; text = codes "<?xml version=\"1.0\" encoding=\"UTF-8\"?>\n<Solution>\n<Games>\n<ScheduledMatch home=\"1\" away=\"2\" slot=\"0\"/>\n<ScheduledMatch home=\"3\" away=\"0\" slot=\"0\"/>\n<ScheduledMatch home=\"1\" away=\"3\" slot=\"1\"/>\n<ScheduledMatch home=\"2\" away=\"0\" slot=\"1\"/>\n<ScheduledMatch home=\"0\" away=\"1\" slot=\"2\"/>\n<ScheduledMatch home=\"3\" away=\"2\" slot=\"2\"/>\n<ScheduledMatch home=\"0\" away=\"3\" slot=\"3\"/>\n<ScheduledMatch home=\"2\" away=\"1\" slot=\"3\"/>\n<ScheduledMatch home=\"0\" away=\"2\" slot=\"4\"/>\n<ScheduledMatch home=\"3\" away=\"1\" slot=\"4\"/>\n<ScheduledMatch home=\"1\" away=\"0\" slot=\"5\"/>\n<ScheduledMatch home=\"2\" away=\"3\" slot=\"5\"/>\n</Games>\n</Solution>\n" }
unfolding digits
circle_season-four = refl
