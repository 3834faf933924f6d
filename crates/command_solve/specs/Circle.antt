-- The season that `circle` writes.
use Rattle.std.specs.Prelude.{ℕ, if◌then◌else◌, List, [], ◌∷◌, None}
use Rattle.std.specs.Ordering.{is_lt}
use Rattle.circle_method.specs.Circle.{double_games}
use Rattle.league.specs.Order.{game_cmp}
use Rattle.league.specs.declared.game.Game.{Game}
use Rattle.robinx.specs.Texts.{solution_text}
use Rattle.answers.specs.Reply.{Answer}
use Rattle.answers.specs.declared.status.Status.TheVariants.{Yes}

-- a game put before the first game of a list that doesn't come before it
abbrev pub with_game : Game → List Game → List Game
with_game g [] = g ∷ []
with_game g (h ∷ games) = if is_lt (game_cmp h g) then h ∷ with_game g games else g ∷ h ∷ games

-- the games in order of slot, home team, away team, each as often
abbrev pub in_order : List Game → List Game
in_order [] = []
in_order (g ∷ games) = with_game g (in_order games)

-- the games of the double circle schedule in order, as a solution file without a score
abbrev pub circle_season : ℕ → Answer
circle_season n = record { status = Yes; text = solution_text (in_order (double_games n)) None }
