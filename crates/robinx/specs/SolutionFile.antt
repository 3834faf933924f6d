-- What a solution file says, for a league of n teams.
use Rattle.std.specs.Prelude.{ℕ, nat_lt, List, [], ◌∷◌, ◌++◌, length, Result, Ok, codes}
use Rattle.robinx.specs.Fronts.{◌>>=◌, check}
use Rattle.robinx.specs.Tags.{Attribute}
use Rattle.robinx.specs.Pieces.{Pieces}
use Rattle.robinx.specs.declared.tag_fault.FormKind.TheVariants.{TooMany}
use Rattle.robinx.specs.Walk.{Meaning, Fault, reading}
use Rattle.robinx.specs.Values.{Reading, required, team, slot, distinct}
use Rattle.robinx.specs.declared.element.Element.{Element}
use Rattle.robinx.specs.declared.element.Element.TheVariants.{SolutionFile, ScheduledMatch}
use Rattle.league.specs.declared.game.Game.{Game}

-- a game: two different teams in a slot
abbrev pub game_of : ℕ → List Attribute → Reading Game
game_of n tag = do
  home ← required (codes "home") (team n) tag
  away ← required (codes "away") (team n) tag
  s ← required (codes "slot") (slot n) tag
  differ ← distinct home away
  Ok (record { home = record { 0 = home }; away = record { 0 = away }; slot = record { 0 = s } })

-- What was read of a solution for a league of n teams: its games, in file order.
pub record Games : Type 0 where
  pub n : ℕ
  pub games : List Game

-- one game more, of which there may be so many (own limit)
abbrev pub with_game : List Attribute → Games → Reading Games
with_game tag read = do
  few ← check (nat_lt (length read.games) 10000) TooMany
  game ← game_of read.n tag
  Ok (record read { games = read.games ++ game ∷ [] })

-- at the Start of an element
abbrev pub starts : Element → List Attribute → Games → Reading Games
starts ScheduledMatch tag read = with_game tag read
starts _ tag read = Ok read

-- what the elements of a solution file mean
abbrev pub solution_meaning : Meaning Games
solution_meaning = record { started = starts; ended = λ element value read. Ok read }

-- the games that these pieces say for a league of n teams, in file order, or the first fault
abbrev pub solution_of : ℕ → Pieces → Result (List Game) Fault
solution_of n found = do
  read ← reading solution_meaning SolutionFile (record { n = n; games = [] }) found
  Ok read.games
