-- What `show` answers: a season as a grid, what it lacks and misses by which games, and what that costs; or as
-- comma-separated values.
use Rattle.std.specs.Prelude.{◌≡◌, ℕ, ◌↔◌, Bool, if◌then◌else◌, List, ◌++◌, length, map, codes, IsTrue}
use Rattle.std.specs.List.Sorted.{IsPermutation}
use Rattle.robin_io.specs.Outside.{Store}
use Rattle.robinx.specs.Pieces.{pieces}
use Rattle.league.specs.Accepted.{IsAccepted, infeasibility, objective}
use Rattle.league.specs.Counts.{counts_of, teams_of}
use Rattle.league.specs.Instance.{Instance}
use Rattle.league.specs.Order.{IsInOrder}
use Rattle.league.specs.Structure.{cells_wrong, pairs_wrong, phases_wrong}
use Rattle.league.specs.declared.game.Game.{Game}
use Rattle.league.specs.declared.wrongs.Wrongs.{Wrongs}
use Rattle.robinx.specs.InstanceFile.{instance_of}
use Rattle.robinx.specs.SolutionFile.{solution_of}
use Rattle.robinx.specs.declared.instance.TheConstants.{INSTANCE_LIMIT, SOLUTION_LIMIT}
use Rattle.robinx.specs.Names.{Names, label}
use Rattle.robinx.specs.NamesFile.{names_of}
use Rattle.command_show.specs.Csv.{csv_text}
use Rattle.command_show.specs.Grid.{grid_text}
use Rattle.season_misses.specs.Lacks.{lacks_text}
use Rattle.season_misses.specs.Misses.{misses_text}
use Rattle.command_check.specs.Report.{structure_text, verdict_text}
use Rattle.answers.specs.Reply.{Answer}
use Rattle.answers.specs.Stages.{◌>>=◌, Outcome, reads, says}
use Rattle.answers.specs.declared.status.Status.TheVariants.{Yes, No}
use Rattle.command_show.specs.declared.form.Form.{Form}
use Rattle.command_show.specs.declared.form.Form.TheVariants.{Text, Csv}

-- what the teams of a league of n teams are called
abbrev pub labels_of : ℕ → Names → List (List ℕ)
labels_of n names = map (label names) (teams_of n)

-- what is wrong with the structure of some games
abbrev pub wrongs_of : Instance → List Game → Wrongs
wrongs_of league games = record {
  pairs_wrong = pairs_wrong league.n (counts_of games);
  cells_wrong = cells_wrong league.n (counts_of games);
  phases_wrong = phases_wrong league.n league.phased (counts_of games);
}

-- the grid of games in order, on a page of a width
abbrev pub grid_of : Instance → Names → List Game → ℕ → List ℕ
grid_of league names games width =
    grid_text (record { n = league.n; phased = league.phased; counts = counts_of games; names = names }) width

-- the last lines: those of `validate`
abbrev pub totals_text : Wrongs → ℕ → ℕ → Bool → List ℕ
totals_text wrongs infeasible cost feasible =
    structure_text wrongs.pairs_wrong wrongs.cells_wrong wrongs.phases_wrong ++ verdict_text infeasible cost feasible

-- what stands below the grid of games in order: what they lack and what they miss, `most` lines of each, and the last
-- lines
abbrev pub words_text : Instance → List (List ℕ) → ℕ → List Game → Wrongs → ℕ → ℕ → Bool → List ℕ
words_text league labels most games wrongs infeasible cost feasible =
    codes "\n" ++ (lacks_text league.n league.phased labels most games wrongs
    ++ (misses_text league labels most games ++ (codes "\n" ++ totals_text wrongs infeasible cost feasible)))

-- the text of games in order
abbrev pub shown_text : Instance → Names → List Game → ℕ → ℕ → Bool → List ℕ
shown_text league names games most width feasible =
    grid_of league names games width
    ++ words_text league (labels_of league.n names) most games (wrongs_of league games)
    (infeasibility league (counts_of games)) (objective league (counts_of games)) feasible

-- the text of games in order in a form
abbrev pub form_text : Form → Instance → Names → List Game → Bool → List ℕ
form_text (Text most width) league names games feasible = shown_text league names games most width feasible
form_text Csv league names games feasible = csv_text names games

-- the answer to a season by the text of its games in order: yes exactly if the league accepts it
pub record IsShown (league : Instance) (text_of : List Game → Bool → List ℕ) (games : List Game) (answer : Answer) : Type 0 where
  pub feasible : Bool
  pub accepted : IsTrue feasible ↔ IsAccepted league (counts_of games)
  pub ordered : List Game
  pub same : IsPermutation games ordered
  pub in_order : IsInOrder ordered
  pub status : answer.status ≡ (if feasible then Yes else No)
  pub text : answer.text ≡ text_of ordered feasible

-- `show`, over what a store shows; the names are known where the league is
abbrev pub shown : Store → List ℕ → List ℕ → Form → Outcome
shown store instance solution form = do
  first ← reads store (codes "instance") instance INSTANCE_LIMIT 0
  league ← says (codes "instance") (instance_of (pieces first))
  names ← says (codes "instance") (names_of league.n (pieces first))
  second ← reads store (codes "solution") solution SOLUTION_LIMIT (length first)
  games ← says (codes "solution") (solution_of league.n (pieces second))
  IsShown league (form_text form league names) games
