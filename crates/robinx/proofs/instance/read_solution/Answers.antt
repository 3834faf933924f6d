use Rattle.std.proofs.Common.{◌≡◌, [], Ok, sym, ◌∙◌, subst}
use Rattle.std.specs.List.{All}
use Rattle.league.specs.Instance.{IsGame}
use Rattle.robinx.specs.Walk.{reading}
use Rattle.robinx.specs.SolutionFile.{Games, solution_meaning}
use Rattle.robinx.specs.declared.element.Element.TheVariants.{SolutionFile}
use Rattle.robinx.proofs.GamesLemmas.{games_same}
use Rattle.robinx.proofs.instance.read_solution.Goals as goal

pub returns-clause-fit : goal.returns-clause-fit
returns-clause-fit c =
    let read : reading solution_meaning SolutionFile (record { n = c.n.result; games = [] }) c.new.result ≡ Ok c.read_file.new.read =
    subst (λ (g : Games). reading solution_meaning SolutionFile g c.new.result ≡ Ok c.read_file.new.read) c.new-games.ensures c.in_ok-read_file.ensures in
    let same = games_same c.n.result c.new.result c.read_file.new.read read ∙ c.n.ensures.n in
    subst (All (IsGame c.args.league.now.n)) (sym c.into_schedule.ensures.value) (subst (λ n. All (IsGame n) c.read_file.new.read.games) same c.into_schedule.ensures.fit)
