use Rattle.std.proofs.Common.{ℕ, List, subst}
use Rattle.robinx.specs.Values.{Reading}
use Rattle.robinx.specs.SeenPieces.{Gives}
use Rattle.robinx.proofs.KnownLemmas.{gathered_teams, teams_fit_all}
use Rattle.robinx.proofs.lists.teams.Goals as goal

pub returns-clause-value : goal.returns-clause-value
returns-clause-value c = subst (λ (r : Reading (List ℕ)). Gives (λ x. x) c.gather_teams.result r) (gathered_teams c.args.n c.args.text.now) c.gather_teams.ensures

pub returns-clause-fit : goal.returns-clause-fit
returns-clause-fit c = teams_fit_all c.args.n c.args.text.now c.gather_teams.result (subst (λ (r : Reading (List ℕ)). Gives (λ x. x) c.gather_teams.result r) (gathered_teams c.args.n c.args.text.now) c.gather_teams.ensures)
