use Rattle.std.proofs.Common.{ℕ, List, subst}
use Rattle.robinx.specs.Values.{Reading}
use Rattle.robinx.specs.SeenPieces.{Gives}
use Rattle.robinx.proofs.KnownLemmas.{gathered_meetings, meetings_fit_all}
use Rattle.robinx.proofs.lists.meetings.Goals as goal

pub returns-clause-value : goal.returns-clause-value
returns-clause-value c = subst (λ (r : Reading (List (ℕ × ℕ))). Gives (λ x. x) c.gather_meetings.result r) (gathered_meetings c.args.n c.args.text.now) c.gather_meetings.ensures

pub returns-clause-fit : goal.returns-clause-fit
returns-clause-fit c = meetings_fit_all c.args.n c.args.text.now c.gather_meetings.result (subst (λ (r : Reading (List (ℕ × ℕ))). Gives (λ x. x) c.gather_meetings.result r) (gathered_meetings c.args.n c.args.text.now) c.gather_meetings.ensures)
