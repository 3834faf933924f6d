use Rattle.std.proofs.Common.{ℕ, List, subst}
use Rattle.robinx.specs.Values.{Reading}
use Rattle.robinx.specs.SeenPieces.{Gives}
use Rattle.robinx.proofs.KnownLemmas.{gathered_slots, slots_fit_all}
use Rattle.robinx.proofs.lists.slots.Goals as goal

pub returns-clause-value : goal.returns-clause-value
returns-clause-value c = subst (λ (r : Reading (List ℕ)). Gives (λ x. x) c.gather_slots.result r) (gathered_slots c.args.n c.args.text.now) c.gather_slots.ensures

pub returns-clause-fit : goal.returns-clause-fit
returns-clause-fit c = slots_fit_all c.args.n c.args.text.now c.gather_slots.result (subst (λ (r : Reading (List ℕ)). Gives (λ x. x) c.gather_slots.result r) (gathered_slots c.args.n c.args.text.now) c.gather_slots.ensures)
