use Rattle.std.proofs.Common.{ℕ, List, subst}
use Rattle.clause_search.specs.Kept.{IsPart}
use Rattle.clause_search.proofs.kept.Kept.forget.Goals as goal

pub returns-clause-part : goal.returns-clause-part
returns-clause-part c =
    subst (λ (l : List ℕ). IsPart c.leave_out.new.self.places.items l) c.need_reasons.ensures.places
    c.in_ok-leave_out.ensures.part
