use Rattle.std.proofs.Common.{◌≡◌, ◌⊎◌, ℕ, ◌++◌, List, [], ◌∷◌, arith, subst}
use Rattle.std.proofs.lemmas.List.{get_or_read, take_all}
use Rattle.clause_search.specs.Kept.{IsPart}
use Rattle.clause_search.proofs.KeptLemmas.{part_more}
use Rattle.clause_search.proofs.kept.Kept.leave_out.Goals as goal

pub loop-index-preserved : goal.loop-index-preserved
loop-index-preserved c =
    part_more c.loop-index.places.items c.push_if.new.places.items c.args.self.now.places.items c.loop-index.index
    (omega arith) c.loop-index.invariant
    (subst (λ (place : ℕ). (c.push_if.new.places.items ≡ c.loop-index.places.items)
    ⊎ (c.push_if.new.places.items ≡ c.loop-index.places.items ++ place ∷ []))
    (get_or_read c.args.self.now.places.items c.loop-index.index c.index.result.now (omega arith) c.index.ensures 0)
    c.in_ok-push_if.ensures)

pub returns-clause-part : goal.returns-clause-part
returns-clause-part c =
    subst (λ (l : List ℕ). IsPart c.loop-index.places.items l)
    (take_all c.loop-index.index c.args.self.now.places.items (omega arith)) c.loop-index.invariant
