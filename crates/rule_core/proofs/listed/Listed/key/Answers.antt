use Rattle.std.proofs.Common.{List, ℕ, Option, subst, sym}
use Rattle.rule_core.specs.Listed.{IsKeyOf}
use Rattle.rule_core.specs.KeyPlaces.{place_of}
use Rattle.rule_core.proofs.KeyListLemmas.{place_of-is}
use Rattle.rule_core.proofs.listed.Listed.key.Goals as goal

pub returns-clause-key : goal.returns-clause-key
returns-clause-key c =
    let inside = c.self.inside in
    subst (λ (key : Option ℕ). IsKeyOf c.args.self.now c.args.number key) (sym c.place.ensures)
    (subst (λ (xs : List ℕ). IsKeyOf xs c.args.number (place_of inside.places c.args.number)) c.self.view_is (place_of-is inside.numbers.items inside.places c.self.invariant.placed c.args.number))
