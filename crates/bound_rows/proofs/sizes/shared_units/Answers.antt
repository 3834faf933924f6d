use Rattle.std.proofs.Common.{ℕ, List, ap, ◌∙◌, arith}
use Rattle.std.proofs.lemmas.List.{take_all}
use Rattle.league.specs.Bounds.{largest}
use Rattle.encoding.specs.Keys.{key_of}
use Rattle.bound_rows.specs.Sizes.{key_units}
use Rattle.bound_rows.proofs.sizes.shared_units.Goals as goal

pub returns-clause-units : goal.returns-clause-units
returns-clause-units c =
    let most : List ℕ → ℕ = λ ps.
    largest (λ place. key_units (key_of c.args.n c.args.class.now c.args.subject place)) ps in
    c.loop-place.invariant.so_far
    ∙ ap most (take_all c.loop-place.place-index c.places_of-places.result.now (omega arith))
    ∙ ap most c.places_of-places.ensures.places
