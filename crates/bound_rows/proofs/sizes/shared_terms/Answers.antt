use Rattle.std.proofs.Common.{◌≡◌, ℕ, ◌+◌, List, ap, ◌∙◌, arith}
use Rattle.std.proofs.lemmas.List.{take_all}
use Rattle.std.specs.List.{sum_by}
use Rattle.encoding.specs.Keys.{key_of, places_of}
use Rattle.bound_rows.specs.Sizes.{key_rows_size, units_size}
use Rattle.bound_rows.proofs.sizes.shared_terms.Goals as goal

pub returns-clause-terms : goal.returns-clause-terms
returns-clause-terms c =
    let n = c.args.n in
    let class = c.args.class.now in
    let units = c.shared_units-units.result in
    let places = c.places_of-places.result.now in
    let size : ℕ → List ℕ → ℕ = λ u ps. sum_by (λ place. key_rows_size u (key_of n class c.args.subject place)) ps in
    let total : c.loop-place.total ≡ size units (places_of n class) =
    c.loop-place.invariant.so_far
    ∙ ap (size units) (take_all c.loop-place.place-index places (omega arith))
    ∙ ap (size units) c.places_of-places.ensures.places in
    ap (λ (k : ℕ). k + c.units_terms.result) total
    ∙ ap (λ (k : ℕ). size units (places_of n class) + k) c.units_terms.ensures.terms
    ∙ ap (λ (u : ℕ). size u (places_of n class) + units_size u) c.shared_units-units.ensures.units

pub returns-clause-most : goal.returns-clause-most
returns-clause-most c =
    omega (
      arith,
      c.loop-place.invariant.most,
      c.places_of-places.ensures.few,
      c.units_terms.ensures.most,
      c.shared_units-units.ensures.most,
    )
