use Rattle.std.proofs.Common.{◌≤◌, ℕ, ◌+◌, ◌*◌, List, ap, ◌∙◌, arith}
use Rattle.std.proofs.lemmas.List.{take_all}
use Rattle.std.specs.List.{flat_map}
use Rattle.rows.specs.Rows.{Row, size_of}
use Rattle.encoding.specs.Keys.{key_of, most_literals, rows_of_key}
use Rattle.encoding.proofs.ClassSizeLemmas.{literals_few, most_in_all, most_more}
use Rattle.encoding.proofs.sizes.pair_terms.Goals as goal

pub overflow_add-total : goal.overflow_add-total
overflow_add-total c =
    let m = most_literals c.args.class.now in
    let next = most_more 2 c.loop-place.total c.key_terms-total.result c.loop-place.place-index m
    c.loop-place.invariant.most c.key_terms-total.ensures.most in
    let within : c.loop-place.place-index + 1 ≤ 78 = omega (arith, c.places_of-places.ensures.few) in
    let few : 78 * m ≤ 9734400 = omega (arith, literals_few c.args.class.now) in
    omega (
      arith,
      most_in_all 2 (c.loop-place.total + c.key_terms-total.result) (c.loop-place.place-index + 1) 78 m 9734400 next
          within few,
    )

pub returns-clause-terms : goal.returns-clause-terms
returns-clause-terms c =
    let rows : ℕ → List Row = λ place. rows_of_key (key_of c.args.n c.args.class.now c.args.subject place) in
    let places = c.places_of-places.result.now in
    c.loop-place.invariant.so_far
    ∙ ap (λ (ps : List ℕ). size_of (flat_map rows ps)) (take_all c.loop-place.place-index places (omega arith))
    ∙ ap (λ (ps : List ℕ). size_of (flat_map rows ps)) c.places_of-places.ensures.places

pub returns-clause-most : goal.returns-clause-most
returns-clause-most c =
    let m = most_literals c.args.class.now in
    let within : c.loop-place.place-index ≤ 78 = omega (arith, c.places_of-places.ensures.few) in
    let all : c.loop-place.total ≤ 2 * (78 * m) =
    most_in_all 2 c.loop-place.total c.loop-place.place-index 78 m (78 * m) c.loop-place.invariant.most within
    (omega arith) in
    omega (arith, all)
