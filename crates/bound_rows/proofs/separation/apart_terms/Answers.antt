use Rattle.std.proofs.Common.{◌≡◌, ◌≤◌, ℕ, ◌+◌, ◌-◌, ◌*◌, [], length, ap, ◌∙◌, arith}
use Rattle.std.proofs.lemmas.Nat.{mul-le}
use Rattle.std.proofs.lemmas.List.FromFn.{length-range_with_len}
use Rattle.league.specs.Counts.{slot_count}
use Rattle.encoding.specs.Keys.{held, separation}
use Rattle.bound_rows.proofs.SeparationSizes.{part_size-se1, window_terms}
use Rattle.bound_rows.proofs.separation.apart_terms.Goals as goal

pub returns-clause-terms : goal.returns-clause-terms
returns-clause-terms c =
    let n = c.args.n in
    let long = separation n c.args.min in
    let key = held n c.separation_key-key.result in
    let windows : length c.separation_places-places.result.now ≡ slot_count n + 1 - long =
    ap length (c.separation_places-places.ensures.places []) ∙ length-range_with_len 0 (slot_count n + 1 - long) in
    let row : c.bounds_terms-row.result ≡ 2 * long + 1 =
    c.bounds_terms-row.ensures.terms
    ∙ window_terms n c.args.min c.literal_count.result key c.requires.at_least (c.separation_key-key.ensures.key [])
    c.literal_count.ensures.count in
    let product : length c.separation_places-places.result.now * c.bounds_terms-row.result
    ≡ (slot_count n + 1 - long) * (2 * long + 1) =
    ap (λ (k : ℕ). k * c.bounds_terms-row.result) windows ∙ ap (λ (k : ℕ). (slot_count n + 1 - long) * k) row in
    omega (arith, product, c.units_terms.ensures.terms, part_size-se1 n 0 1 c.args.min c.requires.at_least (omega arith))

pub returns-clause-most : goal.returns-clause-most
returns-clause-most c =
    let n = c.args.n in
    let long = separation n c.args.min in
    let windows = c.separation_places-places.result.now in
    let row : c.bounds_terms-row.result ≡ 2 * long + 1 =
    c.bounds_terms-row.ensures.terms
    ∙ window_terms n c.args.min c.literal_count.result (held n c.separation_key-key.result) c.requires.at_least
    (c.separation_key-key.ensures.key []) c.literal_count.ensures.count in
    let short : c.bounds_terms-row.result ≤ 157 = omega (arith, row, c.requires.at_most) in
    omega (
      arith,
      mul-le (length windows) c.bounds_terms-row.result 79 157 (omega (arith, c.separation_places-places.ensures.few)) short,
      c.units_terms.ensures.most,
    )

pub returns-clause-long : goal.returns-clause-long
returns-clause-long c = λ whole.
    let n = c.args.n in
    let long = separation n c.args.min in
    let windows = c.separation_places-places.result.now in
    let few : length windows ≤ 1 =
    omega (
      arith,
      ap length (c.separation_places-places.ensures.places []),
      length-range_with_len 0 (slot_count n + 1 - long),
      whole,
    ) in
    let row : c.bounds_terms-row.result ≡ 2 * long + 1 =
    c.bounds_terms-row.ensures.terms
    ∙ window_terms n c.args.min c.literal_count.result (held n c.separation_key-key.result) c.requires.at_least
    (c.separation_key-key.ensures.key []) c.literal_count.ensures.count in
    let short : c.bounds_terms-row.result ≤ 157 = omega (arith, row, c.requires.at_most) in
    omega (arith, mul-le (length windows) c.bounds_terms-row.result 1 157 few short, c.units_terms.ensures.terms)
