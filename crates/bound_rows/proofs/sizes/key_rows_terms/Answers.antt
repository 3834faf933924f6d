use Rattle.std.proofs.Common.{ap, ◌∙◌, arith}
use Rattle.encoding.specs.Keys.{Bounded}
use Rattle.encoding.proofs.ClassSizeLemmas.{literals_few}
use Rattle.bound_rows.specs.Sizes.{bounds_size, key_rows_size}
use Rattle.bound_rows.proofs.sizes.key_rows_terms.Goals as goal

pub bounds_terms-requires-clause-count : goal.bounds_terms-requires-clause-count
bounds_terms-requires-clause-count c =
    omega (arith, c.literal_count.ensures.few, c.key_at-key.ensures.few, literals_few c.args.class.now)

pub returns-clause-terms : goal.returns-clause-terms
returns-clause-terms c =
    let key = c.key_at-key.result in
    c.bounds_terms.ensures.terms
    ∙ ap (bounds_size c.args.units key.low key.high) c.literal_count.ensures.count
    ∙ ap (λ (k : Bounded). key_rows_size c.args.units k) c.key_at-key.ensures.key
