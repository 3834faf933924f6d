use Rattle.std.proofs.Common.{ap, ◌∙◌, arith}
use Rattle.encoding.specs.Keys.{Bounded}
use Rattle.encoding.proofs.ClassSizeLemmas.{literals_few}
use Rattle.bound_rows.specs.Sizes.{between_size, key_size}
use Rattle.bound_rows.proofs.sizes.key_terms.Goals as goal

pub between_terms-requires-clause-count : goal.between_terms-requires-clause-count
between_terms-requires-clause-count c =
    omega (arith, c.literal_count.ensures.few, c.key_at-key.ensures.few, literals_few c.args.class.now)

pub returns-clause-terms : goal.returns-clause-terms
returns-clause-terms c =
    let key = c.key_at-key.result in
    c.between_terms.ensures.terms
    ∙ ap (between_size key.low key.high) c.literal_count.ensures.count
    ∙ ap (λ (k : Bounded). key_size k) c.key_at-key.ensures.key
