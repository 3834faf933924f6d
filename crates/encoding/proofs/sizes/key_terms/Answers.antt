use Rattle.std.proofs.Common.{ap, ◌∙◌, arith}
use Rattle.rows.specs.Rows.{size_of}
use Rattle.encoding.specs.Keys.{Bounded, held, rows_of_key}
use Rattle.encoding.proofs.ClassSizeLemmas.{literals_few, size_of-counted}
use Rattle.encoding.proofs.sizes.key_terms.Goals as goal

pub between_terms-requires : goal.between_terms-requires
between_terms-requires c =
    omega (arith, c.literal_count.ensures.few, c.key_at-key.ensures.few, literals_few c.args.class.now)

pub returns-clause-terms : goal.returns-clause-terms
returns-clause-terms c =
    c.between_terms.ensures.terms
    ∙ size_of-counted c.literal_count.result (held c.args.n c.key_at-key.result) c.literal_count.ensures.count
    ∙ ap (λ (key : Bounded). size_of (rows_of_key key)) c.key_at-key.ensures.key

pub returns-clause-most : goal.returns-clause-most
returns-clause-most c =
    omega (arith, c.between_terms.ensures.most, c.literal_count.ensures.few, c.key_at-key.ensures.few)
