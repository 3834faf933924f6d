use Rattle.std.proofs.Common.{◌*◌, ℕ, length, ap, sym, ◌∙◌}
use Rattle.encoding.specs.Keys.{subjects_of}
use Rattle.encoding.proofs.AlikeKeys.{size_of-pairs}
use Rattle.encoding.proofs.sizes.paired_terms.Goals as goal

pub returns-clause-terms : goal.returns-clause-terms
returns-clause-terms c =
    let class = c.args.class.now in
    ap (λ (k : ℕ). k * c.pair_terms.result) c.subject_count.ensures.count
    ∙ ap (λ (k : ℕ). length (subjects_of class) * k) c.pair_terms.ensures.terms
    ∙ sym (size_of-pairs c.args.n class c.requires.fits c.requires.pairs)
