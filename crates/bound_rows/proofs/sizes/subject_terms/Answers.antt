use Rattle.std.proofs.Common.{◌*◌, ℕ, List, length, ap, sym, ◌∙◌}
use Rattle.encoding.specs.Keys.{places_of}
use Rattle.bound_rows.proofs.PartSizes.{subject_size-places}
use Rattle.bound_rows.proofs.sizes.subject_terms.Goals as goal

pub returns-else-is_empty-clause-terms : goal.returns-else-is_empty-clause-terms
returns-else-is_empty-clause-terms c =
    let n = c.args.n in
    let class = c.args.class.now in
    ap (λ (ps : List ℕ). length ps * c.key_terms.result) c.places_of-places.ensures.places
    ∙ ap (λ (k : ℕ). length (places_of n class) * k) c.key_terms.ensures.terms
    ∙ sym (subject_size-places n class c.args.subject _ c.requires.bounds)
