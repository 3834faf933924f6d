use Rattle.std.proofs.Common.{ℕ, ◌*◌, length, ap, sym, ◌∙◌, arith}
use Rattle.std.proofs.lemmas.Nat.{mul-le}
use Rattle.encoding.specs.Keys.{subjects_of}
use Rattle.bound_rows.proofs.PartSizes.{parts_size-fa2}
use Rattle.bound_rows.proofs.sizes.fa2_terms.Goals as goal

pub returns-clause-terms : goal.returns-clause-terms
returns-clause-terms c =
    let class = c.args.class.now in
    ap (λ (k : ℕ). k * c.shared_terms.result) c.subject_count.ensures.count
    ∙ ap (λ (k : ℕ). length (subjects_of class) * k) c.shared_terms.ensures.terms
    ∙ sym (parts_size-fa2 c.args.n class c.requires.class)

pub returns-clause-most : goal.returns-clause-most
returns-clause-most c =
    omega (
      arith,
      mul-le c.subject_count.result c.shared_terms.result 780 690000000000 c.subject_count.ensures.few
          c.shared_terms.ensures.most,
    )
