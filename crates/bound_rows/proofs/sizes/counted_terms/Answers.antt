use Rattle.std.proofs.Common.{◌<◌, ◌≤◌, List, length, ap, sym, ◌∙◌, arith}
use Rattle.std.proofs.lemmas.List.{take_all}
use Rattle.std.specs.List.{sum_by}
use Rattle.encoding.specs.Keys.{subjects_of}
use Rattle.encoding.specs.declared.subjects.Subject.{Subject}
use Rattle.bound_rows.specs.Sizes.{subject_size}
use Rattle.bound_rows.proofs.PartSizes.{parts_size-counted, sum_by-more}
use Rattle.bound_rows.proofs.sizes.counted_terms.Goals as goal

pub overflow_add-total : goal.overflow_add-total
overflow_add-total c =
    omega (arith, c.loop-place.invariant.most, c.subject_terms-total.ensures.most, c.subject_count-place-end.ensures.few)

pub loop-place-preserved : goal.loop-place-preserved
loop-place-preserved c =
    let class = c.args.class.now in
    let there : c.loop-place.place < length (subjects_of class) = omega (arith, c.subject_count-place-end.ensures.count) in
    record {
      so_far = sum_by-more (subject_size c.args.n class) (subjects_of class) c.loop-place.place c.subject_at.result
          c.loop-place.total c.subject_terms-total.result there c.loop-place.invariant.so_far
          (c.subject_at.ensures.subject c.subject_at.result) c.subject_terms-total.ensures.terms;
      most = omega (arith, c.loop-place.invariant.most, c.subject_terms-total.ensures.most);
    }

pub returns-clause-terms : goal.returns-clause-terms
returns-clause-terms c =
    let n = c.args.n in
    let class = c.args.class.now in
    let all : length (subjects_of class) ≤ c.loop-place.place = omega (arith, c.subject_count-place-end.ensures.count) in
    c.loop-place.invariant.so_far
    ∙ ap (λ (ss : List Subject). sum_by (subject_size n class) ss) (take_all c.loop-place.place (subjects_of class) all)
    ∙ sym (parts_size-counted n class c.requires.bounds)

pub returns-clause-most : goal.returns-clause-most
returns-clause-most c =
    omega (arith, c.loop-place.invariant.most, c.subject_count-place-end.ensures.bounded c.requires.bounds)
