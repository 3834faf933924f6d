use Rattle.std.proofs.Common.{◌≤◌, ◌<◌, ◌+◌, List, length, ap, sym, ◌∙◌, arith}
use Rattle.std.proofs.lemmas.List.{take_all}
use Rattle.std.specs.List.{flat_map}
use Rattle.rows.specs.Rows.{size_of}
use Rattle.encoding.specs.Keys.{most_literals, rows_of_subject, subjects_of}
use Rattle.encoding.specs.declared.subjects.Subject.{Subject}
use Rattle.encoding.proofs.KeyLaws.{class_rows-keys}
use Rattle.encoding.proofs.ClassSizeLemmas.{most_in_all, most_more, sized}
use Rattle.encoding.proofs.sizes.counted_terms.Goals as goal

pub overflow_add-total : goal.overflow_add-total
overflow_add-total c =
    let m = most_literals c.args.class.now in
    let next = most_more 156 c.loop-place.total c.subject_terms-total.result c.loop-place.place m c.loop-place.invariant.most
    c.subject_terms-total.ensures.most in
    let within : c.loop-place.place + 1 ≤ c.subject_count-place-end.result = omega arith in
    omega (
      arith,
      most_in_all 156 (c.loop-place.total + c.subject_terms-total.result) (c.loop-place.place + 1)
          c.subject_count-place-end.result m 249600 next within c.subject_count-place-end.ensures.literals,
    )

pub loop-place-preserved : goal.loop-place-preserved
loop-place-preserved c =
    let class = c.args.class.now in
    let there : c.loop-place.place < length (subjects_of class) = omega (arith, c.subject_count-place-end.ensures.count) in
    record {
      so_far = sized (rows_of_subject c.args.n class) (subjects_of class) c.loop-place.place c.subject_at.result
          c.loop-place.total c.subject_terms-total.result there c.loop-place.invariant.so_far
          (c.subject_at.ensures.subject c.subject_at.result) c.subject_terms-total.ensures.terms;
      most = most_more 156 c.loop-place.total c.subject_terms-total.result c.loop-place.place (most_literals class)
          c.loop-place.invariant.most c.subject_terms-total.ensures.most;
    }

pub returns-clause-terms : goal.returns-clause-terms
returns-clause-terms c =
    let class = c.args.class.now in
    let all : length (subjects_of class) ≤ c.loop-place.place = omega (arith, c.subject_count-place-end.ensures.count) in
    c.loop-place.invariant.so_far
    ∙ ap (λ (ss : List Subject). size_of (flat_map (rows_of_subject c.args.n class) ss))
    (take_all c.loop-place.place (subjects_of class) all)
    ∙ sym (ap size_of (class_rows-keys c.args.n class))

pub returns-clause-most : goal.returns-clause-most
returns-clause-most c =
    let within : c.loop-place.place ≤ c.subject_count-place-end.result = omega arith in
    omega (
      arith,
      most_in_all 156 c.loop-place.total c.loop-place.place c.subject_count-place-end.result (most_literals c.args.class.now)
          249600 c.loop-place.invariant.most within c.subject_count-place-end.ensures.literals,
    )
