use Rattle.std.proofs.Common.{◌<◌, ◌≤◌, List, ◌++◌, length, ap, sym, ◌∙◌, arith}
use Rattle.std.proofs.lemmas.List.{take_all}
use Rattle.std.specs.List.{flat_map}
use Rattle.rows.specs.Rows.{Row}
use Rattle.encoding.specs.Keys.{rows_of_subject, subjects_of}
use Rattle.encoding.specs.declared.subjects.Subject.{Subject}
use Rattle.encoding.proofs.KeyLaws.{class_rows-keys}
use Rattle.encoding.proofs.GrownLemmas.{grown}
use Rattle.encoding.proofs.draft.Draft.add_subjects.Goals as goal

pub loop-place-preserved : goal.loop-place-preserved
loop-place-preserved c =
    let class = c.args.class.now in
    let rows = rows_of_subject c.args.n class in
    let subject = c.subject_at-subject.result in
    let there : c.loop-place.place < length (subjects_of class) = omega (arith, c.subject_count-place-end.ensures.count) in
    record {
      rows = grown rows c.args.self.now.rows c.loop-place.self.rows c.add_subject.new.self.rows (rows subject)
          (subjects_of class) c.loop-place.place subject there c.loop-place.invariant.rows
          c.in_ok-add_subject.ensures.rows (ap rows (c.subject_at-subject.ensures.subject subject));
      room = omega (arith, c.loop-place.invariant.room, c.in_ok-add_subject.ensures.few);
    }

pub returns-clause-rows : goal.returns-clause-rows
returns-clause-rows c =
    let n = c.args.n in
    let class = c.args.class.now in
    let old = c.args.self.now.rows in
    let all : length (subjects_of class) ≤ c.loop-place.place = omega (arith, c.subject_count-place-end.ensures.count) in
    c.loop-place.invariant.rows
    ∙ ap (λ (ss : List Subject). old ++ flat_map (rows_of_subject n class) ss)
    (take_all c.loop-place.place (subjects_of class) all)
    ∙ ap (λ (rows : List Row). old ++ rows) (sym (class_rows-keys n class))
