use Rattle.std.proofs.Common.{◌≡◌, ap, arith, length, ◌∙◌}
use Rattle.encoding.proofs.StartLemmas.{rows-hard, rows-soft, starts-all, starts-more}
use Rattle.encoding.proofs.writer.add_constraint_rows.Goals as goal
use Rattle.encoding.proofs.writer.add_constraint_rows.Goals.{then-constraint+in_ok-add_class_rows, else-constraint}

pub loop-constraint-preserved : goal.loop-constraint-preserved
loop-constraint-preserved c =
    let n = c.args.season.now in
    let constraints = c.args.constraints.now in
    let k = c.loop-constraint.constraint-index in
    let old = c.args.draft.now.rows in
    let rows = c.loop-constraint.draft.rows in
    record {
      so_far = elim c.if-constraint.branch [
        | then-constraint+in_ok-add_class_rows w ↦
            rows-hard n k constraints c.constraint-item.result old rows c.if-constraint.draft.rows c.constraint-item.is
            c.loop-constraint-test.true w.if-constraint.true c.loop-constraint.invariant.so_far
            (ap (λ d. d.rows) w.draft-is ∙ w.in_ok-add_class_rows.ensures.rows)
        | else-constraint w ↦
            rows-soft n k constraints c.constraint-item.result old rows c.if-constraint.draft.rows c.constraint-item.is
            c.loop-constraint-test.true w.if-constraint.false c.loop-constraint.invariant.so_far
            (ap (λ d. d.rows) w.draft-is)
      ];
      few = elim c.if-constraint.branch [
        | then-constraint+in_ok-add_class_rows w ↦
            omega (
              arith,
              ap (λ d. length d.rows) w.draft-is,
              w.in_ok-add_class_rows.ensures.few,
              c.loop-constraint.invariant.few,
            )
        | else-constraint w ↦ omega (arith, ap (λ d. length d.rows) w.draft-is, c.loop-constraint.invariant.few)
      ];
      starts = starts-more n k c.len.result constraints old rows c.loop-constraint.starts.items c.push.new.self.items
          c.loop-constraint.invariant.so_far c.len.ensures.len c.loop-constraint.invariant.starts
          c.in_ok-push.ensures.items;
    }

pub returns-clause-starts : goal.returns-clause-starts
returns-clause-starts c =
    starts-all c.args.season.now c.loop-constraint.constraint-index c.len-2.result c.args.constraints.now
    c.args.draft.now.rows c.loop-constraint.draft.rows c.loop-constraint.starts.items c.push-2.new.self.items
    c.loop-constraint.invariant.so_far c.len-2.ensures.len c.loop-constraint.invariant.starts
    c.in_ok-push-2.ensures.items (omega arith)
