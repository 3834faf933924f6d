use Rattle.std.proofs.Common.{sym, ◌∙◌}
use Rattle.explain.proofs.PartLemmas.{ascending_among, hard_among, hard_more-no, hard_more-yes}
use Rattle.explain.proofs.hard.hard_numbers.Goals as goal
use Rattle.explain.proofs.hard.hard_numbers.Goals.{then-is_hard_number+in_ok-push, else-is_hard_number}

pub loop-before-preserved : goal.loop-before-preserved
loop-before-preserved c =
    elim c.if-is_hard_number.branch [
      | then-is_hard_number+in_ok-push w ↦
          let next = hard_more-yes c.constraints-constraints.result.now c.loop-before.before
          (sym c.is_hard_number.ensures ∙ w.if-is_hard_number.true) in
          cc (next, w.in_ok-push.ensures.items)
      | else-is_hard_number w ↦
          let next = hard_more-no c.constraints-constraints.result.now c.loop-before.before
          (sym c.is_hard_number.ensures ∙ w.if-is_hard_number.false) in
          cc next
    ]

pub returns-clause-hard : goal.returns-clause-hard
returns-clause-hard c =
    hard_among c.args.league.now.constraints c.constraints-constraints.result.now c.loop-before.before
    c.loop-before.numbers.items c.constraints-constraints.ensures c.loop-before.invariant

pub returns-clause-ascending : goal.returns-clause-ascending
returns-clause-ascending c =
    ascending_among c.constraints-constraints.result.now c.loop-before.before c.loop-before.numbers.items
    c.loop-before.invariant
