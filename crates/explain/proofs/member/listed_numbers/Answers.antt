use Rattle.std.proofs.Common.{ℕ, sym, ◌∙◌}
use Rattle.league.specs.Sets.{is_in}
use Rattle.explain.proofs.MemberLemmas.{filtered-no, filtered-yes}
use Rattle.explain.proofs.member.listed_numbers.Goals as goal
use Rattle.explain.proofs.member.listed_numbers.Goals.{then-is_among+in_ok-push, else-is_among}

pub loop-member-preserved : goal.loop-member-preserved
loop-member-preserved c =
    let keep = λ (k : ℕ). is_in k c.args.named.now in
    elim c.if-is_among.branch [
      | then-is_among+in_ok-push w ↦
          let next = filtered-yes keep c.args.members.now c.loop-member.member-index c.member-item.result
          c.loop-member-test.true c.member-item.is (sym c.is_among.ensures ∙ w.if-is_among.true) in
          cc (next, w.in_ok-push.ensures.items)
      | else-is_among w ↦
          let next = filtered-no keep c.args.members.now c.loop-member.member-index c.member-item.result
          c.loop-member-test.true c.member-item.is (sym c.is_among.ensures ∙ w.if-is_among.false) in
          cc next
    ]
