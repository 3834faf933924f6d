use Rattle.std.proofs.Common.{ℕ, List, [], ◌∷◌, ◌++◌, ap, sym, ◌∙◌}
use Rattle.explain.proofs.MemberLemmas.{numbers-more}
use Rattle.explain.proofs.member.numbers_of.Goals as goal

pub loop-member-preserved : goal.loop-member-preserved
loop-member-preserved c =
    c.in_ok-push.ensures.items
    ∙ ap (λ (numbers : List ℕ). numbers ++ c.member-item.result.number ∷ []) c.loop-member.invariant
    ∙ sym
    (numbers-more c.args.members.now c.loop-member.member-index c.member-item.result c.loop-member-test.true
    c.member-item.is)
