use Rattle.refutation.specs.Lines.{is_literal, is_small_variable, literal}
use Rattle.refutation.proofs.GroupLemmas.{so_far-more, so_far-start}
use Rattle.refutation.proofs.group.literals_at.Goals as goal

pub tokens-init : goal.tokens-init
tokens-init c = so_far-start is_literal is_small_variable literal c.args.bytes.now c.args.literals.now.items

pub tokens-preserved : goal.tokens-preserved
tokens-preserved c =
    rw c.in_ok-push.ensures.items
    (so_far-more is_literal is_small_variable literal _ c.tokens.rest.now c.tokens.all_small _
    c.tokens.literals.items c.in-Some.item c.in-Some-left.left c.tokens.invariant
    (rw (c.in-Some.is, c.in-Some-left.is) at c.in-Ok.ensures.token))
