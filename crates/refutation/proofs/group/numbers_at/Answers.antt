use Rattle.refutation.specs.Lines.{is_count, is_small_number, number}
use Rattle.refutation.proofs.GroupLemmas.{so_far-more, so_far-start}
use Rattle.refutation.proofs.group.numbers_at.Goals as goal

pub tokens-init : goal.tokens-init
tokens-init c = so_far-start is_count is_small_number number c.args.bytes.now c.args.numbers.now.items

pub tokens-preserved : goal.tokens-preserved
tokens-preserved c =
    rw c.in_ok-push.ensures.items
    (so_far-more is_count is_small_number number _ c.tokens.rest.now c.tokens.all_small _ c.tokens.numbers.items
    c.in-Some.item c.in-Some-left.left c.tokens.invariant
    (rw (c.in-Some.is, c.in-Some-left.is) at c.in_ok-token.ensures.token))
