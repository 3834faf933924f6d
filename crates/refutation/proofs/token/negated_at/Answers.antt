use Rattle.std.proofs.Common.{refl}
use Rattle.std.proofs.lemmas.Result.{err_from_is_err_and}
use Rattle.refutation.proofs.TokenLemmas.{item-positive, negated-item, negated-wrong, negated-zero}
use Rattle.refutation.proofs.token.negated_at.Goals as goal

pub returns-in_err-token-clause-token : goal.returns-in_err-token-clause-token
returns-in_err-token-clause-token c =
    let p = err_from_is_err_and c.from_residual.result c.from_residual.ensures.1 in
    rw (p.1, p.2) (c.in_err-token.ensures.token.0, negated-wrong c.args.digits.now c.in_err-token.ensures.token.1)

pub returns-in_default-clause-token : goal.returns-in_default-clause-token
returns-in_default-clause-token c =
    (refl, negated-zero c.args.digits.now _ (rw c.in_default.is at c.in_ok-token.ensures.token))

pub literal_of-requires : goal.literal_of-requires
literal_of-requires c = item-positive _ _ _ (rw c.in-Some.is at c.in_ok-token.ensures.token)

pub returns-clause-token : goal.returns-clause-token
returns-clause-token c =
    negated-item c.args.digits.now _ _ _ (rw c.in-Some.is at c.in_ok-token.ensures.token) c.literal_of.ensures.small
    c.literal_of.ensures.value
