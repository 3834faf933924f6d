use Rattle.std.proofs.Common.{refl}
use Rattle.std.proofs.lemmas.List.{take_rest}
use Rattle.std.proofs.lemmas.Result.{err_from_is_err_and}
use Rattle.refutation.proofs.TokenLemmas.{first-other, first-wrong, first-token}
use Rattle.refutation.proofs.token.number_at.Goals as goal

pub returns-in_err-left-clause-token : goal.returns-in_err-left-clause-token
returns-in_err-left-clause-token c =
    let p = err_from_is_err_and c.from_residual.result c.from_residual.ensures.1 in
    rw (p.1, p.2) (first-other c.args.bytes.now _ _ _ _ c.digits_at-len.ensures
    (take_rest c.args.bytes.now c.digits_at-len.result.0) c.in_err-left.ensures.token)

pub returns-in_err-token-clause-token : goal.returns-in_err-token-clause-token
returns-in_err-token-clause-token c =
    let p = err_from_is_err_and c.from_residual-in_err-token.result c.from_residual-in_err-token.ensures.1 in
    rw (p.1, p.2) (first-wrong c.args.bytes.now _ _ _ _ c.in_ok-left.left _ c.digits_at-len.ensures
    (take_rest c.args.bytes.now c.digits_at-len.result.0) refl c.in_ok-left.ensures.token c.in_err-token.ensures)

pub returns-clause-token : goal.returns-clause-token
returns-clause-token c =
    first-token c.args.bytes.now _ _ _ _ c.in_ok-left.left c.in_ok-token.token c.digits_at-len.ensures
    (take_rest c.args.bytes.now c.digits_at-len.result.0) refl c.in_ok-left.ensures.token c.in_ok-token.ensures
