use Rattle.std.proofs.Common.{refl, sym, ◌∙◌}
use Rattle.std.proofs.lemmas.Result.{err_from_is_err_and}
use Rattle.refutation.proofs.LineLemmas.{last-none, last-some, last-wrong, last-zero}
use Rattle.refutation.proofs.line.last_number.Goals as goal

pub returns-in_err-token : goal.returns-in_err-token
returns-in_err-token c =
    let p = err_from_is_err_and c.from_residual.result c.from_residual.ensures.1 in
    rw (p.1, p.2) (c.in_err-token.ensures.token.0, last-wrong c.args.text.now c.in_err-token.ensures.token.1)

pub returns-in_default : goal.returns-in_default
returns-in_default c =
    (refl, last-zero c.args.text.now c.in_ok-token.left (rw c.in_default.is at c.in_ok-token.ensures.token))

pub returns-then-is_some : goal.returns-then-is_some
returns-then-is_some c = (
  refl,
  last-some c.args.text.now c.in-Some.item c.in_ok-token.left (sym c.is_some.ensures ∙ c.if-is_some.true)
      (rw c.in-Some.is at c.in_ok-token.ensures.token),
)

pub returns : goal.returns
returns c =
    last-none c.args.text.now c.in-Some.item c.in_ok-token.left (sym c.is_some.ensures ∙ c.if-is_some.false)
    (rw c.in-Some.is at c.in_ok-token.ensures.token)
