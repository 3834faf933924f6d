use Rattle.refutation.proofs.TokenLemmas.{long-value}
use Rattle.refutation.proofs.token.long_number.Goals as goal

pub returns : goal.returns
returns c =
    let d = c.decimal.ensures in
    rw c.ok.ensures.value
    (long-value c.args.digits.now c.decimal.result c.requires.digits c.requires.some d.value d.bad.0 d.too_large)
