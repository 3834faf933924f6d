use Rattle.std.proofs.Common.{◌+◌, ◌-◌, ◌/◌, ◌%◌, [], ◌∷◌, ◌++◌, length, sym, ap, ◌∙◌, arith}
use Rattle.std.proofs.lemmas.Fmt.{decimal_digit, decimal_step}
use Rattle.command_show.proofs.head.digits_of.Goals as goal

pub returns-then-n-le10-clause-value : goal.returns-then-n-le10-clause-value
returns-then-n-le10-clause-value c = sym (ap length (decimal_digit (c.args.n - 1) (omega arith)))

pub returns-else-n-le10-clause-value : goal.returns-else-n-le10-clause-value
returns-else-n-le10-clause-value c =
    let last = c.args.n - 1 in
    sym (ap length (decimal_step last (omega arith) (omega arith)
    ∙ ap (λ text. text ++ (48 + last % 10) ∷ []) (decimal_digit (last / 10) (omega arith))))
