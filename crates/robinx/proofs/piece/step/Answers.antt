use Rattle.std.proofs.Common.{◌≡◌, ◌+◌, ◌-◌, length, Err, ap, arith}
use Rattle.robinx.proofs.PieceLemmas.{pieces_from-found, PassesOver-fault}
use Rattle.robinx.proofs.piece.step.Goals as goal

pub returns-in-Ok-clause-pieces : goal.returns-in-Ok-clause-pieces
returns-in-Ok-clause-pieces c =
    let bytes = c.args.bytes.now in
    let passed = c.max-passed.result in
    let is : passed ≡ 1 + (length bytes - 1 - length c.in-Ok.after.now) = omega (arith, c.max-passed.ensures, c.saturating_sub.ensures) in
    let found = pieces_from-found c.args.line bytes c.in-Ok.after.now _ passed c.requires.some is c.in-Ok.ensures.piece in
    rw (c.line_past.ensures, c.split_at.ensures.front, c.split_at.ensures.back) found

pub returns-in-Err-clause-pieces : goal.returns-in-Err-clause-pieces
returns-in-Err-clause-pieces c =
    rw c.on_line.ensures (PassesOver-fault c.args.line c.args.bytes.now c.in-Err.stop c.requires.some c.in-Err.ensures.piece (λ is. c.in-Err.ensures.memory (ap Err is)))
