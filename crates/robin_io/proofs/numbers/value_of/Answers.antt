use Rattle.std.proofs.Common.{arith, rules, refl}
use Rattle.robin_io.proofs.NumberLemmas.{value_more, more-le, value_whole}
use Rattle.robin_io.proofs.numbers.value_of.Goals as goal

pub loop-digit-preserved : goal.loop-digit-preserved
loop-digit-preserved c =
    let more = value_more c.args.digits.now c.loop-digit.digit-index c.requires c.loop-digit-test.true in
    record {
      value = omega (arith, more, c.loop-digit.invariant.value, c.in_ok-value.ensures.1);
      small = search rules;
    }

pub returns-in_err-value : goal.returns-in_err-value
returns-in_err-value c =
    let le = more-le c.args.digits.now c.loop-digit.digit-index c.requires c.loop-digit-test.true in
    rw c.from_residual.ensures (λ small. c.in_err-value.ensures (omega (arith, le, c.loop-digit.invariant.value)))

pub returns : goal.returns
returns c =
    let whole = value_whole c.args.digits.now c.loop-digit.digit-index (omega arith) in
    rw (← whole, ← c.loop-digit.invariant.value) (search rules, refl)
