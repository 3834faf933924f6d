use Rattle.std.proofs.Common.{◌≡◌, true, get_or, arith, sym, ◌∙◌}
use Rattle.std.specs.Char.{is_ascii_digit}
use Rattle.refutation.proofs.TokenLemmas.{digits-more, value-more, short-fits}
use Rattle.refutation.proofs.token.digits_at.Goals as goal
use Rattle.refutation.proofs.token.digits_at.Goals.{then-loop-len-test+else-is_ascii_digit, else-loop-len-test}

pub loop-len-preserved : goal.loop-len-preserved
loop-len-preserved c =
    let i = c.loop-len.invariant in
    let bytes = c.args.bytes.now in
    let len = c.loop-len.len in
    let digit : is_ascii_digit (get_or bytes len 0) ≡ true = sym c.is_ascii_digit.ensures.value
    ∙ c.if-is_ascii_digit.true in
    record {
      within = omega arith;
      digits = digits-more bytes len c.loop-len-test.true i.digits digit;
      value = λ short. c.followed_by-value.ensures ∙ value-more bytes len c.loop-len.value c.loop-len-test.true short
          i.digits digit (i.value (omega arith));
    }

pub returns-then-len-le-SHORT : goal.returns-then-len-le-SHORT
returns-then-len-le-SHORT c =
    let i = c.loop-len.invariant in
    let short = c.if-len-le-SHORT.true in
    record {
      within = i.within;
      digits = i.digits;
      longest = λ within. elim c.loop-len-test.branch [
        | then-loop-len-test+else-is_ascii_digit w ↦ sym w.is_ascii_digit.ensures.value ∙ w.if-is_ascii_digit.false
        | else-loop-len-test w ↦ absurd (omega arith)
      ];
      value = (short-fits c.args.bytes.now c.loop-len.len short i.digits, i.value short);
    }
