use Rattle.std.proofs.Common.{◌≡◌, true, get_or, arith, sym, ◌∙◌}
use Rattle.std.specs.Char.{is_ascii_digit}
use Rattle.refutation.proofs.TokenLemmas.{digits-more, value-more}
use Rattle.refutation.proofs.FrontLemmas.{digits-first, value-first}
use Rattle.refutation.proofs.front.few_digits.Goals as goal

pub loop-len-init : goal.loop-len-init
loop-len-init c = record {
  some = omega arith;
  within = c.requires.some;
  digits = digits-first c.args.bytes.now c.requires;
  value = λ few. value-first c.args.bytes.now _ c.requires c.followed_by-value.ensures;
}

pub loop-len-preserved : goal.loop-len-preserved
loop-len-preserved c =
    let i = c.loop-len.invariant in
    let bytes = c.args.bytes.now in
    let len = c.loop-len.len in
    let digit : is_ascii_digit (get_or bytes len 0) ≡ true = sym c.is_ascii_digit.ensures.value
    ∙ c.if-is_ascii_digit.true in
    record {
      some = omega arith;
      within = omega arith;
      digits = digits-more bytes len c.loop-len-test.true i.digits digit;
      value = λ short. c.followed_by-value-in-loop-len.ensures
          ∙ value-more bytes len c.loop-len.value c.loop-len-test.true short i.digits digit (i.value (omega arith));
    }
