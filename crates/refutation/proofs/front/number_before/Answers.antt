use Rattle.std.proofs.Common.{sym, ◌∙◌}
use Rattle.std.proofs.lemmas.List.{take_rest}
use Rattle.refutation.proofs.FrontLemmas.{number-front}
use Rattle.refutation.proofs.front.number_before.Goals as goal

pub returns : goal.returns
returns c =
    let bytes = c.args.bytes.now in
    let len = c.few_digits-len.result.0 in
    number-front bytes len c.few_digits-len.result.1 c.if-not-begins_number.ensures c.few_digits-len.ensures
    c.if-len-gt-SHORT.false c.args.end c.in-Some.left.now
    (sym (take_rest bytes len) ∙ c.in-Some.ensures)
