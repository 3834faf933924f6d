use Rattle.std.proofs.Common.{◌++◌, decimal, ap, ◌∙◌}
use Rattle.std.specs.Prelude.{ℕ}
use Rattle.robinx.proofs.WrittenTexts.{joined-cons, two_pieces}
use Rattle.robinx.proofs.write_tag.put_ids.Goals as goal

pub returns : goal.returns
returns c =
    rw (c.in-Some.ensures.cases.0, joined-cons c.in-Some.first.now c.in-Some.others.now)
    (two_pieces c.args.text.now.items c.put_decimal.new.out.items c.put_further_ids.new.text.items _ _ (c.in_ok-put_decimal.ensures.ok ∙ ap (λ (n : ℕ). c.args.text.now.items ++ decimal n) c.from.ensures) c.in_ok-put_further_ids.ensures)
