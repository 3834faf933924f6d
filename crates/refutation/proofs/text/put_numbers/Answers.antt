use Rattle.std.proofs.Common.{ℕ, ◌≤◌, ◌++◌, List, append-nil, get_or, length, ap, arith, sym, ◌∙◌}
use Rattle.std.specs.List.{flat_map}
use Rattle.std.proofs.lemmas.List.{take_all}
use Rattle.std.proofs.lemmas.Option.{slice_get-get_or}
use Rattle.refutation.specs.Texts.{number_text}
use Rattle.refutation.proofs.StepLemmas.{text-got}
use Rattle.refutation.proofs.text.put_numbers.Goals as goal

pub loop-number-init : goal.loop-number-init
loop-number-init c = sym (append-nil c.args.text.now.items)

pub loop-number-preserved : goal.loop-number-preserved
loop-number-preserved c =
    let k : ℕ = c.loop-number.number-index in
    text-got number_text c.args.numbers.now k (get_or c.args.numbers.now k 0) c.loop-number.text.items
    c.put_number.new.text.items c.args.text.now.items
    (slice_get-get_or c.args.numbers.now k 0 c.loop-number-test.true) c.in_ok-put_number.ensures
    c.loop-number.invariant

pub returns : goal.returns
returns c =
    let past : length c.args.numbers.now ≤ c.loop-number.number-index = omega arith in
    c.loop-number.invariant
    ∙ ap (λ (ns : List ℕ). c.args.text.now.items ++ flat_map number_text ns)
    (take_all c.loop-number.number-index c.args.numbers.now past)
