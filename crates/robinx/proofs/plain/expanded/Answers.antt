use Rattle.std.proofs.Common.{◌≡◌, ℕ, ◌-◌, List, ◌++◌, length, drop, sym, ap, ◌∙◌, arith}
use Rattle.std.proofs.lemmas.List.{append-nil, length-drop, take_all}
use Rattle.robinx.specs.Plain.{expanded_from}
use Rattle.robinx.proofs.EntityLemmas.{drop_next, expanded_end}
use Rattle.robinx.proofs.plain.expanded.Goals as goal

pub loop-place-preserved : goal.loop-place-preserved
loop-place-preserved c =
    let bytes = c.args.bytes.now in
    let rest = drop c.loop-place.place bytes in
    let whole = take_all (length bytes - c.loop-place.place) rest (omega (arith, length-drop c.loop-place.place bytes)) in
    ap (λ (r : List ℕ). c.take_byte.new.text.items ++ expanded_from c.in_ok-inside.inside r) (drop_next c.loop-place.place bytes ∙ ap (λ (r : List ℕ). drop 1 r) (sym whole))
    ∙ c.in_ok-inside.ensures
    ∙ ap (λ (r : List ℕ). c.loop-place.text.items ++ expanded_from c.loop-place.inside r) whole
    ∙ c.loop-place.invariant

pub returns : goal.returns
returns c =
    let rest = drop c.loop-place.place c.args.bytes.now in
    let none : length rest ≡ 0 = omega (arith, length-drop c.loop-place.place c.args.bytes.now) in
    let text = c.loop-place.text.items in
    sym (append-nil text) ∙ ap (λ (r : List ℕ). text ++ r) (sym (expanded_end c.loop-place.inside rest none)) ∙ c.loop-place.invariant
