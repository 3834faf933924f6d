use Rattle.std.proofs.Common.{◌≡◌, length, replicate, false, ap, sym, ◌∙◌}
use Rattle.std.proofs.lemmas.List.{length-replicate}
use Rattle.rule_core.specs.Keys.{KeyList}
use Rattle.descent.proofs.SetLemmas.{AreMarked-none, replicate_unmarked}
use Rattle.descent.proofs.key_set.KeySet.new.Goals as goal

pub invariant_of-result : goal.invariant_of-result
invariant_of-result c =
    let items : c.in_ok-vec.field-0.items ≡ replicate c.args.room false = c.in_ok-vec.ensures.items_if_clones_equal (λ y e. e) in
    AreMarked-none c.in_ok-new.field-0 c.in_ok-vec.field-0.items (ap (λ (s : KeyList). s.list) c.in_ok-new.ensures) (ap (λ (s : KeyList). s.room) c.in_ok-new.ensures ∙ sym (ap length items ∙ length-replicate c.args.room false)) (replicate_unmarked c.in_ok-vec.field-0.items c.args.room items)
