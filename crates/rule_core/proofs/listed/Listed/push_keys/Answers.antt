use Rattle.std.proofs.Common.{ℕ, subst, ◌==◌, ◌||◌}
use Rattle.std.specs.Option.{option_to_list}
use Rattle.rule_core.specs.Keys.{keys_where}
use Rattle.rule_core.specs.Listed.{IsKeyOf}
use Rattle.rule_core.proofs.KeyLemmas.{room_left, two_more}
use Rattle.rule_core.proofs.KeyListLemmas.{keys_sorted, option_to_list-le}
use Rattle.rule_core.proofs.listed.Listed.push_keys.Goals as goal

pub push_some-requires-2 : goal.push_some-requires-2
push_some-requires-2 c = room_left c.args.keys.now c.push_some.new.self (option_to_list c.key.result) c.push_some.ensures c.requires.spare (option_to_list-le c.key.result)

pub returns : goal.returns
returns c =
    let now = c.args.self.now in
    two_more c.args.keys.now c.push_some.new.self c.push_some-2.new.self
    (option_to_list c.key.result) (option_to_list c.key-2.result) (keys_where (λ x. (x == c.args.one) || (x == c.args.other)) now)
    c.push_some.ensures c.push_some-2.ensures
    (keys_sorted now c.args.one c.args.other c.key.result c.key-2.result c.key.ensures.ascending c.requires.differ
    (subst (λ (t : ℕ). IsKeyOf now t c.key.result) c.min.ensures c.key.ensures.key)
    (subst (λ (t : ℕ). IsKeyOf now t c.key-2.result) c.max.ensures c.key-2.ensures.key))
