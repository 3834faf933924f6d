use Rattle.std.proofs.Common.{◌≡◌, ◌<◌, false, ap, subst, sym}
use Rattle.rule_core.specs.Keys.{KeyList}
use Rattle.descent.specs.KeySet.{is_in}
use Rattle.descent.proofs.SetLemmas.{AreMarked-add, room_left}
use Rattle.descent.proofs.key_set.KeySet.add.Goals as goal

pub push-requires : goal.push-requires
push-requires c =
    let below : c.args.key < c.self.inside.keys.room = subst (λ (s : KeyList). c.args.key < s.room) (sym c.self.view_is) c.requires.below in
    let new : is_in c.self.inside.keys.list c.args.key ≡ false = subst (λ (s : KeyList). is_in s.list c.args.key ≡ false) (sym c.self.view_is) c.requires.new in
    room_left c.self.inside.keys c.self.inside.marks.items c.args.key c.self.invariant below new

pub invariant_of-self : goal.invariant_of-self
invariant_of-self c =
    let below : c.args.key < c.self.inside.keys.room = subst (λ (s : KeyList). c.args.key < s.room) (sym c.self.view_is) c.requires.below in
    let new : is_in c.self.inside.keys.list c.args.key ≡ false = subst (λ (s : KeyList). is_in s.list c.args.key ≡ false) (sym c.self.view_is) c.requires.new in
    AreMarked-add c.self.inside.keys c.self.inside.marks.items c.args.key c.push.new.self c.self.invariant below new (ap (λ (s : KeyList). s.list) c.push.ensures) (ap (λ (s : KeyList). s.room) c.push.ensures)
