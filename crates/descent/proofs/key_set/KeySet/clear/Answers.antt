use Rattle.std.proofs.Common.{rules, ◌≡◌, ◌<◌, ◌≤◌, ℕ, true, false, length, set, eqb, arith, refl, sym, ap, subst, ◌∙◌}
use Rattle.std.proofs.lemmas.Bool.{eq-eqb}
use Rattle.std.proofs.lemmas.Grind.{common_steps}
use Rattle.std.proofs.lemmas.List.{length-set}
use Rattle.std.proofs.lemmas.Map.Keys.{any_passes_from_place}
use Rattle.std.proofs.lemmas.Option.{get_or_from_slice_get}
use Rattle.rule_core.specs.Keys.{KeyList}
use Rattle.descent.specs.KeySet.{is_in}
use Rattle.descent.proofs.SetLemmas.{AreMarked-none, below_room, left_more, none_left}
use Rattle.descent.proofs.key_set.KeySet.clear.Goals as goal

pub index_mut-requires : goal.index_mut-requires
index_mut-requires c =
    let keys = c.loop-place.self-inside.keys.list in
    let there : is_in keys c.get.result ≡ true = any_passes_from_place (eqb c.get.result) keys c.loop-place.place c.get.result c.get.ensures (eq-eqb c.get.result c.get.result refl) in
    let h : c.get.result < length c.loop-place.self-inside.marks.items = c.loop-place.invariant.below c.get.result there in
    first_of (search rules, grind (arith, common_steps))

pub loop-place-init : goal.loop-place-init
loop-place-init c = record {
  long = sym c.self.invariant.room;
  below = λ k h. below_room c.self.inside.keys c.self.inside.marks.items c.self.invariant k h;
  ends = c.len-place-end.ensures;
  left = λ k h. sym (c.self.invariant.marked k) ∙ h;
}

pub loop-place-preserved : goal.loop-place-preserved
loop-place-preserved c =
    let keys = c.loop-place.self-inside.keys.list in
    let there : is_in keys c.get.result ≡ true = any_passes_from_place (eqb c.get.result) keys c.loop-place.place c.get.result c.get.ensures (eq-eqb c.get.result c.get.result refl) in
    let same : length (set c.loop-place.self-inside.marks.items c.get.result false) ≡ length c.loop-place.self-inside.marks.items = length-set c.loop-place.self-inside.marks.items c.get.result false in
    let within : c.loop-place.place < length keys = omega (arith, c.loop-place.invariant.ends, c.loop-place-test.true) in
    record {
      long = same ∙ c.loop-place.invariant.long;
      below = λ k h. subst (λ (w : ℕ). k < w) (sym same) (c.loop-place.invariant.below k h);
      ends = c.loop-place.invariant.ends;
      left = left_more c.loop-place.self-inside.marks.items keys c.loop-place.place c.get.result within (get_or_from_slice_get keys c.loop-place.place c.get.result 0 c.get.ensures) (c.loop-place.invariant.below c.get.result there) c.loop-place.invariant.left;
    }

pub invariant_of-self : goal.invariant_of-self
invariant_of-self c =
    let past : length c.loop-place.self-inside.keys.list ≤ c.loop-place.place = omega (arith, c.loop-place.invariant.ends, c.loop-place-test.false) in
    AreMarked-none c.clear.new.self c.loop-place.self-inside.marks.items (ap (λ (s : KeyList). s.list) c.clear.ensures) (ap (λ (s : KeyList). s.room) c.clear.ensures ∙ sym c.loop-place.invariant.long)
    (none_left c.loop-place.self-inside.marks.items c.loop-place.self-inside.keys.list c.loop-place.place past c.loop-place.invariant.left)
