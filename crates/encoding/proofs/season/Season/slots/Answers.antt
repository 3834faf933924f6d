use Rattle.std.proofs.Common.{◌≡◌, ℕ, length, arith, ap, ◌∙◌}
use Rattle.std.proofs.lemmas.List.FromFn.{length-range_with_len}
use Rattle.league.specs.Counts.{slot_count, slots_of}
use Rattle.encoding.proofs.AscendLemmas.{AscendsBy-below}
use Rattle.encoding.proofs.NumberLemmas.{slots_are}
use Rattle.encoding.proofs.season.Season.slots.Goals as goal

pub returns-clause-ascend : goal.returns-clause-ascend
returns-clause-ascend c =
    slots_are c.args.self.now c.deref.result.now
    (c.deref.ensures.value ∙ c.self.invariant.slots ∙ ap (λ (n : ℕ). slots_of n) c.self.view_is)

pub returns-clause-below : goal.returns-clause-below
returns-clause-below c =
    AscendsBy-below (λ s. s) 0 c.deref.result.now (slot_count c.args.self.now)
    (slots_are c.args.self.now c.deref.result.now
    (c.deref.ensures.value ∙ c.self.invariant.slots ∙ ap (λ (n : ℕ). slots_of n) c.self.view_is))

pub returns-clause-few : goal.returns-clause-few
returns-clause-few c =
    ap length (c.deref.ensures.value ∙ c.self.invariant.slots ∙ ap (λ (n : ℕ). slots_of n) c.self.view_is)
    ∙ length-range_with_len 0 (slot_count c.args.self.now)

pub returns-clause-at_most : goal.returns-clause-at_most
returns-clause-at_most c =
    let counted : length c.deref.result.now ≡ slot_count c.self.inside.n = ap length
    (c.deref.ensures.value ∙ c.self.invariant.slots) ∙ length-range_with_len 0 (slot_count c.self.inside.n) in
    omega (arith, counted, c.self.invariant.count.at_most)
