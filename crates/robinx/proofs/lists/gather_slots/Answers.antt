use Rattle.std.proofs.Common.{◌≡◌, ℕ, ◌<◌, List, false, length, eqb, Ok, Err, sym, ap, ◌∙◌, arith}
use Rattle.std.specs.Ordering.{nat_cmp}
use Rattle.std.specs.List.{before_first}
use Rattle.std.proofs.lemmas.Bool.Decides.{nat_tests}
use Rattle.std.proofs.lemmas.Result.{err_from_is_err_and}
use Rattle.league.specs.Sets.{with_item}
use Rattle.robinx.specs.Values.{slot, each, items_of}
use Rattle.robinx.specs.Gathered.{gathered}
use Rattle.robinx.proofs.ItemLemmas.{gathered_more, gathered_fault}
use Rattle.robinx.proofs.lists.gather_slots.Goals as goal

pub items-preserved : goal.items-preserved
items-preserved c =
    let isnt : eqb (length c.items.rest.now) 0 ≡ false = sym c.items-test.ensures in
    let some : 0 < length c.items.rest.now = grind (arith, nat_tests) in
    let is : slot c.args.n (before_first (λ b. eqb b 59) c.items.rest.now) ≡ Ok c.in_ok-slot.slot = sym (ap (slot c.args.n) c.split_at_byte.ensures.before) ∙ sym c.in_ok-slot.ensures.value in
    ap (λ (s : List ℕ). gathered nat_cmp s (each (slot c.args.n) (items_of c.split_at_byte.result.1.now))) c.in_ok-insert.ensures.ok
    ∙ ap (λ (t : List ℕ). gathered nat_cmp (with_item nat_cmp c.in_ok-slot.slot c.items.slots) (each (slot c.args.n) (items_of t))) c.split_at_byte.ensures.after
    ∙ gathered_more nat_cmp (slot c.args.n) c.items.slots c.items.rest.now c.in_ok-slot.slot some is
    ∙ c.items.invariant

pub returns-in_err-slot : goal.returns-in_err-slot
returns-in_err-slot c =
    let isnt : eqb (length c.items.rest.now) 0 ≡ false = sym c.items-test.ensures in
    let some : 0 < length c.items.rest.now = grind (arith, nat_tests) in
    let is : slot c.args.n (before_first (λ b. eqb b 59) c.items.rest.now) ≡ Err c.in_err-slot.field-0.0 = sym (ap (slot c.args.n) c.split_at_byte.ensures.before) ∙ sym c.in_err-slot.ensures.value in
    let p = err_from_is_err_and c.from_residual.result c.from_residual.ensures.1 in
    rw (p.1, p.2) (sym c.items.invariant ∙ gathered_fault nat_cmp (slot c.args.n) c.items.slots c.items.rest.now c.in_err-slot.field-0.0 some is)
