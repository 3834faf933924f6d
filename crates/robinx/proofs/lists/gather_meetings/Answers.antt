use Rattle.std.proofs.Common.{◌≡◌, ℕ, ◌<◌, List, false, length, eqb, Ok, Err, sym, ap, ◌∙◌, arith}
use Rattle.std.specs.List.{before_first}
use Rattle.std.proofs.lemmas.Bool.Decides.{nat_tests}
use Rattle.std.proofs.lemmas.Result.{err_from_is_err_and}
use Rattle.league.specs.Sets.{with_item, pair_cmp}
use Rattle.robinx.specs.Values.{meeting, each, items_of}
use Rattle.robinx.specs.Gathered.{gathered}
use Rattle.robinx.proofs.ItemLemmas.{gathered_more, gathered_fault}
use Rattle.robinx.proofs.lists.gather_meetings.Goals as goal

pub items-preserved : goal.items-preserved
items-preserved c =
    let isnt : eqb (length c.items.rest.now) 0 ≡ false = sym c.items-test.ensures in
    let some : 0 < length c.items.rest.now = grind (arith, nat_tests) in
    let is : meeting c.args.n (before_first (λ b. eqb b 59) c.items.rest.now) ≡ Ok (c.in_ok-home.home, c.in_ok-home.away) = sym (ap (meeting c.args.n) c.split_at_byte.ensures.before) ∙ sym c.in_ok-home.ensures in
    ap (λ (s : List (ℕ × ℕ)). gathered pair_cmp s (each (meeting c.args.n) (items_of c.split_at_byte.result.1.now))) c.in_ok-insert.ensures.ok
    ∙ ap (λ (t : List ℕ). gathered pair_cmp (with_item pair_cmp (c.in_ok-home.home, c.in_ok-home.away) c.items.meetings) (each (meeting c.args.n) (items_of t))) c.split_at_byte.ensures.after
    ∙ gathered_more pair_cmp (meeting c.args.n) c.items.meetings c.items.rest.now (c.in_ok-home.home, c.in_ok-home.away) some is
    ∙ c.items.invariant

pub returns-in_err-home : goal.returns-in_err-home
returns-in_err-home c =
    let isnt : eqb (length c.items.rest.now) 0 ≡ false = sym c.items-test.ensures in
    let some : 0 < length c.items.rest.now = grind (arith, nat_tests) in
    let is : meeting c.args.n (before_first (λ b. eqb b 59) c.items.rest.now) ≡ Err c.in_err-home.field-0.0 = sym (ap (meeting c.args.n) c.split_at_byte.ensures.before) ∙ sym c.in_err-home.ensures in
    let p = err_from_is_err_and c.from_residual.result c.from_residual.ensures.1 in
    rw (p.1, p.2) (sym c.items.invariant ∙ gathered_fault pair_cmp (meeting c.args.n) c.items.meetings c.items.rest.now c.in_err-home.field-0.0 some is)
