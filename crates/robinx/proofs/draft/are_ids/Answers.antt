use Rattle.std.proofs.Common.{◌≡◌, ◌==◌, true, false, length, refl, arith}
use Rattle.std.proofs.lemmas.Bool.Decides.{nat_tests}
use Rattle.robinx.proofs.DraftLemmas.{are_ids-range}
use Rattle.robinx.proofs.draft.are_ids.Goals as goal

pub returns-then-ids-count : goal.returns-then-ids-count
returns-then-ids-count c =
    let same : (length c.args.ids.now == c.args.count) ≡ true = grind (arith, nat_tests) in
    rw (are_ids-range c.args.ids.now c.args.count, same) c.contain_all.ensures

pub returns-else-ids-count : goal.returns-else-ids-count
returns-else-ids-count c =
    let differ : (length c.args.ids.now == c.args.count) ≡ false = grind (arith, nat_tests) in
    rw (are_ids-range c.args.ids.now c.args.count, differ) refl
