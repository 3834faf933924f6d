use Rattle.std.proofs.Common.{◌≡◌, false, sym, arith}
use Rattle.league.specs.Sets.{is_in}
use Rattle.robinx.proofs.DraftLemmas.{all_in_range, fails_in_range}
use Rattle.robinx.proofs.draft.contain_all.Goals as goal

pub returns-then-not-contains : goal.returns-then-not-contains
returns-then-not-contains c =
    let fails : is_in c.loop-id.id c.args.ids.now ≡ false = cc in
    sym (fails_in_range (λ i. is_in i c.args.ids.now) 0 c.args.count c.loop-id.id (omega arith) (omega arith) fails)

pub returns : goal.returns
returns c = sym (all_in_range (λ i. is_in i c.args.ids.now) 0 c.args.count (λ k low high. c.loop-id.invariant k (omega arith)))
