use Rattle.std.proofs.Common.{◌≡◌, List, [], ◌∷◌, ◌++◌, ℕ, ◌+◌, ap, sym, ◌∙◌, arith}
use Rattle.std.specs.List.{range_with_len}
use Rattle.league.proofs.RangeLemmas.{range_with_len-more}
use Rattle.command_show.proofs.asked.all_numbers.Goals as goal

-- the numbers from 1 on, with one more
numbers-more : (numbers : List ℕ) (k : ℕ) → numbers ≡ range_with_len 1 k → numbers ++ (k + 1) ∷ [] ≡ range_with_len 1 (k + 1)
numbers-more numbers k are =
    let last : k + 1 ≡ 1 + k = omega arith in
    rw are (ap (λ (next : ℕ). range_with_len 1 k ++ next ∷ []) last ∙ sym (range_with_len-more 1 k))

pub loop-place-preserved : goal.loop-place-preserved
loop-place-preserved c =
    c.in_ok-push.ensures.items ∙ numbers-more c.loop-place.numbers.items c.loop-place.place c.loop-place.invariant

pub returns : goal.returns
returns c =
    let all : c.loop-place.place ≡ c.args.count = omega (arith, c.loop-place-test.false, c.loop-place.auto.place-end) in
    c.loop-place.invariant ∙ ap (range_with_len 1) all
