use Rattle.std.proofs.Common.{◌≡◌, ℕ, ◌+◌, ◌-◌, length, ap, ◌∙◌, arith}
use Rattle.std.specs.List.{count_by, range_with_len}
use Rattle.patterns.specs.Pattern.{has_break}
use Rattle.league.proofs.RangeLemmas.{counted}
use Rattle.league.proofs.WrongLemmas.{from_bool-le}
use Rattle.patterns.proofs.PatternLemmas.{has_break-read}
use Rattle.patterns.proofs.pattern.breaks_of.Goals as goal

pub loop-slot-preserved : goal.loop-slot-preserved
loop-slot-preserved c =
    let pattern = c.args.pattern.now in
    let slot : ℕ = c.loop-slot.slot in
    record {
      place = omega (arith, c.len-slot-end.ensures.len, c.loop-slot-test.true);
      counted = counted (has_break pattern) 1 (slot - 1) (slot + 1 - 1) slot c.loop-slot.breaks c.from-breaks.result (omega arith) (omega arith) c.loop-slot.invariant.counted (has_break-read pattern slot _ _ _ _ c.side.ensures c.side-in-loop-slot.ensures c.plays_again.ensures c.from-breaks.ensures);
      bounded = omega (arith, from_bool-le _ _ c.from-breaks.ensures);
    }

pub returns-clause-breaks : goal.returns-clause-breaks
returns-clause-breaks c =
    let pattern = c.args.pattern.now in
    let all : c.loop-slot.slot - 1 ≡ length pattern - 1 = omega (arith, c.len-slot-end.ensures.len, c.loop-slot-test.false, c.loop-slot.invariant.place) in
    c.loop-slot.invariant.counted ∙ ap (λ (k : ℕ). count_by (has_break pattern) (range_with_len 1 k)) all

pub returns-clause-at_most : goal.returns-clause-at_most
returns-clause-at_most c = omega (arith, c.loop-slot.invariant.bounded, c.loop-slot.invariant.place, c.len-slot-end.ensures.pattern.at_most)
