use Rattle.std.proofs.Common.{ℕ, ◌+◌, ◌-◌, ◌≤◌, get_or, arith, ap, ◌∙◌}
use Rattle.league.specs.Bounds.{outside}
use Rattle.league.proofs.RangeLemmas.{summed}
use Rattle.deviation.proofs.BeforeLemmas.{outside-le}
use Rattle.deviation.proofs.ca3.outside_in_windows.Goals as goal

pub loop-first-preserved : goal.loop-first-preserved
loop-first-preserved c =
    let at : ℕ → ℕ = λ k. get_or c.args.before.now k 0 in
    let first : ℕ = c.loop-first.first in
    let at_end : at (first + c.args.intp) ≤ 121680000 = c.requires.at_most (first + c.args.intp) in
    let small : c.args.min ≤ 4294967295 = omega arith in
    record {
      counted = summed (λ k. outside c.args.min c.args.max (at (k + c.args.intp) - at k)) first c.loop-first.sum _ c.loop-first.invariant.counted
          (ap (λ (x : ℕ). c.loop-first.sum + x) (c.outside-sum.ensures ∙ ap (outside c.args.min c.args.max) c.saturating_sub-games.ensures));
      bounded = omega (arith, outside-le c.args.min c.args.max c.saturating_sub-games.result, c.outside-sum.ensures, c.saturating_sub-games.ensures);
    }
