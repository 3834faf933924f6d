use Rattle.std.proofs.Common.{◌≡◌, ℕ, ◌+◌, ◌*◌, arith, ap, ◌∙◌}
use Rattle.std.proofs.lemmas.Nat.{mul-le}
use Rattle.std.specs.List.{range_with_len, sum_by}
use Rattle.league.proofs.RangeLemmas.{summed}
use Rattle.rule_core.specs.Table.{table_counts}
use Rattle.deviation.specs.BySlot.{listed}
use Rattle.deviation.proofs.by_slot.games_with_each.Goals as goal

pub overflow_mul-games : goal.overflow_mul-games
overflow_mul-games c =
    omega (arith, mul-le c.one_game.result c.at.result 1 10000 c.one_game.ensures.at_most c.at.ensures.at_most)

pub overflow_add-games : goal.overflow_add-games
overflow_add-games c = omega (
  arith,
  c.loop-guest.invariant.bounded,
  c.requires.few,
  mul-le c.one_game.result c.at.result 1 10000 c.one_game.ensures.at_most c.at.ensures.at_most,
)

pub loop-guest-preserved : goal.loop-guest-preserved
loop-guest-preserved c =
    let m = table_counts c.args.cells.now in
    let meetings = c.args.meetings.now.list in
    let host : ℕ = c.args.host.0 in
    let guest : ℕ = c.loop-guest.guest in
    let f : ℕ → ℕ = λ j. listed meetings host j * m host j c.args.slot.0 in
    let value : c.one_game.result * c.at.result ≡ f guest =
    ap (λ (x : ℕ). x * c.at.result) c.one_game.ensures.games
    ∙ ap (λ (y : ℕ). listed meetings host guest * y) c.at.ensures.count in
    record {
      counted = summed f guest c.loop-guest.games _ c.loop-guest.invariant.counted
          (ap (λ (x : ℕ). c.loop-guest.games + x) value);
      bounded = omega (
        arith,
        c.loop-guest.invariant.bounded,
        mul-le c.one_game.result c.at.result 1 10000
            c.one_game.ensures.at_most c.at.ensures.at_most,
      );
    }

pub returns-clause-games : goal.returns-clause-games
returns-clause-games c =
    let m = table_counts c.args.cells.now in
    let all : c.loop-guest.guest ≡ c.args.cells.now.n = omega arith in
    c.loop-guest.invariant.counted
    ∙ ap (λ (k : ℕ). sum_by
    (λ j. listed c.args.meetings.now.list c.args.host.0 j * m c.args.host.0 j c.args.slot.0)
    (range_with_len 0 k)) all

pub returns-clause-at_most : goal.returns-clause-at_most
returns-clause-at_most c = omega (arith, c.loop-guest.invariant.bounded, c.requires.few)
