use Rattle.std.proofs.Common.{ℕ, ◌+◌, refl, arith}
use Rattle.league.specs.Structure.{isnt_one}
use Rattle.league.specs.Grid.{entry}
use Rattle.league.proofs.RangeLemmas.{counted}
use Rattle.league.proofs.WrongLemmas.{from_bool-le, isnt_one-read}
use Rattle.league.proofs.grid.Grid.cells_wrong_at.Goals as goal

pub loop-slot-preserved : goal.loop-slot-preserved
loop-slot-preserved c =
    let slot : ℕ = c.loop-slot.slot in
    let at : ℕ → ℕ = entry c.args.self.now c.args.team in
    record {
      counted = counted (λ s. isnt_one (at s)) 0 slot (slot + 1) slot c.loop-slot.wrong c.from-wrong.result (omega arith) refl c.loop-slot.invariant.counted (isnt_one-read _ (at slot) _ c.at.ensures c.from-wrong.ensures);
      bounded = omega (arith, from_bool-le _ _ c.from-wrong.ensures);
    }
