use Rattle.std.proofs.Common.{ℕ, ◌+◌, ◌-◌, arith}
use Rattle.league.specs.Structure.{isnt_one}
use Rattle.league.specs.Grid.{entry}
use Rattle.league.proofs.RangeLemmas.{counted}
use Rattle.league.proofs.WrongLemmas.{from_bool-le, isnt_one-read}
use Rattle.league.proofs.grid.Grid.phases_wrong_at.Goals as goal

pub loop-later-preserved : goal.loop-later-preserved
loop-later-preserved c =
    let team : ℕ = c.args.team in
    let later : ℕ = c.loop-later.later in
    let games : ℕ → ℕ = λ j. entry c.args.self.now team j + entry c.args.self.now j team in
    record {
      counted = counted (λ j. isnt_one (games j)) (team + 1) (later - (team + 1)) (later + 1 - (team + 1)) later c.loop-later.wrong c.from-wrong.result (omega arith) (omega arith) c.loop-later.invariant.counted (isnt_one-read _ (games later) _ (omega arith) c.from-wrong.ensures);
      bounded = omega (arith, from_bool-le _ _ c.from-wrong.ensures);
    }
