use Rattle.std.proofs.Common.{ℕ, ◌+◌, ◌&&◌, ◌==◌, not, Bool, refl, arith, ◌∙◌}
use Rattle.league.specs.Structure.{isnt_one}
use Rattle.league.specs.Grid.{entry}
use Rattle.league.proofs.RangeLemmas.{counted}
use Rattle.league.proofs.WrongLemmas.{from_bool-le, isnt_one-read, when_different, when_same}
use Rattle.league.proofs.grid.Grid.pairs_wrong_at.Goals as goal
use Rattle.league.proofs.grid.Grid.pairs_wrong_at.Goals.{then-away-home, else-away-home}

pub loop-away-preserved : goal.loop-away-preserved
loop-away-preserved c =
    let home : ℕ = c.args.home in
    let at : ℕ → ℕ = entry c.args.self.now home in
    let p : ℕ → Bool = λ away. not (away == home) && isnt_one (at away) in
    let away : ℕ = c.loop-away.away in
    elim c.if-away-home.branch [
      | then-away-home w ↦ record {
        counted = w.wrong-is ∙ counted p 0 away (away + 1) away c.loop-away.wrong w.from-wrong.result (omega arith) refl c.loop-away.invariant.counted (isnt_one-read _ (at away) _ w.at.ensures w.from-wrong.ensures ∙ when_different home away (isnt_one (at away)) w.if-away-home.true);
        bounded = omega (arith, from_bool-le _ _ w.from-wrong.ensures);
      }
      | else-away-home w ↦ record {
        counted = omega (arith, w.wrong-is, counted p 0 away (away + 1) away c.loop-away.wrong 0 (omega arith) refl c.loop-away.invariant.counted (when_same home away (isnt_one (at away)) w.if-away-home.false));
        bounded = omega arith;
      }
    ]
