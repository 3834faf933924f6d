use Rattle.std.proofs.Common.{ℕ, ◌+◌, ◌<◌, length, get_or, refl, arith, sym, subst}
use Rattle.rule_core.specs.Table.{table_counts}
use Rattle.deviation.specs.TeamGaps.{IsSummed}
use Rattle.deviation.specs.declared.team_gaps.TeamGaps.{TeamGaps}
use Rattle.deviation.proofs.TeamLemmas.{AreDone, AreDone-next, AreDone-none, summed-free, summed-kept}
use Rattle.deviation.proofs.team_gaps.TeamGaps.add_each.Goals as goal
use Rattle.deviation.proofs.team_gaps.TeamGaps.add_each.Goals.{then-games-gt0, else-games-gt0}

pub loop-other-init : goal.loop-other-init
loop-other-init c = AreDone-none c.args.cells.now.n (table_counts c.args.cells.now) c.args.min c.args.team.0 c.args.slot
    c.args.later.now c.args.self.now c.requires.kept

pub add_games-requires-clause-next : goal.add_games-requires-clause-next
add_games-requires-clause-next c =
    let place : ℕ = c.loop-other.other-index in
    let other : ℕ = get_or c.args.later.now place 0 in
    omega (arith, (c.loop-other.invariant.left place (omega arith) c.loop-other-test.true).0, c.requires.kept.before other)

pub add_games-requires-clause-total : goal.add_games-requires-clause-total
add_games-requires-clause-total c =
    let place : ℕ = c.loop-other.other-index in
    let other : ℕ = get_or c.args.later.now place 0 in
    omega (arith, (c.loop-other.invariant.left place (omega arith) c.loop-other-test.true).1, c.requires.kept.bounded other)

pub loop-other-preserved : goal.loop-other-preserved
loop-other-preserved c =
    let n = c.args.cells.now.n in
    let m = table_counts c.args.cells.now in
    let min : ℕ = c.args.min in
    let i : ℕ = c.args.team.0 in
    let slot : ℕ = c.args.slot in
    let later = c.args.later.now in
    let place : ℕ = c.loop-other.other-index in
    let other : ℕ = get_or later place 0 in
    let first = c.args.self.now in
    let now = c.loop-other.self in
    let inside : place < length later = c.loop-other-test.true in
    let so_far : IsSummed n m min i slot now other = summed-kept n m min i slot first now other
    (c.loop-other.invariant.left place (omega arith) inside) (c.requires.summed place 0 inside) in
    elim c.if-games-gt0.branch [
      | then-games-gt0 w ↦
          subst (λ (gaps : TeamGaps). AreDone n m min i slot (place + 1) later first gaps) (sym w.self-is)
          (AreDone-next n m min i slot place later first now w.add_games.new.self c.requires.ascending inside
          w.add_games.ensures.kept w.add_games.ensures.others
          (w.add_games.ensures.summed n m i c.requires.slot c.between-games.ensures.games so_far)
          c.loop-other.invariant)
      | else-games-gt0 w ↦
          subst (λ (gaps : TeamGaps). AreDone n m min i slot (place + 1) later first gaps) (sym w.self-is)
          (AreDone-next n m min i slot place later first now now c.requires.ascending inside
          c.loop-other.invariant.kept (λ j differ. (refl, refl))
          (summed-free n m min i slot now now other c.requires.slot
          (omega (arith, w.if-games-gt0.false, c.between-games.ensures.games)) (refl, refl) so_far)
          c.loop-other.invariant)
    ]
