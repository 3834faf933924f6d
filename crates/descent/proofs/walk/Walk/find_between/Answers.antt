use Rattle.std.proofs.Common.{◌<◌, length, get_or, arith, ap, subst, sym, ◌∙◌}
use Rattle.rule_core.specs.Table.{table_counts}
use Rattle.moves.specs.Moves.{IsOfLeague}
use Rattle.moves.specs.declared.swap.Swap.{Swap}
use Rattle.descent.specs.Score.{score_on}
use Rattle.descent.specs.Settled.{IsLowering}
use Rattle.descent.specs.declared.walk.Walk.{Walk}
use Rattle.descent.proofs.WalkLemmas.{found-at, found_none, full-on, keeps-both, lowers-on, move-of_league, none-more}
use Rattle.descent.proofs.walk.Walk.find_between.Goals as goal

pub is_lowering-requires-clause-league : goal.is_lowering-requires-clause-league
is_lowering-requires-clause-league g c =
    let walk = c.args.self.now in
    let step : Swap = c.index.result.now in
    let within : c.loop-place.place < length walk.moves.items =
    omega (arith, c.loop-place-test.true, c.requires.end) in
    subst (λ (w : Walk). IsOfLeague w.board.n step) (sym c.loop-place.invariant.same)
    (rw c.requires.walk.teams
    (subst (λ (s : Swap). IsOfLeague c.args.tally.now.table.n s)
    (sym (c.index.ensures ∙ ap (λ (w : Walk). get_or w.moves.items c.loop-place.place step) c.loop-place.invariant.same))
    (move-of_league c.args.tally.now.table.n (table_counts c.args.tally.now.table) walk c.loop-place.place step
    c.requires.walk within)))

pub returns-then-is_lowering-clause-found : goal.returns-then-is_lowering-clause-found
returns-then-is_lowering-clause-found g c =
    let walk = c.args.self.now in
    let step : Swap = c.index.result.now in
    let m = table_counts c.args.tally.now.table in
    let within : c.loop-place.place < length walk.moves.items =
    omega (arith, c.loop-place-test.true, c.requires.end) in
    let lowers =
    lowers-on g.R.Entries walk c.loop-place.self c.args.tally.now c.loop-place.tally c.is_lowering.result step
    c.requires.walk c.loop-place.invariant.same c.loop-place.invariant.keeps c.is_lowering.ensures.lowers in
    found-at c.args.tally.now.table.n walk.board.phased (score_on g.R.Entries c.args.tally.now.weights) m
    walk.moves.items c.is_lowering.new.edit c.loop-place.place step within
    (c.index.ensures ∙ ap (λ (w : Walk). get_or w.moves.items c.loop-place.place step) c.loop-place.invariant.same)
    (lowers.0 c.if-is_lowering.true)
    (full-on walk c.loop-place.self c.args.tally.now step c.is_lowering.new.edit c.requires.walk
    c.loop-place.invariant.same (c.is_lowering.ensures.edit c.if-is_lowering.true))

pub loop-place-preserved : goal.loop-place-preserved
loop-place-preserved g c =
    let walk = c.args.self.now in
    let step : Swap = c.index.result.now in
    let n = c.args.tally.now.table.n in
    let m = table_counts c.args.tally.now.table in
    let score = score_on g.R.Entries c.args.tally.now.weights in
    let within : c.loop-place.place < length walk.moves.items =
    omega (arith, c.loop-place-test.true, c.requires.end) in
    let lowers =
    lowers-on g.R.Entries walk c.loop-place.self c.args.tally.now c.loop-place.tally c.is_lowering.result step
    c.requires.walk c.loop-place.invariant.same c.loop-place.invariant.keeps c.is_lowering.ensures.lowers in
    record {
      edit_for = c.is_lowering.ensures.n ∙ c.loop-place.invariant.edit_for;
      same = ap (λ (w : Walk). record w { edit = c.is_lowering.new.edit }) c.loop-place.invariant.same;
      keeps = keeps-both c.args.tally.now c.loop-place.tally c.is_lowering.new.tally c.loop-place.invariant.keeps
          c.is_lowering.ensures.keeps;
      none = none-more (λ s. IsLowering n walk.board.phased score m s → ⊥) walk.moves.items c.args.start
          c.loop-place.place step within c.loop-place.invariant.none
          (λ at. found_none c.is_lowering.result c.if-is_lowering.false
          (lowers.1 (subst (λ (s : Swap). IsLowering n walk.board.phased score m s)
          (sym (c.index.ensures
          ∙ ap (λ (w : Walk). get_or w.moves.items c.loop-place.place step) c.loop-place.invariant.same)) at)));
    }
