use Rattle.std.proofs.Common.{◌<◌, length, refl, arith, subst}
use Rattle.std.specs.Prelude.{slice_get}
use Rattle.std.proofs.lemmas.List.{take_all}
use Rattle.std.specs.List.{All}
use Rattle.refutation.specs.Steps.{NamesRows}
use Rattle.refutation.proofs.StepLemmas.{All-at, if_some-true}
use Rattle.refutation.proofs.log.Log.names_rows.Goals as goal

pub loop-k-preserved : goal.loop-k-preserved
loop-k-preserved c =
    let there : c.loop-k.k < length c.args.self.now = omega arith in
    All-at NamesRows c.args.self.now c.loop-k.k there c.loop-k.invariant
    (if_some-true (slice_get c.args.self.now c.loop-k.k) c.step_names_rows.result NamesRows
    c.if-not-step_names_rows.false c.step_names_rows.ensures)

pub returns : goal.returns
returns c = (
  λ _. subst (All NamesRows) (take_all c.loop-k.k c.args.self.now (omega arith)) c.loop-k.invariant,
  λ _. refl,
)
