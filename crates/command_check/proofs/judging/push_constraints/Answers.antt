use Rattle.std.proofs.Common.{◌<◌, length, sym, arith, string_bytes}
use Rattle.std.proofs.lemmas.Option.{get_or_from_slice_get}
use Rattle.command_check.proofs.ReportLemmas.{line_added}
use Rattle.command_check.proofs.judging.push_constraints.Goals as goal

pub loop-k-preserved : goal.loop-k-preserved
loop-k-preserved c =
    let within : c.loop-k.k < length c.args.vectors.now = omega (arith, c.requires) in
    line_added c.loop-k.k c.args.constraints.now c.args.vectors.now c.index-constraints-k.result c.vector-entries.result.now (string_bytes c.loop-k.text) (string_bytes c.push_constraint.new.text) _ c.loop-k-test.true within (sym c.index-constraints-k.is)
    (get_or_from_slice_get c.args.vectors.now c.loop-k.k c.vector-entries.result.now c.vector-entries.result.now c.vector-entries.ensures) c.loop-k.invariant c.in_ok-push_constraint.ensures
