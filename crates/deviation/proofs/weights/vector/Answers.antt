use Rattle.std.proofs.Common.{length, ap, arith}
use Rattle.std.proofs.lemmas.Result.{IfOk-weaker}
use Rattle.rule_core.specs.Table.{table_counts}
use Rattle.deviation.proofs.EntryLemmas.{vector-by_entries}
use Rattle.deviation.proofs.weights.vector.Goals as goal

pub returns-clause-exact : goal.returns-clause-exact
returns-clause-exact g c =
    let m = table_counts c.args.cells.now in
    let rule = c.in_ok-rule.ensures.rule in
    IfOk-weaker c.entries_of.result _ _ (λ entries is. vector-by_entries c.args.n m c.args.constraint.now.class _ _ entries.items (rule.terms m) (λ k. rule.entries k m) is) c.entries_of.ensures.entries

pub returns-clause-few : goal.returns-clause-few
returns-clause-few g c =
    let m = table_counts c.args.cells.now in
    let rule = c.in_ok-rule.ensures.rule in
    IfOk-weaker c.entries_of.result _ _ (λ entries is. omega (arith, ap length (vector-by_entries c.args.n m c.args.constraint.now.class _ _ entries.items (rule.terms m) (λ k. rule.entries k m) is), rule.terms m, rule.short)) c.entries_of.ensures.entries
