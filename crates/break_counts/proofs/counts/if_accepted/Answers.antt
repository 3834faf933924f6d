use Rattle.std.proofs.Common.{◌≡◌, rules}
use Rattle.refutation.specs.declared.verdict.Verdict.TheVariants.{Accepted}
use Rattle.break_counts.proofs.CheckLemmas.{seen-refuted, seen-within}
use Rattle.break_counts.proofs.counts.if_accepted.Goals as goal

pub check-requires : goal.check-requires
check-requires c =
    seen-within c.args.encoding.now c.rows.result.now c.vars.result c.rows.ensures c.vars.ensures.vars
    c.vars.ensures.known

pub returns-then-has_short_lines : goal.returns-then-has_short_lines
returns-then-has_short_lines c =
    let accepted : c.in_ok-verdict.verdict ≡ Accepted = search rules in
    seen-refuted c.args.encoding.now c.rows.result.now c.vars.result c.rows.ensures c.vars.ensures.vars
    c.in_ok-verdict.verdict c.args.log c.in_ok-verdict.ensures.verdict accepted
    (c.names_rows.ensures.0 c.if-names_rows.true) (c.has_short_lines.ensures c.if-has_short_lines.true)
