use Rattle.std.proofs.Common.{List, ap, arith, length, ◌∙◌}
use Rattle.std.proofs.lemmas.List.{length-take-le, take_all}
use Rattle.rows.specs.Rows.{Row}
use Rattle.league_search.proofs.SumLemmas.{copy-more, row_kept}
use Rattle.league_search.proofs.copied.copied.Goals as goal

pub push-requires-clause-row : goal.push-requires-clause-row
push-requires-clause-row c =
    row_kept c.args.rows.now c.loop-k.k c.terms.result.now c.degree.result (omega arith) c.len-k-end.ensures.rows
    c.terms.ensures c.degree.ensures

pub push-requires-clause-room : goal.push-requires-clause-room
push-requires-clause-room c =
    omega (
      arith,
      ap (λ (rs : List Row). length rs) c.loop-k.invariant,
      length-take-le c.loop-k.k c.args.rows.now (omega arith),
      c.len-k-end.ensures.few,
    )

pub loop-k-preserved : goal.loop-k-preserved
loop-k-preserved c =
    copy-more c.args.rows.now c.loop-k.copy c.push.new.self c.loop-k.k c.terms.result.now c.degree.result (omega arith)
    c.terms.ensures c.degree.ensures c.loop-k.invariant c.in_ok-push.ensures.ok

pub returns : goal.returns
returns c = c.loop-k.invariant ∙ take_all c.loop-k.k c.args.rows.now (omega arith)
