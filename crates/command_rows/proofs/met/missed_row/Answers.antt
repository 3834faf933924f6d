use Rattle.std.proofs.Common.{◌≡◌, ℕ, ◌+◌, ◌<◌, [], true, false, List, arith, ap, length, drop, sym, ◌∙◌}
use Rattle.std.proofs.lemmas.List.{drop_all}
use Rattle.rows.specs.Rows.{Row}
use Rattle.rows.specs.Tests.{satisfied}
use Rattle.rows.specs.Values.{assigned}
use Rattle.command_rows.specs.Valued.{missed_from}
use Rattle.command_rows.proofs.MetLemmas.{known-row, missed-here, missed-next, row-got}
use Rattle.command_rows.proofs.met.missed_row.Goals as goal

pub is_met-requires : goal.is_met-requires
is_met-requires c =
    let rows : List Row = c.args.rows.now in
    let k : ℕ = c.loop-k.k in
    let row : Row = record { terms = c.terms.result.now; degree = c.degree.result } in
    let there : k < length rows = omega arith in
    known-row (length c.args.values.now) rows k row there
    (row-got rows k c.terms.result.now c.degree.result there c.terms.ensures c.degree.ensures) c.requires

pub loop-k-preserved : goal.loop-k-preserved
loop-k-preserved c =
    let rows : List Row = c.args.rows.now in
    let k : ℕ = c.loop-k.k in
    let row : Row = record { terms = c.terms.result.now; degree = c.degree.result } in
    let there : k < length rows = omega arith in
    let met : satisfied (assigned c.args.values.now) row ≡ true = cc in
    sym (missed-next (k + 1) rows (assigned c.args.values.now) k row there
    (row-got rows k c.terms.result.now c.degree.result there c.terms.ensures c.degree.ensures) met)
    ∙ c.loop-k.invariant

pub returns-then-not-is_met : goal.returns-then-not-is_met
returns-then-not-is_met c =
    let rows : List Row = c.args.rows.now in
    let k : ℕ = c.loop-k.k in
    let row : Row = record { terms = c.terms.result.now; degree = c.degree.result } in
    let there : k < length rows = omega arith in
    let fails : satisfied (assigned c.args.values.now) row ≡ false = cc in
    sym (missed-here (k + 1) rows (assigned c.args.values.now) k row there
    (row-got rows k c.terms.result.now c.degree.result there c.terms.ensures c.degree.ensures) fails)
    ∙ c.loop-k.invariant

pub returns : goal.returns
returns c =
    let past : drop c.loop-k.k c.args.rows.now ≡ [] = drop_all c.loop-k.k c.args.rows.now (omega arith) in
    sym (ap (λ (rs : List Row). missed_from (c.loop-k.k + 1) rs (assigned c.args.values.now)) past) ∙ c.loop-k.invariant
