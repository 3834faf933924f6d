use Rattle.std.proofs.Common.{◌+◌, List, ◌∷◌, ◌++◌, map, ap, sym, ◌∙◌}
use Rattle.season_misses.specs.Rows.{rows_from}
use Rattle.season_misses.specs.SeenRow.{row_of}
use Rattle.season_misses.specs.declared.reason.Reason.{Reason}
use Rattle.season_misses.proofs.WalkLemmas.{cut_at, rest_whole, rows_end}
use Rattle.season_misses.proofs.row.rows_of.Goals as goal

pub loop-k-preserved : goal.loop-k-preserved
loop-k-preserved c =
    let whole = rest_whole c.args.reasons.now (c.loop-k.k + 1) in
    ap (λ (l : List Reason). map row_of c.push_row.new.made.items ++ rows_from c.in_ok-told.told l) (sym whole)
    ∙ c.in_ok-told.ensures
    ∙ ap (λ (l : List Reason). map row_of c.loop-k.made.items ++ rows_from c.loop-k.told (c.index-reasons-k.result ∷ l)) whole
    ∙ ap (λ (l : List Reason). map row_of c.loop-k.made.items ++ rows_from c.loop-k.told l) (sym (cut_at c.args.reasons.now c.loop-k.k c.index-reasons-k.result c.loop-k-test.true (sym c.index-reasons-k.is)))
    ∙ c.loop-k.invariant

pub returns : goal.returns
returns c = rows_end c.args.reasons.now c.loop-k.k c.loop-k.told (map row_of c.loop-k.made.items) _ c.loop-k-test.false c.loop-k.invariant
