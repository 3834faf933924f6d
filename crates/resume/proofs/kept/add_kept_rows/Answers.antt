-- The next slot's clauses come behind those so far.
use Rattle.std.proofs.Common.{ℕ, List, ◌++◌, map, ap, ◌∙◌, arith}
use Rattle.rows.specs.Rows.{Row}
use Rattle.rule_core.specs.Table.{table_counts}
use Rattle.decoding.proofs.DecodeLemmas.{flat_map-range_more}
use Rattle.resume.specs.Kept.{kept_row, kept_rows_in}
use Rattle.resume.proofs.kept.add_kept_rows.Goals as goal

pub loop-slot-preserved : goal.loop-slot-preserved
loop-slot-preserved c =
    let n = c.args.cells.now.n in
    let played = table_counts c.args.cells.now in
    let in_slot : ℕ → List Row = kept_rows_in n played in
    record {
      so_far = c.in_ok-add_slot.ensures.rows
          ∙ ap (λ (ms : List (ℕ × ℕ)). c.loop-slot.rows ++ map (kept_row n played c.loop-slot.slot) ms)
          c.requires.meetings
          ∙ ap (λ (xs : List Row). xs ++ in_slot c.loop-slot.slot) c.loop-slot.invariant.so_far
          ∙ flat_map-range_more in_slot c.args.rows.now c.loop-slot.slot;
      few = omega (arith, c.in_ok-add_slot.ensures.few, c.loop-slot.invariant.few);
    }
