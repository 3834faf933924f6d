use Rattle.std.proofs.Common.{◌++◌, ℕ, List, [], ◌∷◌, map, ap, append_assoc, sym, ◌∙◌, arith}
use Rattle.std.proofs.lemmas.List.FromFn.{map-range_with_len_more}
use Rattle.std.specs.List.{range_with_len}
use Rattle.rule_core.specs.Table.{table_counts}
use Rattle.rule_core.proofs.rule.Rule.every.Goals as goal

pub loop-key-preserved : goal.loop-key-preserved
loop-key-preserved g c =
    let entry : ℕ → ℕ = λ k. g.Self.Entries.entry c.args.self.now k (table_counts c.args.cells.now) in
    let so_far : List ℕ = map entry (range_with_len 0 c.loop-key.key) in
    record {
      pushed = c.push_reserved.ensures.items
          ∙ ap (λ (l : List ℕ). l ++ c.term.result ∷ []) c.loop-key.invariant.pushed
          ∙ append_assoc c.args.entries.now.items so_far (c.term.result ∷ [])
          ∙ ap (λ (y : ℕ). c.args.entries.now.items ++ (so_far ++ y ∷ [])) c.term.ensures.entry
          ∙ ap (λ (l : List ℕ). c.args.entries.now.items ++ l)
          (sym (map-range_with_len_more entry 0 c.loop-key.key c.loop-key.key (omega arith)));
      ticked = omega (arith, c.term.ensures.tick, c.loop-key.invariant.ticked);
      long = omega (arith, c.push_reserved.ensures.len, c.loop-key.invariant.long);
      room = omega (arith, c.push_reserved.ensures.capacity, c.loop-key.invariant.room);
    }
