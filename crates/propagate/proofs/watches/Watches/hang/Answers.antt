use Rattle.std.proofs.Common.{◌≡◌, ℕ, arith, ap, ◌∙◌}
use Rattle.std.specs.Prelude.{slice_index_or, slice_set}
use Rattle.std.proofs.lemmas.List.{get_or_read}
use Rattle.rows.specs.Codes.{code_of}
use Rattle.propagate.specs.Watches.{node_at}
use Rattle.propagate.specs.declared.watches.Node.{Node}
use Rattle.propagate.proofs.ChainLemmas.{new_node, no_node}
use Rattle.propagate.proofs.watches.Watches.hang.Goals as goal

pub returns-clause-nodes : goal.returns-clause-nodes
returns-clause-nodes c =
    let row : c.index.result.now.row ≡ (node_at c.args.self.now.nodes.items c.args.place).row =
    ap (λ (x : Node). x.row)
    (get_or_read c.args.self.now.nodes.items c.args.place c.index.result.now c.requires.there c.index.ensures
    no_node) in
    let next : c.index-2.result.now ≡ slice_index_or c.args.self.now.firsts.items (code_of c.args.lit) 0 =
    get_or_read c.args.self.now.firsts.items c.slot-at.result c.index-2.result.now (omega (arith, c.slot-at.ensures))
    c.index-2.ensures 0
    ∙ ap (λ (k : ℕ). slice_index_or c.args.self.now.firsts.items k 0) c.slot-at.ensures in
    ap (λ (r : ℕ). slice_set c.args.self.now.nodes.items c.args.place (new_node c.args.lit r c.index-2.result.now)) row
    ∙ ap (λ (n : ℕ). slice_set c.args.self.now.nodes.items c.args.place
    (new_node c.args.lit (node_at c.args.self.now.nodes.items c.args.place).row n)) next
