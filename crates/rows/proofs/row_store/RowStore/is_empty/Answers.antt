use Rattle.std.proofs.Common.{◌≡◌, ℕ, ◌==◌, length, arith, ap, ◌∙◌}
use Rattle.std.specs.Vec.{vec_len}
use Rattle.rows.proofs.FlatLemmas.{length-kept}
use Rattle.rows.proofs.row_store.RowStore.is_empty.Goals as goal

pub returns : goal.returns
returns c =
    let counted = length-kept c.self.inside.terms.items c.self.inside.ends.items c.args.self.now c.self.view_is in
    let same : vec_len c.self.inside.ends ≡ length c.args.self.now = omega (arith, c.self.inside.ends.ok) in
    c.is_empty.ensures ∙ ap (λ (k : ℕ). k == 0) same
