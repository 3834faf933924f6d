use Rattle.std.proofs.Common.{◌≡◌, ℕ, ◌==◌, length, arith, ap, ◌∙◌}
use Rattle.std.specs.Vec.{vec_len}
use Rattle.refutation.specs.Flat.{Lists}
use Rattle.refutation.proofs.FlatLemmas.{length-kept}
use Rattle.refutation.proofs.log.Log.is_empty.Goals as goal

pub returns : goal.returns
returns c =
    let lists : Lists = record {
      lits = c.self.inside.lits.items;
      hints = c.self.inside.hints.items;
      parts =
          c.self.inside.parts.items;
    } in
    let counted = length-kept lists c.self.inside.ends.items c.args.self.now c.self.view_is in
    let same : vec_len c.self.inside.ends ≡ length c.args.self.now = omega (arith, c.self.inside.ends.ok) in
    c.is_empty.ensures ∙ ap (λ (k : ℕ). k == 0) same
