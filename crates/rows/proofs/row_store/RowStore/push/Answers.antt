use Rattle.std.proofs.Common.{◌≡◌, ◌-◌, ◌^◌, ◌<◌, ◌++◌, ◌∷◌, [], length, arith, ap, ◌∙◌}
use Rattle.rows.proofs.FlatLemmas.{AreKept-grown, cut-grown, length-kept}
use Rattle.rows.proofs.row_store.RowStore.push.Goals as goal

pub invariant_of-self-2 : goal.invariant_of-self-2
invariant_of-self-2 c =
    let whole : c.len-end.result ≡ length c.extend_from_slice.new.self.items = omega (arith, c.extend_from_slice.new.self.ok) in
    let room : length c.self.inside.ends.items < 2 ^ 32 - 1 =
    omega (arith, length-kept c.self.inside.terms.items c.self.inside.ends.items c.args.self.now c.self.view_is) in
    AreKept-grown c.self.inside.terms.items c.args.terms.now c.extend_from_slice.new.self.items c.self.inside.ends.items c.push.new.self.items
    (record { end = c.len-end.result; degree = c.args.degree })
    c.self.invariant c.in_ok-extend_from_slice.ensures.items
    (c.in_ok-push.ensures.items ∙ ap (λ xs. xs ++ record { end = c.len-end.result; degree = c.args.degree } ∷ []) c.in_ok-reserve.ensures.items)
    whole room c.requires.row

pub returns-clause-ok : goal.returns-clause-ok
returns-clause-ok c =
    let whole : c.len-end.result ≡ length c.extend_from_slice.new.self.items = omega (arith, c.extend_from_slice.new.self.ok) in
    cut-grown c.self.inside.terms.items c.args.terms.now c.extend_from_slice.new.self.items c.self.inside.ends.items c.push.new.self.items c.args.self.now
    (record { end = c.len-end.result; degree = c.args.degree })
    c.self.invariant c.in_ok-extend_from_slice.ensures.items
    (c.in_ok-push.ensures.items ∙ ap (λ xs. xs ++ record { end = c.len-end.result; degree = c.args.degree } ∷ []) c.in_ok-reserve.ensures.items)
    whole c.self.view_is
