use Rattle.std.proofs.Common.{◌≡◌, ◌-◌, ◌^◌, ◌<◌, ◌++◌, ◌∷◌, [], length, map, arith, ap, ◌∙◌}
use Rattle.rows.specs.Cardinality.{unit}
use Rattle.rows.proofs.FlatLemmas.{AreKept-grown, cut-grown, length-kept}
use Rattle.rows.proofs.UnitLemmas.{IsRow-at_least}
use Rattle.rows.proofs.row_store.RowStore.push_at_least.Goals as goal

pub invariant_of-self-2 : goal.invariant_of-self-2
invariant_of-self-2 c =
    let whole : c.len-end.result ≡ length c.add_units.new.terms.items = omega (arith, c.add_units.new.terms.ok) in
    let room : length c.self.inside.ends.items < 2 ^ 32 - 1 =
    omega (arith, length-kept c.self.inside.terms.items c.self.inside.ends.items c.args.self.now c.self.view_is) in
    AreKept-grown c.self.inside.terms.items (map unit c.args.literals.now) c.add_units.new.terms.items
    c.self.inside.ends.items c.push.new.self.items
    (record { end = c.len-end.result; degree = c.args.degree })
    c.self.invariant c.in_ok-add_units.ensures.ok
    (c.in_ok-push.ensures.items ∙ ap (λ xs. xs ++ record { end = c.len-end.result; degree = c.args.degree } ∷ [])
    c.in_ok-reserve.ensures.items)
    whole room (IsRow-at_least c.args.degree c.args.literals.now c.requires.variables)

pub returns-clause-ok : goal.returns-clause-ok
returns-clause-ok c =
    let whole : c.len-end.result ≡ length c.add_units.new.terms.items = omega (arith, c.add_units.new.terms.ok) in
    cut-grown c.self.inside.terms.items (map unit c.args.literals.now) c.add_units.new.terms.items
    c.self.inside.ends.items c.push.new.self.items c.args.self.now
    (record { end = c.len-end.result; degree = c.args.degree })
    c.self.invariant c.in_ok-add_units.ensures.ok
    (c.in_ok-push.ensures.items ∙ ap (λ xs. xs ++ record { end = c.len-end.result; degree = c.args.degree } ∷ [])
    c.in_ok-reserve.ensures.items)
    whole c.self.view_is
