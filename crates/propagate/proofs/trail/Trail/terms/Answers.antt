use Rattle.std.proofs.Common.{◌≡◌, ◌-◌, ◌<◌, [], Option, length, ap, arith, subst, sym}
use Rattle.std.specs.Prelude.{IfSome, slice_get}
use Rattle.std.proofs.lemmas.Option.{slice_get-get_or}
use Rattle.rows.specs.Rows.{Row}
use Rattle.propagate.specs.Trails.{SeenTrail}
use Rattle.propagate.proofs.trail.Trail.terms.Goals as goal

pub returns : goal.returns
returns c =
    let there : c.args.number - 1 < length c.self.inside.path.rows =
    omega (arith, c.requires.from_one, c.requires.there, ap (λ (t : SeenTrail). length t.rows) c.self.view_is) in
    subst (λ (t : SeenTrail). IfSome (slice_get t.rows (c.args.number - 1)) (λ row. c.terms.result.now ≡ row.terms))
    c.self.view_is
    (subst (λ (o : Option Row). IfSome o (λ row. c.terms.result.now ≡ row.terms))
    (sym (slice_get-get_or c.self.inside.path.rows (c.args.number - 1) (record { terms = []; degree = 0 }) there))
    c.terms.ensures)
