use Rattle.std.proofs.Common.{ap, ◌∙◌, arith}
use Rattle.encoding.specs.Keys.{Bounded}
use Rattle.encoding.proofs.ClassSizeLemmas.{literals_few}
use Rattle.bound_rows.specs.Sizes.{between_units, key_units}
use Rattle.bound_rows.proofs.sizes.key_units.Goals as goal

pub between_units-requires-clause-count : goal.between_units-requires-clause-count
between_units-requires-clause-count c =
    omega (arith, c.literal_count.ensures.few, c.key_at-key.ensures.few, literals_few c.args.class.now)

pub returns-clause-units : goal.returns-clause-units
returns-clause-units c =
    let key = c.key_at-key.result in
    c.between_units.ensures.units
    ∙ ap (between_units key.low key.high) c.literal_count.ensures.count
    ∙ ap (λ (k : Bounded). key_units k) c.key_at-key.ensures.key
