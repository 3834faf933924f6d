use Rattle.std.proofs.Common.{◌≡◌, ◌-◌, drop, length}
use Rattle.std.specs.List.{position_from}
use Rattle.rows.specs.Partials as partials
use Rattle.rows.specs.Values.{valued}
use Rattle.rows.proofs.wide.wide_forced.Given as goal

-- the first place from here on is the first place from the start on
abbrev pub invariant-places : goal.invariant-places
invariant-places l =
    let test = partials.is_forced (valued l.partial) l.terms l.degree in
    position_from test l.place (drop l.place l.terms) ≡ position_from test l.from (drop l.from l.terms)

abbrev pub decreases-places : goal.decreases-places
decreases-places l = length l.terms - l.place
