use Rattle.std.proofs.Common.{◌<◌, arith, sym, ◌∙◌}
use Rattle.propagate.proofs.LookLemmas.{news}
use Rattle.clause_search.specs.Trails.{no_entry}
use Rattle.clause_search.proofs.MarkLemmas.{false_at_end, place_early, place_stands}
use Rattle.clause_search.proofs.mark.false_place.Goals as goal

pub returns-then-place-limit-clause-stands : goal.returns-then-place-limit-clause-stands
returns-then-place-limit-clause-stands c =
    place_stands c.args.trail.now.vars c.args.trail.now.entries c.args.lit c.place-place.result
    (news c.args.trail.now.rows c.args.trail.now.vars c.args.trail.now.entries c.len-len.ensures.lawful)
    c.place-place.ensures.within (c.place-place.ensures.there no_entry) (sym c.in-False.ensures)

pub returns-else-place-limit-clause-none : goal.returns-else-place-limit-clause-none
returns-else-place-limit-clause-none c = λ none is.
    let early : c.place-place.result < c.args.limit =
    place_early c.args.trail.now.vars c.args.trail.now.entries c.args.lit c.place-place.result c.args.limit
    (news c.args.trail.now.rows c.args.trail.now.vars c.args.trail.now.entries c.len-len.ensures.lawful)
    c.place-place.ensures.within (c.place-place.ensures.there no_entry) c.requires.within is in
    absurd (omega (arith, early))

pub returns-in_default : goal.returns-in_default
returns-in_default c = record {
  before = tt;
  stands = tt;
  none = λ none is.
      c.in_default.not-False
      (c.value.ensures
      ∙ false_at_end c.args.trail.now.vars c.args.trail.now.entries c.args.lit c.args.limit
      (news c.args.trail.now.rows c.args.trail.now.vars c.args.trail.now.entries c.len-len.ensures.lawful)
      c.requires.within is);
}
