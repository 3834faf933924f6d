use Rattle.std.proofs.Common.{List, length, ap, arith, subst, sym, ◌∙◌}
use Rattle.propagate.specs.Counters.{SeenCounters}
use Rattle.propagate.specs.Links.{IsListed, links_of}
use Rattle.propagate.specs.declared.link.Link.{Link}
use Rattle.propagate.proofs.CountLemmas.{listed-read}
use Rattle.propagate.proofs.ReachLemmas.{code_of-below}
use Rattle.propagate.proofs.counters.Counters.links.Goals as goal

pub of-requires : goal.of-requires
of-requires c =
    omega (
      arith,
      code_of-below c.args.lit (length c.self.inside.values) (omega (arith, c.requires, ap (λ (s : SeenCounters). length s.values) c.self.view_is)),
      c.self.invariant.slots,
    )

pub returns-clause-are : goal.returns-clause-are
returns-clause-are c = c.of.ensures ∙ ap (λ (s : SeenCounters). links_of s.lists c.args.lit) c.self.view_is

pub returns-clause-listed : goal.returns-clause-listed
returns-clause-listed c =
    subst (λ (s : SeenCounters). IsListed s.rows (length s.rows) c.args.lit c.of.result.now) c.self.view_is
    (subst (λ (ls : List Link). IsListed c.self.inside.rows (length c.self.inside.rows) c.args.lit ls) (sym c.of.ensures)
    (listed-read c.self.inside.rows c.self.inside.values c.self.inside.table c.args.lit c.self.invariant
    (omega (arith, c.requires, ap (λ (s : SeenCounters). length s.values) c.self.view_is))))
