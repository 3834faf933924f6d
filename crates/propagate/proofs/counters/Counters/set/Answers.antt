use Rattle.std.proofs.Common.{◌≡◌, ◌-◌, ◌≤◌, List, length, get_or, refl, arith, ap, sym, subst, ◌∙◌}
use Rattle.std.specs.Prelude.{slice_set}
use Rattle.std.proofs.lemmas.List.{get_or_read, length-set}
use Rattle.rows.specs.Codes.{code_of}
use Rattle.rows.specs.Literals.{Literal, negate}
use Rattle.rows.specs.Partials.{as_value}
use Rattle.rows.specs.Rows.{Row}
use Rattle.rows.specs.Values.{valued}
use Rattle.rows.specs.declared.partial.Value.{Value}
use Rattle.propagate.specs.Counters.{SeenCounters}
use Rattle.propagate.specs.Links.{IsListed, LeadsBelow, links_of}
use Rattle.propagate.specs.Tables.{AreCounted, IsCounted}
use Rattle.propagate.specs.declared.link.Link.{Link}
use Rattle.propagate.proofs.CountLemmas.{IsCounted-moved, IsLoss, IsLoss-set, IsMoving-end, IsMoving-none, IsStep, loss-below, listed-read, moving-lost, moving-step, same_counters}
use Rattle.propagate.proofs.ReachLemmas.{code_of-below}
use Rattle.propagate.proofs.counters.Counters.set.Goals as goal

pub rows-init : goal.rows-init
rows-init c =
    let values_are : c.self.inside.values ≡ c.args.self.now.values = ap (λ (s : SeenCounters). s.values) c.self.view_is in
    let listed : IsListed c.self.inside.rows (length c.self.inside.rows) (negate c.args.lit) (links_of c.self.inside.table.lists (negate c.args.lit)) =
    listed-read c.self.inside.rows c.self.inside.values c.self.inside.table (negate c.args.lit) c.self.invariant
    (omega (arith, c.requires.known, ap (λ (s : SeenCounters). length s.values) c.self.view_is)) in
    let of_is : c.of-links.result.now ≡ (links_of c.self.inside.table.lists (negate c.args.lit)) =
    c.of-links.ensures ∙ ap (λ (m : Literal). links_of c.self.inside.table.lists m) c.negate-falsified.ensures in
    let leads : LeadsBelow c.self.inside.rows (links_of c.self.inside.table.lists (negate c.args.lit)) (negate c.args.lit) (length c.self.inside.rows) (length c.of-links.result.now) =
    subst (λ (ls : List Link). LeadsBelow c.self.inside.rows (links_of c.self.inside.table.lists (negate c.args.lit)) (negate c.args.lit) (length c.self.inside.rows) (length ls)) (sym of_is) listed.all in
    record {
      rows = refl;
      values = refl;
      lists = refl;
      enough = refl;
      moving = IsMoving-none c.self.inside.rows (valued c.args.self.now.values) c.self.inside.table (links_of c.self.inside.table.lists (negate c.args.lit)) (negate c.args.lit) (valued c.set.new.self) (length c.of-links.result.now)
          (subst (λ (vs : List Value). AreCounted c.self.inside.rows (length c.self.inside.rows) (valued vs) c.self.inside.table) values_are c.self.invariant.counted) leads;
    }

pub link-link-requires-clause-slot : goal.link-link-requires-clause-slot
link-link-requires-clause-slot c =
    omega (
      arith,
      code_of-below (negate c.args.lit) (length c.self.inside.values) (omega (arith, c.requires.known, ap (λ (s : SeenCounters). length s.values) c.self.view_is)),
      c.self.invariant.slots,
      ap (λ (ls : List (List Link)). length ls) c.rows.invariant.lists,
      ap (λ (m : Literal). code_of m) c.negate-falsified.ensures,
    )

pub link-link-requires-clause-there : goal.link-link-requires-clause-there
link-link-requires-clause-there c =
    omega (
      arith,
      c.rows.invariant.moving.leads.within,
      ap (λ (ls : List (List Link)). length (links_of ls c.negate-falsified.result)) c.rows.invariant.lists,
      ap (λ (m : Literal). length (links_of c.self.inside.table.lists m)) c.negate-falsified.ensures,
    )

pub index_mut-requires : goal.index_mut-requires
index_mut-requires c =
    let listed : IsListed c.self.inside.rows (length c.self.inside.rows) (negate c.args.lit) (links_of c.self.inside.table.lists (negate c.args.lit)) =
    listed-read c.self.inside.rows c.self.inside.values c.self.inside.table (negate c.args.lit) c.self.invariant
    (omega (arith, c.requires.known, ap (λ (s : SeenCounters). length s.values) c.self.view_is)) in
    let read : c.link-link.result ≡ get_or (links_of c.self.inside.table.lists (negate c.args.lit)) (c.rows.at - 1) c.link-link.result =
    c.link-link.ensures
    ∙ ap (λ (ls : List (List Link)). get_or (links_of ls c.negate-falsified.result) (c.rows.at - 1) c.link-link.result) c.rows.invariant.lists
    ∙ ap (λ (m : Literal). get_or (links_of c.self.inside.table.lists m) (c.rows.at - 1) c.link-link.result) c.negate-falsified.ensures in
    let step : IsStep c.self.inside.rows (links_of c.self.inside.table.lists (negate c.args.lit)) (negate c.args.lit) (valued c.args.self.now.values) c.rows.invariant.moving.bound c.rows.at
    c.rows.self-inside.table.reach.items c.link-link.result =
    moving-step c.self.inside.rows (links_of c.self.inside.table.lists (negate c.args.lit)) (negate c.args.lit) (valued c.args.self.now.values) (valued c.set.new.self) c.rows.at
    c.rows.self-inside.table.reach.items c.link-link.result listed c.rows.invariant.moving (omega arith) read in
    omega (arith, step.there, c.rows.invariant.moving.count, c.rows.self-inside.table.reach.ok)

pub overflow_sub-index_mut : goal.overflow_sub-index_mut
overflow_sub-index_mut c =
    let loss : IsLoss c.self.inside.rows (negate c.args.lit) (valued c.args.self.now.values) (valued c.set.new.self) =
    IsLoss-set c.self.inside.rows c.self.inside.values c.args.self.now.values c.set.new.self c.args.lit c.self.invariant.proper (ap (λ (s : SeenCounters). s.values) c.self.view_is)
    (omega (arith, c.var-var.ensures.at_least, c.var-var.ensures.var)) c.requires.known c.requires.free c.set.ensures in
    let listed : IsListed c.self.inside.rows (length c.self.inside.rows) (negate c.args.lit) (links_of c.self.inside.table.lists (negate c.args.lit)) =
    listed-read c.self.inside.rows c.self.inside.values c.self.inside.table (negate c.args.lit) c.self.invariant
    (omega (arith, c.requires.known, ap (λ (s : SeenCounters). length s.values) c.self.view_is)) in
    let read : c.link-link.result ≡ get_or (links_of c.self.inside.table.lists (negate c.args.lit)) (c.rows.at - 1) c.link-link.result =
    c.link-link.ensures
    ∙ ap (λ (ls : List (List Link)). get_or (links_of ls c.negate-falsified.result) (c.rows.at - 1) c.link-link.result) c.rows.invariant.lists
    ∙ ap (λ (m : Literal). get_or (links_of c.self.inside.table.lists m) (c.rows.at - 1) c.link-link.result) c.negate-falsified.ensures in
    let step : IsStep c.self.inside.rows (links_of c.self.inside.table.lists (negate c.args.lit)) (negate c.args.lit) (valued c.args.self.now.values) c.rows.invariant.moving.bound c.rows.at
    c.rows.self-inside.table.reach.items c.link-link.result =
    moving-step c.self.inside.rows (links_of c.self.inside.table.lists (negate c.args.lit)) (negate c.args.lit) (valued c.args.self.now.values) (valued c.set.new.self) c.rows.at
    c.rows.self-inside.table.reach.items c.link-link.result listed c.rows.invariant.moving (omega arith) read in
    let was : c.index_mut.result.now ≡ get_or c.rows.self-inside.table.reach.items c.link-link.result.row 0 =
    get_or_read c.rows.self-inside.table.reach.items c.link-link.result.row c.index_mut.result.now (omega (arith, step.there, c.rows.invariant.moving.count)) c.index_mut.ensures.value 0 in
    omega (arith, was, c.from.ensures, loss-below c.self.inside.rows (links_of c.self.inside.table.lists (negate c.args.lit)) (negate c.args.lit) (valued c.args.self.now.values) (valued c.set.new.self) c.rows.at c.rows.self-inside.table.reach.items c.link-link.result loss c.rows.invariant.moving step)

pub rows-preserved : goal.rows-preserved
rows-preserved c =
    let loss : IsLoss c.self.inside.rows (negate c.args.lit) (valued c.args.self.now.values) (valued c.set.new.self) =
    IsLoss-set c.self.inside.rows c.self.inside.values c.args.self.now.values c.set.new.self c.args.lit c.self.invariant.proper (ap (λ (s : SeenCounters). s.values) c.self.view_is)
    (omega (arith, c.var-var.ensures.at_least, c.var-var.ensures.var)) c.requires.known c.requires.free c.set.ensures in
    let listed : IsListed c.self.inside.rows (length c.self.inside.rows) (negate c.args.lit) (links_of c.self.inside.table.lists (negate c.args.lit)) =
    listed-read c.self.inside.rows c.self.inside.values c.self.inside.table (negate c.args.lit) c.self.invariant
    (omega (arith, c.requires.known, ap (λ (s : SeenCounters). length s.values) c.self.view_is)) in
    let read : c.link-link.result ≡ get_or (links_of c.self.inside.table.lists (negate c.args.lit)) (c.rows.at - 1) c.link-link.result =
    c.link-link.ensures
    ∙ ap (λ (ls : List (List Link)). get_or (links_of ls c.negate-falsified.result) (c.rows.at - 1) c.link-link.result) c.rows.invariant.lists
    ∙ ap (λ (m : Literal). get_or (links_of c.self.inside.table.lists m) (c.rows.at - 1) c.link-link.result) c.negate-falsified.ensures in
    let step : IsStep c.self.inside.rows (links_of c.self.inside.table.lists (negate c.args.lit)) (negate c.args.lit) (valued c.args.self.now.values) c.rows.invariant.moving.bound c.rows.at
    c.rows.self-inside.table.reach.items c.link-link.result =
    moving-step c.self.inside.rows (links_of c.self.inside.table.lists (negate c.args.lit)) (negate c.args.lit) (valued c.args.self.now.values) (valued c.set.new.self) c.rows.at
    c.rows.self-inside.table.reach.items c.link-link.result listed c.rows.invariant.moving (omega arith) read in
    let was : c.index_mut.result.now ≡ get_or c.rows.self-inside.table.reach.items c.link-link.result.row 0 =
    get_or_read c.rows.self-inside.table.reach.items c.link-link.result.row c.index_mut.result.now (omega (arith, step.there, c.rows.invariant.moving.count)) c.index_mut.ensures.value 0 in
    let below : c.link-link.result.coef ≤ get_or c.rows.self-inside.table.reach.items c.link-link.result.row 0 =
    loss-below c.self.inside.rows (links_of c.self.inside.table.lists (negate c.args.lit)) (negate c.args.lit) (valued c.args.self.now.values) (valued c.set.new.self) c.rows.at c.rows.self-inside.table.reach.items c.link-link.result loss c.rows.invariant.moving step in
    record {
      rows = c.rows.invariant.rows;
      values = c.rows.invariant.values;
      lists = c.rows.invariant.lists;
      enough = c.rows.invariant.enough;
      moving = moving-lost c.self.inside.rows (links_of c.self.inside.table.lists (negate c.args.lit)) (negate c.args.lit)
          (valued c.args.self.now.values) (valued c.set.new.self) c.rows.at (c.index_mut.result.now - c.from.result)
          c.rows.self-inside.table.reach.items c.link-link.result loss c.rows.invariant.moving step
          (omega (arith, was, c.from.ensures, below));
    }

pub invariant_of-self : goal.invariant_of-self
invariant_of-self c =
    let loss : IsLoss c.self.inside.rows (negate c.args.lit) (valued c.args.self.now.values) (valued c.set.new.self) =
    IsLoss-set c.self.inside.rows c.self.inside.values c.args.self.now.values c.set.new.self c.args.lit c.self.invariant.proper (ap (λ (s : SeenCounters). s.values) c.self.view_is)
    (omega (arith, c.var-var.ensures.at_least, c.var-var.ensures.var)) c.requires.known c.requires.free c.set.ensures in
    let counted : IsCounted c.self.inside.rows c.set.new.self c.rows.self-inside.table =
    IsCounted-moved c.self.inside.rows c.self.inside.values c.set.new.self c.self.inside.table c.rows.self-inside.table c.self.invariant
    (ap (λ (vs : List Value). length vs) c.set.ensures ∙ length-set c.self.inside.values (c.args.lit.var - 1) (as_value c.args.lit.positive)) c.rows.invariant.lists c.rows.invariant.enough c.rows.invariant.moving.count
    (IsMoving-end c.self.inside.rows (links_of c.self.inside.table.lists (negate c.args.lit)) (negate c.args.lit) (valued c.args.self.now.values) (valued c.set.new.self) c.rows.at c.rows.self-inside.table.reach.items loss.same (omega arith) c.rows.invariant.moving) in
    subst (λ (rs : List Row). IsCounted rs c.rows.self-inside.values c.rows.self-inside.table) (sym c.rows.invariant.rows)
    (subst (λ (vs : List Value). IsCounted c.self.inside.rows vs c.rows.self-inside.table) (sym c.rows.invariant.values) counted)

pub returns : goal.returns
returns c =
    same_counters c.args.self.now c.rows.self-inside.rows c.rows.self-inside.values (slice_set c.args.self.now.values (c.args.lit.var - 1) (as_value c.args.lit.positive)) c.rows.self-inside.table.lists
    (c.rows.invariant.rows ∙ ap (λ (s : SeenCounters). s.rows) c.self.view_is)
    (c.rows.invariant.values ∙ c.set.ensures ∙ ap (λ (vs : List Value). slice_set vs (c.args.lit.var - 1) (as_value c.args.lit.positive)) (ap (λ (s : SeenCounters). s.values) c.self.view_is))
    (c.rows.invariant.lists ∙ ap (λ (s : SeenCounters). s.lists) c.self.view_is)
