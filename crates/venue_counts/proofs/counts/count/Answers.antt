use Rattle.std.proofs.Common.{arith, sym, true, ◌≡◌, ◌∙◌}
use Rattle.encoding.proofs.FewLemmas.{slots_few}
use Rattle.venue_counts.specs.Groups.{IsGroup}
use Rattle.venue_counts.specs.Needs.{exceeds_at}
use Rattle.venue_counts.proofs.CountedLemmas.{all-within, count-accepted, exceeds-from, item-exceeds}
use Rattle.venue_counts.proofs.CountedLemmas.{item-group, more-within}
use Rattle.venue_counts.proofs.counts.count.Goals as goal

pub exceeds-requires-clause-slots : goal.exceeds-requires-clause-slots
exceeds-requires-clause-slots c =
    let is : IsGroup c.args.limit c.args.league.now.n c.args.league.now.constraints c.group-item.result =
    item-group c.args.limit c.args.league.now.n c.args.league.now.constraints c.in_ok-groups.groups.items
    c.deref-group-items.result.now c.loop-group.group-index c.group-item.result c.in_ok-groups.ensures
    c.deref-group-items.ensures.value c.loop-group-test.true c.group-item.is in
    slots_few c.args.league.now.n c.group-item.result.slots.now c.n-n.ensures.instance.teams.at_most is.season

pub log_by-requires-clause-group : goal.log_by-requires-clause-group
log_by-requires-clause-group c =
    item-group c.args.limit c.args.league.now.n c.args.league.now.constraints c.in_ok-groups.groups.items
    c.deref-group-items.result.now c.loop-group.group-index c.group-item.result c.in_ok-groups.ensures
    c.deref-group-items.ensures.value c.loop-group-test.true c.group-item.is

pub returns-then-exceeds-clause-exceeds : goal.returns-then-exceeds-clause-exceeds
returns-then-exceeds-clause-exceeds c =
    let league = c.args.league.now in
    let g = c.group-item.result in
    let is : IsGroup c.args.limit league.n league.constraints g =
    item-group c.args.limit league.n league.constraints c.in_ok-groups.groups.items
    c.deref-group-items.result.now c.loop-group.group-index g c.in_ok-groups.ensures
    c.deref-group-items.ensures.value c.loop-group-test.true c.group-item.is in
    let above : exceeds_at c.args.limit league.n league.constraints g.side g.slots.now ≡ true =
    sym (item-exceeds c.args.limit c.n-n.result league.n league.constraints g c.exceeds.result c.n-n.ensures.n is
    c.exceeds.ensures.value) ∙ c.if-exceeds.true in
    sym (exceeds-from c.args.limit league.n league.constraints g.side g.slots.now above)

pub returns-then-exceeds-clause-counted : goal.returns-then-exceeds-clause-counted
returns-then-exceeds-clause-counted c =
    let league = c.args.league.now in
    let g = c.group-item.result in
    let is : IsGroup c.args.limit league.n league.constraints g =
    item-group c.args.limit league.n league.constraints c.in_ok-groups.groups.items
    c.deref-group-items.result.now c.loop-group.group-index g c.in_ok-groups.ensures
    c.deref-group-items.ensures.value c.loop-group-test.true c.group-item.is in
    let above : exceeds_at c.args.limit league.n league.constraints g.side g.slots.now ≡ true =
    sym (item-exceeds c.args.limit c.n-n.result league.n league.constraints g c.exceeds.result c.n-n.ensures.n is
    c.exceeds.ensures.value) ∙ c.if-exceeds.true in
    record {
      side = g.side;
      slots = g.slots.now;
      above = above;
      adds_up = c.in_ok-log.ensures.adds_up;
    }

pub returns-then-exceeds-clause-refuting : goal.returns-then-exceeds-clause-refuting
returns-then-exceeds-clause-refuting c =
    let league = c.args.league.now in
    let g = c.group-item.result in
    let is : IsGroup c.args.limit league.n league.constraints g =
    item-group c.args.limit league.n league.constraints c.in_ok-groups.groups.items
    c.deref-group-items.result.now c.loop-group.group-index g c.in_ok-groups.ensures
    c.deref-group-items.ensures.value c.loop-group-test.true c.group-item.is in
    let above : exceeds_at c.args.limit league.n league.constraints g.side g.slots.now ≡ true =
    sym (item-exceeds c.args.limit c.n-n.result league.n league.constraints g c.exceeds.result c.n-n.ensures.n is
    c.exceeds.ensures.value) ∙ c.if-exceeds.true in
    record {
      accepted = count-accepted c.args.limit league g c.in_ok-log.log c.n-n.ensures.instance is c.exceeds.ensures.fits
          above
          c.in_ok-log.ensures.adds_up;
      named = c.in_ok-log.ensures.named;
      short_lines = c.in_ok-log.ensures.short;
    }

pub loop-group-preserved : goal.loop-group-preserved
loop-group-preserved c =
    let league = c.args.league.now in
    let g = c.group-item.result in
    let is : IsGroup c.args.limit league.n league.constraints g =
    item-group c.args.limit league.n league.constraints c.in_ok-groups.groups.items
    c.deref-group-items.result.now c.loop-group.group-index g c.in_ok-groups.ensures
    c.deref-group-items.ensures.value c.loop-group-test.true c.group-item.is in
    more-within c.args.limit c.n-n.result league.n league.constraints c.deref-group-items.result.now
    c.loop-group.group-index g c.exceeds.result c.n-n.ensures.n is c.loop-group-test.true c.group-item.is
    c.exceeds.ensures.value c.if-exceeds.false c.loop-group.invariant

pub returns-clause-exceeds : goal.returns-clause-exceeds
returns-clause-exceeds c =
    all-within c.args.limit c.n-n.result c.args.league.now c.in_ok-groups.groups.items c.deref-group-items.result.now
    c.loop-group.group-index c.n-n.ensures.instance c.n-n.ensures.n c.deref-group-items.ensures.value (omega arith)
    c.in_ok-groups.ensures c.loop-group.invariant
