use Rattle.std.proofs.Common.{List, arith, length, subst, sym}
use Rattle.std.specs.BTreeMap.{get}
use Rattle.std.specs.Ordering.{nat_cmp}
use Rattle.venue_counts.specs.Groups.{AreFound, AreGroups}
use Rattle.venue_counts.specs.Keys.{key_of}
use Rattle.venue_counts.specs.declared.group.Group.{Group}
use Rattle.venue_counts.proofs.GroupLemmas.{found-put, groups-put}
use Rattle.venue_counts.proofs.StepLemmas.{put-of}
use Rattle.venue_counts.proofs.groups.Groups.add_group.Goals as goal

pub returns-clause-found : goal.returns-clause-found
returns-clause-found c =
    let old = c.args.self.now in
    subst (λ (gs : List Group). AreFound gs (get nat_cmp c.insert.new.self)) (sym c.in_ok-push.ensures.items)
    (found-put c.args.n old.groups.items c.in_ok-group.group (get nat_cmp old.places) (get nat_cmp c.insert.new.self)
    c.args.side c.args.slots.now c.in_ok-group.ensures
    (put-of old.places c.insert.new.self c.args.key c.len-place.result (key_of c.args.side c.args.slots.now)
    (length old.groups.items) c.requires.key (omega (arith, c.len-place.ensures, old.groups.ok.0))
    c.in_ok-insert.ensures.updates c.requires.absent)
    c.requires.found)

pub returns-clause-groups : goal.returns-clause-groups
returns-clause-groups c limit constraints are =
    let old = c.args.self.now in
    subst (λ (gs : List Group). AreGroups limit c.args.n constraints gs (get nat_cmp c.insert.new.self))
    (sym c.in_ok-push.ensures.items)
    (groups-put limit c.args.n constraints old.groups.items c.in_ok-group.group (get nat_cmp old.places)
    (get nat_cmp c.insert.new.self) c.args.side c.args.slots.now c.in_ok-group.ensures c.requires.side c.requires.slots
    (put-of old.places c.insert.new.self c.args.key c.len-place.result (key_of c.args.side c.args.slots.now)
    (length old.groups.items) c.requires.key (omega (arith, c.len-place.ensures, old.groups.ok.0))
    c.in_ok-insert.ensures.updates c.requires.absent)
    are)
