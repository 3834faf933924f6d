use Rattle.std.proofs.Common.{ℕ, List, length, take, ap, subst, sym, ◌∙◌}
use Rattle.std.specs.Prelude.{IsTrue}
use Rattle.std.specs.BTreeMap.{get}
use Rattle.std.specs.Ordering.{nat_cmp}
use Rattle.league.specs.Instance.{class_fits}
use Rattle.league.specs.declared.class.Constraint.{Constraint}
use Rattle.venue_counts.specs.Groups.{IsRaised, key_at}
use Rattle.venue_counts.specs.Keys.{key_of}
use Rattle.venue_counts.specs.Needs.{bounds_at, own_need}
use Rattle.venue_counts.proofs.GroupLemmas.{found-raised}
use Rattle.venue_counts.proofs.StepLemmas.{added, other-skipped, skipped, soft-skipped, teams-counted, teams-placed}
use Rattle.venue_counts.proofs.groups.Groups.add.Goals as goal

pub returns-in_default : goal.returns-in_default
returns-in_default c = record {
  found = c.requires.found;
  groups = skipped c.args.limit c.args.n c.args.constraints.now c.args.k c.index-constraints-k.result
      c.args.self.now.groups.items (get nat_cmp c.args.self.now.places) c.requires.there c.index-constraints-k.is
      (λ side slots. other-skipped c.index-constraints-k.result side slots c.in_default.not-Ca1) c.requires.groups;
}

pub returns-then-not-constraint-clause-groups : goal.returns-then-not-constraint-clause-groups
returns-then-not-constraint-clause-groups c =
    skipped c.args.limit c.args.n c.args.constraints.now c.args.k c.index-constraints-k.result
    c.args.self.now.groups.items (get nat_cmp c.args.self.now.places) c.requires.there c.index-constraints-k.is
    (λ side slots. soft-skipped c.index-constraints-k.result.hard
    (bounds_at side slots c.index-constraints-k.result.class) c.if-not-constraint.true) c.requires.groups

pub raise-requires-clause-causes : goal.raise-requires-clause-causes
raise-requires-clause-causes c =
    teams-placed c.args.limit c.args.n (take c.args.k c.args.constraints.now) c.place_of.new.self.groups.items
    (get nat_cmp c.place_of.new.self.places) c.in_ok-place.place c.index_mut.result.now c.team_numbers-teams.result.now
    (c.in_ok-place.ensures.groups c.args.limit (take c.args.k c.args.constraints.now) c.requires.groups)
    c.in_ok-place.ensures.there c.index_mut.ensures.value c.team_numbers-teams.ensures.below

pub raise-requires-clause-needs : goal.raise-requires-clause-needs
raise-requires-clause-needs c =
    teams-counted c.args.limit c.args.n (take c.args.k c.args.constraints.now) c.place_of.new.self.groups.items
    (get nat_cmp c.place_of.new.self.places) c.in_ok-place.place c.index_mut.result.now c.team_numbers-teams.result.now
    (c.in_ok-place.ensures.groups c.args.limit (take c.args.k c.args.constraints.now) c.requires.groups)
    c.in_ok-place.ensures.there c.index_mut.ensures.value c.team_numbers-teams.ensures.below

pub returns-clause-found : goal.returns-clause-found
returns-clause-found c =
    found-raised c.place_of.new.self.groups.items (get nat_cmp c.place_of.new.self.places) c.in_ok-place.place
    c.index_mut.result.now c.raise.new.self c.team_numbers-teams.result.now c.need-need.result c.args.k
    c.in_ok-place.ensures.there c.index_mut.ensures.value c.raise.ensures c.in_ok-place.ensures.found

pub returns-clause-groups : goal.returns-clause-groups
returns-clause-groups c =
    let constraint = c.index-constraints-k.result in
    let groups = c.place_of.new.self.groups.items in
    let place = c.in_ok-place.place in
    let slots_are = c.slot_numbers-slots.ensures.numbers in
    added c.args.limit c.args.n c.args.constraints.now c.args.k constraint c.in-Ca1.side c.in-Ca1.slots c.in-Ca1.teams
    c.in-Ca1.min c.in-Ca1.max c.need-need.result groups (get nat_cmp c.place_of.new.self.places) place
    c.index_mut.result.now c.raise.new.self c.requires.there c.index-constraints-k.is
    (cc) c.in-Ca1.is
    (subst (λ (x : Constraint). IsTrue (class_fits c.args.n x.class)) (sym c.index-constraints-k.is)
    (c.requires.fit c.args.k constraint c.requires.there))
    (c.need-need.ensures ∙ ap (λ (ss : List ℕ). own_need c.args.limit c.in-Ca1.min c.in-Ca1.max (length ss)) slots_are)
    c.in_ok-place.ensures.there c.index_mut.ensures.value
    (ap key_at c.index_mut.ensures.value ∙ c.in_ok-place.ensures.key c.index_mut.result.now
    ∙ ap (λ (ss : List ℕ). key_of c.in-Ca1.side ss) slots_are)
    (subst (λ (ts : List ℕ). IsRaised ts c.need-need.result c.args.k c.index_mut.result.now c.raise.new.self)
    c.team_numbers-teams.ensures.numbers c.raise.ensures)
    c.in_ok-place.ensures.found
    (c.in_ok-place.ensures.groups c.args.limit (take c.args.k c.args.constraints.now) c.requires.groups)
