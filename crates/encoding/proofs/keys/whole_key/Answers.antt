use Rattle.std.proofs.Common.{ℕ, List, ◌++◌, ap, sym, subst, ◌∙◌, arith}
use Rattle.std.specs.List.{filter, flat_map}
use Rattle.league.specs.Capacity.{is_between}
use Rattle.league.specs.Meetings.{meetings_of}
use Rattle.league.specs.declared.class.Class.{Class}
use Rattle.encoding.specs.Keys.{IsListable, key_of, most_counted, most_literals}
use Rattle.encoding.specs.Lists.{away_breaks_at, games_in, home_breaks_at}
use Rattle.encoding.specs.declared.keys.Counted.{Counted}
use Rattle.encoding.specs.declared.subjects.Subject.TheVariants.{Whole}
use Rattle.encoding.proofs.HeldKeys.{same_key}
use Rattle.encoding.proofs.keys.whole_key.Goals as goal

pub returns-in-Ca4-clause-key : goal.returns-in-Ca4-clause-key
returns-in-Ca4-clause-key c =
    let n = c.args.n in
    let meetings : List (ℕ × ℕ) = filter (is_between c.in-Ca4.side c.in-Ca4.teams1 c.in-Ca4.teams2) (meetings_of n) in
    same_key n c.new.result _ _ _ _ c.new.ensures.low c.new.ensures.high c.new.ensures.counted
    (ap (λ (ss : List ℕ). games_in n meetings ss) c.slots_at.ensures.slots)
    ∙ sym (ap (λ (class : Class). key_of n class Whole c.args.place) c.in-Ca4.is)

pub returns-in-Ca4-clause-listable : goal.returns-in-Ca4-clause-listable
returns-in-Ca4-clause-listable c =
    subst (λ (k : Counted). IsListable c.args.n k) (sym c.new.ensures.counted) c.slots_at.ensures.order

pub returns-in-Ga1-clause-key : goal.returns-in-Ga1-clause-key
returns-in-Ga1-clause-key c =
    let n = c.args.n in
    same_key n c.new-in-Ga1.result _ _ _ _ c.new-in-Ga1.ensures.low c.new-in-Ga1.ensures.high c.new-in-Ga1.ensures.counted
    (ap (λ (ps : List (ℕ × ℕ)). games_in n ps c.slot_numbers-slots.result.now) c.meeting_numbers-meetings.ensures.numbers
    ∙ ap (λ (ss : List ℕ). games_in n c.in-Ga1.meetings ss) c.slot_numbers-slots.ensures.numbers)
    ∙ sym (ap (λ (class : Class). key_of n class Whole c.args.place) c.in-Ga1.is)

pub returns-in-Ga1-clause-listable : goal.returns-in-Ga1-clause-listable
returns-in-Ga1-clause-listable c =
    subst (λ (k : Counted). IsListable c.args.n k) (sym c.new-in-Ga1.ensures.counted)
    (c.meeting_numbers-meetings.ensures.order, c.slot_numbers-slots.ensures.order)

pub returns-in-Br2-clause-key : goal.returns-in-Br2-clause-key
returns-in-Br2-clause-key c =
    let n = c.args.n in
    same_key n c.new-in-Br2.result _ _ _ _ c.new-in-Br2.ensures.low c.new-in-Br2.ensures.high c.new-in-Br2.ensures.counted
    (ap (λ (ts : List ℕ). flat_map (λ i. home_breaks_at n i c.slot_numbers-slots-in-Br2.result.now) ts
    ++ flat_map (λ i. away_breaks_at n i c.slot_numbers-slots-in-Br2.result.now) ts) c.team_numbers-teams.ensures.numbers
    ∙ ap (λ (ss : List ℕ). flat_map (λ i. home_breaks_at n i ss) c.in-Br2.teams
    ++ flat_map (λ i. away_breaks_at n i ss) c.in-Br2.teams) c.slot_numbers-slots-in-Br2.ensures.numbers)
    ∙ sym (ap (λ (class : Class). key_of n class Whole c.args.place) c.in-Br2.is)

pub returns-in-Br2-clause-listable : goal.returns-in-Br2-clause-listable
returns-in-Br2-clause-listable c =
    subst (λ (k : Counted). IsListable c.args.n k) (sym c.new-in-Br2.ensures.counted)
    (c.team_numbers-teams.ensures.order, c.slot_numbers-slots-in-Br2.ensures.order)

pub returns-in-Ca4-clause-few : goal.returns-in-Ca4-clause-few
returns-in-Ca4-clause-few c = omega (arith, ap most_counted c.new.ensures.counted, ap most_literals c.in-Ca4.is)

pub returns-in-Ga1-clause-few : goal.returns-in-Ga1-clause-few
returns-in-Ga1-clause-few c = omega (arith, ap most_counted c.new-in-Ga1.ensures.counted, ap most_literals c.in-Ga1.is)

pub returns-in-Br2-clause-few : goal.returns-in-Br2-clause-few
returns-in-Br2-clause-few c = omega (arith, ap most_counted c.new-in-Br2.ensures.counted, ap most_literals c.in-Br2.is)
