use Rattle.std.proofs.Common.{◌≤◌, ℕ, ◌*◌, List, length, ap, sym, subst, ◌∙◌, arith}
use Rattle.std.proofs.lemmas.Nat.{mul-le}
use Rattle.std.specs.List.{filter}
use Rattle.league.specs.Capacity.{is_between}
use Rattle.league.specs.Meetings.{meetings_of}
use Rattle.encoding.specs.Ascending.{AreTeams}
use Rattle.encoding.specs.Keys.{IsListable, literals_of, most_counted}
use Rattle.encoding.specs.declared.keys.Counted.{Counted}
use Rattle.encoding.proofs.AscendLemmas.{AscendsBy-few}
use Rattle.encoding.specs.Terms.{side_count}
use Rattle.encoding.proofs.ClassSizeLemmas.{length-against, length-lead}
use Rattle.encoding.proofs.SizeLemmas.{length-all_breaks, length-breaks, length-games_in}
use Rattle.encoding.proofs.literal_counts.literal_count.Goals as goal

-- ---- what each kind of literals is made of

pub venue_total-requires-clause-slots : goal.venue_total-requires-clause-slots
venue_total-requires-clause-slots c =
    (subst (λ (k : Counted). IsListable c.args.n k) c.in-Venues.is c.requires.listable).1

pub other_total-requires : goal.other_total-requires
other_total-requires c =
    let teams : AreTeams c.args.n c.in-Against.opponents.now =
    (subst (λ (k : Counted). IsListable c.args.n k) c.in-Against.is c.requires.listable).1 in
    omega (arith, AscendsBy-few (λ t. t) 0 c.in-Against.opponents.now c.args.n teams)

pub slot_total-requires-clause-slots : goal.slot_total-requires-clause-slots
slot_total-requires-clause-slots c =
    (subst (λ (k : Counted). IsListable c.args.n k) c.in-Against.is c.requires.listable).2

pub slot_total-requires-in-Between-clause-slots : goal.slot_total-requires-in-Between-clause-slots
slot_total-requires-in-Between-clause-slots c =
    subst (λ (k : Counted). IsListable c.args.n k) c.in-Between.is c.requires.listable

pub meeting_total-requires-clause-meetings : goal.meeting_total-requires-clause-meetings
meeting_total-requires-clause-meetings c =
    (subst (λ (k : Counted). IsListable c.args.n k) c.in-Games.is c.requires.listable).0

pub slot_total-requires-in-Games-clause-slots : goal.slot_total-requires-in-Games-clause-slots
slot_total-requires-in-Games-clause-slots c =
    (subst (λ (k : Counted). IsListable c.args.n k) c.in-Games.is c.requires.listable).1

pub later_total-requires-clause-slots : goal.later_total-requires-clause-slots
later_total-requires-clause-slots c =
    (subst (λ (k : Counted). IsListable c.args.n k) c.in-Breaks.is c.requires.listable).1

pub team_total-requires-clause-teams : goal.team_total-requires-clause-teams
team_total-requires-clause-teams c =
    (subst (λ (k : Counted). IsListable c.args.n k) c.in-AllBreaks.is c.requires.listable).0

pub later_total-requires-in-AllBreaks-clause-slots : goal.later_total-requires-in-AllBreaks-clause-slots
later_total-requires-in-AllBreaks-clause-slots c =
    (subst (λ (k : Counted). IsListable c.args.n k) c.in-AllBreaks.is c.requires.listable).1

pub slot_total-requires-in-Lead-clause-slots : goal.slot_total-requires-in-Lead-clause-slots
slot_total-requires-in-Lead-clause-slots c =
    (subst (λ (k : Counted). IsListable c.args.n k) c.in-Lead.is c.requires.listable).1

-- ---- how many they are

pub returns-in-Venues-clause-count : goal.returns-in-Venues-clause-count
returns-in-Venues-clause-count c =
    c.venue_total.ensures.count _ ∙ sym (ap (λ (k : Counted). length (literals_of c.args.n k)) c.in-Venues.is)

pub returns-in-Against-clause-count : goal.returns-in-Against-clause-count
returns-in-Against-clause-count c =
    length-against c.args.n _ c.side_total.result c.other_total.result c.slot_total.result c.in-Against.side
    c.in-Against.opponents.now c.in-Against.slots.now c.side_total.ensures.sides c.other_total.ensures.count
    c.slot_total.ensures.count
    ∙ sym (ap (λ (k : Counted). length (literals_of c.args.n k)) c.in-Against.is)

pub returns-in-Between-clause-count : goal.returns-in-Between-clause-count
returns-in-Between-clause-count c =
    let n = c.args.n in
    let meetings : List (ℕ × ℕ) =
    filter (is_between c.in-Between.side c.in-Between.teams1.now c.in-Between.teams2.now) (meetings_of n) in
    ap (λ (k : ℕ). k * c.slot_total-in-Between.result) c.between_total.ensures.count
    ∙ ap (λ (k : ℕ). length meetings * k) c.slot_total-in-Between.ensures.count
    ∙ sym (length-games_in n meetings c.in-Between.slots.now)
    ∙ sym (ap (λ (k : Counted). length (literals_of n k)) c.in-Between.is)

pub returns-in-Games-clause-count : goal.returns-in-Games-clause-count
returns-in-Games-clause-count c =
    let meetings = c.in-Games.meetings.now in
    ap (λ (k : ℕ). k * c.slot_total-in-Games.result) c.meeting_total.ensures.count
    ∙ ap (λ (k : ℕ). length meetings * k) c.slot_total-in-Games.ensures.count
    ∙ sym (length-games_in c.args.n meetings c.in-Games.slots.now)
    ∙ sym (ap (λ (k : Counted). length (literals_of c.args.n k)) c.in-Games.is)

pub returns-in-Breaks-clause-count : goal.returns-in-Breaks-clause-count
returns-in-Breaks-clause-count c =
    ap (λ (k : ℕ). k * c.later_total.result) c.side_total-in-Breaks.ensures.sides
    ∙ ap (λ (k : ℕ). side_count c.in-Breaks.side * k) c.later_total.ensures.count
    ∙ sym (length-breaks c.in-Breaks.side c.args.n _ c.in-Breaks.slots.now)
    ∙ sym (ap (λ (k : Counted). length (literals_of c.args.n k)) c.in-Breaks.is)

pub returns-in-AllBreaks-clause-count : goal.returns-in-AllBreaks-clause-count
returns-in-AllBreaks-clause-count c =
    let teams = c.in-AllBreaks.teams.now in
    ap (λ (k : ℕ). 2 * (k * c.later_total-in-AllBreaks.result)) c.team_total.ensures.count
    ∙ ap (λ (k : ℕ). 2 * (length teams * k)) c.later_total-in-AllBreaks.ensures.count
    ∙ sym (length-all_breaks c.args.n teams c.in-AllBreaks.slots.now)
    ∙ sym (ap (λ (k : Counted). length (literals_of c.args.n k)) c.in-AllBreaks.is)

pub returns-in-Lead-clause-count : goal.returns-in-Lead-clause-count
returns-in-Lead-clause-count c =
    ap (λ (k : ℕ). 2 * k) c.slot_total-in-Lead.ensures.count
    ∙ length-lead c.args.n _ _ c.in-Lead.slots.now
    ∙ sym (ap (λ (k : Counted). length (literals_of c.args.n k)) c.in-Lead.is)

-- ---- and at most

pub returns-in-Venues-clause-few : goal.returns-in-Venues-clause-few
returns-in-Venues-clause-few c = omega (arith, ap most_counted c.in-Venues.is, c.venue_total.ensures.few)

pub returns-in-Against-clause-few : goal.returns-in-Against-clause-few
returns-in-Against-clause-few c =
    let others : ℕ = length c.in-Against.opponents.now in
    let sides : c.side_total.result * c.other_total.result ≤ 2 * others =
    mul-le c.side_total.result c.other_total.result 2 others c.side_total.ensures.most c.other_total.ensures.all in
    omega (
      arith,
      ap most_counted c.in-Against.is,
      mul-le (c.side_total.result * c.other_total.result) c.slot_total.result (2 * others) 78 sides
          c.slot_total.ensures.few,
    )

pub returns-in-Between-clause-few : goal.returns-in-Between-clause-few
returns-in-Between-clause-few c =
    omega (
      arith,
      ap most_counted c.in-Between.is,
      mul-le c.between_total.result c.slot_total-in-Between.result 1600 78 c.between_total.ensures.few
          c.slot_total-in-Between.ensures.few,
    )

pub returns-in-Games-clause-few : goal.returns-in-Games-clause-few
returns-in-Games-clause-few c =
    omega (
      arith,
      ap most_counted c.in-Games.is,
      mul-le c.meeting_total.result c.slot_total-in-Games.result 1560 78 c.meeting_total.ensures.few
          c.slot_total-in-Games.ensures.few,
    )

pub returns-in-Breaks-clause-few : goal.returns-in-Breaks-clause-few
returns-in-Breaks-clause-few c =
    omega (
      arith,
      ap most_counted c.in-Breaks.is,
      mul-le c.side_total-in-Breaks.result c.later_total.result 2 78 c.side_total-in-Breaks.ensures.most
          c.later_total.ensures.few,
    )

pub returns-in-AllBreaks-clause-few : goal.returns-in-AllBreaks-clause-few
returns-in-AllBreaks-clause-few c =
    omega (
      arith,
      ap most_counted c.in-AllBreaks.is,
      mul-le c.team_total.result c.later_total-in-AllBreaks.result 40 78 c.team_total.ensures.few
          c.later_total-in-AllBreaks.ensures.few,
    )

pub returns-in-Lead-clause-few : goal.returns-in-Lead-clause-few
returns-in-Lead-clause-few c = omega (arith, ap most_counted c.in-Lead.is, c.slot_total-in-Lead.ensures.few)
