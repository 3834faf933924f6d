use Rattle.std.proofs.Common.{ℕ, List, ap, sym, subst, ◌∙◌, arith}
use Rattle.league.specs.declared.class.Class.{Class}
use Rattle.encoding.specs.Keys.{IsListable, key_of, most_counted, most_literals}
use Rattle.encoding.specs.Lists.{breaks_in, venues_in}
use Rattle.encoding.specs.declared.keys.Counted.{Counted}
use Rattle.encoding.specs.declared.subjects.Subject.TheVariants.{Team}
use Rattle.encoding.proofs.HeldKeys.{same_key}
use Rattle.encoding.proofs.keys.team_key.Goals as goal

pub returns-in-Ca1-clause-key : goal.returns-in-Ca1-clause-key
returns-in-Ca1-clause-key c =
    let n = c.args.n in
    let team = c.args.team in
    same_key n c.new.result _ _ _ _ c.new.ensures.low c.new.ensures.high c.new.ensures.counted
    (ap (λ (ss : List ℕ). venues_in c.in-Ca1.side n team ss) c.slot_numbers-slots.ensures.numbers)
    ∙ sym (ap (λ (class : Class). key_of n class (Team team) c.args.place) c.in-Ca1.is)

pub returns-in-Ca1-clause-listable : goal.returns-in-Ca1-clause-listable
returns-in-Ca1-clause-listable c =
    subst (λ (k : Counted). IsListable c.args.n k) (sym c.new.ensures.counted)
    (c.requires.team, c.slot_numbers-slots.ensures.order)

pub returns-in-Br1-clause-key : goal.returns-in-Br1-clause-key
returns-in-Br1-clause-key c =
    let n = c.args.n in
    let team = c.args.team in
    same_key n c.new-in-Br1.result _ _ _ _ c.new-in-Br1.ensures.low c.new-in-Br1.ensures.high c.new-in-Br1.ensures.counted
    (ap (λ (ss : List ℕ). breaks_in c.in-Br1.side n team ss) c.slot_numbers-slots-in-Br1.ensures.numbers)
    ∙ sym (ap (λ (class : Class). key_of n class (Team team) c.args.place) c.in-Br1.is)

pub returns-in-Br1-clause-listable : goal.returns-in-Br1-clause-listable
returns-in-Br1-clause-listable c =
    subst (λ (k : Counted). IsListable c.args.n k) (sym c.new-in-Br1.ensures.counted)
    (c.requires.team, c.slot_numbers-slots-in-Br1.ensures.order)

pub returns-in-Ca1-clause-few : goal.returns-in-Ca1-clause-few
returns-in-Ca1-clause-few c =
    omega (arith, ap most_counted c.new.ensures.counted, ap most_literals c.in-Ca1.is)

pub returns-in-Br1-clause-few : goal.returns-in-Br1-clause-few
returns-in-Br1-clause-few c =
    omega (arith, ap most_counted c.new-in-Br1.ensures.counted, ap most_literals c.in-Br1.is)
