use Rattle.std.proofs.Common.{◌≤◌, ℕ, ◌+◌, List, ap, sym, subst, ◌∙◌, arith}
use Rattle.league.specs.Counts.{slot_count}
use Rattle.league.specs.declared.class.Class.{Class}
use Rattle.encoding.specs.Keys.{IsListable, key_of, most_counted, most_literals, width}
use Rattle.encoding.specs.Lists.{games_in, meetings_in_order}
use Rattle.encoding.specs.declared.keys.Counted.{Counted}
use Rattle.encoding.specs.declared.subjects.Subject.TheVariants.{Team}
use Rattle.encoding.proofs.HeldKeys.{same_key}
use Rattle.encoding.proofs.NumberLemmas.{run_ascends}
use Rattle.encoding.proofs.keys.opposed_key.Goals as goal

pub returns-in-Ca2-clause-key : goal.returns-in-Ca2-clause-key
returns-in-Ca2-clause-key c =
    let n = c.args.n in
    let team = c.args.team in
    let side = c.in-Ca2.side in
    same_key n c.new.result _ _ _ _ c.new.ensures.low c.new.ensures.high c.new.ensures.counted
    (ap (λ (ts : List ℕ). games_in n (meetings_in_order side team ts) c.slot_numbers.result.now)
    c.team_numbers.ensures.numbers
    ∙ ap (λ (ss : List ℕ). games_in n (meetings_in_order side team c.in-Ca2.teams2) ss) c.slot_numbers.ensures.numbers)
    ∙ sym (ap (λ (class : Class). key_of n class (Team team) c.args.place) c.in-Ca2.is)

pub returns-in-Ca2-clause-listable : goal.returns-in-Ca2-clause-listable
returns-in-Ca2-clause-listable c =
    subst (λ (k : Counted). IsListable c.args.n k) (sym c.new.ensures.counted)
    (c.requires.team, c.team_numbers.ensures.order, c.slot_numbers.ensures.order)

pub returns-in-Ca3-clause-key : goal.returns-in-Ca3-clause-key
returns-in-Ca3-clause-key c =
    let n = c.args.n in
    let team = c.args.team in
    let side = c.in-Ca3.side in
    same_key n c.new-in-Ca3.result _ _ _ _ c.new-in-Ca3.ensures.low c.new-in-Ca3.ensures.high c.new-in-Ca3.ensures.counted
    (ap (λ (ts : List ℕ). games_in n (meetings_in_order side team ts) c.consecutive.result.now)
    c.team_numbers-in-Ca3.ensures.numbers
    ∙ ap (λ (ss : List ℕ). games_in n (meetings_in_order side team c.in-Ca3.teams2) ss) c.consecutive.ensures.numbers)
    ∙ sym (ap (λ (class : Class). key_of n class (Team team) c.args.place) c.in-Ca3.is)

pub returns-in-Ca3-clause-listable : goal.returns-in-Ca3-clause-listable
returns-in-Ca3-clause-listable c =
    let n = c.args.n in
    let within : c.args.place + c.in-Ca3.intp ≤ slot_count n =
    omega (arith, c.requires.place, ap (width n) c.in-Ca3.is) in
    subst (λ (k : Counted). IsListable n k) (sym c.new-in-Ca3.ensures.counted) (
      c.requires.team,
      c.team_numbers-in-Ca3.ensures.order,
      run_ascends n c.args.place c.in-Ca3.intp c.consecutive.result.now c.consecutive.ensures.numbers within,
    )

pub returns-in-Ca2-clause-few : goal.returns-in-Ca2-clause-few
returns-in-Ca2-clause-few c =
    omega (arith, ap most_counted c.new.ensures.counted, ap most_literals c.in-Ca2.is, c.team_numbers.ensures.few)

pub returns-in-Ca3-clause-few : goal.returns-in-Ca3-clause-few
returns-in-Ca3-clause-few c =
    omega (arith, ap most_counted c.new-in-Ca3.ensures.counted, ap most_literals c.in-Ca3.is, c.team_numbers-in-Ca3.ensures.few)
