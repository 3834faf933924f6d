use Rattle.std.proofs.Common.{◌≡◌, ℕ, Bool, List, ◌++◌, ap, sym, subst, ◌∙◌}
use Rattle.std.proofs.lemmas.Result.{on_ok_weaker}
use Rattle.std.specs.List.{filter}
use Rattle.league.specs.Capacity.{is_between}
use Rattle.league.specs.Meetings.{meetings_of}
use Rattle.encoding.specs.Ascending.{AreMeetings}
use Rattle.encoding.specs.Keys.{IsListable, literals_of}
use Rattle.encoding.specs.Lists.{meetings_in_order}
use Rattle.encoding.specs.declared.keys.Counted.{Counted}
use Rattle.encoding.proofs.MeetingOrder.{AreMeetings-all, AreMeetings-filter, AreMeetings-in_order}
use Rattle.encoding.proofs.counted.add_counted.Goals as goal

-- ---- what each kind of literals is made of

pub add_venues-requires-clause-team : goal.add_venues-requires-clause-team
add_venues-requires-clause-team c =
    (subst (λ (k : Counted). IsListable c.args.n k) c.in-Venues.is c.requires.listable).0

pub add_venues-requires-clause-slots : goal.add_venues-requires-clause-slots
add_venues-requires-clause-slots c =
    (subst (λ (k : Counted). IsListable c.args.n k) c.in-Venues.is c.requires.listable).1

pub add_games-requires-clause-meetings : goal.add_games-requires-clause-meetings
add_games-requires-clause-meetings c =
    let n = c.args.n in
    let side = c.in-Against.side in
    let team = c.in-Against.team in
    let opponents = c.in-Against.opponents.now in
    let fits = subst (λ (k : Counted). IsListable n k) c.in-Against.is c.requires.listable in
    let are : c.deref.result.now ≡ meetings_in_order side team opponents =
    c.deref.ensures.value ∙ c.in_ok-meetings-in-Against.ensures in
    subst (λ (ps : List (ℕ × ℕ)). AreMeetings n ps) (sym are)
    (AreMeetings-in_order n side team opponents fits.0 fits.1)

pub add_games-requires-clause-slots : goal.add_games-requires-clause-slots
add_games-requires-clause-slots c =
    (subst (λ (k : Counted). IsListable c.args.n k) c.in-Against.is c.requires.listable).2

pub add_games-requires-in-Between-clause-meetings : goal.add_games-requires-in-Between-clause-meetings
add_games-requires-in-Between-clause-meetings c =
    let n = c.args.n in
    let meets : ℕ × ℕ → Bool = is_between c.in-Between.side c.in-Between.teams1.now c.in-Between.teams2.now in
    let are : c.deref-in-Between.result.now ≡ filter meets (meetings_of n) =
    c.deref-in-Between.ensures.value ∙ c.in_ok-meetings-in-Between.ensures ∙ ap (filter meets) c.requires.all in
    subst (λ (ps : List (ℕ × ℕ)). AreMeetings n ps) (sym are)
    (AreMeetings-filter n meets (meetings_of n) (AreMeetings-all n))

pub add_games-requires-in-Between-clause-slots : goal.add_games-requires-in-Between-clause-slots
add_games-requires-in-Between-clause-slots c =
    subst (λ (k : Counted). IsListable c.args.n k) c.in-Between.is c.requires.listable

pub add_games-requires-in-Games-clause-meetings : goal.add_games-requires-in-Games-clause-meetings
add_games-requires-in-Games-clause-meetings c =
    (subst (λ (k : Counted). IsListable c.args.n k) c.in-Games.is c.requires.listable).0

pub add_games-requires-in-Games-clause-slots : goal.add_games-requires-in-Games-clause-slots
add_games-requires-in-Games-clause-slots c =
    (subst (λ (k : Counted). IsListable c.args.n k) c.in-Games.is c.requires.listable).1

pub add_breaks-requires-clause-team : goal.add_breaks-requires-clause-team
add_breaks-requires-clause-team c =
    (subst (λ (k : Counted). IsListable c.args.n k) c.in-Breaks.is c.requires.listable).0

pub add_breaks-requires-clause-slots : goal.add_breaks-requires-clause-slots
add_breaks-requires-clause-slots c =
    (subst (λ (k : Counted). IsListable c.args.n k) c.in-Breaks.is c.requires.listable).1

pub add_all_breaks-requires-clause-teams : goal.add_all_breaks-requires-clause-teams
add_all_breaks-requires-clause-teams c =
    (subst (λ (k : Counted). IsListable c.args.n k) c.in-AllBreaks.is c.requires.listable).0

pub add_all_breaks-requires-clause-slots : goal.add_all_breaks-requires-clause-slots
add_all_breaks-requires-clause-slots c =
    (subst (λ (k : Counted). IsListable c.args.n k) c.in-AllBreaks.is c.requires.listable).1

pub add_lead-requires-clause-pair : goal.add_lead-requires-clause-pair
add_lead-requires-clause-pair c =
    (subst (λ (k : Counted). IsListable c.args.n k) c.in-Lead.is c.requires.listable).0

pub add_lead-requires-clause-slots : goal.add_lead-requires-clause-slots
add_lead-requires-clause-slots c =
    (subst (λ (k : Counted). IsListable c.args.n k) c.in-Lead.is c.requires.listable).1

-- ---- they are listed

pub returns-in-Venues : goal.returns-in-Venues
returns-in-Venues c =
    on_ok_weaker c.add_venues.result
    (λ is. is ∙ sym (ap (λ (k : Counted). c.args.literals.now.items ++ literals_of c.args.n k) c.in-Venues.is))
    c.add_venues.ensures

pub returns-in-Games : goal.returns-in-Games
returns-in-Games c =
    on_ok_weaker c.add_games-in-Games.result
    (λ is. is ∙ sym (ap (λ (k : Counted). c.args.literals.now.items ++ literals_of c.args.n k) c.in-Games.is))
    c.add_games-in-Games.ensures

pub returns-in-Breaks : goal.returns-in-Breaks
returns-in-Breaks c =
    on_ok_weaker c.add_breaks.result
    (λ is. is ∙ sym (ap (λ (k : Counted). c.args.literals.now.items ++ literals_of c.args.n k) c.in-Breaks.is))
    c.add_breaks.ensures

pub returns-in-AllBreaks : goal.returns-in-AllBreaks
returns-in-AllBreaks c =
    on_ok_weaker c.add_all_breaks.result
    (λ is. is ∙ sym (ap (λ (k : Counted). c.args.literals.now.items ++ literals_of c.args.n k) c.in-AllBreaks.is))
    c.add_all_breaks.ensures

pub returns-in-Lead : goal.returns-in-Lead
returns-in-Lead c =
    on_ok_weaker c.add_lead.result
    (λ is. is ∙ sym (ap (λ (k : Counted). c.args.literals.now.items ++ literals_of c.args.n k) c.in-Lead.is))
    c.add_lead.ensures
