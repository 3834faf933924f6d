-- What a constraint of a league says of its sets, how many entries it has, and what makes a value its rule.
use Rattle.std.proofs.Common.{◌≡◌, ℕ, ◌≤◌, Bool, true, ◌&&◌, nat_lt, List, [], ◌∷◌, length, refl, arith, sym, ◌∙◌, IsTrue, subst}
use Rattle.std.proofs.lemmas.Bool.{and_parts}
use Rattle.std.proofs.lemmas.List.{length-map}
use Rattle.league.specs.Breaks.{br1_entry}
use Rattle.league.specs.Capacity.{ca1_entry, ca2_entry, ca3_entry, ca4_entry}
use Rattle.league.specs.Counts.{Counts}
use Rattle.league.specs.Deviation.{entry_of, spans, vector_of}
use Rattle.league.specs.Fairness.{fa2_entry}
use Rattle.league.specs.Instance.{are_slots, are_teams, class_fits, is_one_side}
use Rattle.league.specs.Meetings.{pairs_of}
use Rattle.league.specs.Separation.{se1_entry}
use Rattle.league.specs.declared.class.Class.{Class}
use Rattle.league.specs.declared.class.Class.TheVariants.{Ca1, Ca2, Ca3, Ca4, Ga1, Br1, Br2, Fa2, Se1}
use Rattle.league.specs.declared.class.Span.{Span}
use Rattle.league.specs.declared.class.Span.TheVariants.{Global, Every}
use Rattle.league.specs.declared.game.Game.{Game}
use Rattle.league.proofs.FitLemmas.{are_slots-ascending, are_slots-below, are_teams-ascending, are_teams-below}
use Rattle.rule_core.specs.Ready.{IsReady, entry_count}
use Rattle.rule_core.specs.Rule.{IsRuleOf}
use Rattle.rule_core.specs.Touched.{is_watched, most_touched, touched_keys}
use Rattle.rule_core.specs.declared.rule.Entries.{Ghosts}
use Rattle.rule_core.proofs.PairLemmas.{pairs_of-few, slots-few, teams-few}

-- a league has few teams, and a season few slots
pub are_teams-few : (n : ℕ) (teams : List ℕ) → n ≤ 40 → IsTrue (are_teams n teams) → length teams ≤ 40
are_teams-few n teams small are = teams-few n teams small (are_teams-ascending n teams are) (are_teams-below n teams are)

pub are_slots-few : (n : ℕ) (slots : List ℕ) → n ≤ 40 → IsTrue (are_slots n slots) → length slots ≤ 78
are_slots-few n slots small are = slots-few n slots small (are_slots-ascending n slots are) (are_slots-below n slots are)

-- the vector has so many entries
pub entry_count-is : (n : ℕ) (m : Counts) (class : Class) → entry_count class ≡ length (vector_of n m class)
entry_count-is n m (Ca1 teams min max side slots) = sym (length-map teams (ca1_entry n m min max side slots))
entry_count-is n m (Ca2 teams1 teams2 min max side slots) = sym (length-map teams1 (ca2_entry m teams2 min max side slots))
entry_count-is n m (Ca3 teams1 teams2 min max intp side) = sym (length-map teams1 (ca3_entry n m teams2 min max intp side))
entry_count-is n m (Ca4 teams1 teams2 min max side span slots) = sym (length-map (spans span slots) (ca4_entry n m teams1 teams2 min max side))
entry_count-is n m (Ga1 meetings min max slots) = refl
entry_count-is n m (Br1 teams intp side slots) = sym (length-map teams (br1_entry n m intp side slots))
entry_count-is n m (Br2 teams intp slots) = refl
entry_count-is n m (Fa2 teams intp slots) = sym (length-map (pairs_of teams) (fa2_entry n m intp slots))
entry_count-is n m (Se1 teams min) = sym (length-map (pairs_of teams) (se1_entry n m min))

-- which are at most 1600
spans-few : (span : Span) (slots : List ℕ) → length slots ≤ 78 → length (spans span slots) ≤ 1600
spans-few Global slots few = omega arith
spans-few Every slots few = omega (arith, length-map slots (λ s. s ∷ []))

-- the tests of which a class's own is made
first_of_two : (a b : Bool) → (a && b) ≡ true → a ≡ true
first_of_two a b h = (and_parts a b h).0

first_of_three : (a b c : Bool) → (a && b && c) ≡ true → a ≡ true
first_of_three a b c h = first_of_two a b (first_of_two (a && b) c h)

pub entry_count-few : (n : ℕ) (class : Class) → IsReady n class → entry_count class ≤ 1600
entry_count-few n (Ca1 teams min max side slots) ready = omega (arith, are_teams-few n teams ready.at_most (first_of_three (are_teams n teams) (are_slots n slots) (is_one_side side) ready.fits))
entry_count-few n (Ca2 teams1 teams2 min max side slots) ready = omega (arith, are_teams-few n teams1 ready.at_most (first_of_three (are_teams n teams1) (are_teams n teams2) (are_slots n slots) ready.fits))
entry_count-few n (Ca3 teams1 teams2 min max intp side) ready = omega (arith, are_teams-few n teams1 ready.at_most (first_of_three (are_teams n teams1) (are_teams n teams2) (nat_lt 0 intp) ready.fits))
entry_count-few n (Ca4 teams1 teams2 min max side span slots) ready = spans-few span slots (are_slots-few n slots ready.at_most (and_parts (are_teams n teams1 && are_teams n teams2) (are_slots n slots) ready.fits).1)
entry_count-few n (Ga1 meetings min max slots) ready = omega arith
entry_count-few n (Br1 teams intp side slots) ready = omega (arith, are_teams-few n teams ready.at_most (first_of_two (are_teams n teams) (are_slots n slots) ready.fits))
entry_count-few n (Br2 teams intp slots) ready = omega arith
entry_count-few n (Fa2 teams intp slots) ready =
    let are : are_teams n teams ≡ true = first_of_two (are_teams n teams) (are_slots n slots) ready.fits in
    pairs_of-few n teams ready.at_most (are_teams-ascending n teams are) (are_teams-below n teams are)
entry_count-few n (Se1 teams min) ready = pairs_of-few n teams ready.at_most (are_teams-ascending n teams ready.fits) (are_teams-below n teams ready.fits)

-- a value that says of its entries what a constraint's class says is its rule
pub IsRuleOf-made : {R : Type 0} (E : Ghosts R) (n : ℕ) (class other : Class) (rule : R) → class ≡ other → n ≤ 40 → IsTrue (class_fits n other)
    → E.team_count rule ≡ n → E.term_count rule ≡ entry_count class → E.reach_of rule ≡ most_touched class
    → ((k : ℕ) (m : Counts) → E.entry rule k m ≡ entry_of n m class k) → ((g : Game) → E.touches rule g ≡ touched_keys class g)
    → ((t : ℕ) → E.watched rule t ≡ is_watched class t) → IsRuleOf E n other rule
IsRuleOf-made E n class other rule same at_most fits teams terms reach entries touches watched =
    let ready : IsReady n class = record { at_most = at_most; fits = subst (λ (c : Class). IsTrue (class_fits n c)) (sym same) fits } in
    subst (λ (c : Class). IsRuleOf E n c rule) same
    (record {
      teams = teams;
      terms = λ m. terms ∙ entry_count-is n m class;
      short = omega (arith, terms, entry_count-few n class ready);
      entries = entries;
      reach = reach;
      touches = touches;
      watched = watched;
    })
