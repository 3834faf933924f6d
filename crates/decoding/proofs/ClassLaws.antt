-- The law of each class: all rows of each key are satisfied exactly where the entries of the vector are all 0.
use Rattle.std.proofs.Common.{◌≡◌, ℕ, Bool, true, ◌&&◌, ◌==◌, nat_lt, List, [], ◌∷◌, map, refl, ap, sym, ◌∙◌}
use Rattle.std.proofs.lemmas.Bool.{and_from, and_parts, ltb-true}
use Rattle.std.proofs.lemmas.List.Folds.{list_all-map}
use Rattle.std.specs.List.{list_all}
use Rattle.std.specs.Ordering.{nat_cmp}
use Rattle.league.specs.Breaks.{br1_entry, br2_entry}
use Rattle.league.specs.Capacity.{ca1_entry, ca2_entry, ca3_entry, ca4_entry}
use Rattle.league.specs.Counts.{Counts, slot_count}
use Rattle.league.specs.Deviation.{spans, vector_of}
use Rattle.league.specs.Fairness.{fa2_entry}
use Rattle.league.specs.Games.{ga1_entry}
use Rattle.league.specs.Instance.{are_meetings, are_slots, are_teams, class_fits, is_meeting, is_one_side}
use Rattle.league.specs.Meetings.{pairs_of}
use Rattle.league.specs.Separation.{se1_entry}
use Rattle.league.specs.Sets.{ascends, pair_cmp}
use Rattle.league.specs.declared.class.Class.{Class}
use Rattle.league.specs.declared.class.Class.TheVariants.{Ca1, Ca2, Ca3, Ca4, Ga1, Br1, Br2, Fa2, Se1}
use Rattle.league.specs.declared.class.Span.{Span}
use Rattle.league.specs.declared.class.Span.TheVariants.{Global, Every}
use Rattle.league.proofs.AscendingLemmas.{first_true}
use Rattle.rows.specs.Rows.{Row}
use Rattle.rows.specs.Tests.{all_satisfied}
use Rattle.rows.proofs.ListLemmas.{list_all-agree, list_all-weaker}
use Rattle.encoding.specs.Demands.{br1_rows, br2_rows, ca1_rows, ca2_rows, ca3_rows, ca4_rows, fa2_rows, ga1_rows}
use Rattle.encoding.specs.Demands.{rows_by_key, se1_rows}
use Rattle.encoding.specs.Variables.{bounds_breaks}
use Rattle.decoding.specs.Below.{all_below}
use Rattle.decoding.specs.Mirrors.{Mirrors, MirrorsBreaks}
use Rattle.decoding.specs.Shortfalls.{all_zero, units_needed}
use Rattle.decoding.proofs.BreakLaws.{units_needed-br1, units_needed-br2}
use Rattle.decoding.proofs.CapacityLaws.{satisfied-ca3, units_needed-ca1, units_needed-ca2, units_needed-ca4}
use Rattle.decoding.proofs.CapacityLaws.{units_needed-ga1}
use Rattle.decoding.proofs.FairnessLaw.{units_needed-fa2}
use Rattle.decoding.proofs.MeetingLists.{pairs_of-fit}
use Rattle.decoding.proofs.SeparationLaw.{satisfied-se1}
use Rattle.decoding.proofs.ShortfallLemmas.{satisfied-needs}

-- the sets of a class that fits
pub teams_fit : (n : ℕ) (teams : List ℕ) → are_teams n teams ≡ true → all_below n teams ≡ true
teams_fit n teams fits = first_true (all_below n teams) (ascends nat_cmp teams) fits

pub slots_fit : (n : ℕ) (slots : List ℕ) → are_slots n slots ≡ true → all_below (slot_count n) slots ≡ true
slots_fit n slots fits = first_true (all_below (slot_count n) slots) (ascends nat_cmp slots) fits

pub meetings_fit : (n : ℕ) (meetings : List (ℕ × ℕ)) → are_meetings n meetings ≡ true
    → list_all (is_meeting n) meetings ≡ true
meetings_fit n meetings fits = first_true (list_all (is_meeting n) meetings) (ascends pair_cmp meetings) fits

pub spans-fit : (n : ℕ) (span : Span) (slots : List ℕ) → all_below (slot_count n) slots ≡ true
    → list_all (all_below (slot_count n)) (spans span slots) ≡ true
spans-fit n Global slots fit = and_from _ _ fit refl
spans-fit n Every slots fit =
    let below : ℕ → Bool = λ s. nat_lt s (slot_count n) in
    list_all-map (λ part. list_all below part) (λ s. s ∷ []) slots
    ∙ list_all-weaker below (λ s. below s && true) (λ s slot. and_from (below s) true slot refl) slots fit

-- rows that lack an entry are all satisfied where it is 0
satisfied-entry : (values : ℕ → Bool) (rows : List Row) (entry : ℕ) → units_needed values rows ≡ entry
    → all_satisfied values rows ≡ (entry == 0)
satisfied-entry values rows entry lack = satisfied-needs values rows ∙ ap (λ (x : ℕ). x == 0) lack

one_key : (a b : Bool) → a ≡ b → (a && true) ≡ (b && true)
one_key a b same = ap (λ (t : Bool). t && true) same

-- key by key
by_key : {K : Type 0} (values : ℕ → Bool) (fits : K → Bool) (rows : K → List Row) (entry : K → ℕ)
    → ((k : K) → fits k ≡ true → all_satisfied values (rows k) ≡ (entry k == 0)) → (keys : List K)
    → list_all fits keys ≡ true → list_all (all_satisfied values) (map rows keys) ≡ all_zero (map entry keys)
by_key values fits rows entry law keys fit =
    list_all-map (all_satisfied values) rows keys
    ∙ list_all-agree fits (λ k. all_satisfied values (rows k)) (λ k. entry k == 0) law keys fit
    ∙ sym (list_all-map (λ x. x == 0) entry keys)

module _ (n : ℕ) (m : Counts) (values : ℕ → Bool) (mirrors : Mirrors n m values) where
  pub class_law : (class : Class) → (bounds_breaks class ≡ true → MirrorsBreaks n m values)
      → class_fits n class ≡ true
      → list_all (all_satisfied values) (rows_by_key n class) ≡ all_zero (vector_of n m class)
  class_law (Ca1 teams min max side slots) breaks fits =
      let both = and_parts (are_teams n teams && are_slots n slots) (is_one_side side) fits in
      let sets = and_parts (are_teams n teams) (are_slots n slots) both.0 in
      by_key values (λ i. nat_lt i n) (ca1_rows n min max side slots) (ca1_entry n m min max side slots)
      (λ i team. satisfied-entry values (ca1_rows n min max side slots i) (ca1_entry n m min max side slots i)
      (units_needed-ca1 n m values mirrors min max side slots i (ltb-true i n team)
      (slots_fit n slots sets.1) both.1))
      teams (teams_fit n teams sets.0)
  class_law (Ca2 teams1 teams2 min max side slots) breaks fits =
      let both = and_parts (are_teams n teams1 && are_teams n teams2) (are_slots n slots) fits in
      let sets = and_parts (are_teams n teams1) (are_teams n teams2) both.0 in
      by_key values (λ i. nat_lt i n) (ca2_rows n teams2 min max side slots) (ca2_entry m teams2 min max side slots)
      (λ i team. satisfied-entry values (ca2_rows n teams2 min max side slots i)
      (ca2_entry m teams2 min max side slots i)
      (units_needed-ca2 n m values mirrors teams2 min max side slots i (ltb-true i n team) (teams_fit n teams2 sets.1)
      (slots_fit n slots both.1)))
      teams1 (teams_fit n teams1 sets.0)
  class_law (Ca3 teams1 teams2 min max intp side) breaks fits =
      let both = and_parts (are_teams n teams1 && are_teams n teams2) (nat_lt 0 intp) fits in
      let sets = and_parts (are_teams n teams1) (are_teams n teams2) both.0 in
      by_key values (λ i. nat_lt i n) (ca3_rows n teams2 min max intp side) (ca3_entry n m teams2 min max intp side)
      (λ i team. satisfied-ca3 n m values mirrors teams2 min max intp side i (ltb-true i n team)
      (teams_fit n teams2 sets.1))
      teams1 (teams_fit n teams1 sets.0)
  class_law (Ca4 teams1 teams2 min max side span slots) breaks fits =
      let both = and_parts (are_teams n teams1 && are_teams n teams2) (are_slots n slots) fits in
      by_key values (all_below (slot_count n)) (ca4_rows n teams1 teams2 min max side)
      (ca4_entry n m teams1 teams2 min max side)
      (λ part fit. satisfied-entry values (ca4_rows n teams1 teams2 min max side part)
      (ca4_entry n m teams1 teams2 min max side part)
      (units_needed-ca4 n m values mirrors teams1 teams2 min max side part fit))
      (spans span slots) (spans-fit n span slots (slots_fit n slots both.1))
  class_law (Ga1 meetings min max slots) breaks fits =
      let both = and_parts (are_meetings n meetings) (are_slots n slots) fits in
      one_key _ _ (satisfied-entry values (ga1_rows n meetings min max slots) (ga1_entry m meetings min max slots)
      (units_needed-ga1 n m values mirrors meetings min max slots (meetings_fit n meetings both.0)
      (slots_fit n slots both.1)))
  class_law (Br1 teams intp side slots) breaks fits =
      let both = and_parts (are_teams n teams) (are_slots n slots) fits in
      by_key values (λ i. nat_lt i n) (br1_rows n intp side slots) (br1_entry n m intp side slots)
      (λ i team. satisfied-entry values (br1_rows n intp side slots i) (br1_entry n m intp side slots i)
      (units_needed-br1 n m values (breaks refl) intp side slots i (ltb-true i n team) (slots_fit n slots both.1)))
      teams (teams_fit n teams both.0)
  class_law (Br2 teams intp slots) breaks fits =
      let both = and_parts (are_teams n teams) (are_slots n slots) fits in
      one_key _ _ (satisfied-entry values (br2_rows n teams intp slots) (br2_entry n m teams intp slots)
      (units_needed-br2 n m values (breaks refl) teams intp slots (teams_fit n teams both.0)
      (slots_fit n slots both.1)))
  class_law (Fa2 teams intp slots) breaks fits =
      let both = and_parts (are_teams n teams) (are_slots n slots) fits in
      by_key values (λ p. nat_lt p.0 n && nat_lt p.1 n) (fa2_rows n intp slots) (fa2_entry n m intp slots)
      (λ p fit.
      let pair = and_parts (nat_lt p.0 n) (nat_lt p.1 n) fit in
      satisfied-entry values (fa2_rows n intp slots p) (fa2_entry n m intp slots p)
      (units_needed-fa2 n m values mirrors intp p (ltb-true p.0 n pair.0) (ltb-true p.1 n pair.1) slots
      (slots_fit n slots both.1)))
      (pairs_of teams) (pairs_of-fit n teams (teams_fit n teams both.0))
  class_law (Se1 teams min) breaks fits =
      by_key values (λ p. nat_lt p.0 n && nat_lt p.1 n) (se1_rows n min) (se1_entry n m min)
      (λ p fit.
      let pair = and_parts (nat_lt p.0 n) (nat_lt p.1 n) fit in
      satisfied-se1 n m values mirrors min p (ltb-true p.0 n pair.0) (ltb-true p.1 n pair.1))
      (pairs_of teams) (pairs_of-fit n teams (teams_fit n teams fits))
