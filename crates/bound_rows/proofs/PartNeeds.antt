-- What the rows of a part lack, and that the parts of a constraint need as many units as its deviation.
use Rattle.std.proofs.Common.{◌≡◌, ℕ, ◌+◌, ◌-◌, ◌≤◌, Bool, true, not, ◌&&◌, ◌==◌, nat_lt, max}
use Rattle.std.proofs.Common.{List, [], ◌∷◌, map, get_or, refl, arith, ap, sym, ◌∙◌}
use Rattle.std.proofs.lemmas.Bool.{and_parts, ltb-true}
use Rattle.std.proofs.lemmas.List.Elements.{All-cons, All-map, All-nil}
use Rattle.std.proofs.lemmas.List.Sums.{AllPass-from_list_all, sum-map}
use Rattle.std.specs.List.{All, list_all, range_with_len, sum, sum_by}
use Rattle.league.specs.Bounds.{largest}
use Rattle.league.specs.Breaks.{br1_entry, br2_entry}
use Rattle.league.specs.Capacity.{ca1_entry, ca2_entry, ca3_entry, ca4_entry, windows_of}
use Rattle.league.specs.Counts.{Counts, slot_count}
use Rattle.league.specs.Deviation.{deviation_of, spans}
use Rattle.league.specs.Fairness.{fa2_entry}
use Rattle.league.specs.Games.{ga1_entry}
use Rattle.league.specs.Instance.{are_meetings, are_slots, are_teams, class_fits, is_one_side}
use Rattle.league.specs.Meetings.{pairs_of}
use Rattle.league.specs.Separation.{se1_entry}
use Rattle.league.specs.Structure.{pairs_wrong}
use Rattle.league.specs.declared.class.Class.{Class}
use Rattle.league.specs.declared.class.Class.TheVariants.{Ca1, Ca2, Ca3, Ca4, Ga1, Br1, Br2, Fa2, Se1}
use Rattle.league.specs.declared.class.Side.{Side}
use Rattle.league.specs.declared.class.Span.TheVariants.{Global}
use Rattle.league.proofs.RangeLemmas.{one_if, one_if-le}
use Rattle.league.proofs.SumLemmas.{sum_by-flat_map, sum_by-map, sum_by-same}
use Rattle.league.proofs.OneTermLemmas.{All-flat_map}
use Rattle.rows.proofs.ListLemmas.{sum_by-agree}
use Rattle.encoding.specs.Demands.{br1_rows, br2_rows, ca1_rows, ca2_rows, ca4_rows, fa2_rows, ga1_rows, se1_rows}
use Rattle.encoding.specs.Encoding.{class_rows}
use Rattle.encoding.specs.Variables.{bounds_breaks}
use Rattle.decoding.specs.Below.{all_below}
use Rattle.decoding.specs.Mirrors.{Mirrors, MirrorsBreaks}
use Rattle.decoding.specs.Shortfalls.{shortfall, units_needed}
use Rattle.decoding.proofs.BreakLaws.{units_needed-br1, units_needed-br2}
use Rattle.decoding.proofs.CapacityLaws.{units_needed-ca1, units_needed-ca2, units_needed-ca4, units_needed-ga1}
use Rattle.decoding.proofs.FairnessLaw.{units_needed-fa2}
use Rattle.decoding.proofs.MeetingLists.{pairs_of-fit, windows_of-fit}
use Rattle.decoding.proofs.ShortfallLemmas.{largest-cons}
use Rattle.decoding.proofs.ClassLaws.{meetings_fit, slots_fit, spans-fit, teams_fit}
use Rattle.bound_rows.specs.BoundRows.{units_of}
use Rattle.bound_rows.specs.Parts.{ca3_parts, parts_of, se1_parts}
use Rattle.bound_rows.specs.Units.{need_of}
use Rattle.bound_rows.proofs.SeparationNeeds.{needs-se1, steps-se1}
use Rattle.bound_rows.proofs.SoftLaws.{needs_of_key}

-- ---- the sets of a class that fits

-- ---- key by key

as_sum : (entry : ℕ) → entry ≡ sum (entry ∷ [])
as_sum entry = omega arith

-- what holds at each key that fits
each_key : {K X : Type 0} (P : X → Type 0) (fits : K → Bool) (f : K → X) → ((k : K) → fits k ≡ true → P (f k))
    → (keys : List K) → list_all fits keys ≡ true → All P (map f keys)
each_key P fits f law keys fit =
    All-map P f keys (λ i d within. law (get_or keys i d) (AllPass-from_list_all fits keys fit i d within))

-- so many units as the entries of the keys
sum_of_keys : {K : Type 0} (need : Class → ℕ) (part : K → Class) (entry : K → ℕ)
    → ((k : K) → need (part k) ≡ entry k) → (keys : List K)
    → sum_by need (map part keys) ≡ sum (map entry keys)
sum_of_keys need part entry law keys =
    sum_by-map need part keys ∙ sum_by-same (λ k. need (part k)) entry law keys ∙ sym (sum-map entry keys)

-- the rows of a part lack as much as its schedule needs
abbrev pub LacksNeed : ℕ → Counts → (ℕ → Bool) → Class → Type 0
LacksNeed n m values part = units_needed values (class_rows n part) ≡ need_of n m part

module _ (n : ℕ) (m : Counts) (values : ℕ → Bool) (mirrors : Mirrors n m values) (once : pairs_wrong n m ≡ 0) where
  against : (teams2 : List ℕ) (min max : ℕ) (side : Side) (slots : List ℕ) (i : ℕ) → nat_lt i n ≡ true
      → all_below n teams2 ≡ true → all_below (slot_count n) slots ≡ true
      → LacksNeed n m values (Ca2 (i ∷ []) teams2 min max side slots)
  against teams2 min max side slots i team others fit =
      needs_of_key values (ca2_rows n teams2 min max side slots i)
      ∙ units_needed-ca2 n m values mirrors teams2 min max side slots i (ltb-true i n team) others fit
      ∙ as_sum (ca2_entry m teams2 min max side slots i)

  apart : (min : ℕ) (p : ℕ × ℕ) → (nat_lt p.0 n && nat_lt p.1 n) ≡ true
      → LacksNeed n m values (Se1 (p.0 ∷ p.1 ∷ []) min)
  apart min p fit =
      let pair = and_parts (nat_lt p.0 n) (nat_lt p.1 n) fit in
      needs_of_key values (se1_rows n min p)
      ∙ needs-se1 n m values mirrors once min p (ltb-true p.0 n pair.0) (ltb-true p.1 n pair.1)
      ∙ ap (λ (e : ℕ). one_if (not (e == 0))) (as_sum (se1_entry n m min p))

  pub part_law : (class : Class) → (bounds_breaks class ≡ true → MirrorsBreaks n m values)
      → class_fits n class ≡ true → All (LacksNeed n m values) (parts_of n class)
  part_law (Ca1 teams min max side slots) breaks fits =
      let both = and_parts (are_teams n teams && are_slots n slots) (is_one_side side) fits in
      let sets = and_parts (are_teams n teams) (are_slots n slots) both.0 in
      each_key (LacksNeed n m values) (λ i. nat_lt i n) (λ i. Ca1 (i ∷ []) min max side slots)
      (λ i team.
      needs_of_key values (ca1_rows n min max side slots i)
      ∙ units_needed-ca1 n m values mirrors min max side slots i (ltb-true i n team) (slots_fit n slots sets.1) both.1
      ∙ as_sum (ca1_entry n m min max side slots i))
      teams (teams_fit n teams sets.0)
  part_law (Ca2 teams1 teams2 min max side slots) breaks fits =
      let both = and_parts (are_teams n teams1 && are_teams n teams2) (are_slots n slots) fits in
      let sets = and_parts (are_teams n teams1) (are_teams n teams2) both.0 in
      each_key (LacksNeed n m values) (λ i. nat_lt i n) (λ i. Ca2 (i ∷ []) teams2 min max side slots)
      (λ i team. against teams2 min max side slots i team (teams_fit n teams2 sets.1) (slots_fit n slots both.1))
      teams1 (teams_fit n teams1 sets.0)
  part_law (Ca3 teams1 teams2 min max intp side) breaks fits =
      let both = and_parts (are_teams n teams1 && are_teams n teams2) (nat_lt 0 intp) fits in
      let sets = and_parts (are_teams n teams1) (are_teams n teams2) both.0 in
      All-flat_map (LacksNeed n m values) (ca3_parts n teams2 min max intp side) teams1
      (λ k d within.
      let i : ℕ = get_or teams1 k d in
      let team : nat_lt i n ≡ true =
      AllPass-from_list_all (λ i. nat_lt i n) teams1 (teams_fit n teams1 sets.0) k d within in
      each_key (LacksNeed n m values) (all_below (slot_count n)) (Ca2 (i ∷ []) teams2 min max side)
      (λ window fit. against teams2 min max side window i team (teams_fit n teams2 sets.1) fit)
      (windows_of n intp) (windows_of-fit n intp))
  part_law (Ca4 teams1 teams2 min max side span slots) breaks fits =
      let both = and_parts (are_teams n teams1 && are_teams n teams2) (are_slots n slots) fits in
      each_key (LacksNeed n m values) (all_below (slot_count n)) (Ca4 teams1 teams2 min max side Global)
      (λ part fit.
      needs_of_key values (ca4_rows n teams1 teams2 min max side part)
      ∙ units_needed-ca4 n m values mirrors teams1 teams2 min max side part fit
      ∙ as_sum (ca4_entry n m teams1 teams2 min max side part))
      (spans span slots) (spans-fit n span slots (slots_fit n slots both.1))
  part_law (Ga1 meetings min max slots) breaks fits =
      let both = and_parts (are_meetings n meetings) (are_slots n slots) fits in
      All-cons (LacksNeed n m values) (Ga1 meetings min max slots) []
      (needs_of_key values (ga1_rows n meetings min max slots)
      ∙ units_needed-ga1 n m values mirrors meetings min max slots (meetings_fit n meetings both.0)
      (slots_fit n slots both.1)
      ∙ as_sum (ga1_entry m meetings min max slots))
      (All-nil (LacksNeed n m values))
  part_law (Br1 teams intp side slots) breaks fits =
      let both = and_parts (are_teams n teams) (are_slots n slots) fits in
      each_key (LacksNeed n m values) (λ i. nat_lt i n) (λ i. Br1 (i ∷ []) intp side slots)
      (λ i team.
      needs_of_key values (br1_rows n intp side slots i)
      ∙ units_needed-br1 n m values (breaks refl) intp side slots i (ltb-true i n team) (slots_fit n slots both.1)
      ∙ as_sum (br1_entry n m intp side slots i))
      teams (teams_fit n teams both.0)
  part_law (Br2 teams intp slots) breaks fits =
      let both = and_parts (are_teams n teams) (are_slots n slots) fits in
      All-cons (LacksNeed n m values) (Br2 teams intp slots) []
      (needs_of_key values (br2_rows n teams intp slots)
      ∙ units_needed-br2 n m values (breaks refl) teams intp slots (teams_fit n teams both.0)
      (slots_fit n slots both.1)
      ∙ as_sum (br2_entry n m teams intp slots))
      (All-nil (LacksNeed n m values))
  part_law (Fa2 teams intp slots) breaks fits =
      let both = and_parts (are_teams n teams) (are_slots n slots) fits in
      each_key (LacksNeed n m values) (λ p. nat_lt p.0 n && nat_lt p.1 n) (λ p. Fa2 (p.0 ∷ p.1 ∷ []) intp slots)
      (λ p fit.
      let pair = and_parts (nat_lt p.0 n) (nat_lt p.1 n) fit in
      needs_of_key values (fa2_rows n intp slots p)
      ∙ units_needed-fa2 n m values mirrors intp p (ltb-true p.0 n pair.0) (ltb-true p.1 n pair.1) slots
      (slots_fit n slots both.1)
      ∙ as_sum (fa2_entry n m intp slots p))
      (pairs_of teams) (pairs_of-fit n teams (teams_fit n teams both.0))
  part_law (Se1 teams min) breaks fits =
      let pairs = pairs_of-fit n teams (teams_fit n teams fits) in
      let inside : ℕ × ℕ → Bool = λ p. nat_lt p.0 n && nat_lt p.1 n in
      All-flat_map (LacksNeed n m values) (se1_parts min) (pairs_of teams)
      (λ k d within.
      let p : ℕ × ℕ = get_or (pairs_of teams) k d in
      let fit : inside p ≡ true = AllPass-from_list_all inside (pairs_of teams) pairs k d within in
      All-map (LacksNeed n m values) (λ u. Se1 (p.0 ∷ p.1 ∷ []) (min + 1 - u)) (range_with_len 1 min)
      (λ i e below. apart (min + 1 - get_or (range_with_len 1 min) i e) p fit))

  -- a part of SE1 counts whether its pair lacks anything
  steps_of_pair : (min : ℕ) (p : ℕ × ℕ) → (nat_lt p.0 n && nat_lt p.1 n) ≡ true
      → sum_by (need_of n m) (se1_parts min p) ≡ se1_entry n m min p
  steps_of_pair min p fit =
      let pair = and_parts (nat_lt p.0 n) (nat_lt p.1 n) fit in
      sum_by-map (need_of n m) (λ u. Se1 (p.0 ∷ p.1 ∷ []) (min + 1 - u)) (range_with_len 1 min)
      ∙ sum_by-same (λ u. need_of n m (Se1 (p.0 ∷ p.1 ∷ []) (min + 1 - u)))
      (λ u. one_if (not (se1_entry n m (min + 1 - u) p == 0)))
      (λ u. ap (λ (e : ℕ). one_if (not (e == 0))) (sym (as_sum (se1_entry n m (min + 1 - u) p))))
      (range_with_len 1 min)
      ∙ steps-se1 n m values mirrors once min p (ltb-true p.0 n pair.0) (ltb-true p.1 n pair.1)

  -- the parts of a class need as many units as its deviation
  pub parts_sum : (class : Class) → class_fits n class ≡ true
      → sum_by (need_of n m) (parts_of n class) ≡ deviation_of n m class
  parts_sum (Ca1 teams min max side slots) fits =
      sum_of_keys (need_of n m) (λ i. Ca1 (i ∷ []) min max side slots) (ca1_entry n m min max side slots)
      (λ i. sym (as_sum (ca1_entry n m min max side slots i))) teams
  parts_sum (Ca2 teams1 teams2 min max side slots) fits =
      sum_of_keys (need_of n m) (λ i. Ca2 (i ∷ []) teams2 min max side slots) (ca2_entry m teams2 min max side slots)
      (λ i. sym (as_sum (ca2_entry m teams2 min max side slots i))) teams1
  parts_sum (Ca3 teams1 teams2 min max intp side) fits =
      sum_by-flat_map (need_of n m) (ca3_parts n teams2 min max intp side) teams1
      ∙ sum_by-same (λ i. sum_by (need_of n m) (ca3_parts n teams2 min max intp side i))
      (ca3_entry n m teams2 min max intp side)
      (λ i.
      sum_by-map (need_of n m) (Ca2 (i ∷ []) teams2 min max side) (windows_of n intp)
      ∙ sum_by-same (λ window. need_of n m (Ca2 (i ∷ []) teams2 min max side window))
      (λ window. ca2_entry m teams2 min max side window i)
      (λ window. sym (as_sum (ca2_entry m teams2 min max side window i))) (windows_of n intp))
      teams1
      ∙ sym (sum-map (ca3_entry n m teams2 min max intp side) teams1)
  parts_sum (Ca4 teams1 teams2 min max side span slots) fits =
      sum_of_keys (need_of n m) (Ca4 teams1 teams2 min max side Global) (ca4_entry n m teams1 teams2 min max side)
      (λ part. sym (as_sum (ca4_entry n m teams1 teams2 min max side part))) (spans span slots)
  parts_sum (Ga1 meetings min max slots) fits = sym (as_sum (deviation_of n m (Ga1 meetings min max slots)))
  parts_sum (Br1 teams intp side slots) fits =
      sum_of_keys (need_of n m) (λ i. Br1 (i ∷ []) intp side slots) (br1_entry n m intp side slots)
      (λ i. sym (as_sum (br1_entry n m intp side slots i))) teams
  parts_sum (Br2 teams intp slots) fits = sym (as_sum (deviation_of n m (Br2 teams intp slots)))
  parts_sum (Fa2 teams intp slots) fits =
      sum_of_keys (need_of n m) (λ p. Fa2 (p.0 ∷ p.1 ∷ []) intp slots) (fa2_entry n m intp slots)
      (λ p. sym (as_sum (fa2_entry n m intp slots p))) (pairs_of teams)
  parts_sum (Se1 teams min) fits =
      let inside : ℕ × ℕ → Bool = λ p. nat_lt p.0 n && nat_lt p.1 n in
      sum_by-flat_map (need_of n m) (se1_parts min) (pairs_of teams)
      ∙ sum_by-agree inside (λ p. sum_by (need_of n m) (se1_parts min p)) (se1_entry n m min)
      (λ p fit. steps_of_pair min p fit) (pairs_of teams) (pairs_of-fit n teams (teams_fit n teams fits))
      ∙ sym (sum-map (se1_entry n m min) (pairs_of teams))

-- ---- there are units enough

larger_largest : {X : Type 0} (f g : X → ℕ) → ((x : X) → f x ≤ g x) → (xs : List X) → largest f xs ≤ largest g xs
larger_largest f g less [] = omega arith
larger_largest f g less (x ∷ xs) =
    omega (arith, largest-cons f x xs, largest-cons g x xs, less x, larger_largest f g less xs)

pub needs_fit : (n : ℕ) (m : Counts) (values : ℕ → Bool) (part : Class) → LacksNeed n m values part
    → units_needed values (class_rows n part) ≤ units_of part (class_rows n part)
needs_fit n m values (Se1 teams min) lacks =
    omega (arith, lacks, one_if-le (not (deviation_of n m (Se1 teams min) == 0)))
needs_fit n m values other lacks =
    larger_largest (shortfall values) (λ row. row.degree) (λ row. omega arith) (class_rows n other)
