-- Values that satisfy the pattern rows show patterns that do.
use Rattle.std.proofs.Common.{◌≡◌, ℕ, ◌+◌, ◌-◌, ◌*◌, ◌<◌, ◌≤◌, nat_lt, Bool, true, false, not, ◌&&◌, ◌||◌, cond}
use Rattle.std.proofs.Common.{List, [], ◌∷◌, ◌++◌, length, get_or}
use Rattle.std.proofs.Common.{refl, arith, ap, sym, subst, ◌∙◌}
use Rattle.std.specs.Prelude.{IsTrue}
use Rattle.std.specs.List.{All, filter, flat_map, range_with_len}
use Rattle.std.proofs.lemmas.Bool.{and_parts, false≢true}
use Rattle.std.proofs.lemmas.Bool.Decides.{nat_tests}
use Rattle.std.proofs.lemmas.List.{get_or-append-add, get_or_append_left, length-append}
use Rattle.std.proofs.lemmas.List.Elements.{All-cons, All-from_recursion, All-head, All-map, All-nil, All-tail}
use Rattle.std.proofs.lemmas.List.FromFn.{get_or-map-range_with_len, length-map-range_with_len}
use Rattle.league.specs.Counts.{slot_count, slots_of, teams_of}
use Rattle.league.specs.Instance.{Instance, IsInstance, is_one_side}
use Rattle.league.specs.declared.class.Side.{Side}
use Rattle.league.specs.declared.class.Side.TheVariants.{Both}
use Rattle.league.proofs.OneTermLemmas.{All-flat_map}
use Rattle.patterns.specs.Pattern.{IsPattern}
use Rattle.rows.specs.Rows.{Row, Satisfies, SatisfiesAll}
use Rattle.rows.specs.Values.{assigned}
use Rattle.rows.proofs.TestLemmas.{all_satisfied-true}
use Rattle.encoding.specs.Encoding.{constraint_rows, rows_of, season_rows}
use Rattle.encoding.specs.Lists.{after_first}
use Rattle.encoding.specs.Season.{both_needed, break_rows, break_rows_at, neither_needed}
use Rattle.encoding.specs.Variables.{ab_var, h_count, h_var, has_breaks, hb_count, hb_var, x_count}
use Rattle.decoding.proofs.BreakRows.{after_first_passes, break_rows-law, breaks_agree}
use Rattle.decoding.proofs.VenueLaws.{agree-true, each_cell}
use Rattle.league_search.specs.Letters.{letters_of, lowered, patterns_by, side_of}
use Rattle.league_search.specs.PatternRows.{is_pattern_row, pattern_rows}
use Rattle.league_search.specs.PatternSets.{IsPatternSet, SayPatterns, is_away, is_home, letter_at}
use Rattle.league_search.specs.Raised.{IsPicked}
use Rattle.league_search.proofs.PickLemmas.{picked_raised}
use Rattle.league_search.proofs.RaiseLemmas.{SatisfiesAll-raised, lowered-raises}

-- ---- what holds of the rows that pass

unfiltered : (test : Row → Bool) (P : Row → Type 0) (rows : List Row) → All P (filter test rows)
    → All (λ row. test row ≡ true → P row) rows
unfiltered test P [] all = All-nil (λ row. test row ≡ true → P row)
unfiltered test P (row ∷ rows) all = by (unfiltered test P rows) (test row) refl all where
  by : (All P (filter test rows) → All (λ r. test r ≡ true → P r) rows) → (b : Bool) → test row ≡ b
      → All P (cond b (row ∷ filter test rows) (filter test rows)) → All (λ r. test r ≡ true → P r) (row ∷ rows)
  by rest true is holds =
      All-cons (λ r. test r ≡ true → P r) row rows (λ passes. All-head P row (filter test rows) holds)
      (rest (All-tail P row (filter test rows) holds))
  by rest false is holds =
      All-cons (λ r. test r ≡ true → P r) row rows (λ passes. absurd (false≢true (sym is ∙ passes))) (rest holds)

All-front : (P : Row → Type 0) (rows more : List Row) → All P (rows ++ more) → All P rows
All-front P rows more all = λ k d within.
    subst P (get_or_append_left rows more d k within) (all k d (omega (arith, within, length-append rows more)))

All-back : (P : Row → Type 0) (rows more : List Row) → All P (rows ++ more) → All P more
All-back P rows more all = λ k d within.
    subst P (get_or-append-add rows more k d)
    (all (length rows + k) d (omega (arith, within, length-append rows more)))

-- ---- break rows speak of no game

past_one : (x a b : ℕ) → nat_lt x (1 + x + a + b) ≡ true
past_one x a b = grind (arith, nat_tests)

past_two : (x a b c : ℕ) → nat_lt x (1 + x + a + b + c) ≡ true
past_two x a b c = grind (arith, nat_tests)

past_three : (x a b c d : ℕ) → nat_lt x (1 + x + a + b + c + d) ≡ true
past_three x a b c d = grind (arith, nat_tests)

h-past : (n i s : ℕ) → nat_lt (x_count n) (h_var n i s) ≡ true
h-past n i s = past_one (x_count n) (i * slot_count n) s

hb-past : (n i s : ℕ) → nat_lt (x_count n) (hb_var n i s) ≡ true
hb-past n i s = past_two (x_count n) (h_count n) (i * (slot_count n - 1)) (s - 1)

ab-past : (n i s : ℕ) → nat_lt (x_count n) (ab_var n i s) ≡ true
ab-past n i s = past_three (x_count n) (h_count n) (i * (slot_count n - 1)) (s - 1) (hb_count n)

two_pass : (a b : Bool) → a ≡ true → b ≡ true → (a && (b && true)) ≡ true
two_pass true true is are = refl
two_pass true false is are = are
two_pass false b is are = is

three_pass : (a b c : Bool) → a ≡ true → b ≡ true → c ≡ true → (a && (b && (c && true))) ≡ true
three_pass true b c is are also = two_pass b c are also
three_pass false b c is are also = is

tied : (x p q b a : ℕ) → nat_lt x p ≡ true → nat_lt x q ≡ true → nat_lt x b ≡ true → nat_lt x a ≡ true
    → All (λ row. is_pattern_row x row ≡ true) (both_needed p q b ++ neither_needed p q a)
tied x p q b a first second home away =
    All-from_recursion (λ row. is_pattern_row x row ≡ true) (both_needed p q b ++ neither_needed p q a) (
      two_pass (nat_lt x p) (nat_lt x b) first home,
      (
        two_pass (nat_lt x q) (nat_lt x b) second home,
        (
          three_pass (nat_lt x p) (nat_lt x q) (nat_lt x b) first second home,
          (
            two_pass (nat_lt x p) (nat_lt x a) first away,
            (
              two_pass (nat_lt x q) (nat_lt x a) second away,
              (three_pass (nat_lt x p) (nat_lt x q) (nat_lt x a) first second away, tt),
            ),
          ),
        ),
      ),
    )

break_rows-pass : (n : ℕ) → All (λ row. is_pattern_row (x_count n) row ≡ true) (break_rows n true)
break_rows-pass n =
    All-flat_map (λ row. is_pattern_row (x_count n) row ≡ true)
    (λ i. flat_map (break_rows_at n i) (after_first (slots_of n))) (teams_of n)
    (λ k d within. All-flat_map (λ row. is_pattern_row (x_count n) row ≡ true)
    (break_rows_at n (get_or (teams_of n) k d))
    (after_first (slots_of n))
    (λ l e inside. at (get_or (teams_of n) k d) (get_or (after_first (slots_of n)) l e))) where
      at : (i s : ℕ) → All (λ row. is_pattern_row (x_count n) row ≡ true) (break_rows_at n i s)
      at i s =
          tied (x_count n) (h_var n i (s - 1)) (h_var n i s) (hb_var n i s) (ab_var n i s) (h-past n i (s - 1))
          (h-past n i s) (hb-past n i s) (ab-past n i s)

-- where the pattern rows are satisfied, the break rows are
break_rows-met : (league : Instance) (values : ℕ → Bool) → has_breaks league.constraints ≡ true
    → SatisfiesAll values (pattern_rows league) → SatisfiesAll values (break_rows league.n true)
break_rows-met league values breaks met =
    let all : All (λ row. is_pattern_row (x_count league.n) row ≡ true → Satisfies values row) (rows_of league) =
    unfiltered (is_pattern_row (x_count league.n)) (Satisfies values) (rows_of league) met in
    let front : All (λ row. is_pattern_row (x_count league.n) row ≡ true → Satisfies values row)
    (season_rows league.n league.phased ++ break_rows league.n (has_breaks league.constraints)) =
    All-front (λ row. is_pattern_row (x_count league.n) row ≡ true → Satisfies values row)
    (season_rows league.n league.phased ++ break_rows league.n (has_breaks league.constraints))
    (constraint_rows league.n league.constraints) all in
    let these : All (λ row. is_pattern_row (x_count league.n) row ≡ true → Satisfies values row)
    (break_rows league.n (has_breaks league.constraints)) =
    All-back (λ row. is_pattern_row (x_count league.n) row ≡ true → Satisfies values row)
    (season_rows league.n league.phased) (break_rows league.n (has_breaks league.constraints)) front in
    let there : All (λ row. is_pattern_row (x_count league.n) row ≡ true → Satisfies values row)
    (break_rows league.n true) =
    subst (λ (b : Bool). All (λ row. is_pattern_row (x_count league.n) row ≡ true → Satisfies values row)
    (break_rows league.n b)) breaks these in
    λ k d within. there k d within (break_rows-pass league.n k d within)

-- ---- breaks are what venues say

breaks_at : (n : ℕ) (values : ℕ → Bool) → SatisfiesAll values (break_rows n true) → (i s : ℕ) → i < n → 0 < s
    → s < slot_count n → breaks_agree n values i s ≡ true
breaks_at n values met i s team later slot =
    after_first_passes s (breaks_agree n values i s) later
    (each_cell n (λ j t. not (nat_lt 0 t) || breaks_agree n values j t)
    (sym (break_rows-law n values) ∙ all_satisfied-true values (break_rows n true) met) i s team slot)

home_break_is : (n : ℕ) (values : ℕ → Bool) → SatisfiesAll values (break_rows n true) → (i s : ℕ) → i < n → 0 < s
    → s < slot_count n → values (hb_var n i s) ≡ (values (h_var n i (s - 1)) && values (h_var n i s))
home_break_is n values met i s team later slot =
    agree-true _ _ (and_parts _ _ (breaks_at n values met i s team later slot)).0

away_break_is : (n : ℕ) (values : ℕ → Bool) → SatisfiesAll values (break_rows n true) → (i s : ℕ) → i < n → 0 < s
    → s < slot_count n → values (ab_var n i s) ≡ (not (values (h_var n i (s - 1))) && not (values (h_var n i s)))
away_break_is n values met i s team later slot =
    agree-true _ _ (and_parts _ _ (breaks_at n values met i s team later slot)).1

-- ---- letters

home_side : (b : Bool) → is_home (side_of b) ≡ b
home_side true = refl
home_side false = refl

away_side : (b : Bool) → is_away (side_of b) ≡ not b
away_side true = refl
away_side false = refl

one_side : (b : Bool) → IsTrue (is_one_side (side_of b))
one_side true = refl
one_side false = refl

letter-is : (n : ℕ) (values : ℕ → Bool) (i s : ℕ) → i < n → s < slot_count n
    → letter_at (patterns_by n values n) i s ≡ side_of (values (h_var n i s))
letter-is n values i s team slot =
    ap (λ (pattern : List Side). get_or pattern s Both)
    (get_or-map-range_with_len (letters_of n values (slot_count n)) 0 n i i [] team (omega arith))
    ∙ get_or-map-range_with_len (λ t. side_of (values (h_var n i t))) 0 (slot_count n) s s Both slot (omega arith)

is_home-letter : (n : ℕ) (values : ℕ → Bool) (i s : ℕ) → i < n → s < slot_count n
    → values (h_var n i s) ≡ is_home (letter_at (patterns_by n values n) i s)
is_home-letter n values i s team slot =
    sym (ap is_home (letter-is n values i s team slot) ∙ home_side (values (h_var n i s)))

is_away-letter : (n : ℕ) (values : ℕ → Bool) (i s : ℕ) → i < n → s < slot_count n
    → not (values (h_var n i s)) ≡ is_away (letter_at (patterns_by n values n) i s)
is_away-letter n values i s team slot =
    sym (ap is_away (letter-is n values i s team slot) ∙ away_side (values (h_var n i s)))

both_are : (a b c d e : Bool) → a ≡ (b && c) → b ≡ d → c ≡ e → a ≡ (d && e)
both_are a b c d e is first second =
    is ∙ ap (λ (x : Bool). x && c) first ∙ ap (λ (x : Bool). d && x) second

earlier : (s most : ℕ) → s < most → s - 1 < most
earlier s most within = omega (arith, within)

-- the values say what the patterns say that they show
shown : (n : ℕ) (breaks : Bool) (values : ℕ → Bool)
    → (breaks ≡ true → SatisfiesAll values (break_rows n true)) → SayPatterns n breaks (patterns_by n values n) values
shown n breaks values met = record {
  venues = is_home-letter n values;
  home_breaks = λ are i s team later slot.
      both_are (values (hb_var n i s)) (values (h_var n i (s - 1))) (values (h_var n i s)) _ _
      (home_break_is n values (met are) i s team later slot)
      (is_home-letter n values i (s - 1) team (earlier s (slot_count n) slot)) (is_home-letter n values i s team slot);
  away_breaks = λ are i s team later slot.
      both_are (values (ab_var n i s)) (not (values (h_var n i (s - 1)))) (not (values (h_var n i s))) _ _
      (away_break_is n values (met are) i s team later slot)
      (is_away-letter n values i (s - 1) team (earlier s (slot_count n) slot)) (is_away-letter n values i s team slot);
}

-- ---- a pattern set

few_slots : (n : ℕ) → n ≤ 40 → slot_count n ≤ 78
few_slots n most = omega (arith, most)

pattern_is : (n : ℕ) (values : ℕ → Bool) (slots i : ℕ) → slots ≤ 78 → IsPattern (letters_of n values slots i)
pattern_is n values slots i few = record {
  at_most = omega (arith, few, length-map-range_with_len (λ s. side_of (values (h_var n i s))) 0 slots);
  letters = All-map (λ side. IsTrue (is_one_side side)) (λ s. side_of (values (h_var n i s))) (range_with_len 0 slots)
      (λ k d within. one_side (values (h_var n i (get_or (range_with_len 0 slots) k d))));
}

patterns_are : (league : Instance) (values : ℕ → Bool) → league.n ≤ 40 → SatisfiesAll values (pattern_rows league)
    → IsPatternSet league (patterns_by league.n values league.n)
patterns_are league values most met = record {
  teams = length-map-range_with_len (letters_of league.n values (slot_count league.n)) 0 league.n;
  slots = All-map (λ pattern. length pattern ≡ slot_count league.n)
      (letters_of league.n values (slot_count league.n)) (range_with_len 0 league.n)
      (λ k d within. length-map-range_with_len
      (λ s. side_of (values (h_var league.n (get_or (range_with_len 0 league.n) k d) s))) 0 (slot_count league.n));
  letters = All-map IsPattern (letters_of league.n values (slot_count league.n)) (range_with_len 0 league.n)
      (λ k d within. pattern_is league.n values (slot_count league.n) (get_or (range_with_len 0 league.n) k d)
      (few_slots league.n most));
  values = values;
  say = shown league.n (has_breaks league.constraints) values (λ breaks. break_rows-met league values breaks met);
  met = met;
}

-- what the search found of the lowered rows
satisfied : (league : Instance) (low : List Row) (numbers : List ℕ) (found : List Bool) (patterns : List (List Side))
    → IsPicked (x_count league.n) (rows_of league) (length (rows_of league)) low numbers → IsInstance league
    → SatisfiesAll (assigned found) low → patterns ≡ patterns_by league.n (lowered (x_count league.n) found) league.n
    → IsPatternSet league patterns
satisfied league low numbers found patterns picked instance met are =
    subst (λ (ps : List (List Side)). IsPatternSet league ps) (sym are)
    (patterns_are league (lowered (x_count league.n) found) instance.teams.at_most
    (subst (λ (rows : List Row). SatisfiesAll (lowered (x_count league.n) found) rows)
    (picked_raised (x_count league.n) (rows_of league) low numbers picked)
    (SatisfiesAll-raised (x_count league.n) (lowered (x_count league.n) found) (assigned found)
    (lowered-raises (x_count league.n) (assigned found)) low met)))

-- what the search found of the lowered rows, with the number of games' variables that was read
pub satisfied_here : (league : Instance) (games : ℕ) (low : List Row) (numbers : List ℕ) (found : List Bool)
    (patterns : List (List Side)) → IsPicked games (rows_of league) (length (rows_of league)) low numbers
    → games ≡ x_count league.n → IsInstance league → SatisfiesAll (assigned found) low
    → patterns ≡ patterns_by league.n (lowered games found) league.n → IsPatternSet league patterns
satisfied_here league games low numbers found patterns picked same instance met are =
    satisfied league low numbers found patterns
    (subst (λ (g : ℕ). IsPicked g (rows_of league) (length (rows_of league)) low numbers) same picked) instance met
    (are ∙ ap (λ (g : ℕ). patterns_by league.n (lowered g found) league.n) same)
