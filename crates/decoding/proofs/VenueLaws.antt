-- Group 4 says that h(i,s) is true exactly where team i has a home game in slot s.
use Rattle.std.proofs.Common.{◌≡◌, ◌≢◌, ℕ, zero, suc, ◌+◌, ◌-◌, ◌<◌, Bool, true, false, not, ◌&&◌, ◌==◌}
use Rattle.std.proofs.Common.{nat_lt, List, [], ◌∷◌, ◌++◌, length, map, cond, if◌then◌else◌}
use Rattle.std.proofs.Common.{refl, arith, ap, ◌∙◌}
use Rattle.std.specs.Prelude.{nat_le}
use Rattle.std.proofs.lemmas.Bool.{and_from, lt-ltb, ltb-true}
use Rattle.std.proofs.lemmas.Bool.Decides.{nat_tests}
use Rattle.std.proofs.lemmas.List.{length-map}
use Rattle.std.proofs.lemmas.List.Concat.{flat_map_single}
use Rattle.std.proofs.lemmas.List.Sums.{length-filter, sum_by-append, sum_by-cons}
use Rattle.std.specs.List.{flat_map, list_all, range_with_len, sum_by}
use Rattle.league.specs.Capacity.{meetings_with}
use Rattle.league.specs.Counts.{Counts, slot_count, slots_of, teams_of}
use Rattle.league.specs.Meetings.{others}
use Rattle.league.specs.Venues.{home_games}
use Rattle.league.specs.declared.class.Side.TheVariants.{H}
use Rattle.league.proofs.RangeLemmas.{one_if}
use Rattle.league.proofs.SumLemmas.{sum_by-add, sum_by-same}
use Rattle.rows.specs.Cardinality.{unit}
use Rattle.rows.specs.Literals.{Literal, negate, no, yes}
use Rattle.rows.specs.Rows.{Row, is_true, weight}
use Rattle.rows.specs.Tests.{all_satisfied, satisfied, true_count}
use Rattle.rows.specs.declared.lit.Term.{Term}
use Rattle.rows.proofs.ListLemmas.{list_all-agree, list_all-at, list_all-flat_map, list_all-range}
use Rattle.rows.proofs.TestLemmas.{satisfied-at_least, true_count-append, true_count-negate, weight-units}
use Rattle.encoding.specs.Season.{game_needs_home, home_games_in, home_needs_game}
use Rattle.encoding.specs.Season.{venue_rows}
use Rattle.encoding.specs.Variables.{h_var, x_var}
use Rattle.decoding.specs.Mirrors.{MirrorsGames}
use Rattle.decoding.proofs.DecodedCounts.{pick}
use Rattle.decoding.proofs.MeetingLists.{games_listed, meetings_with-fit, teams_of-fit}
use Rattle.decoding.proofs.SeasonLaws.{PlaysOthers, home_listed, slots_of-fit}

-- whether two tests say the same
abbrev pub agree : Bool → Bool → Bool
agree true b = b
agree false b = not b

pub agree-true : (a b : Bool) → agree a b ≡ true → a ≡ b
agree-true true true same = refl
agree-true true false same = absurd (cc)
agree-true false true same = absurd (cc)
agree-true false false same = refl

pub true-agree : (a b : Bool) → a ≡ b → agree a b ≡ true
true-agree true true same = refl
true-agree true false same = absurd (cc)
true-agree false true same = absurd (cc)
true-agree false false same = refl

-- as many ones as numbers
pub sum_by-ones : (a k : ℕ) → sum_by (λ j. 1) (range_with_len a k) ≡ k
sum_by-ones a zero = refl
sum_by-ones a (suc k) = omega (arith, sum_by-cons (λ (j : ℕ). 1) a (range_with_len (a + 1) k), sum_by-ones (a + 1) k)

is_or_isnt : (b : Bool) → one_if (not b) + one_if b ≡ 1
is_or_isnt true = refl
is_or_isnt false = refl

counted_itself : (i n : ℕ) → i < n → (if nat_lt i n then one_if (i == i) else 0) ≡ 1
counted_itself i n team = grind (arith, nat_tests)

no_other : (i j : ℕ) → j ≢ i → one_if (j == i) ≡ 0
no_other i j differ = grind (arith, nat_tests)

-- a team has one opponent fewer than there are teams
pub sum_by-others_of : (n i : ℕ) → i < n → sum_by (λ j. one_if (not (j == i))) (teams_of n) + 1 ≡ n
sum_by-others_of n i team =
    let other : ℕ → ℕ = λ j. one_if (not (j == i)) in
    let itself : ℕ → ℕ = λ j. one_if (j == i) in
    omega (
      arith,
      sum_by-add other itself (teams_of n),
      sum_by-same (λ j. other j + itself j) (λ j. 1) (λ j. is_or_isnt (j == i)) (teams_of n),
      sum_by-ones 0 n,
      pick itself i n (λ j differ. no_other i j differ),
      counted_itself i n team,
    )

-- a team has so many games at home that can be in a slot
length-home_games_in : (n i s : ℕ) → i < n → length (home_games_in n i s) + 1 ≡ n
length-home_games_in n i s team =
    let literal : ℕ × ℕ → Literal = λ p. yes (x_var n p.0 p.1 s) in
    let meeting : ℕ → ℕ × ℕ = λ j. (i, j) in
    omega (
      arith,
      ap (λ (xs : List Literal). length xs) (flat_map_single literal (meetings_with H i (teams_of n))),
      length-map (meetings_with H i (teams_of n)) literal,
      length-map (others i (teams_of n)) meeting,
      length-filter (λ j. not (j == i)) (teams_of n),
      sum_by-others_of n i team,
    )

-- one of a team's home games in a slot is true where it has one
true_count-home_games_in : (n : ℕ) (m : Counts) (values : ℕ → Bool) (i s : ℕ) → MirrorsGames n m values →
    PlaysOthers n m → i < n → s < slot_count n → true_count values (home_games_in n i s) ≡ home_games n m i s
true_count-home_games_in n m values i s mirrors others team slot =
    games_listed n m values (meetings_with H i (teams_of n)) (s ∷ []) mirrors
    (meetings_with-fit n i team (teams_of n) (teams_of-fit n) H)
    (and_from (nat_lt s (slot_count n)) true (lt-ltb s (slot_count n) slot) refl)
    ∙ home_listed n m i s (others i s team slot)

-- the two rows that tie h to the home games, in numbers
tied : (h : Bool) (home length n negated : ℕ) → negated + home ≡ length → length + 1 ≡ n →
    (nat_le 1 (home + (0 + (if not h then 1 else 0)))
    && (nat_le (n - 1) (negated + (0 + (if h then n - 1 else 0))) && true)) ≡ agree h (nat_lt 0 home)
tied true home length n negated all fewer = grind (arith, nat_tests)
tied false home length n negated all fewer = grind (arith, nat_tests)

-- group 4, of one team and slot
venue_law : (n : ℕ) (m : Counts) (values : ℕ → Bool) (i s : ℕ) → MirrorsGames n m values → PlaysOthers n m → i < n →
    s < slot_count n →
    all_satisfied values (home_needs_game n i s ∷ game_needs_home n i s ∷ []) ≡ agree (values (h_var n i s))
    (nat_lt 0 (home_games n m i s))
venue_law n m values i s mirrors others team slot =
    let games : List Literal = home_games_in n i s in
    let h : ℕ = h_var n i s in
    let home : ℕ = home_games n m i s in
    let negated : ℕ = true_count values (map negate games) in
    let weight_of : Term → ℕ = λ t. cond (is_true values t.lit) t.coef 0 in
    let home_is : true_count values games ≡ home = true_count-home_games_in n m values i s mirrors others team slot in
    let first : true_count values (games ++ no h ∷ []) ≡ home + (0 + (if not (values h) then 1 else 0)) =
    true_count-append values games (no h ∷ []) ∙ ap (λ (c : ℕ). c + (0 + (if not (values h) then 1 else 0)))
    home_is in
    let second : weight values (game_needs_home n i s).terms ≡ negated + (0 + (if values h then n - 1 else 0)) =
    sum_by-append weight_of (map unit (map negate games)) (record { coef = n - 1; lit = yes h } ∷ [])
    ∙ ap (λ (c : ℕ). c + (0 + (if values h then n - 1 else 0))) (weight-units values (map negate games)) in
    ap (λ (b : Bool). b && (satisfied values (game_needs_home n i s) && true))
    (satisfied-at_least values 1 (games ++ no h ∷ []) ∙ ap (λ (c : ℕ). nat_le 1 c) first)
    ∙ ap (λ (c : ℕ). nat_le 1 (home + (0 + (if not (values h) then 1 else 0))) && (nat_le (n - 1) c && true)) second
    ∙ tied (values h) home (length games) n negated (omega (arith, true_count-negate values games, home_is))
    (length-home_games_in n i s team)

-- group 4
pub venue_rows-law : (n : ℕ) (m : Counts) (values : ℕ → Bool) → MirrorsGames n m values → PlaysOthers n m →
    all_satisfied values (venue_rows n) ≡ list_all
    (λ i. list_all (λ s. agree (values (h_var n i s)) (nat_lt 0 (home_games n m i s))) (slots_of n)) (teams_of n)
venue_rows-law n m values mirrors others =
    let tie : ℕ → ℕ → List Row = λ i s. home_needs_game n i s ∷ game_needs_home n i s ∷ [] in
    let agrees : ℕ → ℕ → Bool = λ i s. agree (values (h_var n i s)) (nat_lt 0 (home_games n m i s)) in
    list_all-flat_map (satisfied values) (λ i. flat_map (tie i) (slots_of n)) (teams_of n)
    ∙ list_all-agree (λ i. nat_lt i n) (λ i. all_satisfied values (flat_map (tie i) (slots_of n)))
    (λ i. list_all (agrees i) (slots_of n))
    (λ i team.
    list_all-flat_map (satisfied values) (tie i) (slots_of n)
    ∙ list_all-agree (λ s. nat_lt s (slot_count n)) (λ s. all_satisfied values (tie i s)) (agrees i)
    (λ s slot. venue_law n m values i s mirrors others (ltb-true i n team) (ltb-true s (slot_count n) slot))
    (slots_of n) (slots_of-fit n)) (teams_of n) (teams_of-fit n)

-- a test of each team and slot
pub each_cell : (n : ℕ) (p : ℕ → ℕ → Bool) → list_all (λ i. list_all (p i) (slots_of n)) (teams_of n) ≡ true →
    (i s : ℕ) → i < n → s < slot_count n → p i s ≡ true
each_cell n p pass i s team slot =
    list_all-at (p i) 0 (slot_count n) s (list_all-at (λ i. list_all (p i) (slots_of n)) 0 n i pass (omega arith)
    (omega arith)) (omega arith) (omega arith)

pub all_cells : (n : ℕ) (p : ℕ → ℕ → Bool) → ((i s : ℕ) → i < n → s < slot_count n → p i s ≡ true) →
    list_all (λ i. list_all (p i) (slots_of n)) (teams_of n) ≡ true
all_cells n p pass =
    list_all-range (λ i. list_all (p i) (slots_of n)) 0 n
    (λ i from team. list_all-range (p i) 0 (slot_count n) (λ s from' slot. pass i s (omega arith) (omega arith)))
