-- How many terms the rows of a class have, key by key.
use Rattle.std.proofs.Common.{◌≡◌, ℕ, ◌+◌, ◌-◌, ◌*◌, ◌<◌, ◌≤◌, List, [], ◌∷◌, ◌++◌, length, map, take, ap, sym, ◌∙◌, arith, get_or, suc, zero}
use Rattle.std.proofs.lemmas.Bool.Decides.{nat_tests}
use Rattle.std.proofs.lemmas.Grind.{flat_map-append}
use Rattle.std.proofs.lemmas.List.{append-nil, length-append, take_more}
use Rattle.std.proofs.lemmas.List.Elements.{All-append, All-map, All-nil}
use Rattle.std.proofs.lemmas.List.FromFn.{length-range_with_len}
use Rattle.std.proofs.lemmas.List.Sums.{sum_by-append}
use Rattle.std.proofs.lemmas.Nat.{mul-le}
use Rattle.std.specs.List.{All, flat_map, sum_by}
use Rattle.std.specs.Ordering.{nat_cmp}
use Rattle.league.specs.Capacity.{meetings_with}
use Rattle.league.specs.Meetings.{others, pairs_of}
use Rattle.league.specs.Sets.{IsAscending}
use Rattle.league.specs.declared.class.Class.{Class}
use Rattle.league.specs.declared.class.Class.TheVariants.{Ca1, Ca2, Ca3, Ca4, Ga1, Br1, Br2, Fa2, Se1}
use Rattle.league.specs.declared.class.Side.{Side}
use Rattle.league.specs.declared.class.Side.TheVariants.{Both}
use Rattle.league.proofs.SetLemmas.{less_than}
use Rattle.league.proofs.SumLemmas.{sum_by-flat_map, sum_by-map, sum_by-same}
use Rattle.rows.specs.Rows.{Row, size_of}
use Rattle.encoding.specs.Encoding.{class_rows}
use Rattle.encoding.specs.Keys.{Bounded, key_of, most_literals, rows_of_key, rows_of_subject}
use Rattle.encoding.specs.Lists.{at_home_in, away_in, games_in, meetings_in_order, slots_up_to}
use Rattle.encoding.specs.declared.subjects.Subject.{Subject}
use Rattle.encoding.specs.declared.subjects.Subject.TheVariants.{Pair}
use Rattle.encoding.proofs.KeyLaws.{class_rows-keys}
use Rattle.encoding.specs.Terms.{between_terms, fa2_terms, side_count}
use Rattle.encoding.proofs.SizeLemmas.{length-at_home, length-away, length-games_in, length-meetings, size_of-between, sum_by-constant}

-- ---- sums that grow

-- rows to which those of the next element come
pub sized : {X : Type 0} (f : X → List Row) (xs : List X) (k : ℕ) (x : X) (total more : ℕ) → k < length xs
    → total ≡ size_of (flat_map f (take k xs)) → x ≡ get_or xs k x → more ≡ size_of (f x)
    → total + more ≡ size_of (flat_map f (take (k + 1) xs))
sized f xs k x total more there so_far is more_is =
    let before : List Row = flat_map f (take k xs) in
    let joined : flat_map f (take (k + 1) xs) ≡ before ++ f x =
    ap (flat_map f) (take_more xs k x there)
    ∙ flat_map-append f (take k xs) (get_or xs k x ∷ [])
    ∙ ap (λ (rows : List Row). before ++ rows) (append-nil (f (get_or xs k x)))
    ∙ ap (λ y. before ++ f y) (sym is) in
    omega (arith, so_far, more_is, ap size_of joined, sum_by-append (λ (r : Row). length r.terms) before (f x))

-- so many of at most as much each
pub most_more : (each total more k m : ℕ) → total ≤ each * (k * m) → more ≤ each * m
    → total + more ≤ each * ((k + 1) * m)
most_more each total more k m so_far next =
    let spread : each * ((k + 1) * m) ≡ each * (k * m) + each * m = grind arith in
    omega (arith, so_far, next, spread)

-- of no more than so many
pub most_in_all : (each total k count m most : ℕ) → total ≤ each * (k * m) → k ≤ count → count * m ≤ most
    → total ≤ each * most
most_in_all each total k count m most so_far within few =
    let all : k * m ≤ most = omega (arith, mul-le k m count m within (omega arith), few) in
    omega (arith, so_far, mul-le each (k * m) each most (omega arith) all)

-- a key has no more literals than all games of a league
pub literals_few : (class : Class) → most_literals class ≤ 124800
literals_few (Ca1 teams min max side slots) = omega arith
literals_few (Ca2 teams1 teams2 min max side slots) = omega arith
literals_few (Ca3 teams1 teams2 min max intp side) = omega arith
literals_few (Ca4 teams1 teams2 min max side span slots) = omega arith
literals_few (Ga1 meetings min max slots) = omega arith
literals_few (Br1 teams intp side slots) = omega arith
literals_few (Br2 teams intp slots) = omega arith
literals_few (Fa2 teams intp slots) = omega arith
literals_few (Se1 teams min) = omega arith

-- ---- a key

-- its rows, by the number of its literals
pub size_of-counted : (count : ℕ) (key : Bounded) → count ≡ length key.literals
    → between_terms key.low key.high count ≡ size_of (rows_of_key key)
size_of-counted count key is =
    ap (between_terms key.low key.high) is ∙ sym (size_of-between key.low key.high key.literals)

-- the games of a team with others, by sides, others and slots
pub length-against : (n i sides besides each : ℕ) (side : Side) (opponents slots : List ℕ)
    → sides ≡ side_count side → besides ≡ length (others i opponents) → each ≡ length slots
    → sides * besides * each ≡ length (games_in n (meetings_in_order side i opponents) slots)
length-against n i sides besides each side opponents slots same_sides same_others same_slots =
    ap (λ (k : ℕ). k * besides * each) same_sides
    ∙ ap (λ (k : ℕ). side_count side * k * each) same_others
    ∙ ap (λ (k : ℕ). side_count side * length (others i opponents) * k) same_slots
    ∙ sym (ap (λ (k : ℕ). k * length slots) (length-meetings side i opponents))
    ∙ sym (length-games_in n (meetings_in_order side i opponents) slots)

-- two teams have one literal each for each slot
pub length-lead : (n i j : ℕ) (slots : List ℕ) → 2 * length slots ≡ length (away_in n i slots ++ at_home_in n j slots)
length-lead n i j slots =
    omega (arith, length-append (away_in n i slots) (at_home_in n j slots), length-away n i slots, length-at_home n j slots)

-- ---- an FA2

fa2-slot : (n : ℕ) (teams : List ℕ) (intp : ℕ) (slots : List ℕ) (i j s : ℕ)
    → size_of (rows_of_key (key_of n (Fa2 teams intp slots) (Pair i j) s)) ≡ fa2_terms intp s
fa2-slot n teams intp slots i j s =
    let many : 2 * (s + 1) ≡ length (away_in n i (slots_up_to s) ++ at_home_in n j (slots_up_to s)) =
    ap (λ (k : ℕ). 2 * k) (sym (length-range_with_len 0 (s + 1))) ∙ length-lead n i j (slots_up_to s) in
    sym (size_of-counted (2 * (s + 1)) (key_of n (Fa2 teams intp slots) (Pair i j) s) many) ∙ both intp s where
      both : (intp s : ℕ) → between_terms (s + 1 - intp) (s + 1 + intp) (2 * (s + 1)) ≡ fa2_terms intp s
      both intp s = grind (arith, nat_tests)

pub fa2-pair : (n : ℕ) (teams : List ℕ) (intp : ℕ) (slots : List ℕ) (p : ℕ × ℕ)
    → size_of (rows_of_subject n (Fa2 teams intp slots) (Pair p.0 p.1)) ≡ sum_by (fa2_terms intp) slots
fa2-pair n teams intp slots p =
    let rows : ℕ → List Row = λ s. rows_of_key (key_of n (Fa2 teams intp slots) (Pair p.0 p.1) s) in
    sum_by-flat_map (λ (r : Row). length r.terms) rows slots
    ∙ sum_by-same (λ s. size_of (rows s)) (fa2_terms intp) (fa2-slot n teams intp slots p.0 p.1) slots

pub size_of-fa2 : (n : ℕ) (teams : List ℕ) (intp : ℕ) (slots : List ℕ)
    → size_of (class_rows n (Fa2 teams intp slots)) ≡ length (pairs_of teams) * sum_by (fa2_terms intp) slots
size_of-fa2 n teams intp slots =
    let rows : Subject → List Row = rows_of_subject n (Fa2 teams intp slots) in
    ap size_of (class_rows-keys n (Fa2 teams intp slots))
    ∙ sum_by-flat_map (λ (r : Row). length r.terms) rows (map (λ p. Pair p.0 p.1) (pairs_of teams))
    ∙ sum_by-map (λ s. size_of (rows s)) (λ p. Pair p.0 p.1) (pairs_of teams)
    ∙ sum_by-same (λ p. size_of (rows (Pair p.0 p.1))) (λ p. sum_by (fa2_terms intp) slots)
    (fa2-pair n teams intp slots) (pairs_of teams)
    ∙ sum_by-constant (sum_by (fa2_terms intp) slots) (pairs_of teams)

-- ---- pairs of teams

-- the earlier team of each pair is the smaller one
pub pairs_of-ascend : (teams : List ℕ) → IsAscending nat_cmp teams → All (λ p. p.0 < p.1) (pairs_of teams)
pairs_of-ascend [] ascending = All-nil (λ p. p.0 < p.1)
pairs_of-ascend (t ∷ teams) ascending =
    All-append (λ p. p.0 < p.1) (map (λ (j : ℕ). (t, j)) teams) (pairs_of teams)
    (All-map (λ p. p.0 < p.1) (λ (j : ℕ). (t, j)) teams (λ k d lt. less_than t (get_or teams k d) (ascending zero (suc k) d (omega arith) (omega arith))))
    (pairs_of-ascend teams (λ i j d h k. ascending (suc i) (suc j) d (omega arith) (omega arith)))

-- two teams have two meetings
pub two_meetings : (i j : ℕ) → i < j → length (meetings_with Both i (j ∷ [])) ≡ 2
two_meetings i j order = grind (arith, nat_tests)
