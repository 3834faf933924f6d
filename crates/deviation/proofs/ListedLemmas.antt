-- The games of a set of meetings, home team by home team.
use Rattle.std.proofs.Common.{◌≡◌, ◌≢◌, ℕ, ◌+◌, ◌*◌, ◌<◌, suc, Bool, true, false, cond, ◌&&◌, ◌||◌, ◌==◌, List}
use Rattle.std.proofs.Common.{[], ◌∷◌, get_or, refl, arith, ap, sym, ◌∙◌, ◌⊎◌, inl, inr}
use Rattle.std.proofs.lemmas.Bool.Decides.{nat_tests}
use Rattle.std.proofs.lemmas.List.Elements.{All-head, All-tail}
use Rattle.std.proofs.lemmas.List.Folds.{list_any_none}
use Rattle.std.proofs.lemmas.List.Sums.{sum_by-cons}
use Rattle.std.specs.List.{All, sum_by}
use Rattle.std.specs.Ordering.{nat_cmp, ordering_then}
use Rattle.std.specs.declared.cmp.Ordering.{Ordering}
use Rattle.std.specs.declared.cmp.Ordering.TheVariants.{Equal, Greater, Less}
use Rattle.league.specs.Counts.{Counts, teams_of}
use Rattle.league.specs.Meetings.{games_of}
use Rattle.league.specs.Sets.{IsAscending, pair_cmp}
use Rattle.league.specs.declared.game.TeamId.{TeamId}
use Rattle.league.proofs.RangeLemmas.{one_if}
use Rattle.league.proofs.SetLemmas.{less_than}
use Rattle.league.proofs.SumLemmas.{sum_by-add, sum_by-same}
use Rattle.rule_core.specs.Meetings.{is_listed}
use Rattle.rule_core.specs.Places.{hosts}
use Rattle.rule_core.specs.declared.place.Place.{Place}
use Rattle.rule_core.specs.declared.place.Place.TheVariants.{Home}
use Rattle.rule_core.proofs.OneLemmas.{all_zero, only_one, zero-mul}
use Rattle.deviation.specs.BySlot.{listed, listed_games}

-- ---- a set has each meeting once

first_differs : (a b c d : ℕ) → a ≢ b → ((a == b) && (c == d)) ≡ false
first_differs a b c d differ = grind (arith, nat_tests)

second_differs : (a b c d : ℕ) → c ≢ d → ((a == b) && (c == d)) ≡ false
second_differs a b c d differ = grind (arith, nat_tests)

earlier : (o p : Ordering) → ordering_then o p ≡ Less → (o ≡ Less) ⊎ (p ≡ Less)
earlier Less p h = inl refl
earlier Equal p h = inr h
earlier Greater p h = absurd (cc)

differs : (p q : ℕ × ℕ) → pair_cmp p q ≡ Less → ((q.0 == p.0) && (q.1 == p.1)) ≡ false
differs p q before =
    elim (earlier (nat_cmp p.0 q.0) (nat_cmp p.1 q.1) before) [
      | inl home ↦ let lt = less_than p.0 q.0 home in
          let differ : q.0 ≢ p.0 = omega arith in first_differs q.0 p.0 q.1 p.1 differ
      | inr away ↦ let lt = less_than p.1 q.1 away in
          let differ : q.1 ≢ p.1 = omega arith in second_differs q.0 p.0 q.1 p.1 differ
    ]

head_once : (p : ℕ × ℕ) (ps : List (ℕ × ℕ)) → IsAscending pair_cmp (p ∷ ps) → is_listed ps p.0 p.1 ≡ false
head_once p ps ascending =
    list_any_none (λ q. (q.0 == p.0) && (q.1 == p.1)) ps
    (λ k d lt. differs p (get_or ps k d) (ascending 0 (suc k) d (omega arith) (omega arith)))

rest_ascends : (p : ℕ × ℕ) (ps : List (ℕ × ℕ)) → IsAscending pair_cmp (p ∷ ps) → IsAscending pair_cmp ps
rest_ascends p ps ascending = λ i j d before within. ascending (suc i) (suc j) d (omega arith) (omega arith)

same_first : (a b c d : ℕ) → ((a == b) && (c == d)) ≡ true → a ≡ b
same_first a b c d both = grind (arith, nat_tests)

same_second : (a b c d : ℕ) → ((a == b) && (c == d)) ≡ true → c ≡ d
same_second a b c d both = grind (arith, nat_tests)

part : (t r : Bool) (x : ℕ) → (t ≡ true → r ≡ false) → one_if (t || r) * x ≡ one_if t * x + one_if r * x
part true true x apart = absurd (let no : true ≡ false = apart refl in cc)
part true false x apart = omega arith
part false r x apart = omega arith

-- the first meeting, and the others
listed-cons : (p : ℕ × ℕ) (ps : List (ℕ × ℕ)) (i j x : ℕ) → IsAscending pair_cmp (p ∷ ps)
    → listed (p ∷ ps) i j * x ≡ one_if ((p.0 == i) && (p.1 == j)) * x + listed ps i j * x
listed-cons p ps i j x ascending =
    part ((p.0 == i) && (p.1 == j)) (is_listed ps i j) x
    (λ both. ap (λ (k : ℕ). is_listed ps k j) (sym (same_first p.0 i p.1 j both))
    ∙ ap (λ (k : ℕ). is_listed ps p.0 k) (sym (same_second p.0 i p.1 j both)) ∙ head_once p ps ascending)

-- ---- the games of one meeting, and of all

itself : (a : ℕ) → (a == a) ≡ true
itself a = grind (arith, nat_tests)

none_there : (b : Bool) (x : ℕ) → b ≡ false → one_if b * x ≡ 0
none_there b x fails = ap (λ (c : Bool). one_if c * x) fails ∙ zero-mul x

one_there : (b : Bool) (x : ℕ) → b ≡ true → one_if b * x ≡ x
one_there b x passes = ap (λ (c : Bool). one_if c * x) passes ∙ omega arith

one_pair : (n : ℕ) (g : ℕ → ℕ → ℕ) (a b : ℕ) → a < n → b < n
    → sum_by (λ i. sum_by (λ j. one_if ((a == i) && (b == j)) * g i j) (teams_of n)) (teams_of n) ≡ g a b
one_pair n g a b home away =
    let row : ℕ → ℕ = λ i. sum_by (λ j. one_if ((a == i) && (b == j)) * g i j) (teams_of n) in
    let cell : ℕ → ℕ = λ j. one_if ((a == a) && (b == j)) * g a j in
    only_one row a n
    (λ i differ. all_zero (λ j. one_if ((a == i) && (b == j)) * g i j)
    (λ j. none_there ((a == i) && (b == j)) (g i j) (first_differs a i b j (λ same. differ (sym same))))
    (teams_of n)) home
    ∙ only_one cell b n
    (λ j differ. none_there ((a == a) && (b == j)) (g a j)
    (second_differs a a b j (λ same. differ (sym same)))) away
    ∙ one_there ((a == a) && (b == b)) (g a b) (ap (λ (c : Bool). c && (b == b)) (itself a) ∙ itself b)

in_slot : (m : Counts) (s : ℕ) (p : ℕ × ℕ) → sum_by (λ t. m p.0 p.1 t) (s ∷ []) ≡ m p.0 p.1 s
in_slot m s p = omega (arith, sum_by-cons (λ t. m p.0 p.1 t) s [])

pub games_by_home : (n : ℕ) (m : Counts) (meetings : List (ℕ × ℕ)) (s : ℕ) → IsAscending pair_cmp meetings
    → All (λ p. (p.0 < n) × (p.1 < n)) meetings → games_of m meetings (s ∷ [])
    ≡ sum_by (listed_games n m meetings s) (teams_of n)
games_by_home n m [] s ascending inside =
    sym (all_zero (listed_games n m [] s)
    (λ i. all_zero (λ j. listed [] i j * m i j s) (λ j. zero-mul (m i j s)) (teams_of n)) (teams_of n))
games_by_home n m (p ∷ ps) s ascending inside =
    let below = All-head (λ q. (q.0 < n) × (q.1 < n)) p ps inside in
    let first : ℕ → ℕ = λ i. sum_by (λ j. one_if ((p.0 == i) && (p.1 == j)) * m i j s) (teams_of n) in
    let one : sum_by first (teams_of n) ≡ m p.0 p.1 s = one_pair n (λ i j. m i j s) p.0 p.1 below.0 below.1 in
    let row : (i : ℕ) → listed_games n m (p ∷ ps) s i ≡ first i + listed_games n m ps s i = λ i.
    sum_by-same (λ j. listed (p ∷ ps) i j * m i j s)
    (λ j. one_if ((p.0 == i) && (p.1 == j)) * m i j s + listed ps i j * m i j s)
    (λ j. listed-cons p ps i j (m i j s) ascending) (teams_of n)
    ∙ sum_by-add (λ j. one_if ((p.0 == i) && (p.1 == j)) * m i j s) (λ j. listed ps i j * m i j s) (teams_of n) in
    let all : sum_by (listed_games n m (p ∷ ps) s) (teams_of n)
    ≡ sum_by first (teams_of n) + sum_by (listed_games n m ps s) (teams_of n) =
    sum_by-same (listed_games n m (p ∷ ps) s) (λ i. first i + listed_games n m ps s i) row (teams_of n)
    ∙ sum_by-add first (listed_games n m ps s) (teams_of n) in
    omega (
      arith,
      sum_by-cons (λ q. sum_by (λ t. m q.0 q.1 t) (s ∷ [])) p ps,
      in_slot m s p,
      games_by_home n m ps s (rest_ascends p ps ascending) (All-tail (λ q. (q.0 < n) × (q.1 < n)) p ps inside),
      all,
      one,
    )

-- ---- the games of one home team

other_guest : (o j : ℕ) → j ≢ o → cond {A = ℕ} (o == j) 1 0 ≡ 0
other_guest o j differ = grind (arith, nat_tests)

once_itself : (o : ℕ) → cond {A = ℕ} (o == o) 1 0 ≡ 1
once_itself o = grind (arith, nat_tests)

-- a home team that meets one other team alone in the slot
pub listed_one_guest : (n : ℕ) (m : Counts) (meetings : List (ℕ × ℕ)) (s i o games : ℕ) → o < n
    → ((j : ℕ) → m i j s ≡ cond {A = ℕ} (o == j) 1 0) → games ≡ listed meetings i o
    → games ≡ listed_games n m meetings s i
listed_one_guest n m meetings s i o games below each is =
    let f : ℕ → ℕ = λ j. listed meetings i j * m i j s in
    let none : (j : ℕ) → j ≢ o → f j ≡ 0 = λ j differ. let zeros : m i j s ≡ 0 =
    each j ∙ other_guest o j differ in ap (λ (x : ℕ). listed meetings i j * x) zeros ∙ omega arith in
    let once : m i o s ≡ 1 = each o ∙ once_itself o in
    let here : f o ≡ listed meetings i o = ap (λ (x : ℕ). listed meetings i o * x) once ∙ omega arith in
    is ∙ sym here ∙ sym (only_one f o n none below)

-- a home team that is at home to none in the slot
pub listed_no_guest : (n : ℕ) (m : Counts) (meetings : List (ℕ × ℕ)) (s i : ℕ) → ((j : ℕ) → m i j s ≡ 0)
    → 0 ≡ listed_games n m meetings s i
listed_no_guest n m meetings s i none =
    sym (all_zero (λ j. listed meetings i j * m i j s)
    (λ j. ap (λ (x : ℕ). listed meetings i j * x) (none j) ∙ omega arith) (teams_of n))

-- the guest of a place is of the league
pub guest_below : (n : ℕ) (place : Place) (guest : TeamId) → place ≡ Home guest
    → ((j : ℕ) → hosts place j ≡ true → j < n) → guest.0 < n
guest_below n place guest is teams = teams guest.0 (ap (λ (p : Place). hosts p guest.0) is ∙ itself guest.0)
