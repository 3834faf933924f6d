-- Each team but two has one break in each half of the double circle schedule.
use Rattle.std.proofs.Common.{◌≡◌, ◌≢◌, ℕ, ◌+◌, ◌-◌, ◌*◌, ◌%◌, ◌<◌, ◌≤◌, ◌&&◌, ◌==◌, nat_lt, zero, suc, inl, inr, Bool, true, false, not, List, refl, arith, ap, ◌∙◌, subst, sym}
use Rattle.std.proofs.lemmas.Bool.{cases_eq, cases_lt, le-ltb, lt-ltb, ne_eqb}
use Rattle.std.proofs.lemmas.Bool.Decides.{nat_tests}
use Rattle.std.proofs.lemmas.List.Sums.{sum_by-cons}
use Rattle.std.specs.List.{range_with_len, sum_by}
use Rattle.league.specs.Breaks.{breaks_among, breaks_at}
use Rattle.league.specs.Counts.{Counts, counts_of, teams_of}
use Rattle.league.specs.Instance.{IsTeamCount}
use Rattle.league.specs.Structure.{first_half}
use Rattle.league.specs.Venues.{away_games, home_games}
use Rattle.league.specs.declared.class.Side.TheVariants.{Both}
use Rattle.league.specs.declared.game.Game.{Game}
use Rattle.league.proofs.RangeLemmas.{one_if, sum_by-range_more}
use Rattle.circle_method.specs.Breaks.{HasFewBreaks}
use Rattle.circle_method.specs.Circle.{double_games}
use Rattle.circle_method.proofs.CircleLemmas.{is_at_home, is_at_home-last, is_at_home-centre, is_at_home-before, is_at_home-after, odd-other}
use Rattle.league.proofs.OneTermLemmas.{sum_by-range_none, sum_by-range_one, sum_by-range_same, sum_by-range_equal, sum_by-range_late}
use Rattle.circle_method.proofs.VenueLemmas.{home_games-first, away_games-first, home_games-second, away_games-second}

-- whether a team is at the same venue twice
abbrev pub is_same : Bool → Bool → Bool
is_same true b = b
is_same false b = not b

is_same-other : (a b : Bool) → a ≡ not b → is_same a b ≡ false
is_same-other a true e = ap (λ (x : Bool). is_same x true) e
is_same-other a false e = ap (λ (x : Bool). is_same x false) e

is_same-false : (a : Bool) → is_same a false ≡ not a
is_same-false true = refl
is_same-false false = refl

-- the slot of a team's break: its own one for an odd team, and the next for an even one
abbrev break_slot : ℕ → ℕ
break_slot i = i + (1 - i % 2)

own_slot : (i s r : ℕ) → r < 2 → s ≡ i → (r == 1) ≡ (s == i + (1 - r))
own_slot i s r below own = grind (arith, nat_tests)

break-own : (i s : ℕ) → s ≡ i → (i % 2 == 1) ≡ (s == break_slot i)
break-own i s own =
    let below : i % 2 < 2 = omega arith in
    own_slot i s (i % 2) below own

next_slot : (i s r : ℕ) → r < 2 → s ≡ i + 1 → not (r == 1) ≡ (s == i + (1 - r))
next_slot i s r below next = grind (arith, nat_tests)

break-next : (i s : ℕ) → s ≡ i + 1 → not (i % 2 == 1) ≡ (s == break_slot i)
break-next i s next =
    let below : i % 2 < 2 = omega arith in
    next_slot i s (i % 2) below next

even_no : (x : ℕ) → x % 2 ≡ 0 → (x % 2 == 1) ≡ false
even_no x even = ap (λ (r : ℕ). r == 1) even

odd_yes : (x : ℕ) → x % 2 ≡ 1 → (x % 2 == 1) ≡ true
odd_yes x odd = ap (λ (r : ℕ). r == 1) odd

-- whether a team of the circle is at the same venue in slot s and the slot t before
abbrev repeats : ℕ → ℕ → ℕ → ℕ → Bool
repeats m i t s = is_same (is_at_home m i t) (is_at_home m i s)

no_break : (i s : ℕ) → s ≢ break_slot i → (s == break_slot i) ≡ false
no_break i s other = ne_eqb s (break_slot i) other

repeats-before : (m i t s : ℕ) → i < m → t + 1 ≡ s → s < i → repeats m i t s ≡ (s == break_slot i)
repeats-before m i t s team next before =
    let here : is_at_home m i t ≡ ((i - t) % 2 == 1) = is_at_home-before m i t team (omega arith) in
    let there : is_at_home m i s ≡ ((i - s) % 2 == 1) = is_at_home-before m i s team before in
    let turn : ((i - t) % 2 == 1) ≡ not ((i - s) % 2 == 1) = odd-other (i - t) (i - s) (omega arith) in
    is_same-other (is_at_home m i t) (is_at_home m i s) (here ∙ turn ∙ ap not (sym there)) ∙ sym (no_break i s (λ e. omega arith))

repeats-own : (m i t s : ℕ) → i < m → t + 1 ≡ s → s ≡ i → repeats m i t s ≡ (s == break_slot i)
repeats-own m i t s team next own =
    let here : is_at_home m i t ≡ true = is_at_home-before m i t team (omega arith) ∙ odd_yes (i - t) (let one : i - t ≡ 1 = omega arith in ap (λ (x : ℕ). x % 2) one) in
    let there : is_at_home m i s ≡ (i % 2 == 1) = ap (is_at_home m i) own ∙ is_at_home-centre m i team in
    ap (λ (b : Bool). is_same b (is_at_home m i s)) here ∙ there ∙ break-own i s own

repeats-next : (m i t s : ℕ) → m % 2 ≡ 1 → i < m → s < m → t + 1 ≡ s → t ≡ i → repeats m i t s ≡ (s == break_slot i)
repeats-next m i t s odd team slot next own =
    let here : is_at_home m i t ≡ (i % 2 == 1) = ap (is_at_home m i) own ∙ is_at_home-centre m i team in
    let there : is_at_home m i s ≡ false = is_at_home-after m i s team (omega arith) ∙ even_no (i + m - s) (omega arith) in
    ap (is_same (is_at_home m i t)) there ∙ is_same-false (is_at_home m i t) ∙ ap not here ∙ break-next i s (omega arith)

repeats-after : (m i t s : ℕ) → i < m → s < m → t + 1 ≡ s → i < t → repeats m i t s ≡ (s == break_slot i)
repeats-after m i t s team slot next after =
    let here : is_at_home m i t ≡ ((i + m - t) % 2 == 1) = is_at_home-after m i t team after in
    let there : is_at_home m i s ≡ ((i + m - s) % 2 == 1) = is_at_home-after m i s team (omega arith) in
    let turn : ((i + m - t) % 2 == 1) ≡ not ((i + m - s) % 2 == 1) = odd-other (i + m - t) (i + m - s) (omega arith) in
    is_same-other (is_at_home m i t) (is_at_home m i s) (here ∙ turn ∙ ap not (sym there)) ∙ sym (no_break i s (λ e. omega arith))

repeats-circle : (m i t s : ℕ) → m % 2 ≡ 1 → i < m → s < m → t + 1 ≡ s → repeats m i t s ≡ (s == break_slot i)
repeats-circle m i t s odd team slot next =
    elim (cases_lt s i) as (λ _. repeats m i t s ≡ (s == break_slot i)) [
      | inl before ↦ repeats-before m i t s team next before
      | inr not_before ↦ elim (cases_eq s i) as (λ _. repeats m i t s ≡ (s == break_slot i)) [
        | inl own ↦ repeats-own m i t s team next own
        | inr past ↦ elim (cases_eq t i) as (λ _. repeats m i t s ≡ (s == break_slot i)) [
          | inl following ↦ repeats-next m i t s odd team slot next following
          | inr later ↦ repeats-after m i t s team slot next (omega arith)
        ]
      ]
    ]

zero_of_two : (x y : ℕ) → x + y ≡ 1 → (x == 0) ≡ not (y == 0)
zero_of_two x y one = grind (arith, nat_tests)

even-other : (t s : ℕ) → t + 1 ≡ s → (t % 2 == 0) ≡ not (s % 2 == 0)
even-other t s next =
    let one : t % 2 + s % 2 ≡ 1 = omega arith in
    zero_of_two (t % 2) (s % 2) one

repeats-last : (m t s : ℕ) → t + 1 ≡ s → repeats m m t s ≡ false
repeats-last m t s next =
    is_same-other (is_at_home m m t) (is_at_home m m s) (is_at_home-last m t ∙ even-other t s next ∙ ap not (sym (is_at_home-last m s)))

-- the last team has no break, and the others have one in the slots after the first of a half, but for team n - 2
team-last : (n i : ℕ) → IsTeamCount n → i ≡ n - 1 → sum_by (λ s. one_if (repeats (n - 1) i (s - 1) s)) (range_with_len 1 (n - 2)) ≡ one_if (nat_lt i (n - 2))
team-last n i size last =
    let some : 2 ≤ n = size.at_least in
    sum_by-range_none (λ s. one_if (repeats (n - 1) i (s - 1) s)) 1 (n - 2) (λ s low high. ap (λ (t : ℕ). one_if (repeats (n - 1) t (s - 1) s)) last ∙ ap one_if (repeats-last (n - 1) (s - 1) s (omega arith)))
    ∙ sym (ap one_if (le-ltb i (n - 2) (omega arith)))

same_number : (x : ℕ) → one_if (x == x) ≡ 1
same_number x = grind (arith, nat_tests)

other_number : (x y : ℕ) → x ≢ y → one_if (x == y) ≡ 0
other_number x y other = ap one_if (ne_eqb x y other)

team-circle : (n i : ℕ) → IsTeamCount n → i < n - 1 → sum_by (λ s. one_if (repeats (n - 1) i (s - 1) s)) (range_with_len 1 (n - 2)) ≡ one_if (nat_lt i (n - 2))
team-circle n i size team =
    let some : 2 ≤ n = size.at_least in
    let even : n % 2 ≡ 0 = size.even in
    let odd : (n - 1) % 2 ≡ 1 = omega arith in
    let at_slot : sum_by (λ s. one_if (repeats (n - 1) i (s - 1) s)) (range_with_len 1 (n - 2)) ≡ sum_by (λ s. one_if (s == break_slot i)) (range_with_len 1 (n - 2)) =
    sum_by-range_same (λ s. one_if (repeats (n - 1) i (s - 1) s)) (λ s. one_if (s == break_slot i)) 1 (n - 2) (λ s low high. ap one_if (repeats-circle (n - 1) i (s - 1) s odd team (omega arith) (omega arith))) in
    elim (cases_lt i (n - 2)) as (λ _. sum_by (λ s. one_if (repeats (n - 1) i (s - 1) s)) (range_with_len 1 (n - 2)) ≡ one_if (nat_lt i (n - 2))) [
      | inl early ↦
          at_slot
          ∙ sum_by-range_one (λ s. one_if (s == break_slot i)) 1 (n - 2) (break_slot i) (omega arith) (omega arith) (λ s low high other. other_number s (break_slot i) other)
          ∙ same_number (break_slot i)
          ∙ sym (ap one_if (lt-ltb i (n - 2) early))
      | inr late ↦
          at_slot
          ∙ sum_by-range_none (λ s. one_if (s == break_slot i)) 1 (n - 2) (λ s low high. other_number s (break_slot i) (λ e. omega arith))
          ∙ sym (ap one_if (le-ltb i (n - 2) late))
    ]

team_repeats : (n i : ℕ) → IsTeamCount n → i < n → sum_by (λ s. one_if (repeats (n - 1) i (s - 1) s)) (range_with_len 1 (n - 2)) ≡ one_if (nat_lt i (n - 2))
team_repeats n i size team =
    elim (cases_eq i (n - 1)) as (λ _. sum_by (λ s. one_if (repeats (n - 1) i (s - 1) s)) (range_with_len 1 (n - 2)) ≡ one_if (nat_lt i (n - 2))) [
      | inl last ↦ team-last n i size last
      | inr inside ↦ team-circle n i size (omega arith)
    ]

positive_one : (b : Bool) → nat_lt 0 (one_if b) ≡ b
positive_one true = refl
positive_one false = refl

positive : (x : ℕ) (b : Bool) → x ≡ one_if b → nat_lt 0 x ≡ b
positive x b is = ap (nat_lt 0) is ∙ positive_one b

three_tests : (t x y a b : Bool) → t ≡ true → x ≡ a → y ≡ b → (t && x && y) ≡ (a && b)
three_tests t x y a b first second third = ap (λ (u : Bool). u && x && y) first ∙ ap (λ (u : Bool). u && y) second ∙ ap (λ (u : Bool). a && u) third

-- a break at slot s, by the venues there and in the slot before
at_venues : (s before now : ℕ) (a b : Bool) → 0 < s → before ≡ one_if a → now ≡ one_if b → one_if (nat_lt 0 s && nat_lt 0 before && nat_lt 0 now) ≡ one_if (a && b)
at_venues s before now a b later was is = ap one_if (three_tests (nat_lt 0 s) (nat_lt 0 before) (nat_lt 0 now) a b (lt-ltb 0 s later) (positive before a was) (positive now b is))

both_venues : (a b : Bool) → one_if (a && b) + one_if (not a && not b) ≡ one_if (is_same a b)
both_venues true true = refl
both_venues true false = refl
both_venues false true = refl
both_venues false false = refl

breaks_at-first : (n i s : ℕ) → IsTeamCount n → i < n → 0 < s → s < n - 1 → breaks_at n (counts_of (double_games n)) Both i s ≡ one_if (repeats (n - 1) i (s - 1) s)
breaks_at-first n i s size team later slot =
    let m : Counts = counts_of (double_games n) in
    let a : Bool = is_at_home (n - 1) i (s - 1) in
    let b : Bool = is_at_home (n - 1) i s in
    let before : s - 1 < n - 1 = omega arith in
    omega (
      arith,
      at_venues s (home_games n m i (s - 1)) (home_games n m i s) a b later (home_games-first n i (s - 1) size team before) (home_games-first n i s size team slot),
      at_venues s (away_games n m i (s - 1)) (away_games n m i s) (not a) (not b) later (away_games-first n i (s - 1) size team before) (away_games-first n i s size team slot),
      both_venues a b,
    )

breaks_at-second : (n i s : ℕ) → IsTeamCount n → i < n → 0 < s → s < n - 1 → breaks_at n (counts_of (double_games n)) Both i (s + (n - 1)) ≡ one_if (repeats (n - 1) i (s - 1) s)
breaks_at-second n i s size team later slot =
    let m : Counts = counts_of (double_games n) in
    let a : Bool = is_at_home (n - 1) i (s - 1) in
    let b : Bool = is_at_home (n - 1) i s in
    let t : ℕ = s + (n - 1) in
    let before : s - 1 < n - 1 = omega arith in
    let place : t - 1 ≡ s - 1 + (n - 1) = omega arith in
    let positive_slot : 0 < t = omega arith in
    let home_before : home_games n m i (t - 1) ≡ one_if (not a) = ap (home_games n m i) place ∙ home_games-second n i (s - 1) size team before in
    let away_before : away_games n m i (t - 1) ≡ one_if a = ap (away_games n m i) place ∙ away_games-second n i (s - 1) size team before in
    omega (
      arith,
      at_venues t (home_games n m i (t - 1)) (home_games n m i t) (not a) (not b) positive_slot home_before (home_games-second n i s size team slot),
      at_venues t (away_games n m i (t - 1)) (away_games n m i t) a b positive_slot away_before (away_games-second n i s size team slot),
      both_venues a b,
    )

-- a sum over a range that is shifted
sum_by-range_shift : (f g : ℕ → ℕ) (a b c k : ℕ) → a + c ≡ b → ((x : ℕ) → a ≤ x → x < a + k → f (x + c) ≡ g x) → sum_by f (range_with_len b k) ≡ sum_by g (range_with_len a k)
sum_by-range_shift f g a b c zero shift same = refl
sum_by-range_shift f g a b c (suc k) shift same =
    let here : f (a + c) ≡ g a = same a (omega arith) (omega arith) in
    let rest : sum_by f (range_with_len (b + 1) k) ≡ sum_by g (range_with_len (a + 1) k) = sum_by-range_shift f g (a + 1) (b + 1) c k (omega arith) (λ x low high. same x (omega arith) (omega arith)) in
    omega (arith, sum_by-cons f b (range_with_len (b + 1) k), sum_by-cons g a (range_with_len (a + 1) k), here, rest, ap f shift)

team-first : (n i : ℕ) → IsTeamCount n → i < n → breaks_among n (counts_of (double_games n)) Both (first_half n) i ≡ one_if (nat_lt i (n - 2))
team-first n i size team =
    let some : 2 ≤ n = size.at_least in
    let breaks : ℕ → ℕ = λ s. breaks_at n (counts_of (double_games n)) Both i s in
    let fewer : n - 1 - 1 ≡ n - 2 = omega arith in
    sum_by-range_late breaks (n - 1) (omega arith) refl
    ∙ ap (λ (k : ℕ). sum_by breaks (range_with_len 1 k)) fewer
    ∙ sum_by-range_same (λ s. breaks_at n (counts_of (double_games n)) Both i s) (λ s. one_if (repeats (n - 1) i (s - 1) s)) 1 (n - 2) (λ s low high. breaks_at-first n i s size team (omega arith) (omega arith))
    ∙ team_repeats n i size team

team-second : (n i : ℕ) → IsTeamCount n → i < n → breaks_among n (counts_of (double_games n)) Both (range_with_len n (n - 2)) i ≡ one_if (nat_lt i (n - 2))
team-second n i size team =
    let some : 2 ≤ n = size.at_least in
    sum_by-range_shift (λ s. breaks_at n (counts_of (double_games n)) Both i s) (λ s. one_if (repeats (n - 1) i (s - 1) s)) 1 n (n - 1) (n - 2) (omega arith) (λ s low high. breaks_at-second n i s size team (omega arith) (omega arith))
    ∙ team_repeats n i size team

-- of the teams below n, n - 2 are below n - 2
teams_below : (n : ℕ) → 2 ≤ n → sum_by (λ i. one_if (nat_lt i (n - 2))) (teams_of n) ≡ n - 2
teams_below n some =
    let f : ℕ → ℕ = λ i. one_if (nat_lt i (n - 2)) in
    let sum : ℕ → ℕ = λ k. sum_by f (range_with_len 0 k) in
    let front : sum (n - 2) ≡ (n - 2) * 1 = sum_by-range_equal f 1 0 (n - 2) (λ i low high. ap one_if (lt-ltb i (n - 2) (omega arith))) in
    let one : f (0 + (n - 2)) ≡ 0 = ap one_if (le-ltb (0 + (n - 2)) (n - 2) (omega arith)) in
    let two : f (0 + (n - 2 + 1)) ≡ 0 = ap one_if (le-ltb (0 + (n - 2 + 1)) (n - 2) (omega arith)) in
    let whole : sum n ≡ sum (n - 2 + 1 + 1) = (let e : n ≡ n - 2 + 1 + 1 = omega arith in ap sum e) in
    omega (arith, whole, sum_by-range_more f 0 (n - 2), sum_by-range_more f 0 (n - 2 + 1), front, one, two)

-- the law of the breaks
pub HasFewBreaks-double_games : (n : ℕ) → IsTeamCount n → HasFewBreaks n (counts_of (double_games n))
HasFewBreaks-double_games n size =
    record {
      first = sum_by-range_same (breaks_among n (counts_of (double_games n)) Both (first_half n)) (λ i. one_if (nat_lt i (n - 2))) 0 n (λ i low high. team-first n i size (omega arith)) ∙ teams_below n size.at_least;
      second = sum_by-range_same (breaks_among n (counts_of (double_games n)) Both (range_with_len n (n - 2))) (λ i. one_if (nat_lt i (n - 2))) 0 n (λ i low high. team-second n i size (omega arith)) ∙ teams_below n size.at_least;
    }

-- the law of the breaks, of a list of games that is the double circle schedule
pub breaks_of : (n : ℕ) (games : List Game) → IsTeamCount n → games ≡ double_games n → HasFewBreaks n (counts_of games)
breaks_of n games size is =
    let P : List Game → Type 0 = λ xs. HasFewBreaks n (counts_of xs) in
    subst P (sym is) (HasFewBreaks-double_games n size)
