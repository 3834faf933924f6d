-- The games of some teams with others, home team by home team.
use Rattle.std.proofs.Common.{◌≡◌, ◌≢◌, ℕ, ◌+◌, ◌*◌, ◌<◌, ◌≤◌, Bool, true, false, not, cond, ◌&&◌, ◌||◌}
use Rattle.std.proofs.Common.{◌==◌, List, [], ◌∷◌, ◌++◌, length, get_or, map, refl, arith, ap, sym, ◌∙◌}
use Rattle.std.proofs.lemmas.Bool.Decides.{nat_tests}
use Rattle.std.proofs.lemmas.List.{append-nil}
use Rattle.std.proofs.lemmas.List.Elements.{All-filter, filter-append}
use Rattle.std.proofs.lemmas.List.FromFn.{get_or-range_with_len, length-range_with_len}
use Rattle.std.proofs.lemmas.List.Sums.{length-filter, sum_by-cons, sum_by-le}
use Rattle.std.specs.List.{All, filter, range_with_len, sum_by}
use Rattle.league.specs.Capacity.{is_between}
use Rattle.league.specs.Counts.{Counts, teams_of}
use Rattle.league.specs.Meetings.{games_of, meetings_of, others}
use Rattle.league.specs.Sets.{is_in}
use Rattle.league.specs.declared.class.Side.{Side}
use Rattle.league.specs.declared.class.Side.TheVariants.{H, A, Both}
use Rattle.league.proofs.RangeLemmas.{range_with_len-more}
use Rattle.league.proofs.SumLemmas.{sum_by-filter, sum_by-flat_map, sum_by-map, sum_by-same}
use Rattle.rule_core.specs.Places.{hosts}
use Rattle.rule_core.specs.declared.place.Place.{Place}
use Rattle.rule_core.specs.declared.place.Place.TheVariants.{Home}
use Rattle.league.specs.declared.game.TeamId.{TeamId}
use Rattle.rule_core.proofs.OneLemmas.{all_zero, only_one, zero-mul}
use Rattle.deviation.specs.Between.{can_host, counted, meetings_at_home}

-- ---- the list of home teams

pub hosts_more : (p : ℕ → Bool) (k : ℕ) → filter p (range_with_len 0 (k + 1))
    ≡ filter p (range_with_len 0 k) ++ cond (p k) (k ∷ []) []
hosts_more p k =
    let at : 0 + k ≡ k = omega arith in
    ap (filter p) (range_with_len-more 0 k)
    ∙ ap (λ (x : ℕ). filter p (range_with_len 0 k ++ x ∷ [])) at
    ∙ filter-append p (range_with_len 0 k) (k ∷ [])

-- with a team that passes, and without one that fails
pub hosts_with : (p : ℕ → Bool) (k : ℕ) (now next : List ℕ) → now ≡ filter p (range_with_len 0 k) → p k ≡ true
    → next ≡ now ++ k ∷ [] → next ≡ filter p (range_with_len 0 (k + 1))
hosts_with p k now next so_far passes is =
    is
    ∙ ap (λ (xs : List ℕ). xs ++ k ∷ []) so_far
    ∙ ap (λ (b : Bool). filter p (range_with_len 0 k) ++ cond b (k ∷ []) []) (sym passes)
    ∙ sym (hosts_more p k)

pub hosts_without : (p : ℕ → Bool) (k : ℕ) (now : List ℕ) → now ≡ filter p (range_with_len 0 k) → p k ≡ false
    → now ≡ filter p (range_with_len 0 (k + 1))
hosts_without p k now so_far fails =
    so_far
    ∙ sym (append-nil (filter p (range_with_len 0 k)))
    ∙ ap (λ (b : Bool). filter p (range_with_len 0 k) ++ cond b (k ∷ []) []) (sym fails)
    ∙ sym (hosts_more p k)

-- teams of the league, and no more than it has
pub hosts_below : (n : ℕ) (p : ℕ → Bool) (hosts : List ℕ) → hosts ≡ filter p (teams_of n) → All (λ i. i < n) hosts
hosts_below n p hosts is =
    let below : All (λ i. i < n) (teams_of n) = λ k d lt. omega (
      arith,
      length-range_with_len 0 n,
      get_or-range_with_len 0 n k d
          (omega (arith, length-range_with_len 0 n)),
    ) in
    rw is (All-filter p (λ i. i < n) (teams_of n) below)

pub hosts_few : (n : ℕ) (p : ℕ → Bool) (hosts : List ℕ) → hosts ≡ filter p (teams_of n) → length hosts ≤ n
hosts_few n p hosts is =
    omega (
      arith,
      ap length is,
      length-filter p (teams_of n),
      sum_by-le (λ x. cond (p x) 1 0) 1 (teams_of n) (λ k d lt. at_most_one (p (get_or (teams_of n) k d))),
      length-range_with_len 0 n,
    ) where
      at_most_one : (b : Bool) → cond b 1 0 ≤ 1
      at_most_one true = omega arith
      at_most_one false = omega arith

-- ---- the games of one home team

-- the games of a meeting in one slot
in_slot : (m : Counts) (s : ℕ) (p : ℕ × ℕ) → sum_by (λ t. m p.0 p.1 t) (s ∷ []) ≡ m p.0 p.1 s
in_slot m s p = omega (arith, sum_by-cons (λ t. m p.0 p.1 t) s [])

one_or_none : (a b : Bool) (x y : ℕ) → y ≡ x → cond a (cond b y 0) 0 ≡ cond {A = ℕ} (a && b) 1 0 * x
one_or_none true true x y same = omega arith
one_or_none true false x y same = sym (zero-mul x)
one_or_none false b x y same = sym (zero-mul x)

other_guest : (o j : ℕ) → j ≢ o → cond {A = ℕ} (o == j) 1 0 ≡ 0
other_guest o j differ = grind (arith, nat_tests)

itself : (o : ℕ) → cond {A = ℕ} (o == o) 1 0 ≡ 1
itself o = grind (arith, nat_tests)

with_false : (a : Bool) → (a && false) ≡ false
with_false true = refl
with_false false = refl

neither : (a b c d : Bool) → (a || b) ≡ false → ((a && c) || (d && b)) ≡ false
neither true b c d h = absurd (cc)
neither false true c d h = absurd (cc)
neither false false c d h = with_false d

-- a team that can't be at home is at home in no game that counts
not_between : (side : Side) (teams1 teams2 : List ℕ) (i j : ℕ) → can_host side teams1 teams2 i ≡ false
    → is_between side teams1 teams2 (i, j) ≡ false
not_between H teams1 teams2 i j out = ap (λ (b : Bool). b && is_in j teams2) out
not_between A teams1 teams2 i j out = ap (λ (b : Bool). is_in j teams1 && b) out ∙ with_false (is_in j teams1)
not_between Both teams1 teams2 i j out = neither (is_in i teams1) (is_in i teams2) (is_in j teams2) (is_in j teams1) out

module _ (m : Counts) (side : Side) (teams1 teams2 : List ℕ) (s : ℕ) where
  abbrev test : ℕ × ℕ → Bool
  test p = is_between side teams1 teams2 p

  abbrev played : ℕ × ℕ → ℕ
  played p = sum_by (λ t. m p.0 p.1 t) (s ∷ [])

  -- how often team i is at home to team j in a game that counts
  abbrev pub at_home_to : ℕ → ℕ → ℕ
  at_home_to i j = counted side teams1 teams2 i j * m i j s

  -- the games of a home team, guest by guest
  pub games_by_guest : (n i : ℕ) → games_of m (filter test (meetings_at_home n i)) (s ∷ [])
      ≡ sum_by (at_home_to i) (teams_of n)
  games_by_guest n i =
      sum_by-filter played test (map (λ j. (i, j)) (others i (teams_of n)))
      ∙ sum_by-map (λ p. cond (test p) (played p) 0) (λ j. (i, j)) (others i (teams_of n))
      ∙ sum_by-filter (λ j. cond (test (i, j)) (played (i, j)) 0) (λ j. not (j == i)) (teams_of n)
      ∙ sum_by-same (λ j. cond (not (j == i)) (cond (test (i, j)) (played (i, j)) 0) 0) (at_home_to i)
      (λ j. one_or_none (not (j == i)) (test (i, j)) (m i j s) (played (i, j)) (in_slot m s (i, j))) (teams_of n)

  pub games_by_guest_to : (n i k games : ℕ) → k ≡ n → games ≡ sum_by (at_home_to i) (range_with_len 0 k)
      → games ≡ games_of m (filter test (meetings_at_home n i)) (s ∷ [])
  games_by_guest_to n i k games all is = is ∙ ap (λ (x : ℕ). sum_by (at_home_to i) (range_with_len 0 x)) all
      ∙ sym (games_by_guest n i)

  -- a home team that meets one other team alone in the slot
  pub games_one_guest : (n i o games : ℕ) → o < n → ((j : ℕ) → m i j s ≡ cond {A = ℕ} (o == j) 1 0)
      → games ≡ counted side teams1 teams2 i o → games ≡ games_of m (filter test (meetings_at_home n i)) (s ∷ [])
  games_one_guest n i o games below each is =
      let none : (j : ℕ) → j ≢ o → at_home_to i j ≡ 0 = λ j differ.
      let none_there : m i j s ≡ 0 = each j ∙ other_guest o j differ in
      omega (arith, ap (λ (x : ℕ). counted side teams1 teams2 i j * x) none_there) in
      let once : m i o s ≡ 1 = each o ∙ itself o in
      let here : at_home_to i o ≡ counted side teams1 teams2 i o =
      ap (λ (x : ℕ). counted side teams1 teams2 i o * x) once ∙ omega arith in
      is ∙ sym here ∙ sym (only_one (at_home_to i) o n none below) ∙ sym (games_by_guest n i)

  -- a home team that is at home to none in the slot
  pub games_no_guest : (n i : ℕ) → ((j : ℕ) → m i j s ≡ 0)
      → 0 ≡ games_of m (filter test (meetings_at_home n i)) (s ∷ [])
  games_no_guest n i none =
      let nothing : (j : ℕ) → at_home_to i j ≡ 0 = λ j. omega
      (arith, ap (λ (x : ℕ). counted side teams1 teams2 i j * x) (none j)) in
      sym (games_by_guest n i ∙ all_zero (at_home_to i) nothing (teams_of n))

  -- ---- the games of all home teams

  -- a team that can't be at home has no game that counts
  not_host : (n i : ℕ) → can_host side teams1 teams2 i ≡ false
      → games_of m (filter test (meetings_at_home n i)) (s ∷ []) ≡ 0
  not_host n i out =
      let nothing : (j : ℕ) → at_home_to i j ≡ 0 = λ j.
      ap (λ (b : Bool). cond {A = ℕ} (not (j == i) && b) 1 0 * m i j s) (not_between side teams1 teams2 i j out)
      ∙ ap (λ (b : Bool). cond {A = ℕ} b 1 0 * m i j s) (with_false (not (j == i)))
      ∙ zero-mul (m i j s) in
      games_by_guest n i ∙ all_zero (at_home_to i) nothing (teams_of n)

  -- the games of a home team, and those of the teams that can be at home
  abbrev pub hosted : ℕ → ℕ → ℕ
  hosted n i = games_of m (filter test (meetings_at_home n i)) (s ∷ [])

  pub games_of_all_hosts : (n : ℕ) (hosts : List ℕ) (games : ℕ)
      → hosts ≡ filter (can_host side teams1 teams2) (teams_of n) → games ≡ sum_by (hosted n) hosts
      → games ≡ games_of m (filter test (meetings_of n)) (s ∷ [])
  games_of_all_hosts n hosts games are is =
      let can : ℕ → Bool = λ i. can_host side teams1 teams2 i in
      let row : ℕ → List (ℕ × ℕ) = λ i. meetings_at_home n i in
      is
      ∙ ap (sum_by (hosted n)) are
      ∙ sum_by-filter (hosted n) can (teams_of n)
      ∙ sum_by-same (λ i. cond (can i) (hosted n i) 0) (hosted n) (λ i. either (can i) (hosted n i) (not_host n i))
      (teams_of n)
      ∙ sum_by-same (hosted n) (λ i. sum_by (λ p. cond (test p) (played p) 0) (row i))
      (λ i. sum_by-filter played test (row i)) (teams_of n)
      ∙ sym (sum_by-flat_map (λ p. cond (test p) (played p) 0) row (teams_of n))
      ∙ sym (sum_by-filter played test (meetings_of n)) where
        either : (b : Bool) (x : ℕ) → (b ≡ false → x ≡ 0) → cond b x 0 ≡ x
        either true x out = refl
        either false x out = sym (out refl)

-- the guest of a place is of the league
pub guest_below : (n : ℕ) (place : Place) (guest : TeamId) → place ≡ Home guest
    → ((j : ℕ) → hosts place j ≡ true → j < n) → guest.0 < n
guest_below n place guest is teams = teams guest.0 (ap (λ (p : Place). hosts p guest.0) is ∙ same_guest guest.0) where
  same_guest : (o : ℕ) → (o == o) ≡ true
  same_guest o = grind (arith, nat_tests)
