-- What the double circle schedule has of the demands of a made league: each game of its list in its slot, and n - 2
-- slots between the two games of any two teams.
use Rattle.std.proofs.Common.{◌≡◌, ◌≢◌, ℕ, zero, suc, ◌+◌, ◌-◌, ◌*◌, ◌/◌, ◌<◌, ◌≤◌, Bool, ◌&&◌, ◌==◌}
use Rattle.std.proofs.Common.{List, [], ◌∷◌, ◌++◌, length, get_or, map, inl, inr, refl, ap, ◌∙◌, arith, zero-add}
use Rattle.std.specs.Prelude.{replicate}
use Rattle.std.proofs.lemmas.Bool.{cases_eq}
use Rattle.std.proofs.lemmas.Bool.Decides.{nat_tests}
use Rattle.std.proofs.lemmas.List.Concat.{flat_map-append}
use Rattle.std.proofs.lemmas.List.Elements.{All-append, All-map, All-nil}
use Rattle.std.proofs.lemmas.List.Sums.{get_or-le-sum_by, sum_by-cons}
use Rattle.std.specs.List.{All, flat_map, range_with_len, sum_by}
use Rattle.league.specs.Counts.{counts_of, is_game, slot_count}
use Rattle.league.specs.Instance.{IsGame, IsTeamCount}
use Rattle.league.specs.Meetings.{games_of, pairs_of}
use Rattle.league.specs.Separation.{lacking, mutual_games, se1_entry}
use Rattle.league.specs.declared.game.Game.{Game}
use Rattle.league.proofs.RangeLemmas.{one_if, sum_by-range_more}
use Rattle.league.proofs.SumLemmas.{sum_by-add, sum_by-same}
use Rattle.circle_method.specs.Circle.{single_games, return_game, double_games}
use Rattle.circle_method.proofs.GameLemmas.{IsEarly, IsEarly-single_games, IsGame-double_games}
use Rattle.circle_method.proofs.MeetingLemmas.{half-once, meeting-once}
use Rattle.league.proofs.OneTermLemmas.{All-range, sum_by-all_none}
use Rattle.circle_method.proofs.VenueLemmas.{not_in_slot, sum_by-double_games}
use Rattle.instance_gen.specs.Draws.{set_of}
use Rattle.instance_gen.specs.Made.{circle}
use Rattle.instance_gen.proofs.SetLemmas.{sum_by-set_of_one, sum_by-set_of_two}

-- a sum over a range with its last term apart
sum_by-last : (f : ℕ → ℕ) (k : ℕ) → sum_by f (range_with_len 0 (suc k)) ≡ sum_by f (range_with_len 0 k) + f k
sum_by-last f k =
    let next : suc k ≡ k + 1 = omega arith in
    omega (arith, ap (λ (l : ℕ). sum_by f (range_with_len 0 l)) next, sum_by-range_more f 0 k, ap f (zero-add k))

-- a term of a sum, and two terms
term-le : (f : ℕ → ℕ) (k a : ℕ) → a < k → f a ≤ sum_by f (range_with_len 0 k)
term-le f zero a below = absurd (omega arith)
term-le f (suc k) a below =
    elim (cases_eq a k) as (λ _. f a ≤ sum_by f (range_with_len 0 (suc k))) [
      | inl last ↦ omega (arith, sum_by-last f k, ap f last)
      | inr earlier ↦ omega (arith, sum_by-last f k, term-le f k a (omega arith))
    ]

two_terms-le : (f : ℕ → ℕ) (k a b : ℕ) → a < k → b < k → a ≢ b → f a + f b ≤ sum_by f (range_with_len 0 k)
two_terms-le f zero a b first second differ = absurd (omega arith)
two_terms-le f (suc k) a b first second differ =
    elim (cases_eq a k) as (λ _. f a + f b ≤ sum_by f (range_with_len 0 (suc k))) [
      | inl last ↦ omega (arith, sum_by-last f k, ap f last, term-le f k b (omega arith))
      | inr earlier ↦ elim (cases_eq b k) as (λ _. f a + f b ≤ sum_by f (range_with_len 0 (suc k))) [
        | inl last ↦ omega (arith, sum_by-last f k, ap f last, term-le f k a (omega arith))
        | inr inside ↦ omega (arith, sum_by-last f k, two_terms-le f k a b (omega arith) (omega arith) differ)
      ]
    ]

-- where a sum is one and the term at a is all of it, the sum over a with any other place is one too
pub once_in_two : (f : ℕ → ℕ) (k a b : ℕ) → a < k → b < k → sum_by f (range_with_len 0 k) ≡ 1 → 1 ≤ f a
    → sum_by f (set_of (a ∷ b ∷ [])) ≡ 1
once_in_two f k a b first second one here =
    elim (cases_eq a b) as (λ _. sum_by f (set_of (a ∷ b ∷ [])) ≡ 1) [
      | inl same ↦ omega (arith, sum_by-set_of_one f a b same, term-le f k a first)
      | inr differ ↦ omega (arith, sum_by-set_of_two f a b differ, two_terms-le f k a b first second differ)
    ]

itself : (x y s : ℕ) → one_if ((x == x) && (y == y) && (s == s)) ≡ 1
itself x y s = grind (arith, nat_tests)

-- a game of a list is counted there
counted : (games : List Game) (k : ℕ) (d : Game) → k < length games
    → 1 ≤ counts_of games (get_or games k d).home.0 (get_or games k d).away.0 (get_or games k d).slot.0
counted games k d within =
    let g : Game = get_or games k d in
    omega (
      arith,
      get_or-le-sum_by (λ x. one_if (is_game g.home.0 g.away.0 g.slot.0 x)) games k d within,
      itself g.home.0 g.away.0 g.slot.0,
    )

-- a game of the double circle schedule is played once in its slot or in any other one
pub game-once : (n k s : ℕ) (d : Game) → IsTeamCount n → k < length (double_games n) → s < slot_count n
    → games_of (circle n) (((get_or (double_games n) k d).home.0, (get_or (double_games n) k d).away.0) ∷ [])
    (set_of ((get_or (double_games n) k d).slot.0 ∷ s ∷ [])) ≡ 1
game-once n k s d size within slot =
    let g : Game = get_or (double_games n) k d in
    let fits : IsGame n g = IsGame-double_games n size k d within in
    let f : ℕ → ℕ = λ t. circle n g.home.0 g.away.0 t in
    let season : sum_by f (range_with_len 0 (slot_count n)) ≡ 1 =
    omega (arith, meeting-once n g.home.0 g.away.0 size fits.home fits.away fits.differ) in
    omega (arith, once_in_two f (slot_count n) g.slot.0 s fits.slot slot season (counted (double_games n) k d within))

-- a meeting at the other venue
return-tests : (a b : Bool) (x s m : ℕ) → one_if (b && a && (x + m == s + m)) ≡ one_if (a && b && (x == s))
return-tests a b x s m = grind (arith, nat_tests)

-- a game of the second half is the return game of one of the first
pub circle-second : (n i j s : ℕ) → IsTeamCount n → s < n - 1 → circle n i j (s + (n - 1)) ≡ circle n j i s
circle-second n i j s size early =
    let f : Game → ℕ = λ g. one_if (is_game i j (s + (n - 1)) g) in
    let h : Game → ℕ = λ g. one_if (is_game j i s g) in
    let not_yet : sum_by f (single_games n) ≡ 0 =
    sum_by-all_none (IsEarly n) f (λ g is. not_in_slot ((g.home.0 == i) && (g.away.0 == j)) g.slot.0 (s + (n - 1))
    (λ same. let below : g.slot.0 < n - 1 = is.slot in omega arith)) (single_games n) (IsEarly-single_games n size) in
    let returned : sum_by (λ g. f (return_game n g)) (single_games n) ≡ sum_by h (single_games n) =
    sum_by-same (λ g. f (return_game n g)) h
    (λ g. return-tests (g.home.0 == j) (g.away.0 == i) g.slot.0 s (n - 1)) (single_games n) in
    let no_more : sum_by (λ g. h (return_game n g)) (single_games n) ≡ 0 =
    sum_by-all_none (λ g. Unit {0}) (λ g. h (return_game n g))
    (λ g _. not_in_slot ((g.away.0 == j) && (g.home.0 == i)) (g.slot.0 + (n - 1)) s (λ same. omega arith))
    (single_games n) (λ k d _. tt) in
    omega (arith, sum_by-double_games f n, sum_by-double_games h n, not_yet, returned, no_more)

-- the numbers of a range, each as often as a function says
abbrev copies : (ℕ → ℕ) → ℕ → ℕ → List ℕ
copies c a k = flat_map (λ s. replicate (c s) s) (range_with_len a k)

copies-first : (c : ℕ → ℕ) (a k x : ℕ) → c a ≡ x → copies c a (suc k) ≡ replicate x a ++ copies c (a + 1) k
copies-first c a k x is = ap (λ (y : ℕ). replicate y a ++ copies c (a + 1) k) is

-- where a sum is zero, none is there
copies-none : (c : ℕ → ℕ) (a k : ℕ) → sum_by c (range_with_len a k) ≡ 0 → copies c a k ≡ []
copies-none c a zero none = refl
copies-none c a (suc k) none =
    let first : c a ≡ 0 = omega (arith, sum_by-cons c a (range_with_len (a + 1) k)) in
    copies-first c a k 0 first
    ∙ copies-none c (a + 1) k (omega (arith, sum_by-cons c a (range_with_len (a + 1) k)))

-- one number in a range, and the one that is m later in the range that is m later
record IsAlone (c : ℕ → ℕ) (m a k t : ℕ) : Type 0 where
  here : copies c a k ≡ t ∷ []
  later : copies c (a + m) k ≡ (t + m) ∷ []

-- what is there as often m later adds up to as much
sum_by-later : (c : ℕ → ℕ) (m a k : ℕ) → ((s : ℕ) → a ≤ s → s < a + k → c (s + m) ≡ c s)
    → sum_by c (range_with_len (a + m) k) ≡ sum_by c (range_with_len a k)
sum_by-later c m a zero same = refl
sum_by-later c m a (suc k) same =
    let place : a + m + 1 ≡ a + 1 + m = omega arith in
    omega (
      arith,
      sum_by-cons c (a + m) (range_with_len (a + m + 1) k),
      sum_by-cons c a (range_with_len (a + 1) k),
      ap (λ (x : ℕ). sum_by c (range_with_len x k)) place,
      same a (omega arith) (omega arith),
      sum_by-later c m (a + 1) k (λ s low high. same s (omega arith) (omega arith)),
    )

alone : (c : ℕ → ℕ) (m a k : ℕ) → ((s : ℕ) → a ≤ s → s < a + k → c (s + m) ≡ c s)
    → sum_by c (range_with_len a k) ≡ 1 → (t : ℕ) × IsAlone c m a k t
alone c m a zero same one = absurd (omega arith)
alone c m a (suc k) same one =
    let place : a + m + 1 ≡ a + 1 + m = omega arith in
    let split : c a + sum_by c (range_with_len (a + 1) k) ≡ 1 =
    omega (arith, sum_by-cons c a (range_with_len (a + 1) k)) in
    let rest_same : (s : ℕ) → a + 1 ≤ s → s < a + 1 + k → c (s + m) ≡ c s =
    λ s low high. same s (omega arith) (omega arith) in
    elim (cases_eq (c a) 0) as (λ _. (t : ℕ) × IsAlone c m a (suc k) t) [
      | inl none ↦
          let found : (t : ℕ) × IsAlone c m (a + 1) k t = alone c m (a + 1) k rest_same (omega arith) in
          let none_later : c (a + m) ≡ 0 = same a (omega arith) (omega arith) ∙ none in (
            found.0,
            record {
              here = copies-first c a k 0 none ∙ found.1.here;
              later = copies-first c (a + m) k 0 none_later ∙ ap (λ (x : ℕ). copies c x k) place ∙ found.1.later;
            },
          )
      | inr some ↦
          let first : c a ≡ 1 = omega arith in
          let first_later : c (a + m) ≡ 1 = same a (omega arith) (omega arith) ∙ first in
          let rest : sum_by c (range_with_len (a + 1) k) ≡ 0 = omega arith in
          let rest_later : sum_by c (range_with_len (a + m + 1) k) ≡ 0 =
          omega (arith, sum_by-later c m (a + 1) k rest_same, ap (λ (x : ℕ). sum_by c (range_with_len x k)) place) in (
            a,
            record {
              here = copies-first c a k 1 first ∙ ap (λ (l : List ℕ). a ∷ l) (copies-none c (a + 1) k rest);
              later = copies-first c (a + m) k 1 first_later
                  ∙ ap (λ (l : List ℕ). (a + m) ∷ l) (copies-none c (a + m + 1) k rest_later);
            },
          )
    ]

-- a range in two parts
range_with_len-append : (a k l : ℕ) → range_with_len a (k + l) ≡ range_with_len a k ++ range_with_len (a + k) l
range_with_len-append a zero l =
    let whole : zero + l ≡ l = omega arith in
    let start : a ≡ a + zero = omega arith in
    ap (range_with_len a) whole ∙ ap (λ (x : ℕ). range_with_len x l) start
range_with_len-append a (suc k) l =
    let whole : suc k + l ≡ suc (k + l) = omega arith in
    let start : a + 1 + k ≡ a + suc k = omega arith in
    ap (range_with_len a) whole
    ∙ ap (λ (xs : List ℕ). a ∷ xs) (range_with_len-append (a + 1) k l)
    ∙ ap (λ (x : ℕ). a ∷ range_with_len (a + 1) k ++ range_with_len x l) start

-- two slots, the second m later
halves : (c : ℕ → ℕ) (m : ℕ) → ((s : ℕ) → s < m → c (s + m) ≡ c s) → sum_by c (range_with_len 0 m) ≡ 1
    → (t : ℕ) × (copies c 0 (2 * m) ≡ t ∷ (t + m) ∷ [])
halves c m same one =
    let found : (t : ℕ) × IsAlone c m 0 m t = alone c m 0 m (λ s low high. same s (omega arith)) one in
    let whole : 2 * m ≡ m + m = omega arith in (
      found.0,
      ap (copies c 0) whole
          ∙ ap (flat_map (λ s. replicate (c s) s)) (range_with_len-append 0 m m)
          ∙ flat_map-append (λ s. replicate (c s) s) (range_with_len 0 m) (range_with_len (0 + m) m)
          ∙ ap (λ (l : List ℕ). l ++ copies c (0 + m) m) found.1.here
          ∙ ap (λ (l : List ℕ). found.0 ∷ l) found.1.later,
    )

-- the two games of any two teams have n - 2 slots between them
pub mutual-twice : (n i j : ℕ) → IsTeamCount n → i < n → j < n → i ≢ j
    → (t : ℕ) × (mutual_games n (circle n) (i, j) ≡ t ∷ (t + (n - 1)) ∷ [])
mutual-twice n i j size first second differ =
    let c : ℕ → ℕ = λ s. circle n i j s + circle n j i s in
    let same : (s : ℕ) → s < n - 1 → c (s + (n - 1)) ≡ c s =
    λ s early. omega (arith, circle-second n i j s size early, circle-second n j i s size early) in
    let one : sum_by c (range_with_len 0 (n - 1)) ≡ 1 =
    omega (
      arith,
      sum_by-add (λ s. circle n i j s) (λ s. circle n j i s) (range_with_len 0 (n - 1)),
      half-once n i j size first second differ,
    ) in
    halves c (n - 1) same one

pub far_apart : (n i j : ℕ) → IsTeamCount n → i < n → j < n → i ≢ j → se1_entry n (circle n) ((n - 2) / 2) (i, j) ≡ 0
far_apart n i j size first second differ =
    let found : (t : ℕ) × (mutual_games n (circle n) (i, j) ≡ t ∷ (t + (n - 1)) ∷ []) =
    mutual-twice n i j size first second differ in
    ap (lacking ((n - 2) / 2)) found.1 ∙ omega arith

-- the pairs of the teams of a range
pub pairs_of-range : (n a k : ℕ) → a + k ≤ n
    → All (λ p. (p.0 < n) × (p.1 < n) × (p.0 ≢ p.1)) (pairs_of (range_with_len a k))
pairs_of-range n a zero within = All-nil (λ (p : ℕ × ℕ). (p.0 < n) × (p.1 < n) × (p.0 ≢ p.1))
pairs_of-range n a (suc k) within =
    let IsPair : ℕ × ℕ → Type 0 = λ p. (p.0 < n) × (p.1 < n) × (p.0 ≢ p.1) in
    All-append IsPair (map (λ j. (a, j)) (range_with_len (a + 1) k)) (pairs_of (range_with_len (a + 1) k))
    (All-map IsPair (λ j. (a, j)) (range_with_len (a + 1) k)
    (All-range (λ j. IsPair (a, j)) (a + 1) k (λ j low high. (omega arith, omega arith, λ same. omega arith))))
    (pairs_of-range n (a + 1) k (omega arith))
