-- How often a game's meeting stands among those of CA4 and of GA1.
use Rattle.std.proofs.Common.{◌≡◌, ◌≢◌, ℕ, ◌+◌, ◌<◌, zero, suc, Bool, true, false, not, ◌&&◌, ◌||◌, ◌==◌, cond, List, [], ◌∷◌, get_or, refl, arith, ap, ◌∙◌, inl, inr}
use Rattle.std.proofs.lemmas.Bool.{and_parts, cases_Bool}
use Rattle.std.proofs.lemmas.Bool.Decides.{nat_tests}
use Rattle.std.proofs.lemmas.List.Folds.{list_any_none}
use Rattle.std.proofs.lemmas.List.Sums.{sum_by-cons}
use Rattle.std.specs.List.{filter, sum_by}
use Rattle.std.specs.Ordering.{nat_cmp, ordering_then}
use Rattle.std.specs.declared.cmp.Ordering.{Ordering}
use Rattle.std.specs.declared.cmp.Ordering.TheVariants.{Less, Equal, Greater}
use Rattle.league.specs.Counts.{teams_of}
use Rattle.league.specs.Meetings.{meetings_of}
use Rattle.league.specs.Sets.{IsAscending, pair_cmp}
use Rattle.league.proofs.MeetingLemmas.{sum_by-meetings_of}
use Rattle.league.proofs.OneTermLemmas.{sum_by-range_one}
use Rattle.league.proofs.RangeLemmas.{one_if}
use Rattle.league.proofs.SumLemmas.{sum_by-filter}
use Rattle.rule_core.specs.Meetings.{is_listed}
use Rattle.season_misses.proofs.CountLemmas.{times, zeros}

-- ---- GA1: meetings in ascending order

never_equal : (o p : Ordering) → ordering_then o p ≡ Less → o ≡ Equal → p ≡ Equal → ⊥
never_equal Less p less first second = cc
never_equal Equal p less first second = cc
never_equal Greater p less first second = cc

same_cmp : (a b : ℕ) → (b == a) ≡ true → nat_cmp a b ≡ Equal
same_cmp a b same = grind (arith, nat_tests)

pair_less : (p q : ℕ × ℕ) → pair_cmp p q ≡ Less → ((q.0 == p.0) && (q.1 == p.1)) ≡ false
pair_less p q less =
    elim (cases_Bool ((q.0 == p.0) && (q.1 == p.1))) [
      | inl passes ↦ absurd (let parts = and_parts (q.0 == p.0) (q.1 == p.1) passes in never_equal (nat_cmp p.0 q.0) (nat_cmp p.1 q.1) less (same_cmp p.0 q.0 parts.0) (same_cmp p.1 q.1 parts.1))
      | inr fails ↦ fails
    ]

moved : (a b h w x y : ℕ) → ((a == h) && (b == w)) ≡ true → ((x == a) && (y == b)) ≡ false → ((x == h) && (y == w)) ≡ false
moved a b h w x y same differ = grind (arith, nat_tests)

first_meeting : (a b h w : ℕ) (c : Bool) → ((a == h) && (b == w)) ≡ true → c ≡ false → one_if ((h == a) && (w == b)) + one_if c ≡ one_if (((a == h) && (b == w)) || c)
first_meeting a b h w c same out = grind (arith, nat_tests)

not_first : (a b h w : ℕ) (c : Bool) → ((a == h) && (b == w)) ≡ false → one_if ((h == a) && (w == b)) + one_if c ≡ one_if (((a == h) && (b == w)) || c)
not_first a b h w c differ = grind (arith, nat_tests)

pub times-ascending : (meetings : List (ℕ × ℕ)) (home away : ℕ) → IsAscending pair_cmp meetings → times meetings home away ≡ one_if (is_listed meetings home away)
times-ascending [] home away ascending = refl
times-ascending (p ∷ meetings) home away ascending =
    let rest : times meetings home away ≡ one_if (is_listed meetings home away) = times-ascending meetings home away (λ i j d before within. ascending (suc i) (suc j) d (omega arith) (omega arith)) in
    let sum : times (p ∷ meetings) home away ≡ one_if ((home == p.0) && (away == p.1)) + times meetings home away = sum_by-cons (λ q. one_if ((home == q.0) && (away == q.1))) p meetings in
    elim (cases_Bool ((p.0 == home) && (p.1 == away))) [
      | inl here ↦
          let none : is_listed meetings home away ≡ false =
          list_any_none (λ q. (q.0 == home) && (q.1 == away)) meetings
          (λ k d lt. let q : ℕ × ℕ = get_or meetings k d in moved p.0 p.1 home away q.0 q.1 here (pair_less p q (ascending zero (suc k) d (omega arith) (omega arith)))) in
          sum ∙ ap (λ (x : ℕ). one_if ((home == p.0) && (away == p.1)) + x) rest ∙ first_meeting p.0 p.1 home away (is_listed meetings home away) here none
      | inr other ↦ sum ∙ ap (λ (x : ℕ). one_if ((home == p.0) && (away == p.1)) + x) rest ∙ not_first p.0 p.1 home away (is_listed meetings home away) other
    ]

-- ---- CA4: the meetings of a league that pass a test

other_home : (b t : Bool) (home away i j : ℕ) → i ≢ home → cond b (cond t (one_if ((home == i) && (away == j))) 0) 0 ≡ 0
other_home b t home away i j differ = grind (arith, nat_tests)

other_away : (b t : Bool) (home away j : ℕ) → j ≢ away → cond b (cond t (one_if ((home == home) && (away == j))) 0) 0 ≡ 0
other_away b t home away j differ = grind (arith, nat_tests)

at_meeting : (t : Bool) (home away : ℕ) → home ≢ away → cond (not (away == home)) (cond t (one_if ((home == home) && (away == away))) 0) 0 ≡ one_if t
at_meeting t home away differ = grind (arith, nat_tests)

pub times-passing : (n : ℕ) (test : ℕ × ℕ → Bool) (home away : ℕ) → home < n → away < n → home ≢ away → times (filter test (meetings_of n)) home away ≡ one_if (test (home, away))
times-passing n test home away is_home is_away differ =
    let f : ℕ × ℕ → ℕ = λ p. cond (test p) (one_if ((home == p.0) && (away == p.1))) 0 in
    let row : ℕ → ℕ = λ i. sum_by (λ j. cond (not (j == i)) (f (i, j)) 0) (teams_of n) in
    sum_by-filter (λ p. one_if ((home == p.0) && (away == p.1))) test (meetings_of n)
    ∙ sum_by-meetings_of f n
    ∙ sum_by-range_one row 0 n home (omega arith) (omega arith)
    (λ i low high other. zeros (λ j. cond (not (j == i)) (f (i, j)) 0) (λ j. other_home (not (j == i)) (test (i, j)) home away i j other) (teams_of n))
    ∙ sum_by-range_one (λ j. cond (not (j == home)) (f (home, j)) 0) 0 n away (omega arith) (omega arith)
    (λ j low high other. other_away (not (j == home)) (test (home, j)) home away j other)
    ∙ at_meeting (test (home, away)) home away differ
