-- The table of some meetings: how it is made.
use Rattle.std.proofs.Common.{◌≡◌, ◌≢◌, ℕ, ◌+◌, ◌*◌, ◌<◌, ◌≤◌, Bool, true, false, not, ◌&&◌, ◌||◌, ◌==◌, nat_lt, List, [], ◌∷◌, length, get_or, map, take, set, refl, arith, ap, sym, ◌∙◌, inl, inr, ◌⊎◌, IsTrue}
use Rattle.std.proofs.lemmas.Bool.{and_parts, cases_eq}
use Rattle.std.proofs.lemmas.Bool.Decides.{nat_tests}
use Rattle.std.proofs.lemmas.List.{get_or-map, get_or-set_other, get_or-set_same, length-map, length-set, take_more}
use Rattle.std.proofs.lemmas.List.Folds.{list_any-append}
use Rattle.std.proofs.lemmas.List.Sums.{AllPass-from_list_all}
use Rattle.std.proofs.lemmas.Nat.{mul-add-lt, mul-le, same_from_place}
use Rattle.std.proofs.Math.Nat.{mul_comm}
use Rattle.std.specs.List.{All, list_all}
use Rattle.league.specs.Instance.{are_meetings, is_meeting}
use Rattle.std.specs.Ordering.{nat_cmp, ordering_then}
use Rattle.std.specs.declared.cmp.Ordering.{Ordering}
use Rattle.std.specs.declared.cmp.Ordering.TheVariants.{Less, Equal, Greater}
use Rattle.league.proofs.AscendingLemmas.{IsAscending-ascends}
use Rattle.league.proofs.SetLemmas.{length-ascending, less_than}
use Rattle.league.specs.SetLaws.{same-nat_cmp}
use Rattle.league.specs.Sets.{IsAscending, ascends, pair_cmp}
use Rattle.league.proofs.NumberSets.{nat_cmp-less}
use Rattle.rule_core.specs.KeptMeetings.{IsTableOf}
use Rattle.rule_core.specs.Meetings.{is_listed}

-- whether a pair of numbers is another
abbrev is_pair : ℕ × ℕ → ℕ → ℕ → Bool
is_pair p home away = (p.0 == home) && (p.1 == away)

or_false : (b c : Bool) → c ≡ false → (b || (c || false)) ≡ b
or_false b c h = grind arith

or_true : (b c : Bool) → c ≡ true → (b || (c || false)) ≡ true
or_true b c h = grind arith

-- the first meetings with the next one
is_listed-more : (xs : List (ℕ × ℕ)) (k home away : ℕ) → k < length xs → is_listed (take (k + 1) xs) home away ≡ (is_listed (take k xs) home away || (is_pair (get_or xs k (0, 0)) home away || false))
is_listed-more xs k home away lt =
    ap (λ (ys : List (ℕ × ℕ)). is_listed ys home away) (take_more xs k (0, 0) lt) ∙ list_any-append (λ p. is_pair p home away) (take k xs) (get_or xs k (0, 0) ∷ [])

both_pass : (a b c d : ℕ) → a ≡ c → b ≡ d → ((a == c) && (b == d)) ≡ true
both_pass a b c d first second = grind (arith, nat_tests)

first_fails : (a b c d : ℕ) → a ≢ c → ((a == c) && (b == d)) ≡ false
first_fails a b c d differ = grind (arith, nat_tests)

second_fails : (a b c d : ℕ) → b ≢ d → ((a == c) && (b == d)) ≡ false
second_fails a b c d differ = grind (arith, nat_tests)

-- a place in the table
pub place_in : (n home away place : ℕ) (listed : List Bool) → length listed ≡ n * n → home < n → away < n → place ≡ home * n + away → place < length listed
place_in n home away place listed size in_home in_away is = omega (arith, mul-add-lt home n away n in_home in_away)

-- the table with the next meeting
pub IsTableOf-more : (n : ℕ) (xs : List (ℕ × ℕ)) (listed : List Bool) (k place : ℕ) → k < length xs
    → (get_or xs k (0, 0)).0 < n → (get_or xs k (0, 0)).1 < n
    → place ≡ (get_or xs k (0, 0)).0 * n + (get_or xs k (0, 0)).1 → IsTableOf n (take k xs) listed
    → IsTableOf n (take (k + 1) xs) (set listed place true)
IsTableOf-more n xs listed k place lt in_home in_away is table =
    let p : ℕ × ℕ = get_or xs k (0, 0) in
    let inside : place < length listed = place_in n p.0 p.1 place listed table.size in_home in_away is in
    record {
      size = length-set listed place true ∙ table.size;
      each = λ home away home_in away_in.
          elim (cases_eq (home * n + away) place) [
            | inl same ↦
                let parts = same_from_place p.0 p.1 home away n in_away away_in (sym is ∙ sym same) in
                ap (λ (q : ℕ). get_or (set listed place true) q false) same
                ∙ get_or-set_same listed place true false inside
                ∙ sym (or_true (is_listed (take k xs) home away) (is_pair p home away) (both_pass p.0 p.1 home away parts.0 parts.1))
                ∙ sym (is_listed-more xs k home away lt)
            | inr differ ↦
                let fails : is_pair p home away ≡ false = elim (cases_eq p.0 home) [
                  | inl at_home ↦ second_fails p.0 p.1 home away (λ at_away. differ (sym (is ∙ ap (λ (i : ℕ). i * n + p.1) at_home ∙ ap (λ (j : ℕ). home * n + j) at_away)))
                  | inr other ↦ first_fails p.0 p.1 home away other
                ] in
                get_or-set_other listed place (home * n + away) true false differ
                ∙ table.each home away home_in away_in
                ∙ sym (or_false (is_listed (take k xs) home away) (is_pair p home away) fails)
                ∙ sym (is_listed-more xs k home away lt)
          ];
    }

-- a meeting that passes its tests has two teams of the league
teams_pass : (n : ℕ) (p : ℕ × ℕ) → (nat_lt p.0 n && nat_lt p.1 n && not (p.0 == p.1)) ≡ true → (p.0 < n) × (p.1 < n)
teams_pass n p h = (first p.0 p.1 (not (p.0 == p.1)) h, second p.0 p.1 (not (p.0 == p.1)) h) where
  first : (a b : ℕ) (c : Bool) → (nat_lt a n && nat_lt b n && c) ≡ true → a < n
  first a b c h = grind (arith, nat_tests)

  second : (a b : ℕ) (c : Bool) → (nat_lt a n && nat_lt b n && c) ≡ true → b < n
  second a b c h = grind (arith, nat_tests)

pub meetings-teams : (n : ℕ) (xs : List (ℕ × ℕ)) → IsTrue (list_all (is_meeting n) xs) → All (λ p. (p.0 < n) × (p.1 < n)) xs
meetings-teams n xs are k d lt =
    teams_pass n (get_or xs k d) (AllPass-from_list_all (is_meeting n) xs are k d lt)

-- an earlier pair has an earlier place in the table
earlier : (o p : Ordering) → ordering_then o p ≡ Less → (o ≡ Less) ⊎ ((o ≡ Equal) × (p ≡ Less))
earlier Less p h = inl refl
earlier Equal p h = inr (refl, h)
earlier Greater p h = absurd (cc)

earlier_place : (n : ℕ) (p q : ℕ × ℕ) → p.1 < n → pair_cmp p q ≡ Less → nat_cmp (p.0 * n + p.1) (q.0 * n + q.1) ≡ Less
earlier_place n p q in_away before =
    elim (earlier (nat_cmp p.0 q.0) (nat_cmp p.1 q.1) before) [
      | inl home ↦ nat_cmp-less (p.0 * n + p.1) (q.0 * n + q.1) (omega (arith, mul-add-lt p.0 n p.1 q.0 (less_than p.0 q.0 home) in_away, mul_comm n q.0))
      | inr away ↦ nat_cmp-less (p.0 * n + p.1) (q.0 * n + q.1) (omega (arith, ap (λ (i : ℕ). i * n) (same-nat_cmp p.0 q.0 away.0), less_than p.1 q.1 away.1))
    ]

-- a set of meetings of at most 40 teams has at most 1600
pub length-meetings : (n : ℕ) (xs : List (ℕ × ℕ)) → n ≤ 40 → IsAscending pair_cmp xs → All (λ p. (p.0 < n) × (p.1 < n)) xs → length xs ≤ 1600
length-meetings n xs at_most ascending teams =
    let place : ℕ × ℕ → ℕ = λ p. p.0 * n + p.1 in
    let at : (k : ℕ) (d : ℕ) → k < length xs → get_or (map place xs) k d ≡ place (get_or xs k (0, 0)) = λ k d lt. get_or-map place xs k (0, 0) d lt in
    let long : length (map place xs) ≡ length xs = length-map xs place in
    let below : All (λ x. x < n * n) (map place xs) = λ k d lt.
    let within : k < length xs = omega arith in
    let in_league = teams k (0, 0) within in
    omega (arith, at k d within, mul-add-lt (get_or xs k (0, 0)).0 n (get_or xs k (0, 0)).1 n in_league.0 in_league.1) in
    let rising : IsAscending nat_cmp (map place xs) = λ i j d before lt.
    let last : j < length xs = omega arith in
    let first : i < length xs = omega arith in
    ap (λ (a : ℕ). nat_cmp a (get_or (map place xs) j d)) (at i d first)
    ∙ ap (λ (b : ℕ). nat_cmp (place (get_or xs i (0, 0))) b) (at j d last)
    ∙ earlier_place n (get_or xs i (0, 0)) (get_or xs j (0, 0)) (teams i (0, 0) first).1 (ascending i j (0, 0) before last) in
    omega (arith, length-ascending (map place xs) (n * n) rising below, mul-le n n 40 40 at_most at_most)

pub are_meetings-few : (n : ℕ) (xs : List (ℕ × ℕ)) → n ≤ 40 → IsTrue (are_meetings n xs) → length xs ≤ 1600
are_meetings-few n xs at_most are =
    let parts = and_parts (list_all (is_meeting n) xs) (ascends pair_cmp xs) are in
    length-meetings n xs at_most (IsAscending-ascends pair_cmp xs parts.1) (meetings-teams n xs parts.0)
