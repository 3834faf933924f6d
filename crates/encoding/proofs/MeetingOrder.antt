-- Meetings in their order: those of a team, all of a league, and what the tests of a fitting constraint say of a set.
use Rattle.std.proofs.Common.{◌≡◌, ◌≢◌, ℕ, ◌+◌, ◌-◌, ◌*◌, ◌<◌, ◌≤◌, Bool, true, false, not, ◌==◌, nat_lt}
use Rattle.std.proofs.Common.{List, [], ◌∷◌, ◌++◌}
use Rattle.std.proofs.Common.{get_or, map, refl, arith, ap, sym, ◌∙◌, ◌⊎◌, inl, inr}
use Rattle.std.proofs.Math.Nat.{mul-le-mul_right}
use Rattle.std.proofs.lemmas.Bool.{cases_eq, cases_lt, ltb-true}
use Rattle.std.proofs.lemmas.Bool.Decides.{nat_tests}
use Rattle.std.proofs.lemmas.List.Elements.{All-append, All-cons, All-filter, All-map, All-nil}
use Rattle.std.proofs.lemmas.List.Elements.{filter_passes}
use Rattle.std.proofs.lemmas.List.Sums.{AllPass-from_list_all}
use Rattle.std.specs.List.{All, filter, list_all}
use Rattle.std.specs.Ordering.{nat_cmp}
use Rattle.std.specs.declared.cmp.Ordering.TheVariants.{Less}
use Rattle.league.specs.Capacity.{meetings_with}
use Rattle.league.specs.Counts.{slot_count, slots_of, teams_of}
use Rattle.league.specs.Instance.{are_meetings, are_slots, are_teams, is_meeting}
use Rattle.league.specs.Meetings.{meetings_of, others, pairs_of}
use Rattle.league.specs.Sets.{ascends, pair_cmp}
use Rattle.league.specs.declared.class.Side.{Side}
use Rattle.league.specs.declared.class.Side.TheVariants.{H, A, Both}
use Rattle.league.proofs.AscendingLemmas.{IsAscending-ascends, first_true, second_true}
use Rattle.league.proofs.FitLemmas.{are_slots-ascending, are_slots-below, are_teams-ascending, are_teams-below}
use Rattle.league.proofs.SetLemmas.{less_than}
use Rattle.league.proofs.OneTermLemmas.{All-flat_map}
use Rattle.encoding.specs.Ascending.{AreMeetings, AreSlots, AreTeams, AscendsBy, IsMeeting, place_of}
use Rattle.encoding.specs.Lists.{meetings_in_order}
use Rattle.encoding.specs.Variables.{place_beside}
use Rattle.encoding.proofs.AscendLemmas.{AscendsBy-above, AscendsBy-after, AscendsBy-append, AscendsBy-before}
use Rattle.encoding.proofs.AscendLemmas.{AscendsBy-below, AscendsBy-blocks, AscendsBy-filter, AscendsBy-flat_map}
use Rattle.encoding.proofs.AscendLemmas.{AscendsBy-from_ascending, AscendsBy-high, AscendsBy-low}
use Rattle.encoding.proofs.AscendLemmas.{AscendsBy-map, AscendsBy-range, AscendsBy-same, AscendsBy-shift}
use Rattle.encoding.proofs.PlaceLemmas.{place_beside-below}

-- ---- numbers

place_beside-rises : (i j k : ℕ) → i ≢ j → i ≢ k → j < k → place_beside i j < place_beside i k
place_beside-rises i j k first second before = grind (arith, nat_tests)

other_team : (j i : ℕ) → not (j == i) ≡ true → j ≢ i
other_team j i h = grind (arith, nat_tests)

-- ---- single meetings

pub place_of-below : (n : ℕ) (p : ℕ × ℕ) → IsMeeting n p → place_of n p < n * (n - 1)
place_of-below n p is =
    let home : p.0 + 1 ≤ n = omega (arith, is.home) in
    omega (arith, place_beside-below n p.0 p.1 is.home is.away is.differ, mul-le-mul_right (n - 1) home)

in_order : (p q : ℕ × ℕ) → pair_cmp p q ≡ Less → (p.0 < q.0) ⊎ ((p.0 ≡ q.0) × (p.1 < q.1))
in_order p q h = elim (cases_lt p.0 q.0) [
  | inl first ↦ inl first
  | inr not_first ↦ inr (grind (arith, nat_tests), grind (arith, nat_tests))
]

place_of-rises : (n : ℕ) (p q : ℕ × ℕ) → IsMeeting n p → IsMeeting n q → pair_cmp p q ≡ Less
    → place_of n p < place_of n q
place_of-rises n p q first second before = elim (in_order p q before) [
  | inl home ↦
      let next : p.0 + 1 ≤ q.0 = omega (arith, home) in
      omega (arith, place_beside-below n p.0 p.1 first.home first.away first.differ, mul-le-mul_right (n - 1) next)
  | inr away ↦
      let here : place_beside q.0 p.1 ≡ place_beside p.0 p.1 = ap (λ (i : ℕ). place_beside i p.1) (sym away.0) in
      let row : p.0 * (n - 1) ≡ q.0 * (n - 1) = ap (λ (i : ℕ). i * (n - 1)) away.0 in
      let differ : q.0 ≢ p.1 = λ same. first.differ (away.0 ∙ same) in
      omega (arith, place_beside-rises q.0 p.1 q.1 differ second.differ away.1, here, row)
]

-- ---- what the tests say

pub AreSlots-from_test : (n : ℕ) (slots : List ℕ) → are_slots n slots ≡ true → AreSlots n slots
AreSlots-from_test n slots fits =
    AscendsBy-from_ascending nat_cmp (λ s. s) (λ s. s < slot_count n) (λ a b first second less. less_than a b less)
    0 slots (slot_count n) (omega arith)
    (are_slots-ascending n slots fits) (are_slots-below n slots fits) (λ k d within. omega arith)
    (are_slots-below n slots fits)

pub AreTeams-from_test : (n : ℕ) (teams : List ℕ) → are_teams n teams ≡ true → AreTeams n teams
AreTeams-from_test n teams fits =
    AscendsBy-from_ascending nat_cmp (λ s. s) (λ s. s < n) (λ a b first second less. less_than a b less) 0 teams n
    (omega arith)
    (are_teams-ascending n teams fits) (are_teams-below n teams fits) (λ k d within. omega arith)
    (are_teams-below n teams fits)

IsMeeting-from_test : (n : ℕ) (p : ℕ × ℕ) → is_meeting n p ≡ true → IsMeeting n p
IsMeeting-from_test n p fits = record
    { home = grind (arith, nat_tests); away = grind (arith, nat_tests); differ = grind (arith, nat_tests) }

pub AreMeetings-from_test : (n : ℕ) (meetings : List (ℕ × ℕ)) → are_meetings n meetings ≡ true
    → AreMeetings n meetings
AreMeetings-from_test n meetings fits =
    let passes = AllPass-from_list_all (is_meeting n) meetings
    (first_true (list_all (is_meeting n) meetings) (ascends pair_cmp meetings) fits) in
    let all : All (IsMeeting n) meetings = λ k d within. IsMeeting-from_test n (get_or meetings k d)
    (passes k d within) in
    record {
      fit = all;
      ascend = AscendsBy-from_ascending pair_cmp (place_of n) (IsMeeting n) (place_of-rises n) 0 meetings
          (n * (n - 1)) (omega arith)
          (IsAscending-ascends pair_cmp meetings
          (second_true (list_all (is_meeting n) meetings) (ascends pair_cmp meetings) fits))
          all (λ k d within. omega arith) (λ k d within. place_of-below n (get_or meetings k d) (all k d within));
    }

-- ---- one meeting, and two

pub AreMeetings-one : (n : ℕ) (p : ℕ × ℕ) → IsMeeting n p → AreMeetings n (p ∷ [])
AreMeetings-one n p is = record {
  fit = All-cons (IsMeeting n) p [] is (All-nil (IsMeeting n));
  ascend = (omega arith, omega (arith, place_of-below n p is));
}

pub AreMeetings-both : (n i j : ℕ) → i < j → j < n → AreMeetings n ((i, j) ∷ (j, i) ∷ [])
AreMeetings-both n i j before within =
    let there : IsMeeting n (i, j) = record { home = omega arith; away = within; differ = omega arith } in
    let back : IsMeeting n (j, i) = record { home = within; away = omega arith; differ = omega arith } in
    let next : i + 1 ≤ j = omega (arith, before) in
    record {
      fit = All-cons (IsMeeting n) (i, j) ((j, i) ∷ []) there
          (All-cons (IsMeeting n) (j, i) [] back (All-nil (IsMeeting n)));
      ascend = (
        omega arith,
        (
          omega (arith, place_beside-below n i j (omega arith) within (omega arith), mul-le-mul_right (n - 1) next),
          omega (arith, place_of-below n (j, i) back),
        ),
      );
    }

-- the meetings of two teams and no more
pub meetings_with-both : (i j : ℕ) → i ≢ j → meetings_with Both i (j ∷ []) ≡ (i, j) ∷ (j, i) ∷ []
meetings_with-both i j differ =
    let other : not (j == i) ≡ true = grind (arith, nat_tests) in
    rw other refl

-- ---- the meetings of a team

-- the other teams by their places beside i
beside_ascends : (n i from low : ℕ) (teams : List ℕ) → i < n → (low ≤ i → from ≤ low) → (i < low → from + 1 ≤ low)
    → AscendsBy (λ t. t) low teams n → AscendsBy (place_beside i) from (others i teams) (n - 1)
beside_ascends n i from low [] within early late ascends =
    elim (cases_lt i low)
    [ inl after ↦ omega (arith, late after, ascends) | inr before ↦ omega (arith, early before) ]
beside_ascends n i from low (j ∷ teams) within early late ascends =
    elim (cases_eq j i) [
      | inl same ↦
          let itself : not (j == i) ≡ false = grind (arith, nat_tests) in
          let small : from ≤ i = omega (arith, early (omega (arith, ascends.0, same)), ascends.0, same) in
          rw itself (beside_ascends n i from (j + 1) teams within (λ h. omega (arith, same))
          (λ h. omega (arith, small, same)) ascends.1)
      | inr differ ↦
          let other : not (j == i) ≡ true = grind (arith, nat_tests) in
          rw other (elim (cases_lt j i) [
            | inl before ↦
                let here : place_beside i j ≡ j = grind (arith, nat_tests) in (
                  omega (arith, early (omega (arith, ascends.0, before)), ascends.0, here),
                  beside_ascends n i
                      (place_beside i j + 1) (j + 1) teams within (λ h. omega (arith, here))
                      (λ h. omega (arith, before)) ascends.1,
                )
            | inr after ↦
                let later : i < j = omega (arith, after, differ) in
                let here : place_beside i j + 1 ≡ j = grind (arith, nat_tests) in
                let small : from + 1 ≤ j = elim (cases_lt i low)
                [ inl h ↦ omega (arith, late h, ascends.0) | inr h ↦ omega (arith, early h, later, h) ] in (
                  omega (arith, small, here),
                  beside_ascends n i (place_beside i j + 1) (j + 1) teams within
                      (λ h. omega (arith, later)) (λ h. omega (arith, here)) ascends.1,
                )
          ])
    ]

others_all : (n i : ℕ) (teams : List ℕ) → AreTeams n teams → All (λ j. (j < n) × (j ≢ i)) (others i teams)
others_all n i teams are = λ k d within. (
  All-filter (λ j. not (j == i)) (λ j. j < n) teams (AscendsBy-below (λ t. t) 0 teams n are) k d within,
  other_team (get_or (others i teams) k d) i (filter_passes (λ j. not (j == i)) teams k d within),
)

-- at home
home_ascends : (n i : ℕ) (teams : List ℕ) → i < n → AreTeams n teams
    → AscendsBy (place_of n) (i * (n - 1)) (meetings_with H i teams) ((i + 1) * (n - 1))
home_ascends n i teams within are =
    let block : ℕ = i * (n - 1) in
    let at_home : ℕ → ℕ × ℕ = λ j. (i, j) in
    AscendsBy-map (place_of n) at_home block (others i teams) ((i + 1) * (n - 1))
    (AscendsBy-high (λ j. block + place_beside i j) block (others i teams) (block + (n - 1)) ((i + 1) * (n - 1))
    (omega arith)
    (AscendsBy-low (λ j. block + place_beside i j) block (block + 0) (others i teams) (block + (n - 1)) (omega arith)
    (AscendsBy-shift (place_beside i) block 0 (others i teams) (n - 1)
    (beside_ascends n i 0 0 teams within (λ h. omega arith) (λ h. omega arith) are))))

home_fits : (n i : ℕ) (teams : List ℕ) → i < n → AreTeams n teams → All (IsMeeting n) (meetings_with H i teams)
home_fits n i teams within are =
    let at_home : ℕ → ℕ × ℕ = λ j. (i, j) in
    All-map (IsMeeting n) at_home (others i teams) (λ k d inside.
    let other = others_all n i teams are k d inside in
    record { home = within; away = other.0; differ = λ same. other.1 (sym same) })

-- away, with any of the other teams that ascend
away_ascends : (n i low : ℕ) (teams : List ℕ) (high : ℕ) → i < n → All (λ j. (j < n) × (j ≢ i)) teams
    → AscendsBy (λ t. t) low teams high → AscendsBy (place_of n) (low * (n - 1)) (map (λ j. (j, i)) teams)
    (high * (n - 1))
away_ascends n i low teams high within all ascends =
    let away : ℕ → ℕ × ℕ = λ j. (j, i) in
    let spread : ℕ → ℕ = λ j. 0 + j * (n - 1) + place_beside j i in
    AscendsBy-map (place_of n) away (low * (n - 1)) teams (high * (n - 1))
    (AscendsBy-same spread (λ j. place_of n (j, i)) (λ j. omega arith) (low * (n - 1)) teams (high * (n - 1))
    (AscendsBy-high spread (low * (n - 1)) teams (0 + high * (n - 1)) (high * (n - 1)) (omega arith)
    (AscendsBy-low spread (low * (n - 1)) (0 + low * (n - 1)) teams (0 + high * (n - 1)) (omega arith)
    (AscendsBy-blocks (λ j. j) (λ j. place_beside j i) 0 (n - 1) low teams high
    (λ k d inside. place_beside-below n (get_or teams k d) i (all k d inside).0 within (all k d inside).1) ascends))))

away_fits : (n i : ℕ) (teams : List ℕ) → i < n → All (λ j. (j < n) × (j ≢ i)) teams
    → All (IsMeeting n) (map (λ j. (j, i)) teams)
away_fits n i teams within all =
    let away : ℕ → ℕ × ℕ = λ j. (j, i) in
    All-map (IsMeeting n) away teams
    (λ k d inside. record { home = (all k d inside).0; away = within; differ = (all k d inside).1 })

pub AreMeetings-home : (n i : ℕ) (teams : List ℕ) → i < n → AreTeams n teams → AreMeetings n (meetings_with H i teams)
AreMeetings-home n i teams within are =
    let next : i + 1 ≤ n = omega (arith, within) in
    record {
      fit = home_fits n i teams within are;
      ascend = AscendsBy-high (place_of n) 0 (meetings_with H i teams) ((i + 1) * (n - 1)) (n * (n - 1))
          (omega (arith, mul-le-mul_right (n - 1) next))
          (AscendsBy-low (place_of n) 0 (i * (n - 1)) (meetings_with H i teams) ((i + 1) * (n - 1)) (omega arith)
          (home_ascends n i teams within are));
    }

AreMeetings-away : (n i : ℕ) (teams : List ℕ) → i < n → AreTeams n teams → AreMeetings n (meetings_with A i teams)
AreMeetings-away n i teams within are = record {
  fit = away_fits n i (others i teams) within (others_all n i teams are);
  ascend = AscendsBy-low (place_of n) 0 (0 * (n - 1)) (meetings_with A i teams) (n * (n - 1)) (omega arith)
      (away_ascends n i 0 (others i teams) n within (others_all n i teams are)
      (AscendsBy-filter (λ t. t) (λ j. not (j == i)) 0 teams n are));
}

-- earlier teams, and later ones
earlier_all : (n i : ℕ) (teams : List ℕ) → AreTeams n teams
    → All (λ j. (j < n) × (j ≢ i)) (filter (λ j. nat_lt j i) teams)
earlier_all n i teams are = λ k d within.
    let j : ℕ = get_or (filter (λ j. nat_lt j i) teams) k d in
    let before : nat_lt j i ≡ true = filter_passes (λ j. nat_lt j i) teams k d within in (
      All-filter (λ j. nat_lt j i) (λ j. j < n) teams (AscendsBy-below (λ t. t) 0 teams n are) k d within,
      omega
          (arith, ltb-true j i before),
    )

later_all : (n i : ℕ) (teams : List ℕ) → AreTeams n teams
    → All (λ j. (j < n) × (j ≢ i)) (filter (λ j. nat_lt i j) teams)
later_all n i teams are = λ k d within.
    let j : ℕ = get_or (filter (λ j. nat_lt i j) teams) k d in
    let after : nat_lt i j ≡ true = filter_passes (λ j. nat_lt i j) teams k d within in (
      All-filter (λ j. nat_lt i j) (λ j. j < n) teams (AscendsBy-below (λ t. t) 0 teams n are) k d within,
      omega
          (arith, ltb-true i j after),
    )

AreMeetings-mixed : (n i : ℕ) (teams : List ℕ) → i < n → AreTeams n teams
    → AreMeetings n (meetings_in_order Both i teams)
AreMeetings-mixed n i teams within are =
    let away : ℕ → ℕ × ℕ = λ j. (j, i) in
    let before : List ℕ = filter (λ j. nat_lt j i) teams in
    let after : List ℕ = filter (λ j. nat_lt i j) teams in
    let next : i < n = within in
    record {
      fit = All-append (IsMeeting n) (map away before ++ meetings_with H i teams) (map away after)
          (All-append (IsMeeting n) (map away before) (meetings_with H i teams)
          (away_fits n i before within (earlier_all n i teams are)) (home_fits n i teams within are))
          (away_fits n i after within (later_all n i teams are));
      ascend = AscendsBy-append (place_of n) 0 (map away before ++ meetings_with H i teams) ((i + 1) * (n - 1))
          (map away after) (n * (n - 1))
          (AscendsBy-append (place_of n) 0 (map away before) (i * (n - 1)) (meetings_with H i teams)
          ((i + 1) * (n - 1))
          (AscendsBy-low (place_of n) 0 (0 * (n - 1)) (map away before) (i * (n - 1)) (omega arith)
          (away_ascends n i 0 before i within (earlier_all n i teams are)
          (AscendsBy-before i 0 0 teams n (omega arith) (omega arith) are)))
          (home_ascends n i teams within are))
          (away_ascends n i (i + 1) after n within (later_all n i teams are)
          (AscendsBy-after i (i + 1) 0 teams n (λ h. omega arith) (λ h. omega arith) within are));
    }

-- on any side
pub AreMeetings-in_order : (n : ℕ) (side : Side) (i : ℕ) (teams : List ℕ) → i < n → AreTeams n teams
    → AreMeetings n (meetings_in_order side i teams)
AreMeetings-in_order n H i teams within are = AreMeetings-home n i teams within are
AreMeetings-in_order n A i teams within are = AreMeetings-away n i teams within are
AreMeetings-in_order n Both i teams within are = AreMeetings-mixed n i teams within are

-- ---- all meetings of a league, and some of them

pub AreTeams-all : (n : ℕ) → AreTeams n (teams_of n)
AreTeams-all n = AscendsBy-range 0 n n (omega arith)

pub AreSlots-all : (n : ℕ) → AreSlots n (slots_of n)
AreSlots-all n = AscendsBy-range 0 (slot_count n) (slot_count n) (omega arith)

pub AreMeetings-all : (n : ℕ) → AreMeetings n (meetings_of n)
AreMeetings-all n =
    let of_team : ℕ → List (ℕ × ℕ) = λ i. meetings_with H i (teams_of n) in
    let teams = AreTeams-all n in
    let below = AscendsBy-below (λ t. t) 0 (teams_of n) n teams in
    record {
      fit = All-flat_map (IsMeeting n) of_team (teams_of n)
          (λ k d within. home_fits n (get_or (teams_of n) k d) (teams_of n) (below k d within) teams);
      ascend = AscendsBy-high (place_of n) 0 (meetings_of n) (0 + n * (n - 1)) (n * (n - 1)) (omega arith)
          (AscendsBy-low (place_of n) 0 (0 + 0 * (n - 1)) (meetings_of n) (0 + n * (n - 1)) (omega arith)
          (AscendsBy-flat_map (λ t. t) (place_of n) of_team 0 (n - 1) 0 (teams_of n) n
          (λ k d within.
          let i : ℕ = get_or (teams_of n) k d in
          AscendsBy-high (place_of n) (0 + i * (n - 1)) (of_team i) ((i + 1) * (n - 1)) (0 + (i + 1) * (n - 1))
          (omega arith)
          (AscendsBy-low (place_of n) (0 + i * (n - 1)) (i * (n - 1)) (of_team i) ((i + 1) * (n - 1)) (omega arith)
          (home_ascends n i (teams_of n) (below k d within) teams)))
          teams));
    }

pub AreMeetings-filter : (n : ℕ) (p : ℕ × ℕ → Bool) (meetings : List (ℕ × ℕ)) → AreMeetings n meetings
    → AreMeetings n (filter p meetings)
AreMeetings-filter n p meetings are = record {
  fit = All-filter p (IsMeeting n) meetings are.fit;
  ascend = AscendsBy-filter (place_of n) p 0 meetings (n * (n - 1)) are.ascend;
}

-- ---- pairs of teams

-- the first of a pair is the smaller
pub pairs_of-in_order : (n low : ℕ) (teams : List ℕ) → AscendsBy (λ t. t) low teams n
    → All (λ p. (p.0 < p.1) × (p.1 < n)) (pairs_of teams)
pairs_of-in_order n low [] ascends = All-nil (λ p. (p.0 < p.1) × (p.1 < n))
pairs_of-in_order n low (i ∷ teams) ascends =
    let pair : ℕ → ℕ × ℕ = λ j. (i, j) in
    All-append (λ p. (p.0 < p.1) × (p.1 < n)) (map pair teams) (pairs_of teams)
    (All-map (λ p. (p.0 < p.1) × (p.1 < n)) pair teams
    (λ k d within. (
      omega (arith, AscendsBy-above (λ t. t) (i + 1) teams n ascends.1 k d within),
      AscendsBy-below
          (λ t. t) (i + 1) teams n ascends.1 k d within,
    )))
    (pairs_of-in_order n (i + 1) teams ascends.1)
