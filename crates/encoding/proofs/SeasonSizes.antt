-- How many terms the rows of a season have.
use Rattle.std.proofs.Common.{◌≡◌, ℕ, zero, suc, ◌+◌, ◌-◌, ◌*◌, ◌/◌, ◌<◌, ◌≤◌, Bool, true, false, not, ◌==◌}
use Rattle.std.proofs.Common.{nat_lt, if◌then◌else◌, List, [], ◌∷◌, ◌++◌, length, get_or, map, refl, arith, ap, sym}
use Rattle.std.proofs.Common.{◌∙◌, inl, inr}
use Rattle.std.proofs.lemmas.Bool.{cases_eq, lt-ltb}
use Rattle.std.proofs.lemmas.Bool.Decides.{nat_tests}
use Rattle.std.proofs.lemmas.List.{length-append, length-map}
use Rattle.std.proofs.lemmas.List.Concat.{length-flat_map}
use Rattle.std.proofs.lemmas.List.FromFn.{length-range_with_len}
use Rattle.std.proofs.lemmas.List.Sums.{sum_by-append}
use Rattle.std.specs.List.{All, flat_map, range_with_len}
use Rattle.league.specs.Capacity.{meetings_with}
use Rattle.league.specs.Counts.{slot_count, slots_of, teams_of}
use Rattle.league.specs.Instance.{Instance}
use Rattle.league.specs.Meetings.{meetings_of, others, pairs_of}
use Rattle.league.specs.Structure.{first_half}
use Rattle.league.specs.declared.class.Constraint.{Constraint}
use Rattle.league.specs.declared.class.Side.TheVariants.{H, Both}
use Rattle.league.proofs.SumLemmas.{sum_by-flat_map}
use Rattle.rows.specs.Cardinality.{exactly, unit}
use Rattle.rows.specs.Literals.{Literal, negate, no, yes}
use Rattle.rows.specs.Rows.{Row, size_of}
use Rattle.encoding.specs.Encoding.{constraint_rows, rows_of, season_rows}
use Rattle.encoding.specs.Lists.{after_first, at_home_in, games_in, meetings_in_order}
use Rattle.encoding.specs.Season.{break_rows, break_rows_at, cell_rows, cell_rows_at, game_needs_home, half_rows}
use Rattle.encoding.specs.Season.{home_games_in, home_needs_game, meeting_rows, slot_rows, team_rows, venue_rows}
use Rattle.encoding.specs.Variables.{h_var, has_breaks}
use Rattle.encoding.proofs.AscendLemmas.{AscendsBy-below}
use Rattle.encoding.proofs.PairLemmas.{length-pairs_of}
use Rattle.encoding.proofs.MeetingOrder.{AreTeams-all}
use Rattle.encoding.proofs.SizeLemmas.{length-at_home, length-games_in, length-meetings, sum_by-constant}
use Rattle.encoding.proofs.SizeLemmas.{sum_by-same_at}

-- ---- rows that are alike

size_of-exactly : (d : ℕ) (literals : List Literal) → size_of (exactly d literals) ≡ 2 * length literals
size_of-exactly d literals = omega
    (arith, length-map literals unit, length-map (map negate literals) unit, length-map literals negate)

-- so many keys, with so many terms each
size_of-each : {K : Type 0} (f : K → List Row) (k : ℕ) (keys : List K) → All (λ x. size_of (f x) ≡ k) keys
    → size_of (flat_map f keys) ≡ length keys * k
size_of-each f k keys each =
    sum_by-flat_map (λ r. length r.terms) f keys ∙ sum_by-same_at (λ x. size_of (f x)) (λ x. k) keys each
    ∙ sum_by-constant k keys

size_of-append : (xs ys : List Row) → size_of (xs ++ ys) ≡ size_of xs + size_of ys
size_of-append xs ys = sum_by-append (λ r. length r.terms) xs ys

-- ---- how many teams, meetings and slots there are

others_outside : (i a k : ℕ) → i < a → length (others i (range_with_len a k)) ≡ k
others_outside i a zero before = refl
others_outside i a (suc k) before =
    let other : not (a == i) ≡ true = grind (arith, nat_tests) in
    rw other (ap suc (others_outside i (a + 1) k (omega arith)))

others_inside : (i a k : ℕ) → a ≤ i → i < a + k → length (others i (range_with_len a k)) + 1 ≡ k
others_inside i a zero from within = absurd (omega arith)
others_inside i a (suc k) from within =
    elim (cases_eq a i) [
      | inl same ↦
          let itself : not (a == i) ≡ false = grind (arith, nat_tests) in
          rw itself (omega (arith, others_outside i (a + 1) k (omega (arith, same))))
      | inr differ ↦
          let other : not (a == i) ≡ true = grind (arith, nat_tests) in
          rw other (omega (arith, others_inside i (a + 1) k (omega (arith, differ)) (omega arith)))
    ]

pub length-others : (n i : ℕ) → i < n → length (others i (teams_of n)) ≡ n - 1
length-others n i within = omega (arith, others_inside i 0 n (omega arith) (omega arith))

length-teams : (n : ℕ) → length (teams_of n) ≡ n
length-teams n = length-range_with_len 0 n

length-slots : (n : ℕ) → length (slots_of n) ≡ slot_count n
length-slots n = length-range_with_len 0 (slot_count n)

pub length-meetings_of : (n : ℕ) → length (meetings_of n) ≡ n * (n - 1)
length-meetings_of n =
    let of_team : ℕ → List (ℕ × ℕ) = λ i. map (λ j. (i, j)) (others i (teams_of n)) in
    length-flat_map of_team (teams_of n)
    ∙ sum_by-same_at (λ i. length (of_team i)) (λ i. n - 1) (teams_of n)
    (λ k d within.
    let i : ℕ = get_or (teams_of n) k d in
    let pair : ℕ → ℕ × ℕ = λ j. (i, j) in
    length-map (others i (teams_of n)) pair
    ∙ length-others n i (AscendsBy-below (λ t. t) 0 (teams_of n) n (AreTeams-all n) k d within))
    ∙ sum_by-constant (n - 1) (teams_of n)
    ∙ ap (λ (k : ℕ). k * (n - 1)) (length-teams n)

later_slots : (a k : ℕ) → 0 < a → length (after_first (range_with_len a k)) ≡ k
later_slots a zero later = refl
later_slots a (suc k) later =
    let passes : nat_lt 0 a ≡ true = lt-ltb 0 a later in
    rw passes (ap suc (later_slots (a + 1) k (omega arith)))

length-later : (k : ℕ) → length (after_first (range_with_len 0 k)) ≡ k - 1
length-later zero = omega arith
length-later (suc k) = later_slots (0 + 1) k (omega arith) ∙ omega arith

-- ---- the groups

below : (n k d : ℕ) → k < length (teams_of n) → get_or (teams_of n) k d < n
below n k d within = AscendsBy-below (λ t. t) 0 (teams_of n) n (AreTeams-all n) k d within

meeting_terms : (n : ℕ) → size_of (meeting_rows n) ≡ n * (n - 1) * (2 * slot_count n)
meeting_terms n =
    let rows : ℕ × ℕ → List Row = λ p. exactly 1 (games_in n (p ∷ []) (slots_of n)) in
    let each : (p : ℕ × ℕ) → size_of (rows p) ≡ 2 * slot_count n = λ p. omega (
      arith,
      size_of-exactly 1 (games_in n (p ∷ []) (slots_of n)),
      length-games_in n (p ∷ [])
          (slots_of n),
      length-slots n,
    ) in
    size_of-each rows (2 * slot_count n) (meetings_of n) (λ k d within. each (get_or (meetings_of n) k d))
    ∙ ap (λ (k : ℕ). k * (2 * slot_count n)) (length-meetings_of n)

cell_terms : (n : ℕ) → size_of (cell_rows n) ≡ n * (slot_count n * (4 * (n - 1)))
cell_terms n =
    let each : (i s : ℕ) → i < n → size_of (cell_rows_at n i s) ≡ 4 * (n - 1) = λ i s within.
    let meetings : List (ℕ × ℕ) = meetings_in_order Both i (teams_of n) in
    omega (
      arith,
      size_of-exactly 1 (games_in n meetings (s ∷ [])),
      length-games_in n meetings
          (s ∷ []),
      length-meetings Both i (teams_of n),
      length-others n i within,
    ) in
    let of_team : ℕ → List Row = λ i. flat_map (cell_rows_at n i) (slots_of n) in
    size_of-each of_team (slot_count n * (4 * (n - 1))) (teams_of n)
    (λ k d within.
    let i : ℕ = get_or (teams_of n) k d in
    size_of-each (cell_rows_at n i) (4 * (n - 1)) (slots_of n)
    (λ l e inside. each i (get_or (slots_of n) l e) (below n k d within))
    ∙ ap (λ (m : ℕ). m * (4 * (n - 1))) (length-slots n))
    ∙ ap (λ (k : ℕ). k * (slot_count n * (4 * (n - 1)))) (length-teams n)

pub half_terms : (n : ℕ) → size_of (half_rows n true) ≡ n * (n - 1) / 2 * (4 * (n - 1))
half_terms n =
    let rows : ℕ × ℕ → List Row = λ p. exactly 1 (games_in n (p ∷ (p.1, p.0) ∷ []) (first_half n)) in
    let each : (p : ℕ × ℕ) → size_of (rows p) ≡ 4 * (n - 1) = λ p.
    let both : List (ℕ × ℕ) = p ∷ (p.1, p.0) ∷ [] in
    omega (
      arith,
      size_of-exactly 1 (games_in n both (first_half n)),
      length-games_in n both
          (first_half n),
      length-range_with_len 0 (n - 1),
    ) in
    size_of-each rows (4 * (n - 1)) (pairs_of (teams_of n)) (λ k d within. each (get_or (pairs_of (teams_of n)) k d))
    ∙ ap (λ (k : ℕ). k * (4 * (n - 1)))
    (sym (length-pairs_of (teams_of n)) ∙ ap (λ (k : ℕ). k * (k - 1) / 2) (length-teams n))

venue_terms : (n : ℕ) → size_of (venue_rows n) ≡ n * (slot_count n * (2 * n))
venue_terms n =
    let rows : ℕ → ℕ → List Row = λ i s. home_needs_game n i s ∷ game_needs_home n i s ∷ [] in
    let each : (i s : ℕ) → i < n → size_of (rows i s) ≡ 2 * n = λ i s within.
    let games : List Literal = home_games_in n i s in
    let counted : length games ≡ n - 1 = length-games_in n (meetings_with H i (teams_of n)) (s ∷ [])
    ∙ omega (arith, length-meetings H i (teams_of n), length-others n i within) in
    omega (
      arith,
      counted,
      length-map (games ++ no (h_var n i s) ∷ []) unit,
      length-append games (no (h_var n i s) ∷ []),
      length-append (map unit (map negate games)) (record { coef = n - 1; lit = yes (h_var n i s) } ∷ []),
      length-map (map negate games) unit,
      length-map games negate,
    ) in
    let of_team : ℕ → List Row = λ i. flat_map (rows i) (slots_of n) in
    size_of-each of_team (slot_count n * (2 * n)) (teams_of n)
    (λ k d within.
    let i : ℕ = get_or (teams_of n) k d in
    size_of-each (rows i) (2 * n) (slots_of n) (λ l e inside. each i (get_or (slots_of n) l e) (below n k d within))
    ∙ ap (λ (m : ℕ). m * (2 * n)) (length-slots n))
    ∙ ap (λ (k : ℕ). k * (slot_count n * (2 * n))) (length-teams n)

slot_terms : (n : ℕ) → size_of (slot_rows n) ≡ slot_count n * (2 * n)
slot_terms n =
    let home : ℕ → List Literal = λ s. map (λ i. yes (h_var n i s)) (teams_of n) in
    let each : (s : ℕ) → size_of (exactly (n / 2) (home s)) ≡ 2 * n = λ s.
    let at_home : ℕ → Literal = λ i. yes (h_var n i s) in
    omega (arith, size_of-exactly (n / 2) (home s), length-map (teams_of n) at_home, length-teams n) in
    size_of-each (λ s. exactly (n / 2) (home s)) (2 * n) (slots_of n) (λ k d within. each (get_or (slots_of n) k d))
    ∙ ap (λ (k : ℕ). k * (2 * n)) (length-slots n)

team_terms : (n : ℕ) → size_of (team_rows n) ≡ n * (2 * slot_count n)
team_terms n =
    let each : (i : ℕ) → size_of (exactly (n - 1) (at_home_in n i (slots_of n))) ≡ 2 * slot_count n = λ i.
    omega (
      arith,
      size_of-exactly (n - 1) (at_home_in n i (slots_of n)),
      length-at_home n i (slots_of n),
      length-slots
          n,
    ) in
    size_of-each (λ i. exactly (n - 1) (at_home_in n i (slots_of n))) (2 * slot_count n) (teams_of n)
    (λ k d within. each (get_or (teams_of n) k d))
    ∙ ap (λ (k : ℕ). k * (2 * slot_count n)) (length-teams n)

-- where breaks have variables
pub size_of-breaks : (n : ℕ) → size_of (break_rows n true) ≡ n * ((slot_count n - 1) * 14)
size_of-breaks n =
    let of_team : ℕ → List Row = λ i. flat_map (break_rows_at n i) (after_first (slots_of n)) in
    size_of-each of_team ((slot_count n - 1) * 14) (teams_of n)
    (λ k d within.
    size_of-each (break_rows_at n (get_or (teams_of n) k d)) 14 (after_first (slots_of n)) (λ l e inside. refl)
    ∙ ap (λ (m : ℕ). m * 14) (length-later (slot_count n)))
    ∙ ap (λ (k : ℕ). k * ((slot_count n - 1) * 14)) (length-teams n)

-- ---- all of a season

-- the number of terms of all of a season, as it is computed
abbrev pub season_terms : ℕ → Bool → ℕ
season_terms n phased =
    n * (n - 1) * (2 * slot_count n) + n * (slot_count n * (4 * (n - 1))) +
    (if phased then n * (n - 1) / 2 * (4 * (n - 1)) else 0)
    + n * (slot_count n * (2 * n)) + slot_count n * (2 * n) + n * (2 * slot_count n)

pub size_of-halves : (n : ℕ) (phased : Bool)
    → size_of (half_rows n phased) ≡ (if phased then n * (n - 1) / 2 * (4 * (n - 1)) else 0)
size_of-halves n true = half_terms n
size_of-halves n false = refl

pub size_of-season : (n : ℕ) (phased : Bool) → size_of (season_rows n phased) ≡ season_terms n phased
size_of-season n phased =
    omega (
      arith,
      size_of-append (meeting_rows n ++ cell_rows n ++ half_rows n phased ++ venue_rows n ++ slot_rows n)
          (team_rows n),
      size_of-append (meeting_rows n ++ cell_rows n ++ half_rows n phased ++ venue_rows n) (slot_rows n),
      size_of-append (meeting_rows n ++ cell_rows n ++ half_rows n phased) (venue_rows n),
      size_of-append (meeting_rows n ++ cell_rows n) (half_rows n phased),
      size_of-append (meeting_rows n) (cell_rows n),
      meeting_terms n,
      cell_terms n,
      size_of-halves n phased,
      venue_terms n,
      slot_terms n,
      team_terms n,
    )

-- ---- all of a league

pub total_size : (league : Instance) (n teams : ℕ) (phased breaks : Bool) (constraints : List Constraint)
    (season tied hard : ℕ)
    → n ≡ league.n → teams ≡ n → phased ≡ league.phased → constraints ≡ league.constraints
    → breaks ≡ has_breaks constraints
    → season ≡ size_of (season_rows teams phased) → tied ≡ size_of (break_rows teams breaks)
    → hard ≡ size_of (constraint_rows n constraints)
    → season + tied + hard ≡ size_of (rows_of league)
total_size league n teams phased breaks constraints season tied hard same_n same_teams same_phased same_constraints
    are_breaks is_season is_tied is_hard =
    let whole : teams ≡ league.n = same_teams ∙ same_n in
    let first : season ≡ size_of (season_rows league.n league.phased) = is_season
    ∙ ap (λ (k : ℕ). size_of (season_rows k phased)) whole
    ∙ ap (λ (b : Bool). size_of (season_rows league.n b)) same_phased in
    let second : tied ≡ size_of (break_rows league.n (has_breaks league.constraints)) =
    is_tied ∙ ap (λ (k : ℕ). size_of (break_rows k breaks)) whole ∙ ap (λ (b : Bool). size_of (break_rows league.n b))
    (are_breaks ∙ ap (λ (cs : List Constraint). has_breaks cs) same_constraints) in
    let third : hard ≡ size_of (constraint_rows league.n league.constraints) =
    is_hard ∙ ap (λ (k : ℕ). size_of (constraint_rows k constraints)) same_n
    ∙ ap (λ (cs : List Constraint). size_of (constraint_rows league.n cs)) same_constraints in
    omega (
      arith,
      first,
      second,
      third,
      size_of-append (season_rows league.n league.phased ++ break_rows league.n (has_breaks league.constraints))
          (constraint_rows league.n league.constraints),
      size_of-append (season_rows league.n league.phased) (break_rows league.n (has_breaks league.constraints)),
    )
