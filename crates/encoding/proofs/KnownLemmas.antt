-- The variables of a league's rows are those that it has.
use Rattle.std.proofs.Common.{◌≡◌, ℕ, ◌+◌, ◌-◌, ◌*◌, ◌/◌, ◌<◌, ◌≤◌, Bool, true, false, ◌&&◌, ◌||◌, nat_lt, cond}
use Rattle.std.proofs.Common.{List, [], ◌∷◌, ◌++◌}
use Rattle.std.proofs.Common.{get_or, length, map, min as smaller, refl, arith, ap, sym, subst}
use Rattle.std.proofs.Math.Nat.{mul-le-mul_right}
use Rattle.std.proofs.lemmas.Bool.{ltb-true}
use Rattle.std.proofs.lemmas.List.Elements.{All-append, All-cons, All-filter, All-map, All-nil}
use Rattle.std.proofs.lemmas.List.Elements.{filter_passes}
use Rattle.std.specs.List.{All, filter, flat_map, list_any, range_with_len}
use Rattle.league.specs.Accepted.{hard_of}
use Rattle.league.specs.Capacity.{is_between, meetings_with, windows_of}
use Rattle.league.specs.Counts.{slot_count, slots_of, teams_of}
use Rattle.league.specs.Deviation.{spans}
use Rattle.league.specs.Instance.{Instance, IsInstance, are_meetings, are_slots, are_teams, class_fits, is_one_side}
use Rattle.league.specs.Meetings.{meetings_of, pairs_of}
use Rattle.league.specs.Structure.{first_half}
use Rattle.league.specs.declared.class.Class.{Class}
use Rattle.league.specs.declared.class.Class.TheVariants.{Ca1, Ca2, Ca3, Ca4, Ga1, Br1, Br2, Fa2, Se1}
use Rattle.league.specs.declared.class.Constraint.{Constraint}
use Rattle.league.specs.declared.class.Side.{Side}
use Rattle.league.specs.declared.class.Side.TheVariants.{H, A, Both}
use Rattle.league.specs.declared.class.Span.{Span}
use Rattle.league.specs.declared.class.Span.TheVariants.{Global, Every}
use Rattle.league.proofs.AscendingLemmas.{first_true, second_true}
use Rattle.league.proofs.OneTermLemmas.{All-flat_map}
use Rattle.rows.specs.Cardinality.{at_least, at_most, between, exactly, unit}
use Rattle.rows.specs.Literals.{Literal, negate, no, yes}
use Rattle.rows.specs.Rows.{Row}
use Rattle.rows.specs.declared.lit.Term.{Term}
use Rattle.encoding.specs.Ascending.{AreMeetings, AreSlots, AreTeams, AscendsBy}
use Rattle.encoding.specs.Demands.{br1_rows, ca1_rows, ca2_rows, ca3_rows, ca4_rows, fa2_rows, fa2_rows_at}
use Rattle.encoding.specs.Demands.{se1_rows, separation_windows}
use Rattle.encoding.specs.Encoding.{class_rows, constraint_rows, demands, rows_of, season_rows}
use Rattle.encoding.specs.Known.{AreKnown, IsKnown}
use Rattle.encoding.specs.Lists.{after_first, at_home_in, away_breaks_at, away_in, breaks_in, home_breaks_at}
use Rattle.encoding.specs.Lists.{games_in, meetings_in_order, slots_up_to, venues_in}
use Rattle.encoding.specs.Season.{both_needed, break_rows, break_rows_at, cell_rows, cell_rows_at, game_needs_home}
use Rattle.encoding.specs.Season.{half_rows, home_games_in, home_needs_game, meeting_rows, neither_needed, slot_rows}
use Rattle.encoding.specs.Season.{team_rows, venue_rows}
use Rattle.encoding.specs.Variables.{ab_var, bounds_breaks, h_count, h_var, has_breaks, hb_count, hb_var, var_count}
use Rattle.encoding.specs.Variables.{x_count}
use Rattle.encoding.proofs.AscendLemmas.{AscendsBy-above, AscendsBy-below, AscendsBy-high}
use Rattle.encoding.proofs.AscendLemmas.{AscendsBy-low, AscendsBy-map, AscendsBy-range}
use Rattle.encoding.proofs.LiteralOrder.{all_breaks_ascend, away_ascend, away_break_base, breaks_ascend, games_ascend}
use Rattle.encoding.proofs.LiteralOrder.{home_ascend, home_base, home_break_base, lead_ascend, lead_back_ascend}
use Rattle.encoding.proofs.LiteralOrder.{teams_ascend}
use Rattle.encoding.proofs.MeetingOrder.{AreMeetings-all, AreMeetings-both, AreMeetings-filter, AreMeetings-from_test}
use Rattle.encoding.proofs.MeetingOrder.{AreMeetings-in_order, AreMeetings-one, AreSlots-all, AreSlots-from_test}
use Rattle.encoding.proofs.MeetingOrder.{AreTeams-all, AreTeams-from_test, meetings_with-both, pairs_of-in_order}
use Rattle.encoding.proofs.PlaceLemmas.{b_place-below, ab_var-place, h_place-below, h_var-place, hb_var-place}
use Rattle.encoding.proofs.TieLemmas.{AreSlots-one, game_tie_ascend, home_tie_ascend}

abbrev var_of : Literal → ℕ
var_of l = l.var

abbrev term_var : Term → ℕ
term_var t = t.lit.var

-- literals that ascend among the variables from 1 to vars
abbrev AreAmong : ℕ → List Literal → Type 0
AreAmong vars literals = AscendsBy (λ l. l.var) 1 literals (vars + 1)

among : (vars low : ℕ) (literals : List Literal) (high : ℕ) → 1 ≤ low → high ≤ vars + 1
    → AscendsBy (λ l. l.var) low literals high → AreAmong vars literals
among vars low literals high start end ascends = AscendsBy-high var_of 1 literals high (vars + 1) end
    (AscendsBy-low var_of 1 low literals high start ascends)

-- ---- rows of such literals

module _ (vars : ℕ) where
  units : (literals : List Literal) → AreAmong vars literals → All (λ t. (1 ≤ t.lit.var) × (t.lit.var ≤ vars))
      (map unit literals)
  units literals are =
      All-map (λ t. (1 ≤ t.lit.var) × (t.lit.var ≤ vars)) unit literals
      (λ k d within. (
        AscendsBy-above var_of 1 literals (vars + 1) are k d within,
        omega
            (arith, AscendsBy-below var_of 1 literals (vars + 1) are k d within),
      ))

  least : (degree : ℕ) (literals : List Literal) → AreAmong vars literals → IsKnown vars (at_least degree literals)
  least degree literals are = units literals are

  most : (bound : ℕ) (literals : List Literal) → AreAmong vars literals → IsKnown vars (at_most bound literals)
  most bound literals are = units (map negate literals) (AscendsBy-map var_of negate 1 literals (vars + 1) are)

  one : (row : Row) → IsKnown vars row → AreKnown vars (row ∷ [])
  one row is = All-cons (IsKnown vars) row [] is (All-nil (IsKnown vars))

  two : (first second : Row) → IsKnown vars first → IsKnown vars second → AreKnown vars (first ∷ second ∷ [])
  two first second is are = All-cons (IsKnown vars) first (second ∷ []) is (one second are)

  both : (low high : ℕ) (literals : List Literal) → AreAmong vars literals → AreKnown vars (between low high literals)
  both low high literals are = two (at_least low literals) (at_most high literals) (least low literals are)
      (most high literals are)

  -- ---- a season

  module _ (n : ℕ) (wide : x_count n + h_count n ≤ vars) where
    games : (meetings : List (ℕ × ℕ)) (slots : List ℕ) → AreMeetings n meetings → AreSlots n slots
        → AreAmong vars (games_in n meetings slots)
    games meetings slots are_meetings are_slots = among vars 1 (games_in n meetings slots) (1 + x_count n)
        (omega arith) (omega (arith, wide)) (games_ascend n meetings slots are_meetings are_slots)

    venues_end : (i : ℕ) → i < n → home_base n (i + 1) ≤ vars + 1
    venues_end i within =
        let next : i + 1 ≤ n = omega (arith, within) in
        omega (arith, mul-le-mul_right (slot_count n) next, wide)

    home : (i : ℕ) (slots : List ℕ) → i < n → AreSlots n slots → AreAmong vars (at_home_in n i slots)
    home i slots within are = among vars (home_base n i) (at_home_in n i slots) (home_base n (i + 1)) (omega arith)
        (venues_end i within) (home_ascend n i slots are)

    away : (i : ℕ) (slots : List ℕ) → i < n → AreSlots n slots → AreAmong vars (away_in n i slots)
    away i slots within are = among vars (home_base n i) (away_in n i slots) (home_base n (i + 1)) (omega arith)
        (venues_end i within) (away_ascend n i slots are)

    h-known : (i s : ℕ) → i < n → s < slot_count n → h_var n i s ≤ vars
    h-known i s team slot = omega (arith, h_var-place n i s, h_place-below n i s team slot, wide)

    team_below : (k d : ℕ) → k < length (teams_of n) → get_or (teams_of n) k d < n
    team_below k d within = AscendsBy-below (λ t. t) 0 (teams_of n) n (AreTeams-all n) k d within

    slot_below : (k d : ℕ) → k < length (slots_of n) → get_or (slots_of n) k d < slot_count n
    slot_below k d within = AscendsBy-below (λ s. s) 0 (slots_of n) (slot_count n) (AreSlots-all n) k d within

    -- what is known for each team and slot
    cells : (f : ℕ → ℕ → List Row) → ((i s : ℕ) → i < n → s < slot_count n → AreKnown vars (f i s))
        → AreKnown vars (flat_map (λ i. flat_map (f i) (slots_of n)) (teams_of n))
    cells f known =
        All-flat_map (IsKnown vars) (λ i. flat_map (f i) (slots_of n)) (teams_of n)
        (λ k d within. All-flat_map (IsKnown vars) (f (get_or (teams_of n) k d)) (slots_of n)
        (λ l e inside. known (get_or (teams_of n) k d) (get_or (slots_of n) l e) (team_below k d within)
        (slot_below l e inside)))

    meeting_rows-known : AreKnown vars (meeting_rows n)
    meeting_rows-known =
        let f : ℕ × ℕ → List Row = λ p. exactly 1 (games_in n (p ∷ []) (slots_of n)) in
        All-flat_map (IsKnown vars) f (meetings_of n)
        (λ k d within.
        let p : ℕ × ℕ = get_or (meetings_of n) k d in
        let all = AreMeetings-all n in
        both 1 1 (games_in n (p ∷ []) (slots_of n))
        (games (p ∷ []) (slots_of n) (AreMeetings-one n p (all.fit k d within)) (AreSlots-all n)))

    cell_rows-known : AreKnown vars (cell_rows n)
    cell_rows-known = cells (cell_rows_at n) (λ i s team slot.
        let meetings : List (ℕ × ℕ) = meetings_in_order Both i (teams_of n) in
        both 1 1 (games_in n meetings (s ∷ []))
        (games meetings (s ∷ []) (AreMeetings-in_order n Both i (teams_of n) team (AreTeams-all n))
        (AreSlots-one n s slot)))

    half_rows-known : (phased : Bool) → AreKnown vars (half_rows n phased)
    half_rows-known false = All-nil (IsKnown vars)
    half_rows-known true =
        let f : ℕ × ℕ → List Row = λ p. exactly 1 (games_in n (p ∷ (p.1, p.0) ∷ []) (first_half n)) in
        All-flat_map (IsKnown vars) f (pairs_of (teams_of n))
        (λ k d within.
        let p : ℕ × ℕ = get_or (pairs_of (teams_of n)) k d in
        let order = pairs_of-in_order n 0 (teams_of n) (AreTeams-all n) k d within in
        both 1 1 (games_in n (p ∷ (p.1, p.0) ∷ []) (first_half n))
        (games (p ∷ (p.1, p.0) ∷ []) (first_half n) (AreMeetings-both n p.0 p.1 order.0 order.1)
        (AscendsBy-range 0 (n - 1) (slot_count n) (omega arith))))

    venue_rows-known : AreKnown vars (venue_rows n)
    venue_rows-known = cells (λ i s. home_needs_game n i s ∷ game_needs_home n i s ∷ []) (λ i s team slot.
        let terms : List Term = (game_needs_home n i s).terms in
        let ascends : AscendsBy (λ t. t.lit.var) 1 terms (h_var n i s + 1) = game_tie_ascend n i s team slot in
        two (home_needs_game n i s) (game_needs_home n i s)
        (least 1 (home_games_in n i s ++ no (h_var n i s) ∷ [])
        (among vars 1 (home_games_in n i s ++ no (h_var n i s) ∷ []) (h_var n i s + 1) (omega arith)
        (omega (arith, h-known i s team slot)) (home_tie_ascend n i s team slot)))
        (λ k d within. (
          AscendsBy-above term_var 1 terms (h_var n i s + 1) ascends k d within,
          omega
              (arith, AscendsBy-below term_var 1 terms (h_var n i s + 1) ascends k d within, h-known i s team slot),
        )))

    slot_rows-known : AreKnown vars (slot_rows n)
    slot_rows-known =
        let literals : ℕ → List Literal = λ s. map (λ i. yes (h_var n i s)) (teams_of n) in
        All-flat_map (IsKnown vars) (λ s. exactly (n / 2) (literals s)) (slots_of n)
        (λ k d within.
        let s : ℕ = get_or (slots_of n) k d in
        both (n / 2) (n / 2) (literals s)
        (among vars (home_base n 0) (literals s) (home_base n n) (omega arith) (omega (arith, wide))
        (teams_ascend n s (teams_of n) (slot_below k d within) (AreTeams-all n))))

    team_rows-known : AreKnown vars (team_rows n)
    team_rows-known =
        All-flat_map (IsKnown vars) (λ i. exactly (n - 1) (at_home_in n i (slots_of n))) (teams_of n)
        (λ k d within.
        let i : ℕ = get_or (teams_of n) k d in
        both (n - 1) (n - 1) (at_home_in n i (slots_of n))
        (home i (slots_of n) (team_below k d within) (AreSlots-all n)))

    pub season_rows-known : (phased : Bool) → AreKnown vars (season_rows n phased)
    season_rows-known phased =
        All-append (IsKnown vars) (meeting_rows n ++ cell_rows n ++ half_rows n phased ++ venue_rows n ++ slot_rows n)
        (team_rows n)
        (All-append (IsKnown vars) (meeting_rows n ++ cell_rows n ++ half_rows n phased ++ venue_rows n) (slot_rows n)
        (All-append (IsKnown vars) (meeting_rows n ++ cell_rows n ++ half_rows n phased) (venue_rows n)
        (All-append (IsKnown vars) (meeting_rows n ++ cell_rows n) (half_rows n phased)
        (All-append (IsKnown vars) (meeting_rows n) (cell_rows n) meeting_rows-known cell_rows-known)
        (half_rows-known phased))
        venue_rows-known)
        slot_rows-known)
        team_rows-known

    -- ---- breaks

    module _ (wide_breaks : x_count n + h_count n + 2 * hb_count n ≤ vars) where
      clause : (degree : ℕ) (literals : List Literal) (high : ℕ) → AscendsBy (λ l. l.var) 1 literals high
          → high ≤ vars + 1 → IsKnown vars (at_least degree literals)
      clause degree literals high ascends end = least degree literals
          (among vars 1 literals high (omega arith) end ascends)

      three : (first second third : Row) → IsKnown vars first → IsKnown vars second → IsKnown vars third
          → AreKnown vars (first ∷ second ∷ third ∷ [])
      three first second third a b c = All-cons (IsKnown vars) first (second ∷ third ∷ []) a (two second third b c)

      both_needed-known : (p q b : ℕ) → 1 ≤ p → p < q → q < b → b ≤ vars → AreKnown vars (both_needed p q b)
      both_needed-known p q b start first second end =
          three (at_least 1 (yes p ∷ no b ∷ [])) (at_least 1 (yes q ∷ no b ∷ []))
          (at_least 1 (no p ∷ no q ∷ yes b ∷ []))
          (clause 1 (yes p ∷ no b ∷ []) (b + 1) (omega arith, (omega arith, omega arith)) (omega arith))
          (clause 1 (yes q ∷ no b ∷ []) (b + 1) (omega arith, (omega arith, omega arith)) (omega arith))
          (clause 1 (no p ∷ no q ∷ yes b ∷ []) (b + 1) (omega arith, (omega arith, (omega arith, omega arith)))
          (omega arith))

      neither_needed-known : (p q b : ℕ) → 1 ≤ p → p < q → q < b → b ≤ vars → AreKnown vars (neither_needed p q b)
      neither_needed-known p q b start first second end =
          three (at_least 1 (no p ∷ no b ∷ [])) (at_least 1 (no q ∷ no b ∷ []))
          (at_least 1 (yes p ∷ yes q ∷ yes b ∷ []))
          (clause 1 (no p ∷ no b ∷ []) (b + 1) (omega arith, (omega arith, omega arith)) (omega arith))
          (clause 1 (no q ∷ no b ∷ []) (b + 1) (omega arith, (omega arith, omega arith)) (omega arith))
          (clause 1 (yes p ∷ yes q ∷ yes b ∷ []) (b + 1) (omega arith, (omega arith, (omega arith, omega arith)))
          (omega arith))

      break_rows_at-known : (i s : ℕ) → i < n → 0 < s → s < slot_count n → AreKnown vars (break_rows_at n i s)
      break_rows_at-known i s team later slot =
          let now : h_var n i s ≤ x_count n + h_count n = omega
          (arith, h_var-place n i s, h_place-below n i s team slot) in
          let place = b_place-below n i s team later slot in
          All-append (IsKnown vars) (both_needed (h_var n i (s - 1)) (h_var n i s) (hb_var n i s))
          (neither_needed (h_var n i (s - 1)) (h_var n i s) (ab_var n i s))
          (both_needed-known (h_var n i (s - 1)) (h_var n i s) (hb_var n i s) (omega arith) (omega (arith, later))
          (omega (arith, now, hb_var-place n i s)) (omega (arith, place, hb_var-place n i s, wide_breaks)))
          (neither_needed-known (h_var n i (s - 1)) (h_var n i s) (ab_var n i s) (omega arith) (omega (arith, later))
          (omega (arith, now, ab_var-place n i s)) (omega (arith, place, ab_var-place n i s, wide_breaks)))

      all_break_rows-known : AreKnown vars (break_rows n true)
      all_break_rows-known =
          let slots : List ℕ = after_first (slots_of n) in
          All-flat_map (IsKnown vars) (λ i. flat_map (break_rows_at n i) slots) (teams_of n)
          (λ k d within. All-flat_map (IsKnown vars) (break_rows_at n (get_or (teams_of n) k d)) slots
          (λ l e inside. break_rows_at-known (get_or (teams_of n) k d) (get_or slots l e) (team_below k d within)
          (ltb-true 0 (get_or slots l e) (filter_passes (λ s. nat_lt 0 s) (slots_of n) l e inside))
          (All-filter (λ s. nat_lt 0 s) (λ s. s < slot_count n) (slots_of n)
          (AscendsBy-below (λ s. s) 0 (slots_of n) (slot_count n) (AreSlots-all n)) l e inside)))

      breaks_among : (side : Side) (i : ℕ) (slots : List ℕ) → i < n → AreSlots n slots
          → AreAmong vars (breaks_in side n i slots)
      breaks_among side i slots within are =
          among vars (home_break_base n 0) (breaks_in side n i slots) (away_break_base n n) (omega arith)
          (omega (arith, wide_breaks)) (breaks_ascend n side i slots within are)

    -- ---- classes

    keys : (rows : List (List Row)) → All (λ key. AreKnown vars key) rows
        → AreKnown vars (filter demands (flat_map (λ key. key) rows))
    keys rows known = All-filter demands (IsKnown vars) (flat_map (λ key. key) rows)
        (All-flat_map (IsKnown vars) (λ key. key) rows known)

    one_key : (key : List Row) → AreKnown vars key → AreKnown vars (filter demands (flat_map (λ key. key) (key ∷ [])))
    one_key key known = keys (key ∷ [])
        (All-cons (λ key. AreKnown vars key) key [] known (All-nil (λ key. AreKnown vars key)))

    each_key : {K : Type 0} (f : K → List Row) (items : List K) → All (λ x. AreKnown vars (f x)) items
        → AreKnown vars (filter demands (flat_map (λ key. key) (map f items)))
    each_key f items known = keys (map f items) (All-map (λ key. AreKnown vars key) f items known)

    venues : (side : Side) (i : ℕ) (slots : List ℕ) → i < n → AreSlots n slots
        → AreAmong vars (venues_in side n i slots)
    venues H i slots within are = home i slots within are
    venues A i slots within are = away i slots within are
    venues Both i slots within are = omega arith

    team_in : (teams : List ℕ) (k d : ℕ) → AreTeams n teams → k < length teams → get_or teams k d < n
    team_in teams k d are within = AscendsBy-below (λ t. t) 0 teams n are k d within

    against : (teams2 : List ℕ) (min max : ℕ) (side : Side) (slots : List ℕ) (i : ℕ) → AreTeams n teams2
        → AreSlots n slots → i < n → AreKnown vars (ca2_rows n teams2 min max side slots i)
    against teams2 min max side slots i are_teams are_slots within =
        both min max (games_in n (meetings_in_order side i teams2) slots)
        (games (meetings_in_order side i teams2) slots (AreMeetings-in_order n side i teams2 within are_teams)
        are_slots)

    -- each window is one of slots of the season
    windows_fit : (intp : ℕ) → All (AreSlots n) (windows_of n intp)
    windows_fit intp =
        let firsts : List ℕ = range_with_len 0 (slot_count n + 1 - intp) in
        All-map (AreSlots n) (λ first. range_with_len first intp) firsts
        (λ k d within.
        let first : ℕ = get_or firsts k d in
        let small : first < slot_count n + 1 - intp = AscendsBy-below (λ s. s) 0 firsts (slot_count n + 1 - intp)
        (AscendsBy-range 0 (slot_count n + 1 - intp) (slot_count n + 1 - intp) (omega arith)) k d within in
        AscendsBy-low (λ s. s) 0 first (range_with_len first intp) (slot_count n) (omega arith)
        (AscendsBy-range first intp (slot_count n) (omega (arith, small))))

    spans_fit : (span : Span) (slots : List ℕ) → AreSlots n slots → All (AreSlots n) (spans span slots)
    spans_fit Global slots are = All-cons (AreSlots n) slots [] are (All-nil (AreSlots n))
    spans_fit Every slots are =
        All-map (AreSlots n) (λ s. s ∷ []) slots
        (λ k d within. AreSlots-one n (get_or slots k d)
        (AscendsBy-below (λ s. s) 0 slots (slot_count n) are k d within))

    lead_rows : (intp s : ℕ) (p : ℕ × ℕ) → p.0 < p.1 → p.1 < n → s < slot_count n
        → AreKnown vars (fa2_rows_at n intp p s)
    lead_rows intp s p before within slot =
        let so_far : List ℕ = slots_up_to s in
        let are : AreSlots n so_far = AscendsBy-range 0 (s + 1) (slot_count n) (omega (arith, slot)) in
        two (at_least (s + 1 - intp) (away_in n p.0 so_far ++ at_home_in n p.1 so_far))
        (at_least (s + 1 - intp) (at_home_in n p.0 so_far ++ away_in n p.1 so_far))
        (least (s + 1 - intp) (away_in n p.0 so_far ++ at_home_in n p.1 so_far)
        (among vars (home_base n p.0) (away_in n p.0 so_far ++ at_home_in n p.1 so_far) (home_base n (p.1 + 1))
        (omega arith) (venues_end p.1 within) (lead_ascend n p.0 p.1 so_far before are)))
        (least (s + 1 - intp) (at_home_in n p.0 so_far ++ away_in n p.1 so_far)
        (among vars (home_base n p.0) (at_home_in n p.0 so_far ++ away_in n p.1 so_far) (home_base n (p.1 + 1))
        (omega arith) (venues_end p.1 within) (lead_back_ascend n p.0 p.1 so_far before are)))

    mutual_row : (p : ℕ × ℕ) (window : List ℕ) → p.0 < p.1 → p.1 < n → AreSlots n window
        → IsKnown vars (at_most 1 (games_in n (meetings_with Both p.0 (p.1 ∷ [])) window))
    mutual_row p window before within are =
        let meetings : AreMeetings n (meetings_with Both p.0 (p.1 ∷ [])) =
        subst (λ (ms : List (ℕ × ℕ)). AreMeetings n ms) (sym (meetings_with-both p.0 p.1 (omega (arith, before))))
        (AreMeetings-both n p.0 p.1 before within) in
        most 1 (games_in n (meetings_with Both p.0 (p.1 ∷ [])) window)
        (games (meetings_with Both p.0 (p.1 ∷ [])) window meetings are)

    -- the tests of a class that fits
    pub class_rows-known : (class : Class) → class_fits n class ≡ true
        → (bounds_breaks class ≡ true → x_count n + h_count n + 2 * hb_count n ≤ vars)
        → AreKnown vars (class_rows n class)
    class_rows-known (Ca1 teams min max side slots) fits breaks =
        let sets = first_true (are_teams n teams && are_slots n slots) (is_one_side side) fits in
        let ts = AreTeams-from_test n teams (first_true (are_teams n teams) (are_slots n slots) sets) in
        let ss = AreSlots-from_test n slots (second_true (are_teams n teams) (are_slots n slots) sets) in
        each_key (ca1_rows n min max side slots) teams
        (λ k d within. both min max (venues_in side n (get_or teams k d) slots)
        (venues side (get_or teams k d) slots (team_in teams k d ts within) ss))
    class_rows-known (Ca2 teams1 teams2 min max side slots) fits breaks =
        let sets = first_true (are_teams n teams1 && are_teams n teams2) (are_slots n slots) fits in
        let ts = AreTeams-from_test n teams1 (first_true (are_teams n teams1) (are_teams n teams2) sets) in
        let us = AreTeams-from_test n teams2 (second_true (are_teams n teams1) (are_teams n teams2) sets) in
        let ss = AreSlots-from_test n slots
        (second_true (are_teams n teams1 && are_teams n teams2) (are_slots n slots) fits) in
        each_key (ca2_rows n teams2 min max side slots) teams1
        (λ k d within. against teams2 min max side slots (get_or teams1 k d) us ss (team_in teams1 k d ts within))
    class_rows-known (Ca3 teams1 teams2 min max intp side) fits breaks =
        let sets = first_true (are_teams n teams1 && are_teams n teams2) (nat_lt 0 intp) fits in
        let ts = AreTeams-from_test n teams1 (first_true (are_teams n teams1) (are_teams n teams2) sets) in
        let us = AreTeams-from_test n teams2 (second_true (are_teams n teams1) (are_teams n teams2) sets) in
        each_key (ca3_rows n teams2 min max intp side) teams1
        (λ k d within.
        let i : ℕ = get_or teams1 k d in
        All-flat_map (IsKnown vars) (λ window. ca2_rows n teams2 min max side window i) (windows_of n intp)
        (λ l e inside. against teams2 min max side (get_or (windows_of n intp) l e) i us (windows_fit intp l e inside)
        (team_in teams1 k d ts within)))
    class_rows-known (Ca4 teams1 teams2 min max side span slots) fits breaks =
        let ss = AreSlots-from_test n slots
        (second_true (are_teams n teams1 && are_teams n teams2) (are_slots n slots) fits) in
        let meetings : List (ℕ × ℕ) = filter (is_between side teams1 teams2) (meetings_of n) in
        let are : AreMeetings n meetings = AreMeetings-filter n (is_between side teams1 teams2) (meetings_of n)
        (AreMeetings-all n) in
        each_key (ca4_rows n teams1 teams2 min max side) (spans span slots)
        (λ k d within. both min max (games_in n meetings (get_or (spans span slots) k d))
        (games meetings (get_or (spans span slots) k d) are (spans_fit span slots ss k d within)))
    class_rows-known (Ga1 meetings min max slots) fits breaks =
        let ms = AreMeetings-from_test n meetings (first_true (are_meetings n meetings) (are_slots n slots) fits) in
        let ss = AreSlots-from_test n slots (second_true (are_meetings n meetings) (are_slots n slots) fits) in
        one_key (between min max (games_in n meetings slots))
        (both min max (games_in n meetings slots) (games meetings slots ms ss))
    class_rows-known (Br1 teams intp side slots) fits breaks =
        let ts = AreTeams-from_test n teams (first_true (are_teams n teams) (are_slots n slots) fits) in
        let ss = AreSlots-from_test n slots (second_true (are_teams n teams) (are_slots n slots) fits) in
        each_key (br1_rows n intp side slots) teams
        (λ k d within.
        let i : ℕ = get_or teams k d in
        one (at_most intp (breaks_in side n i slots))
        (most intp (breaks_in side n i slots)
        (breaks_among (breaks refl) side i slots (team_in teams k d ts within) ss)))
    class_rows-known (Br2 teams intp slots) fits breaks =
        let ts = AreTeams-from_test n teams (first_true (are_teams n teams) (are_slots n slots) fits) in
        let ss = AreSlots-from_test n slots (second_true (are_teams n teams) (are_slots n slots) fits) in
        let literals : List Literal = flat_map (λ i. home_breaks_at n i slots) teams ++ flat_map
        (λ i. away_breaks_at n i slots) teams in
        one_key (at_most intp literals ∷ [])
        (one (at_most intp literals)
        (most intp literals (among vars (home_break_base n 0) literals (away_break_base n n) (omega arith)
        (omega (arith, breaks refl)) (all_breaks_ascend n teams slots ts ss))))
    class_rows-known (Fa2 teams intp slots) fits breaks =
        let ts = AreTeams-from_test n teams (first_true (are_teams n teams) (are_slots n slots) fits) in
        let ss = AreSlots-from_test n slots (second_true (are_teams n teams) (are_slots n slots) fits) in
        each_key (fa2_rows n intp slots) (pairs_of teams)
        (λ k d within.
        let p : ℕ × ℕ = get_or (pairs_of teams) k d in
        let order = pairs_of-in_order n 0 teams ts k d within in
        All-flat_map (IsKnown vars) (fa2_rows_at n intp p) slots
        (λ l e inside. lead_rows intp (get_or slots l e) p order.0 order.1
        (AscendsBy-below (λ s. s) 0 slots (slot_count n) ss l e inside)))
    class_rows-known (Se1 teams min) fits breaks =
        let ts = AreTeams-from_test n teams fits in
        each_key (se1_rows n min) (pairs_of teams)
        (λ k d within.
        let p : ℕ × ℕ = get_or (pairs_of teams) k d in
        let order = pairs_of-in_order n 0 teams ts k d within in
        let row : List ℕ → Row = λ window. at_most 1 (games_in n (meetings_with Both p.0 (p.1 ∷ [])) window) in
        All-map (IsKnown vars) row (separation_windows n min)
        (λ l e inside. mutual_row p (get_or (separation_windows n min) l e) order.0 order.1
        (windows_fit (smaller (min + 1) (slot_count n)) l e inside)))

-- ---- the hard constraints

-- none passes where not any does
none_passes : {X : Type 0} (p : X → Bool) (xs : List X) → list_any p xs ≡ false → All (λ x. p x ≡ false) xs
none_passes p [] none = All-nil (λ x. p x ≡ false)
none_passes p (x ∷ xs) none = All-cons (λ x. p x ≡ false) x xs (first_fails (p x) (list_any p xs) none)
    (none_passes p xs (rest_fails (p x) (list_any p xs) none)) where
      first_fails : (a b : Bool) → (a || b) ≡ false → a ≡ false
      first_fails true b h = absurd (cc)
      first_fails false b h = refl

      rest_fails : (a b : Bool) → (a || b) ≡ false → b ≡ false
      rest_fails true b h = absurd (cc)
      rest_fails false b h = h

soft_or_other : (hard bounds : Bool) → (hard && bounds) ≡ false → hard ≡ true → bounds ≡ true → ⊥
soft_or_other true true none hard bounds = absurd (cc)
soft_or_other true false none hard bounds = cc
soft_or_other false bounds none hard bounded = cc

pub constraint_rows-known : (vars n : ℕ) (constraints : List Constraint) → x_count n + h_count n ≤ vars
    → All (λ c. class_fits n c.class ≡ true) constraints
    → (has_breaks constraints ≡ true → x_count n + h_count n + 2 * hb_count n ≤ vars)
    → AreKnown vars (constraint_rows n constraints)
constraint_rows-known vars n constraints wide fit breaks =
    All-flat_map (IsKnown vars) (λ c. class_rows n c.class) (hard_of constraints)
    (λ k d within.
    let c : Constraint = get_or (hard_of constraints) k d in
    class_rows-known vars n wide c.class
    (All-filter (λ c. c.hard) (λ c. class_fits n c.class ≡ true) constraints fit k d within)
    (λ bounds. by (has_breaks constraints) refl k d within bounds)) where
      by : (b : Bool) → has_breaks constraints ≡ b → (k : ℕ) (d : Constraint) → k < length (hard_of constraints)
          → bounds_breaks (get_or (hard_of constraints) k d).class ≡ true
          → x_count n + h_count n + 2 * hb_count n ≤ vars
      by true some k d within bounds = breaks some
      by false none k d within bounds =
          let c : Constraint = get_or (hard_of constraints) k d in
          absurd (soft_or_other c.hard (bounds_breaks c.class)
          (All-filter (λ c. c.hard) (λ c. (c.hard && bounds_breaks c.class) ≡ false) constraints
          (none_passes (λ c. c.hard && bounds_breaks c.class) constraints none) k d within)
          (filter_passes (λ c. c.hard) constraints k d within) bounds)

-- ---- all rows of a league

break_rows-known : (vars n : ℕ) (breaks : Bool) → x_count n + h_count n ≤ vars
    → (breaks ≡ true → x_count n + h_count n + 2 * hb_count n ≤ vars) → AreKnown vars (break_rows n breaks)
break_rows-known vars n false wide some = All-nil (IsKnown vars)
break_rows-known vars n true wide some = all_break_rows-known vars n wide (some refl)

pub rows_of-known : (league : Instance) → IsInstance league → AreKnown (var_count league) (rows_of league)
rows_of-known league is =
    let n : ℕ = league.n in
    let vars : ℕ = var_count league in
    let wide : x_count n + h_count n ≤ vars = omega arith in
    let some : has_breaks league.constraints ≡ true → x_count n + h_count n + 2 * hb_count n ≤ vars = λ breaks.
    omega (arith, ap (λ (b : Bool). cond b (2 * hb_count n) 0) breaks) in
    All-append (IsKnown vars) (season_rows n league.phased ++ break_rows n (has_breaks league.constraints))
    (constraint_rows n league.constraints)
    (All-append (IsKnown vars) (season_rows n league.phased) (break_rows n (has_breaks league.constraints))
    (season_rows-known vars n wide league.phased)
    (break_rows-known vars n (has_breaks league.constraints) wide some))
    (constraint_rows-known vars n league.constraints wide is.fit some)
