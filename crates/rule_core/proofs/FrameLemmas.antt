-- The law of the frame, by class: a game changes the entries of the keys that it touches alone.
use Rattle.std.proofs.Common.{◌≡◌, ◌≢◌, ℕ, ◌+◌, ◌<◌, Bool, true, false, ◌&&◌, ◌||◌, ◌==◌, List, [], ◌∷◌, length, map, get_or, arith, ap, sym, ◌∙◌, inl, inr, Contains}
use Rattle.std.specs.Prelude.{nat_le}
use Rattle.std.proofs.lemmas.Bool.{and_cases, cond_both, or_parts}
use Rattle.std.proofs.lemmas.Bool.Decides.{nat_tests}
use Rattle.std.proofs.lemmas.List.{get_or-map}
use Rattle.std.proofs.lemmas.List.Elements.{All-cons, All-nil}
use Rattle.std.specs.List.{All, filter, list_any}
use Rattle.league.specs.Bounds.{outside}
use Rattle.league.specs.Breaks.{br1_entry, breaks_at}
use Rattle.league.specs.Capacity.{ca1_entry, ca2_entry, ca3_entry, ca4_entry, is_between, windows_of}
use Rattle.league.specs.Counts.{Counts, one_more}
use Rattle.league.specs.Deviation.{entry_of, spans}
use Rattle.league.specs.Fairness.{fa2_entry}
use Rattle.league.specs.Instance.{IsGame}
use Rattle.league.specs.Meetings.{meetings_of, pairs_of}
use Rattle.league.specs.Separation.{lacking, se1_entry}
use Rattle.league.specs.Sets.{is_in}
use Rattle.league.specs.Venues.{games_on}
use Rattle.league.specs.declared.class.Class.{Class}
use Rattle.league.specs.declared.class.Class.TheVariants.{Ca1, Ca2, Ca3, Ca4, Ga1, Br1, Br2, Fa2, Se1}
use Rattle.league.specs.declared.class.Side.{Side}
use Rattle.league.specs.declared.class.Side.TheVariants.{H, A, Both}
use Rattle.league.specs.declared.class.Span.{Span}
use Rattle.league.specs.declared.game.Game.{Game}
use Rattle.league.proofs.MemberLemmas.{is_in-lacks}
use Rattle.league.proofs.SumLemmas.{sum_by-same, sum_by-same_in}
use Rattle.rule_core.specs.Keys.{keys_where}
use Rattle.rule_core.specs.Meetings.{is_listed}
use Rattle.rule_core.specs.Pairs.{has_team, keys_with}
use Rattle.rule_core.specs.Ready.{entry_count}
use Rattle.rule_core.specs.Touched.{can_break, plays_against, plays_on, touched_keys}
use Rattle.rule_core.proofs.BreakLemmas.{br1_entry-same, br2_entry-same, breaks_at-elsewhere, breaks_at-not_at_home, breaks_at-not_away, breaks_at-not_there}
use Rattle.rule_core.proofs.GameLemmas.{games_on-elsewhere, games_on-not_at_home, games_on-not_away}
use Rattle.rule_core.proofs.KeyLemmas.{if_lacks, keys_where-lacks, only_key-lacks}
use Rattle.rule_core.proofs.LeadLemmas.{all_before, apart, fa2_entry-same, home_played-same, not_first, not_second}
use Rattle.rule_core.proofs.MeetingLemmas.{games_of-elsewhere, games_of-other_meeting, games_of-unlisted}
use Rattle.rule_core.proofs.MutualLemmas.{plays, same_mutual_games}
use Rattle.rule_core.proofs.OpponentLemmas.{between, between-elsewhere, games_of-same, one_more-other_away, one_more-other_home}

-- two lists that are mapped agree where the values there agree
same_at : {X : Type 0} (f h : X → ℕ) (xs : List X) (k : ℕ) (d : X) → k < length xs → f (get_or xs k d) ≡ h (get_or xs k d) → get_or (map f xs) k 0 ≡ get_or (map h xs) k 0
same_at f h xs k d inside same = get_or-map f xs k d 0 inside ∙ same ∙ sym (get_or-map h xs k d 0 inside)

differs : (x t : ℕ) → (x == t) ≡ false → x ≢ t
differs x t h same = grind (arith, nat_tests)

-- ---- a team that doesn't play the game on a side, and one that plays it against none of some others

games_on-not_playing : (n : ℕ) (m : Counts) (side : Side) (g : Game) (i s : ℕ) → IsGame n g → plays_on side g i ≡ false → games_on n (one_more m g) side i s ≡ games_on n m side i s
games_on-not_playing n m H g i s fits out = games_on-not_at_home n m g i s fits (differs i g.home.0 out)
games_on-not_playing n m A g i s fits out = games_on-not_away n m g i s fits (differs i g.away.0 out)
games_on-not_playing n m Both g i s fits out =
    let parts = or_parts (i == g.home.0) (i == g.away.0) out in
    omega (arith, games_on-not_at_home n m g i s fits (differs i g.home.0 parts.0), games_on-not_away n m g i s fits (differs i g.away.0 parts.1))

breaks_at-not_playing : (n : ℕ) (m : Counts) (side : Side) (g : Game) (i s : ℕ) → IsGame n g → plays_on side g i ≡ false → breaks_at n (one_more m g) side i s ≡ breaks_at n m side i s
breaks_at-not_playing n m H g i s fits out = breaks_at-not_at_home n m g i s fits (differs i g.home.0 out)
breaks_at-not_playing n m A g i s fits out = breaks_at-not_away n m g i s fits (differs i g.away.0 out)
breaks_at-not_playing n m Both g i s fits out =
    let parts = or_parts (i == g.home.0) (i == g.away.0) out in
    breaks_at-not_there n m g i s fits (differs i g.home.0 parts.0) (differs i g.away.0 parts.1)

module _ (m : Counts) (g : Game) (teams : List ℕ) (i s : ℕ) where
  home_same : ((i == g.home.0) && is_in g.away.0 teams) ≡ false → All (λ j. one_more m g i j s ≡ m i j s) teams
  home_same out = elim (and_cases (i == g.home.0) (is_in g.away.0 teams) out) [
    | inl other ↦ λ p d lt. one_more-other_home m g i (get_or teams p d) s (differs i g.home.0 other)
    | inr none ↦ λ p d lt. one_more-other_away m g i (get_or teams p d) s (is_in-lacks g.away.0 teams none p d lt)
  ]

  away_same : ((i == g.away.0) && is_in g.home.0 teams) ≡ false → All (λ j. one_more m g j i s ≡ m j i s) teams
  away_same out = elim (and_cases (i == g.away.0) (is_in g.home.0 teams) out) [
    | inl other ↦ λ p d lt. one_more-other_away m g (get_or teams p d) i s (differs i g.away.0 other)
    | inr none ↦ λ p d lt. one_more-other_home m g (get_or teams p d) i s (is_in-lacks g.home.0 teams none p d lt)
  ]

between-not_against : (m : Counts) (side : Side) (g : Game) (teams : List ℕ) (i s : ℕ) → plays_against side teams g i ≡ false → All (λ j. between (one_more m g) side i s j ≡ between m side i s j) teams
between-not_against m H g teams i s out = home_same m g teams i s out
between-not_against m A g teams i s out = away_same m g teams i s out
between-not_against m Both g teams i s out =
    let parts = or_parts ((i == g.home.0) && is_in g.away.0 teams) ((i == g.away.0) && is_in g.home.0 teams) out in
    λ p d lt. omega (arith, home_same m g teams i s parts.0 p d lt, away_same m g teams i s parts.1 p d lt)

-- what is kept of a list passes the test
passing : {X : Type 0} (test : X → Bool) (xs : List X) → All (λ x. test x ≡ true) (filter test xs)
passing test [] = All-nil (λ x. test x ≡ true)
passing test (x ∷ xs) =
    cond_both (test x) (x ∷ filter test xs) (filter test xs) (λ ys. All (λ y. test y ≡ true) ys)
    (λ e. All-cons (λ y. test y ≡ true) x (filter test xs) e (passing test xs))
    (λ e. passing test xs)

-- ---- class by class

module _ (n : ℕ) (m : Counts) (g : Game) (k : ℕ) where
  -- the games of a team against others
  ca2-same : (teams1 teams2 : List ℕ) (min max : ℕ) (side : Side) (slots : List ℕ) → plays_against side teams2 g (get_or teams1 k 0) ≡ false → ca2_entry (one_more m g) teams2 min max side slots (get_or teams1 k 0) ≡ ca2_entry m teams2 min max side slots (get_or teams1 k 0)
  ca2-same teams1 teams2 min max side slots out =
      let i : ℕ = get_or teams1 k 0 in
      ap (λ (c : ℕ). outside min max c) (games_of-same (one_more m g) m side i teams2 slots (λ p d lt. between-not_against m side g teams2 i (get_or slots p d) out))

  ca1-frame : (teams : List ℕ) (min max : ℕ) (side : Side) (slots : List ℕ) → IsGame n g → k < length teams → (Contains (touched_keys (Ca1 teams min max side slots) g) k → ⊥) → entry_of n (one_more m g) (Ca1 teams min max side slots) k ≡ entry_of n m (Ca1 teams min max side slots) k
  ca1-frame teams min max side slots fits inside lacks =
      let i : ℕ = get_or teams k 0 in
      let same : All (λ s. games_on n (one_more m g) side i s ≡ games_on n m side i s) slots =
      elim (if_lacks (is_in g.slot.0 slots) (keys_where (plays_on side g) teams) k lacks) [
        | inl out ↦ λ p d lt. games_on-elsewhere n m side g i (get_or slots p d) fits (is_in-lacks g.slot.0 slots out p d lt)
        | inr misses ↦ λ p d lt. games_on-not_playing n m side g i (get_or slots p d) fits (keys_where-lacks (plays_on side g) teams k 0 inside misses)
      ] in
      same_at (ca1_entry n (one_more m g) min max side slots) (ca1_entry n m min max side slots) teams k 0 inside
      (ap (λ (c : ℕ). outside min max c) (sum_by-same_in (λ s. games_on n (one_more m g) side i s) (λ s. games_on n m side i s) slots same))

  ca2-frame : (teams1 teams2 : List ℕ) (min max : ℕ) (side : Side) (slots : List ℕ) → k < length teams1
      → (Contains (touched_keys (Ca2 teams1 teams2 min max side slots) g) k → ⊥)
      → entry_of n (one_more m g) (Ca2 teams1 teams2 min max side slots) k
      ≡ entry_of n m (Ca2 teams1 teams2 min max side slots) k
  ca2-frame teams1 teams2 min max side slots inside lacks =
      let i : ℕ = get_or teams1 k 0 in
      same_at (ca2_entry (one_more m g) teams2 min max side slots) (ca2_entry m teams2 min max side slots) teams1 k 0 inside
      (elim (if_lacks (is_in g.slot.0 slots) (keys_where (plays_against side teams2 g) teams1) k lacks) [
        | inl out ↦ ap (λ (c : ℕ). outside min max c) (games_of-same (one_more m g) m side i teams2 slots (λ p d lt. λ q c le. between-elsewhere m side g i (get_or slots p d) (get_or teams2 q c) (is_in-lacks g.slot.0 slots out p d lt)))
        | inr misses ↦ ca2-same teams1 teams2 min max side slots (keys_where-lacks (plays_against side teams2 g) teams1 k 0 inside misses)
      ])

  ca3-frame : (teams1 teams2 : List ℕ) (min max intp : ℕ) (side : Side) → k < length teams1 → (Contains (touched_keys (Ca3 teams1 teams2 min max intp side) g) k → ⊥) → entry_of n (one_more m g) (Ca3 teams1 teams2 min max intp side) k ≡ entry_of n m (Ca3 teams1 teams2 min max intp side) k
  ca3-frame teams1 teams2 min max intp side inside lacks =
      let i : ℕ = get_or teams1 k 0 in
      let out = keys_where-lacks (plays_against side teams2 g) teams1 k 0 inside lacks in
      same_at (ca3_entry n (one_more m g) teams2 min max intp side) (ca3_entry n m teams2 min max intp side) teams1 k 0 inside
      (sum_by-same (λ (window : List ℕ). ca2_entry (one_more m g) teams2 min max side window i) (λ (window : List ℕ). ca2_entry m teams2 min max side window i) (λ (window : List ℕ). ca2-same teams1 teams2 min max side window out) (windows_of n intp))

  ca4-frame : (teams1 teams2 : List ℕ) (min max : ℕ) (side : Side) (span : Span) (slots : List ℕ)
      → k < length (spans span slots) → (Contains (touched_keys (Ca4 teams1 teams2 min max side span slots) g) k → ⊥)
      → entry_of n (one_more m g) (Ca4 teams1 teams2 min max side span slots) k
      ≡ entry_of n m (Ca4 teams1 teams2 min max side span slots) k
  ca4-frame teams1 teams2 min max side span slots inside lacks =
      let meeting : ℕ × ℕ = (g.home.0, g.away.0) in
      let meetings : List (ℕ × ℕ) = filter (is_between side teams1 teams2) (meetings_of n) in
      let some : List ℕ = get_or (spans span slots) k [] in
      same_at (ca4_entry n (one_more m g) teams1 teams2 min max side) (ca4_entry n m teams1 teams2 min max side) (spans span slots) k [] inside
      (ap (λ (c : ℕ). outside min max c)
      (elim (if_lacks (is_between side teams1 teams2 meeting) (keys_where (is_in g.slot.0) (spans span slots)) k lacks) [
        | inl out ↦ games_of-other_meeting m g meetings some (λ p d lt same. absurd (
            let passes : is_between side teams1 teams2 (get_or meetings p d) ≡ true = passing (is_between side teams1 teams2) (meetings_of n) p d lt in
            let fails : is_between side teams1 teams2 (get_or meetings p d) ≡ false = ap (is_between side teams1 teams2) same ∙ out in
            cc))
        | inr misses ↦ games_of-elsewhere m g meetings some (is_in-lacks g.slot.0 some (keys_where-lacks (is_in g.slot.0) (spans span slots) k [] inside misses))
      ]))

  ga1-frame : (meetings : List (ℕ × ℕ)) (min max : ℕ) (slots : List ℕ) → k < 1 → (Contains (touched_keys (Ga1 meetings min max slots) g) k → ⊥) → entry_of n (one_more m g) (Ga1 meetings min max slots) k ≡ entry_of n m (Ga1 meetings min max slots) k
  ga1-frame meetings min max slots inside lacks =
      let counted : Bool = is_listed meetings g.home.0 g.away.0 && is_in g.slot.0 slots in
      ap (λ (games : ℕ). get_or (outside min max games ∷ []) k 0) (games_of-unlisted m g meetings slots (only_key-lacks counted k inside lacks))

  -- a game that can't change a break at the slots
  no_break : (side : Side) (i : ℕ) (slots : List ℕ) → IsGame n g → can_break slots g.slot.0 ≡ false → All (λ s. breaks_at n (one_more m g) side i s ≡ breaks_at n m side i s) slots
  no_break side i slots fits out =
      let parts = or_parts (is_in g.slot.0 slots) (is_in (g.slot.0 + 1) slots) out in
      λ p d lt. breaks_at-elsewhere n m side g i (get_or slots p d) fits (is_in-lacks g.slot.0 slots parts.0 p d lt) (is_in-lacks (g.slot.0 + 1) slots parts.1 p d lt)

  br1-frame : (teams : List ℕ) (intp : ℕ) (side : Side) (slots : List ℕ) → IsGame n g → k < length teams → (Contains (touched_keys (Br1 teams intp side slots) g) k → ⊥) → entry_of n (one_more m g) (Br1 teams intp side slots) k ≡ entry_of n m (Br1 teams intp side slots) k
  br1-frame teams intp side slots fits inside lacks =
      let i : ℕ = get_or teams k 0 in
      let same : All (λ s. breaks_at n (one_more m g) side i s ≡ breaks_at n m side i s) slots =
      elim (if_lacks (can_break slots g.slot.0) (keys_where (plays_on side g) teams) k lacks) [
        | inl out ↦ no_break side i slots fits out
        | inr misses ↦ λ p d lt. breaks_at-not_playing n m side g i (get_or slots p d) fits (keys_where-lacks (plays_on side g) teams k 0 inside misses)
      ] in
      same_at (br1_entry n (one_more m g) intp side slots) (br1_entry n m intp side slots) teams k 0 inside (br1_entry-same n m (one_more m g) intp side slots i same)

  br2-frame : (teams : List ℕ) (intp : ℕ) (slots : List ℕ) → IsGame n g → k < 1 → (Contains (touched_keys (Br2 teams intp slots) g) k → ⊥) → entry_of n (one_more m g) (Br2 teams intp slots) k ≡ entry_of n m (Br2 teams intp slots) k
  br2-frame teams intp slots fits inside lacks =
      let listed : Bool = is_in g.home.0 teams || is_in g.away.0 teams in
      let same : All (λ i. All (λ s. breaks_at n (one_more m g) Both i s ≡ breaks_at n m Both i s) slots) teams =
      elim (and_cases (can_break slots g.slot.0) listed (only_key-lacks (can_break slots g.slot.0 && listed) k inside lacks)) [
        | inl out ↦ λ p d lt. no_break Both (get_or teams p d) slots fits out
        | inr none ↦
            let parts = or_parts (is_in g.home.0 teams) (is_in g.away.0 teams) none in
            λ p d lt. λ q e le. breaks_at-not_there n m g (get_or teams p d) (get_or slots q e) fits (is_in-lacks g.home.0 teams parts.0 p d lt) (is_in-lacks g.away.0 teams parts.1 p d lt)
      ] in
      ap (λ (entry : ℕ). get_or (entry ∷ []) k 0) (br2_entry-same n m (one_more m g) teams intp slots same)

  fa2-frame : (teams : List ℕ) (intp : ℕ) (slots : List ℕ) → IsGame n g → k < length (pairs_of teams) → (Contains (touched_keys (Fa2 teams intp slots) g) k → ⊥) → entry_of n (one_more m g) (Fa2 teams intp slots) k ≡ entry_of n m (Fa2 teams intp slots) k
  fa2-frame teams intp slots fits inside lacks =
      let p : ℕ × ℕ = get_or (pairs_of teams) k (0, 0) in
      same_at (fa2_entry n (one_more m g) intp slots) (fa2_entry n m intp slots) (pairs_of teams) k (0, 0) inside
      (fa2_entry-same n m (one_more m g) intp slots p
      (elim (if_lacks (list_any (λ s. nat_le g.slot.0 s) slots) (keys_with teams g.home.0) k lacks) [
        | inl none ↦
            let before : All (λ s. s < g.slot.0) slots = all_before g.slot.0 slots none in
            λ q d lt.
            let s : ℕ = get_or slots q d in (
              home_played-same n m (one_more m g) p.0 s (λ t le. games_on-elsewhere n m H g p.0 t fits (apart t s g.slot.0 le (before q d lt))),
              home_played-same n m (one_more m g) p.1 s (λ t le. games_on-elsewhere n m H g p.1 t fits (apart t s g.slot.0 le (before q d lt))),
            )
        | inr misses ↦
            let out : has_team g.home.0 p ≡ false = keys_where-lacks (has_team g.home.0) (pairs_of teams) k (0, 0) inside misses in
            λ q d lt.
            let s : ℕ = get_or slots q d in (
              home_played-same n m (one_more m g) p.0 s (λ t le. games_on-not_at_home n m g p.0 t fits (not_first g.home.0 p out)),
              home_played-same n m (one_more m g) p.1 s (λ t le. games_on-not_at_home n m g p.1 t fits (not_second g.home.0 p out)),
            )
      ]))

  se1-frame : (teams : List ℕ) (min : ℕ) → k < length (pairs_of teams) → (Contains (touched_keys (Se1 teams min) g) k → ⊥) → entry_of n (one_more m g) (Se1 teams min) k ≡ entry_of n m (Se1 teams min) k
  se1-frame teams min inside lacks =
      let p : ℕ × ℕ = get_or (pairs_of teams) k (0, 0) in
      same_at (se1_entry n (one_more m g) min) (se1_entry n m min) (pairs_of teams) k (0, 0) inside
      (ap (lacking min) (same_mutual_games n m g p (keys_where-lacks (plays g) (pairs_of teams) k (0, 0) inside lacks)))

-- an entry whose key the game doesn't touch is the same
pub touched_keys-frame : (n : ℕ) (class : Class) (g : Game) (m : Counts) (k : ℕ) → IsGame n g → k < entry_count class → (Contains (touched_keys class g) k → ⊥) → entry_of n (one_more m g) class k ≡ entry_of n m class k
touched_keys-frame n (Ca1 teams min max side slots) g m k fits = ca1-frame n m g k teams min max side slots fits
touched_keys-frame n (Ca2 teams1 teams2 min max side slots) g m k fits = ca2-frame n m g k teams1 teams2 min max side slots
touched_keys-frame n (Ca3 teams1 teams2 min max intp side) g m k fits = ca3-frame n m g k teams1 teams2 min max intp side
touched_keys-frame n (Ca4 teams1 teams2 min max side span slots) g m k fits = ca4-frame n m g k teams1 teams2 min max side span slots
touched_keys-frame n (Ga1 meetings min max slots) g m k fits = ga1-frame n m g k meetings min max slots
touched_keys-frame n (Br1 teams intp side slots) g m k fits = br1-frame n m g k teams intp side slots fits
touched_keys-frame n (Br2 teams intp slots) g m k fits = br2-frame n m g k teams intp slots fits
touched_keys-frame n (Fa2 teams intp slots) g m k fits = fa2-frame n m g k teams intp slots fits
touched_keys-frame n (Se1 teams min) g m k fits = se1-frame n m g k teams min
