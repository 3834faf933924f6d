-- What the clauses that keep played games say of values, and what is played of two teams that don't meet.
use Rattle.std.proofs.Common.{◌≡◌, ◌≢◌, ℕ, ◌+◌, ◌<◌, ◌≤◌, Bool, true, false, not, ◌&&◌, ◌||◌, ◌==◌, cond, List, [], ◌∷◌, map}
use Rattle.std.proofs.Common.{nat_lt, refl, arith, ap, sym, ◌∙◌}
use Rattle.std.specs.Prelude.{nat_le}
use Rattle.std.proofs.lemmas.Bool.Decides.{nat_tests}
use Rattle.std.proofs.lemmas.List.Folds.{list_all-map}
use Rattle.std.specs.List.{All, filter, list_all, range_with_len, sum_by}
use Rattle.league.specs.Counts.{Counts, counts_of, is_game, slot_count, teams_of}
use Rattle.league.specs.Instance.{IsGame, is_meeting}
use Rattle.league.specs.Meetings.{meetings_of, others}
use Rattle.league.specs.declared.game.Game.{Game}
use Rattle.league.proofs.RangeLemmas.{one_if}
use Rattle.rows.specs.Rows.{Row, SatisfiesAll}
use Rattle.rows.specs.Tests.{satisfied}
use Rattle.rows.proofs.ListLemmas.{list_all-at, list_all-filter, list_all-flat_map, list_all-range, list_all-weaker}
use Rattle.rows.proofs.TestLemmas.{SatisfiesAll-from_true, all_satisfied-true, satisfied-at_least}
use Rattle.encoding.specs.Shadow.{decoded}
use Rattle.encoding.specs.Variables.{x_var}
use Rattle.encoding.proofs.SizeLemmas.{sum_by-constant}
use Rattle.decoding.proofs.DecodedCounts.{counts_of-decoded, counts_of-decoded_game}
use Rattle.decoding.proofs.MarkLemmas.{sum_by-agree_all}
use Rattle.decoding.proofs.MeetingLists.{meeting_parts, meetings_of-fit}
use Rattle.decoding.proofs.VenueLaws.{agree, agree-true, true-agree}
use Rattle.resume.specs.Kept.{Keeps, is_played, kept_literal, kept_row, kept_rows, kept_rows_in}

-- ---- one clause

one_literal : (b value : Bool) → nat_le 1 (0 + (cond (cond b value (not value)) 1 0)) ≡ agree b value
one_literal true true = refl
one_literal true false = refl
one_literal false true = refl
one_literal false false = refl

kept-satisfied : (values : ℕ → Bool) (n : ℕ) (played : Counts) (s : ℕ) (p : ℕ × ℕ)
    → satisfied values (kept_row n played s p) ≡ agree (is_played played p.0 p.1 s) (values (x_var n p.0 p.1 s))
kept-satisfied values n played s p =
    satisfied-at_least values 1 (kept_literal n played s p ∷ [])
    ∙ one_literal (is_played played p.0 p.1 s) (values (x_var n p.0 p.1 s))

-- ---- a test of all meetings

or_test : (a b : Bool) → b ≡ true → (a || b) ≡ true
or_test true b pass = refl
or_test false b pass = pass

itself_passes : (a b : Bool) → not a ≡ false → (a || b) ≡ true
itself_passes true b itself = refl
itself_passes false b itself = absurd (cc)

other_passes : (i j : ℕ) (b : Bool) → i ≢ j → ((j == i) || b) ≡ true → b ≡ true
other_passes i j true differ pass = refl
other_passes i j false differ pass = absurd (differ (same i j pass)) where
  same : (i j : ℕ) → ((j == i) || false) ≡ true → i ≡ j
  same i j pass = grind (arith, nat_tests)

pub each_meeting : (n : ℕ) (q : ℕ × ℕ → Bool) → list_all q (meetings_of n) ≡ true
    → (i j : ℕ) → i < n → j < n → i ≢ j → q (i, j) ≡ true
each_meeting n q pass i j home away differ =
    let at_home : ℕ → List (ℕ × ℕ) = λ i. map (λ j. (i, j)) (others i (teams_of n)) in
    let pair : ℕ → ℕ × ℕ = λ j. (i, j) in
    let other : ℕ → Bool = λ j. not (j == i) in
    let either : ℕ → Bool = λ j. (j == i) || q (i, j) in
    let row : list_all q (at_home i) ≡ true =
    list_all-at (λ i. list_all q (at_home i)) 0 n i (sym (list_all-flat_map q at_home (teams_of n)) ∙ pass)
    (omega arith) (omega (arith, home)) in
    let listed : list_all (λ j. q (i, j)) (filter other (teams_of n)) ≡ true =
    sym (list_all-map q pair (filter other (teams_of n))) ∙ row in
    let wider : list_all either (filter other (teams_of n)) ≡ true =
    list_all-weaker (λ j. q (i, j)) either (λ j here. or_test (j == i) (q (i, j)) here)
    (filter other (teams_of n)) listed in
    let all : list_all either (teams_of n) ≡ true =
    sym (list_all-filter either other (λ j itself. itself_passes (j == i) (q (i, j)) itself) (teams_of n)) ∙ wider in
    other_passes i j (q (i, j)) differ (list_all-at either 0 n j all (omega arith) (omega (arith, away)))

-- ---- all clauses

pub kept-from_rows : (values : ℕ → Bool) (n : ℕ) (played : Counts) (k : ℕ)
    → SatisfiesAll values (kept_rows n played k)
    → (i j s : ℕ) → i < n → j < n → i ≢ j → s < k → values (x_var n i j s) ≡ is_played played i j s
kept-from_rows values n played k meets i j s home away differ slot =
    let test : Row → Bool = satisfied values in
    let in_slot : list_all test (kept_rows_in n played s) ≡ true =
    list_all-at (λ s. list_all test (kept_rows_in n played s)) 0 k s
    (sym (list_all-flat_map test (kept_rows_in n played) (range_with_len 0 k))
    ∙ all_satisfied-true values (kept_rows n played k) meets)
    (omega arith) (omega (arith, slot)) in
    let here : satisfied values (kept_row n played s (i, j)) ≡ true =
    each_meeting n (λ p. test (kept_row n played s p))
    (sym (list_all-map test (kept_row n played s) (meetings_of n)) ∙ in_slot) i j home away differ in
    sym (agree-true (is_played played i j s) (values (x_var n i j s))
    (sym (kept-satisfied values n played s (i, j)) ∙ here))

pub rows-from_kept : (values : ℕ → Bool) (n : ℕ) (played : Counts) (k : ℕ)
    → ((i j s : ℕ) → i < n → j < n → i ≢ j → s < k → values (x_var n i j s) ≡ is_played played i j s)
    → SatisfiesAll values (kept_rows n played k)
rows-from_kept values n played k same =
    let test : Row → Bool = satisfied values in
    SatisfiesAll-from_true values (kept_rows n played k)
    (list_all-flat_map test (kept_rows_in n played) (range_with_len 0 k)
    ∙ list_all-range (λ s. list_all test (kept_rows_in n played s)) 0 k
    (λ s from slot.
    list_all-map test (kept_row n played s) (meetings_of n)
    ∙ list_all-weaker (is_meeting n) (λ p. test (kept_row n played s p))
    (λ p meet.
    let parts = meeting_parts n p meet in
    kept-satisfied values n played s p
    ∙ true-agree (is_played played p.0 p.1 s) (values (x_var n p.0 p.1 s))
    (sym (same p.0 p.1 s parts.0 parts.1 parts.2 (omega (arith, slot)))))
    (meetings_of n) (meetings_of-fit n)))

-- ---- two teams that don't meet

apart : (n i j s a b t : ℕ) → a < n → b < n → a ≢ b → (nat_lt i n && nat_lt j n && not (i == j)) ≡ false
    → one_if ((a == i) && (b == j) && (t == s)) ≡ 0
apart n i j s a b t home away differ none = grind (arith, nat_tests)

pub none_played : (n : ℕ) (games : List Game) (i j s : ℕ) → All (IsGame n) games → is_meeting n (i, j) ≡ false
    → counts_of games i j s ≡ 0
none_played n games i j s fit none =
    let zeros : counts_of games i j s ≡ sum_by (λ g. 0) games =
    sum_by-agree_all (IsGame n) (λ g. one_if (is_game i j s g)) (λ g. 0)
    (λ g is. apart n i j s g.home.0 g.away.0 g.slot.0 is.home is.away is.differ none) games fit in
    omega (arith, zeros, sum_by-constant 0 games)

none_true : (v : Bool) (n i j s slots : ℕ) → (nat_lt i n && nat_lt j n && not (i == j)) ≡ false
    → one_if (v && not (j == i) && nat_lt j n && nat_lt i n && nat_lt s slots) ≡ 0
none_true v n i j s slots none = grind (arith, nat_tests)

none_decoded : (n : ℕ) (values : ℕ → Bool) (i j s : ℕ) → is_meeting n (i, j) ≡ false
    → counts_of (decoded n values) i j s ≡ 0
none_decoded n values i j s none =
    counts_of-decoded n values i j s ∙ none_true (values (x_var n i j s)) n i j s (slot_count n) none

-- ---- what is decoded keeps the played games

some_one : (b : Bool) → nat_lt 0 (one_if b) ≡ b
some_one true = refl
some_one false = refl

pub keeps-from_rows : (n : ℕ) (played : List Game) (k : ℕ) (values : ℕ → Bool) → All (IsGame n) played
    → k ≤ slot_count n → SatisfiesAll values (kept_rows n (counts_of played) k)
    → Keeps (counts_of played) k (counts_of (decoded n values))
keeps-from_rows n played k values fit season meets i j s slot = by (is_meeting n (i, j)) refl where
  by : (b : Bool) → is_meeting n (i, j) ≡ b
      → is_played (counts_of (decoded n values)) i j s ≡ is_played (counts_of played) i j s
  by true meet =
      let parts = meeting_parts n (i, j) meet in
      ap (λ (c : ℕ). nat_lt 0 c)
      (counts_of-decoded_game n values i j s parts.0 parts.1 parts.2 (omega (arith, slot, season)))
      ∙ some_one (values (x_var n i j s))
      ∙ kept-from_rows values n (counts_of played) k meets i j s parts.0 parts.1 parts.2 slot
  by false none =
      ap (λ (c : ℕ). nat_lt 0 c) (none_decoded n values i j s none)
      ∙ sym (ap (λ (c : ℕ). nat_lt 0 c) (none_played n played i j s fit none))
