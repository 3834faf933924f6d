-- Where the two rows of a slot stand among the rows of a league.
use Rattle.std.proofs.Common.{◌≡◌, ℕ, zero, suc, ◌+◌, ◌-◌, ◌*◌, ◌/◌, ◌%◌, ◌<◌, Bool, true, false, cond, List, [], ◌∷◌}
use Rattle.std.proofs.Common.{◌++◌, length, length-append, get_or, map, Some, refl, arith, ap, sym, ◌∙◌}
use Rattle.std.specs.Prelude.{slice_get}
use Rattle.std.specs.List.{All, flat_map}
use Rattle.std.proofs.lemmas.List.Concat.{length-flat_map}
use Rattle.std.proofs.lemmas.List.FromFn.{get_or-range_with_len, length-range_with_len}
use Rattle.std.proofs.lemmas.Option.{slice_get-get_or}
use Rattle.league.specs.Counts.{slot_count, slots_of, teams_of}
use Rattle.league.specs.Instance.{Instance}
use Rattle.league.specs.Meetings.{meetings_of, pairs_of}
use Rattle.league.specs.Structure.{first_half}
use Rattle.rows.specs.Cardinality.{at_least, at_most, exactly}
use Rattle.rows.specs.Literals.{Literal, yes}
use Rattle.rows.specs.Rows.{Row}
use Rattle.encoding.specs.Encoding.{constraint_rows, rows_of, season_rows}
use Rattle.encoding.specs.Lists.{games_in}
use Rattle.encoding.specs.Season.{break_rows, cell_rows, cell_rows_at, game_needs_home, half_rows, home_needs_game}
use Rattle.encoding.specs.Season.{meeting_rows, slot_rows, team_rows, venue_rows}
use Rattle.encoding.specs.Variables.{h_var, has_breaks}
use Rattle.encoding.proofs.PairLemmas.{length-pairs_of}
use Rattle.encoding.proofs.SeasonSizes.{length-meetings_of}
use Rattle.encoding.proofs.SizeLemmas.{sum_by-constant, sum_by-same_at}
use Rattle.refutation.specs.Following.{row_numbered}
use Rattle.venue_counts.specs.CountLogs.{slot_row}
use Rattle.venue_counts.proofs.MemberLemmas.{got-left, got-right}
use Rattle.venue_counts.proofs.RowLemmas.{away_row}

-- ---- how many rows stand before those of slots

abbrev pub rows_ahead : ℕ → Bool → List Row
rows_ahead n phased = meeting_rows n ++ cell_rows n ++ half_rows n phased ++ venue_rows n

length-each : {K : Type 0} (f : K → List Row) (k : ℕ) (keys : List K) → All (λ x. length (f x) ≡ k) keys
    → length (flat_map f keys) ≡ length keys * k
length-each f k keys each =
    length-flat_map f keys ∙ sum_by-same_at (λ x. length (f x)) (λ x. k) keys each ∙ sum_by-constant k keys

length-meeting_rows : (n : ℕ) → length (meeting_rows n) ≡ n * (n - 1) * 2
length-meeting_rows n =
    let rows : ℕ × ℕ → List Row = λ p. exactly 1 (games_in n (p ∷ []) (slots_of n)) in
    length-each rows 2 (meetings_of n) (λ k d within. refl) ∙ ap (λ (k : ℕ). k * 2) (length-meetings_of n)

-- two rows for each team in each slot
length-cells : (n : ℕ) (f : ℕ → ℕ → List Row) → ((i s : ℕ) → length (f i s) ≡ 2)
    → length (flat_map (λ i. flat_map (f i) (slots_of n)) (teams_of n)) ≡ n * (slot_count n * 2)
length-cells n f two =
    let of_team : ℕ → List Row = λ i. flat_map (f i) (slots_of n) in
    let each : (i : ℕ) → length (of_team i) ≡ slot_count n * 2 = λ i.
    length-each (f i) 2 (slots_of n) (λ k d within. two i (get_or (slots_of n) k d))
    ∙ ap (λ (k : ℕ). k * 2) (length-range_with_len 0 (slot_count n)) in
    length-each of_team (slot_count n * 2) (teams_of n) (λ k d within. each (get_or (teams_of n) k d))
    ∙ ap (λ (k : ℕ). k * (slot_count n * 2)) (length-range_with_len 0 n)

length-cell_rows : (n : ℕ) → length (cell_rows n) ≡ n * (slot_count n * 2)
length-cell_rows n = length-cells n (cell_rows_at n) (λ i s. refl)

length-venue_rows : (n : ℕ) → length (venue_rows n) ≡ n * (slot_count n * 2)
length-venue_rows n = length-cells n (λ i s. home_needs_game n i s ∷ game_needs_home n i s ∷ []) (λ i s. refl)

length-half_rows : (n : ℕ) (phased : Bool)
    → length (half_rows n phased) ≡ cond phased (n * (n - 1) / 2 * 2) 0
length-half_rows n true =
    let rows : ℕ × ℕ → List Row = λ p. exactly 1 (games_in n (p ∷ (p.1, p.0) ∷ []) (first_half n)) in
    length-each rows 2 (pairs_of (teams_of n)) (λ k d within. refl)
    ∙ ap (λ (k : ℕ). k * 2)
    (sym (length-pairs_of (teams_of n)) ∙ ap (λ (k : ℕ). k * (k - 1) / 2) (length-range_with_len 0 n))
length-half_rows n false = refl

pub length-ahead : (n : ℕ) (phased : Bool)
    → length (rows_ahead n phased)
    ≡ 2 * (n * (n - 1)) + 4 * (n * slot_count n) + cond phased (2 * (n * (n - 1) / 2)) 0
length-ahead n true =
    omega (
      arith,
      length-append (meeting_rows n ++ cell_rows n ++ half_rows n true) (venue_rows n),
      length-append (meeting_rows n ++ cell_rows n) (half_rows n true),
      length-append (meeting_rows n) (cell_rows n),
      length-meeting_rows n,
      length-cell_rows n,
      length-half_rows n true,
      length-venue_rows n,
    )
length-ahead n false =
    omega (
      arith,
      length-append (meeting_rows n ++ cell_rows n ++ half_rows n false) (venue_rows n),
      length-append (meeting_rows n ++ cell_rows n) (half_rows n false),
      length-append (meeting_rows n) (cell_rows n),
      length-meeting_rows n,
      length-cell_rows n,
      length-half_rows n false,
      length-venue_rows n,
    )

-- as they are counted
pub ahead-counted : (n slots teams : ℕ) (phased : Bool) → teams ≡ n → slots ≡ slot_count n
    → 2 * (teams * (teams - 1)) + 4 * (teams * slots) + cond phased (2 * (teams * (teams - 1) / 2)) 0
    ≡ length (rows_ahead n phased)
ahead-counted n slots teams phased same all =
    ap (λ (k : ℕ). 2 * (k * (k - 1)) + 4 * (k * slots) + cond phased (2 * (k * (k - 1) / 2)) 0) same
    ∙ ap (λ (s : ℕ). 2 * (n * (n - 1)) + 4 * (n * s) + cond phased (2 * (n * (n - 1) / 2)) 0) all
    ∙ sym (length-ahead n phased)

-- ---- two rows for each of some numbers

got-pair : (a b : ℕ → Row) (xs : List ℕ) (k x j : ℕ) → slice_get xs k ≡ Some x → j ≡ 2 * k
    → (slice_get (flat_map (λ y. a y ∷ b y ∷ []) xs) j ≡ Some (a x))
    × (slice_get (flat_map (λ y. a y ∷ b y ∷ []) xs) (suc j) ≡ Some (b x))
got-pair a b [] k x j is at = absurd (cc)
got-pair a b (y ∷ xs) zero x zero is at =
    let same : y ≡ x = cc in (ap (λ (z : ℕ). Some (a z)) same, ap (λ (z : ℕ). Some (b z)) same)
got-pair a b (y ∷ xs) zero x (suc j) is at = absurd (omega (arith, at))
got-pair a b (y ∷ xs) (suc k) x zero is at = absurd (omega (arith, at))
got-pair a b (y ∷ xs) (suc k) x (suc zero) is at = absurd (omega (arith, at))
got-pair a b (y ∷ xs) (suc k) x (suc (suc j)) is at = got-pair a b xs k x j is (omega (arith, at))

slot-at : (n s : ℕ) → s < slot_count n → slice_get (slots_of n) s ≡ Some s
slot-at n s below =
    let here : 0 + s ≡ s = omega arith in
    slice_get-get_or (slots_of n) s s (omega (arith, below, length-range_with_len 0 (slot_count n)))
    ∙ ap (λ (t : ℕ). Some t) (get_or-range_with_len 0 (slot_count n) s s below ∙ here)

-- the two rows of a slot, among those of slots
slot_rows-at : (n s : ℕ) → n % 2 ≡ 0 → s < slot_count n
    → (slice_get (slot_rows n) (2 * s) ≡ Some (slot_row n true s))
    × (slice_get (slot_rows n) (suc (2 * s)) ≡ Some (slot_row n false s))
slot_rows-at n s even below =
    let home : ℕ → List Literal = λ t. map (λ i. yes (h_var n i t)) (teams_of n) in
    let pair = got-pair (λ t. at_least (n / 2) (home t)) (λ t. at_most (n / 2) (home t)) (slots_of n) s s (2 * s)
    (slot-at n s below) refl in
    (pair.0, pair.1 ∙ ap (λ (row : Row). Some row) (away_row n s even))

-- a row of a slot, among all rows of a league
slot-in : (league : Instance) (j : ℕ) (row : Row) → slice_get (slot_rows league.n) j ≡ Some row
    → slice_get (rows_of league) (length (rows_ahead league.n league.phased) + j) ≡ Some row
slot-in league j row is =
    let n : ℕ = league.n in
    let ahead : List Row = rows_ahead n league.phased in
    let place : ℕ = length (rows_ahead league.n league.phased) + j in
    got-left (season_rows n league.phased ++ break_rows n (has_breaks league.constraints))
    (constraint_rows n league.constraints) place row
    (got-left (season_rows n league.phased) (break_rows n (has_breaks league.constraints)) place row
    (got-left (ahead ++ slot_rows n) (team_rows n) place row (got-right ahead (slot_rows n) place j row refl is)))

numbered-at : (rows : List Row) (number place : ℕ) (row : Row) → number ≡ suc place → slice_get rows place ≡ Some row
    → row_numbered rows number ≡ Some row
numbered-at rows number place row is got = ap (row_numbered rows) is ∙ got

-- the numbers of the two rows of a slot, as they are counted
pub slot_row-numbered : (league : Instance) (n s before shown : ℕ) (phased : Bool) → n ≡ league.n
    → phased ≡ league.phased → league.n % 2 ≡ 0 → s < slot_count league.n → before ≡ length (rows_ahead n phased)
    → shown ≡ s
    → (row_numbered (rows_of league) (before + 2 * shown + 1) ≡ Some (slot_row league.n true s))
    × (row_numbered (rows_of league) (before + 2 * shown + 1 + 1) ≡ Some (slot_row league.n false s))
slot_row-numbered league n s before shown phased same_n same_phased even below counted is =
    let ahead : before ≡ length (rows_ahead league.n league.phased) =
    counted ∙ ap (λ (k : ℕ). length (rows_ahead k phased)) same_n
    ∙ ap (λ (b : Bool). length (rows_ahead league.n b)) same_phased in
    let two = slot_rows-at league.n s even below in (
      numbered-at (rows_of league) (before + 2 * shown + 1) (length (rows_ahead league.n league.phased) + 2 * s)
          (slot_row league.n true s) (omega (arith, ahead, is))
          (slot-in league (2 * s) (slot_row league.n true s) two.0),
      numbered-at (rows_of league) (before + 2 * shown + 1 + 1)
          (length (rows_ahead league.n league.phased) + suc (2 * s)) (slot_row league.n false s)
          (omega (arith, ahead, is)) (slot-in league (suc (2 * s)) (slot_row league.n false s) two.1),
    )
