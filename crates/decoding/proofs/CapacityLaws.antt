-- What the rows of a key of CA1 to CA4 and GA1 lack is the key's entry.
use Rattle.std.proofs.Common.{◌≡◌, ℕ, ◌<◌, Bool, true, ◌==◌, List, ap, sym, ◌∙◌}
use Rattle.std.proofs.lemmas.List.Folds.{sum_by-zero}
use Rattle.std.specs.List.{filter, list_all, sum_by}
use Rattle.league.specs.Capacity.{ca1_entry, ca2_entry, ca3_entry, ca4_entry, is_between, meetings_with, windows_of}
use Rattle.league.specs.Counts.{Counts, slot_count}
use Rattle.league.specs.Games.{ga1_entry}
use Rattle.league.specs.Instance.{is_meeting, is_one_side}
use Rattle.league.specs.Meetings.{games_of, meetings_of}
use Rattle.league.specs.Venues.{games_on}
use Rattle.league.specs.declared.class.Side.{Side}
use Rattle.league.specs.declared.class.Side.TheVariants.{H, A, Both}
use Rattle.rows.specs.Tests.{all_satisfied, satisfied, true_count}
use Rattle.rows.proofs.ListLemmas.{list_all-agree, list_all-flat_map, list_all-part, sum_by-agree}
use Rattle.encoding.specs.Demands.{ca1_rows, ca2_rows, ca3_rows, ca4_rows, ga1_rows}
use Rattle.encoding.specs.Lists.{games_in, meetings_in_order, venues_in}
use Rattle.decoding.specs.Below.{all_below}
use Rattle.decoding.specs.Mirrors.{Mirrors}
use Rattle.decoding.specs.Shortfalls.{units_needed}
use Rattle.decoding.proofs.MeetingLists.{games_listed, meetings_in_order-fit, meetings_of-fit, sum_by-in_order}
use Rattle.decoding.proofs.MeetingLists.{windows_of-fit}
use Rattle.decoding.proofs.ShortfallLemmas.{needs_between, satisfied-needs}
use Rattle.decoding.proofs.VenueLists.{aways_listed, homes_listed}

module _ (n : ℕ) (m : Counts) (values : ℕ → Bool) (mirrors : Mirrors n m values) where
  venues_listed : (side : Side) (i : ℕ) (slots : List ℕ) → i < n → all_below (slot_count n) slots ≡ true
      → is_one_side side ≡ true → true_count values (venues_in side n i slots)
      ≡ sum_by (λ s. games_on n m side i s) slots
  venues_listed H i slots team fit one = homes_listed n m values i slots mirrors team fit
  venues_listed A i slots team fit one = aways_listed n m values i slots mirrors team fit
  venues_listed Both i slots team fit one = absurd (cc)

  pub units_needed-ca1 : (min max : ℕ) (side : Side) (slots : List ℕ) (i : ℕ) → i < n
      → all_below (slot_count n) slots ≡ true → is_one_side side ≡ true
      → units_needed values (ca1_rows n min max side slots i) ≡ ca1_entry n m min max side slots i
  units_needed-ca1 min max side slots i team fit one =
      needs_between values (venues_in side n i slots) min max (sum_by (λ s. games_on n m side i s) slots)
      (venues_listed side i slots team fit one)

  -- games of a team with some others, in any order
  opponents_listed : (teams2 : List ℕ) (side : Side) (slots : List ℕ) (i : ℕ) → i < n → all_below n teams2 ≡ true
      → all_below (slot_count n) slots ≡ true
      → true_count values (games_in n (meetings_in_order side i teams2) slots)
      ≡ games_of m (meetings_with side i teams2) slots
  opponents_listed teams2 side slots i team teams_fit fit =
      games_listed n m values (meetings_in_order side i teams2) slots mirrors.games
      (meetings_in_order-fit n i team teams2 teams_fit side) fit
      ∙ sum_by-in_order (λ p. sum_by (λ s. m p.0 p.1 s) slots) side i teams2

  pub units_needed-ca2 : (teams2 : List ℕ) (min max : ℕ) (side : Side) (slots : List ℕ) (i : ℕ) → i < n
      → all_below n teams2 ≡ true → all_below (slot_count n) slots ≡ true
      → units_needed values (ca2_rows n teams2 min max side slots i) ≡ ca2_entry m teams2 min max side slots i
  units_needed-ca2 teams2 min max side slots i team teams_fit fit =
      needs_between values (games_in n (meetings_in_order side i teams2) slots) min max
      (games_of m (meetings_with side i teams2) slots)
      (opponents_listed teams2 side slots i team teams_fit fit)

  -- CA3: what the windows' rows lack, summed
  pub units_needed-ca3 : (teams2 : List ℕ) (min max intp : ℕ) (side : Side) (i : ℕ) → i < n
      → all_below n teams2 ≡ true
      → sum_by (λ window. units_needed values (ca2_rows n teams2 min max side window i)) (windows_of n intp)
      ≡ ca3_entry n m teams2 min max intp side i
  units_needed-ca3 teams2 min max intp side i team teams_fit =
      sum_by-agree (all_below (slot_count n))
      (λ window. units_needed values (ca2_rows n teams2 min max side window i))
      (λ window. ca2_entry m teams2 min max side window i)
      (λ window fit. units_needed-ca2 teams2 min max side window i team teams_fit fit) (windows_of n intp)
      (windows_of-fit n intp)

  -- CA3: all rows of the windows are satisfied exactly where the entry is 0
  pub satisfied-ca3 : (teams2 : List ℕ) (min max intp : ℕ) (side : Side) (i : ℕ) → i < n → all_below n teams2 ≡ true
      → all_satisfied values (ca3_rows n teams2 min max intp side i) ≡ (ca3_entry n m teams2 min max intp side i == 0)
  satisfied-ca3 teams2 min max intp side i team teams_fit =
      list_all-flat_map (satisfied values) (λ window. ca2_rows n teams2 min max side window i) (windows_of n intp)
      ∙ list_all-agree (all_below (slot_count n))
      (λ window. all_satisfied values (ca2_rows n teams2 min max side window i))
      (λ window. ca2_entry m teams2 min max side window i == 0)
      (λ window fit.
      satisfied-needs values (ca2_rows n teams2 min max side window i)
      ∙ ap (λ (lack : ℕ). lack == 0) (units_needed-ca2 teams2 min max side window i team teams_fit fit))
      (windows_of n intp) (windows_of-fit n intp)
      ∙ sym (sum_by-zero (λ window. ca2_entry m teams2 min max side window i) (windows_of n intp))

  pub units_needed-ca4 : (teams1 teams2 : List ℕ) (min max : ℕ) (side : Side) (slots : List ℕ)
      → all_below (slot_count n) slots ≡ true
      → units_needed values (ca4_rows n teams1 teams2 min max side slots)
      ≡ ca4_entry n m teams1 teams2 min max side slots
  units_needed-ca4 teams1 teams2 min max side slots fit =
      let between_them : List (ℕ × ℕ) = filter (is_between side teams1 teams2) (meetings_of n) in
      needs_between values (games_in n between_them slots) min max (games_of m between_them slots)
      (games_listed n m values between_them slots mirrors.games
      (list_all-part (is_meeting n) (is_between side teams1 teams2) (meetings_of n) (meetings_of-fit n)) fit)

  pub units_needed-ga1 : (meetings : List (ℕ × ℕ)) (min max : ℕ) (slots : List ℕ)
      → list_all (is_meeting n) meetings ≡ true → all_below (slot_count n) slots ≡ true
      → units_needed values (ga1_rows n meetings min max slots) ≡ ga1_entry m meetings min max slots
  units_needed-ga1 meetings min max slots meetings_fit fit =
      needs_between values (games_in n meetings slots) min max (games_of m meetings slots)
      (games_listed n m values meetings slots mirrors.games meetings_fit fit)
