-- What the rows of a key of BR1 and BR2 lack is the key's entry.
use Rattle.std.proofs.Common.{◌≡◌, ℕ, ◌+◌, ◌<◌, Bool, true, nat_lt, List, ◌++◌, arith, sym}
use Rattle.std.proofs.lemmas.Bool.{ltb-true}
use Rattle.std.specs.List.{flat_map, sum_by}
use Rattle.league.specs.Breaks.{all_breaks, br1_entry, br2_entry, breaks_among, is_away_break, is_home_break}
use Rattle.league.specs.Counts.{Counts, slot_count}
use Rattle.league.specs.declared.class.Side.{Side}
use Rattle.league.specs.declared.class.Side.TheVariants.{Both}
use Rattle.league.proofs.RangeLemmas.{one_if}
use Rattle.league.proofs.SumLemmas.{sum_by-add, sum_by-flat_map, sum_by-same}
use Rattle.rows.specs.Literals.{Literal}
use Rattle.rows.specs.Rows.{is_true}
use Rattle.rows.specs.Tests.{true_count}
use Rattle.rows.proofs.ListLemmas.{sum_by-agree}
use Rattle.rows.proofs.TestLemmas.{true_count-append}
use Rattle.encoding.specs.Demands.{br1_rows, br2_rows}
use Rattle.encoding.specs.Lists.{away_breaks_at, breaks_in, home_breaks_at}
use Rattle.decoding.specs.Below.{all_below}
use Rattle.decoding.specs.Mirrors.{MirrorsBreaks}
use Rattle.decoding.specs.Shortfalls.{units_needed}
use Rattle.decoding.proofs.ShortfallLemmas.{needs_most}
use Rattle.decoding.proofs.VenueLists.{away_breaks_listed, breaks_listed, home_breaks_listed}

module _ (n : ℕ) (m : Counts) (values : ℕ → Bool) (mirrors : MirrorsBreaks n m values) where
  pub units_needed-br1 : (intp : ℕ) (side : Side) (slots : List ℕ) (i : ℕ) → i < n
      → all_below (slot_count n) slots ≡ true
      → units_needed values (br1_rows n intp side slots i) ≡ br1_entry n m intp side slots i
  units_needed-br1 intp side slots i team fit =
      needs_most values (breaks_in side n i slots) intp (breaks_among n m side slots i)
      (breaks_listed n m values mirrors i team slots fit side)

  -- the home breaks and the away breaks of a team are its breaks
  both_breaks : (slots : List ℕ) (i : ℕ)
      → sum_by (λ s. one_if (is_home_break n m i s)) slots + sum_by (λ s. one_if (is_away_break n m i s)) slots
      ≡ breaks_among n m Both slots i
  both_breaks slots i =
      sym (sum_by-add (λ s. one_if (is_home_break n m i s)) (λ s. one_if (is_away_break n m i s)) slots)

  -- the breaks of some teams, home breaks first
  all_breaks_listed : (teams slots : List ℕ) → all_below n teams ≡ true → all_below (slot_count n) slots ≡ true
      → true_count values
      (flat_map (λ i. home_breaks_at n i slots) teams ++ flat_map (λ i. away_breaks_at n i slots) teams)
      ≡ all_breaks n m teams slots
  all_breaks_listed teams slots teams_fit fit =
      let one : Literal → ℕ = λ l. one_if (is_true values l) in
      let home : ℕ → ℕ = λ i. sum_by (λ s. one_if (is_home_break n m i s)) slots in
      let away : ℕ → ℕ = λ i. sum_by (λ s. one_if (is_away_break n m i s)) slots in
      omega (
        arith,
        true_count-append values (flat_map (λ i. home_breaks_at n i slots) teams)
            (flat_map (λ i. away_breaks_at n i slots) teams),
        sum_by-flat_map one (λ i. home_breaks_at n i slots) teams,
        sum_by-flat_map one (λ i. away_breaks_at n i slots) teams,
        sum_by-agree (λ i. nat_lt i n) (λ i. sum_by one (home_breaks_at n i slots)) home
            (λ i team. home_breaks_listed n m values mirrors i (ltb-true i n team) slots fit) teams teams_fit,
        sum_by-agree (λ i. nat_lt i n) (λ i. sum_by one (away_breaks_at n i slots)) away
            (λ i team. away_breaks_listed n m values mirrors i (ltb-true i n team) slots fit) teams teams_fit,
        sum_by-same (λ i. home i + away i) (breaks_among n m Both slots) (both_breaks slots) teams,
        sum_by-add home away teams,
      )

  pub units_needed-br2 : (teams : List ℕ) (intp : ℕ) (slots : List ℕ) → all_below n teams ≡ true
      → all_below (slot_count n) slots ≡ true
      → units_needed values (br2_rows n teams intp slots) ≡ br2_entry n m teams intp slots
  units_needed-br2 teams intp slots teams_fit fit =
      needs_most values
      (flat_map (λ i. home_breaks_at n i slots) teams ++ flat_map (λ i. away_breaks_at n i slots) teams) intp
      (all_breaks n m teams slots)
      (all_breaks_listed teams slots teams_fit fit)
