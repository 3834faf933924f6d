-- The literals of a team's venues are true as often as it plays there, and those of its breaks as often as it has one.
use Rattle.std.proofs.Common.{◌≡◌, ℕ, ◌+◌, ◌<◌, Bool, true, false, not, ◌&&◌, cond, nat_lt, List, length, map, refl}
use Rattle.std.proofs.Common.{arith, ap, sym, ◌∙◌}
use Rattle.std.proofs.lemmas.Bool.{lt-ltb, ltb-true}
use Rattle.std.proofs.lemmas.List.{length-map}
use Rattle.std.proofs.lemmas.List.FromFn.{length-range_with_len}
use Rattle.std.proofs.lemmas.Simd.{map-map}
use Rattle.std.specs.List.{sum_by}
use Rattle.league.specs.Breaks.{breaks_among, is_away_break, is_home_break, twice_in_a_row}
use Rattle.league.specs.Counts.{Counts, slot_count}
use Rattle.league.specs.Fairness.{home_played}
use Rattle.league.specs.Venues.{away_games, home_games}
use Rattle.league.specs.declared.class.Side.{Side}
use Rattle.league.specs.declared.class.Side.TheVariants.{H, A, Both}
use Rattle.league.proofs.RangeLemmas.{one_if}
use Rattle.league.proofs.SumLemmas.{sum_by-add, sum_by-filter, sum_by-map}
use Rattle.rows.specs.Literals.{Literal, negate, no, yes}
use Rattle.rows.specs.Rows.{is_true}
use Rattle.rows.specs.Tests.{true_count}
use Rattle.rows.proofs.ListLemmas.{list_all-range, sum_by-agree}
use Rattle.rows.proofs.TestLemmas.{true_count-append, true_count-negate}
use Rattle.encoding.specs.Lists.{after_first, at_home_in, away_breaks_at, away_in, breaks_in, home_breaks_at}
use Rattle.encoding.specs.Lists.{slots_up_to}
use Rattle.encoding.specs.Variables.{ab_var, h_var, hb_var}
use Rattle.decoding.specs.Below.{all_below}
use Rattle.decoding.specs.Mirrors.{Mirrors, MirrorsBreaks}

-- home games and away games of a team in some slots
pub homes_listed : (n : ℕ) (m : Counts) (values : ℕ → Bool) (i : ℕ) (slots : List ℕ) → Mirrors n m values → i < n
    → all_below (slot_count n) slots ≡ true
    → true_count values (at_home_in n i slots) ≡ sum_by (λ s. home_games n m i s) slots
homes_listed n m values i slots mirrors team fit =
    sum_by-map (λ l. one_if (is_true values l)) (λ s. yes (h_var n i s)) slots
    ∙ sum_by-agree (λ s. nat_lt s (slot_count n)) (λ s. one_if (values (h_var n i s))) (λ s. home_games n m i s)
    (λ s slot. mirrors.home i s team (ltb-true s (slot_count n) slot)) slots fit

pub aways_listed : (n : ℕ) (m : Counts) (values : ℕ → Bool) (i : ℕ) (slots : List ℕ) → Mirrors n m values → i < n
    → all_below (slot_count n) slots ≡ true
    → true_count values (away_in n i slots) ≡ sum_by (λ s. away_games n m i s) slots
aways_listed n m values i slots mirrors team fit =
    sum_by-map (λ l. one_if (is_true values l)) (λ s. no (h_var n i s)) slots
    ∙ sum_by-agree (λ s. nat_lt s (slot_count n)) (λ s. one_if (not (values (h_var n i s)))) (λ s. away_games n m i s)
    (λ s slot. mirrors.away i s team (ltb-true s (slot_count n) slot)) slots fit

-- in each of the slots a team is at home or away
pub aways_and_homes : (n : ℕ) (values : ℕ → Bool) (i : ℕ) (slots : List ℕ)
    → true_count values (away_in n i slots) + true_count values (at_home_in n i slots) ≡ length slots
aways_and_homes n values i slots =
    let home : ℕ → Literal = λ s. yes (h_var n i s) in
    omega (
      arith,
      ap (true_count values) (map-map negate home slots),
      true_count-negate values (at_home_in n i slots),
      length-map slots home,
    )

-- the slots of a season that are so far past
slots_up_to-fit : (n s : ℕ) → s < slot_count n → all_below (slot_count n) (slots_up_to s) ≡ true
slots_up_to-fit n s slot =
    list_all-range (λ t. nat_lt t (slot_count n)) 0 (s + 1) (λ t from within. lt-ltb t (slot_count n) (omega arith))

-- the home games that a team has played so far, and the others
pub homes_played : (n : ℕ) (m : Counts) (values : ℕ → Bool) (i s : ℕ) → Mirrors n m values → i < n → s < slot_count n
    → true_count values (at_home_in n i (slots_up_to s)) ≡ home_played n m i s
homes_played n m values i s mirrors team slot =
    homes_listed n m values i (slots_up_to s) mirrors team (slots_up_to-fit n s slot)

pub aways_played : (n : ℕ) (m : Counts) (values : ℕ → Bool) (i s : ℕ) → Mirrors n m values → i < n → s < slot_count n
    → true_count values (away_in n i (slots_up_to s)) + home_played n m i s ≡ s + 1
aways_played n m values i s mirrors team slot =
    omega (
      arith,
      aways_and_homes n values i (slots_up_to s),
      homes_played n m values i s mirrors team slot,
      length-range_with_len 0 (s + 1),
    )

-- a break, from slot 1 on, is what its variable says; at slot 0 there is none
break_from_one : (later break value : Bool) (a b : Bool) → break ≡ (later && a && b) → (later ≡ true → value ≡ break)
    → cond later (one_if value) 0 ≡ one_if break
break_from_one true break value a b is same = ap one_if (same refl)
break_from_one false break value a b is same = ap one_if (sym is)

-- variables that say where there are games twice in a row are true as often as there are
breaks_from_one : (n : ℕ) (values : ℕ → Bool) (var games : ℕ → ℕ) (slots : List ℕ)
    → ((s : ℕ) → 0 < s → s < slot_count n → values (var s) ≡ twice_in_a_row games s)
    → all_below (slot_count n) slots ≡ true
    → true_count values (map (λ s. yes (var s)) (after_first slots))
    ≡ sum_by (λ s. one_if (twice_in_a_row games s)) slots
breaks_from_one n values var games slots mirrors fit =
    sum_by-map (λ l. one_if (is_true values l)) (λ s. yes (var s)) (after_first slots)
    ∙ sum_by-filter (λ s. one_if (values (var s))) (λ s. nat_lt 0 s) slots
    ∙ sum_by-agree (λ s. nat_lt s (slot_count n)) (λ s. cond (nat_lt 0 s) (one_if (values (var s))) 0)
    (λ s. one_if (twice_in_a_row games s))
    (λ s slot.
    break_from_one (nat_lt 0 s) (twice_in_a_row games s) (values (var s)) _ _ refl
    (λ later. mirrors s (ltb-true 0 s later) (ltb-true s (slot_count n) slot))) slots fit

module _ (n : ℕ) (m : Counts) (values : ℕ → Bool) (mirrors : MirrorsBreaks n m values) (i : ℕ) (team : i < n)
    (slots : List ℕ) (fit : all_below (slot_count n) slots ≡ true) where
  pub home_breaks_listed : true_count values (home_breaks_at n i slots)
      ≡ sum_by (λ s. one_if (is_home_break n m i s)) slots
  home_breaks_listed =
      breaks_from_one n values (hb_var n i) (home_games n m i) slots
      (λ s later slot. mirrors.home i s team later slot) fit

  pub away_breaks_listed : true_count values (away_breaks_at n i slots)
      ≡ sum_by (λ s. one_if (is_away_break n m i s)) slots
  away_breaks_listed =
      breaks_from_one n values (ab_var n i) (away_games n m i) slots
      (λ s later slot. mirrors.away i s team later slot) fit

  -- the breaks of a team on a side
  pub breaks_listed : (side : Side) → true_count values (breaks_in side n i slots) ≡ breaks_among n m side slots i
  breaks_listed H = home_breaks_listed
  breaks_listed A = away_breaks_listed
  breaks_listed Both =
      omega (
        arith,
        true_count-append values (home_breaks_at n i slots) (away_breaks_at n i slots),
        home_breaks_listed,
        away_breaks_listed,
        sum_by-add (λ s. one_if (is_home_break n m i s)) (λ s. one_if (is_away_break n m i s)) slots,
      )
