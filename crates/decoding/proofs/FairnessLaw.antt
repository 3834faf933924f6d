-- What the rows of a key of FA2 lack, over all its slots, is the key's entry.
use Rattle.std.proofs.Common.{◌≡◌, ℕ, ◌+◌, ◌-◌, ◌<◌, Bool, true, nat_lt, max, List, ◌++◌, arith, ◌∙◌}
use Rattle.std.proofs.lemmas.Bool.{ltb-true}
use Rattle.league.specs.Bounds.{difference, excess}
use Rattle.league.specs.Counts.{Counts, slot_count}
use Rattle.league.specs.Fairness.{fa2_entry, home_played}
use Rattle.rows.specs.Tests.{true_count}
use Rattle.rows.proofs.TestLemmas.{true_count-append}
use Rattle.encoding.specs.Demands.{fa2_rows, fa2_rows_at}
use Rattle.encoding.specs.Lists.{at_home_in, away_in, slots_up_to}
use Rattle.decoding.specs.Below.{all_below}
use Rattle.decoding.specs.Mirrors.{Mirrors}
use Rattle.decoding.specs.Shortfalls.{shortfall, units_needed}
use Rattle.decoding.proofs.ShortfallLemmas.{largest-agree, largest-flat_map, shortfall-at_least}
use Rattle.decoding.proofs.VenueLists.{aways_played, homes_played}

-- a team has i home games and the other j, of so many games each: what one row lacks of the first team's away games and
-- the second one's home games, and another the other way round, is how far the difference of i and j is beyond intp
two_ways : (played intp i away_i j away_j first second : ℕ) → away_i + i ≡ played → away_j + j ≡ played
    → first ≡ played - intp - (away_i + j) → second ≡ played - intp - (i + away_j)
    → max (max 0 first) second ≡ excess (difference i j) intp
two_ways played intp i away_i j away_j first second is_i is_j is_first is_second = omega arith

module _ (n : ℕ) (m : Counts) (values : ℕ → Bool) (mirrors : Mirrors n m values) (intp : ℕ) (p : ℕ × ℕ)
    (first : p.0 < n) (second : p.1 < n) where
  -- the two rows of a slot
  units_needed-fa2_at : (s : ℕ) → s < slot_count n
      → units_needed values (fa2_rows_at n intp p s)
      ≡ excess (difference (home_played n m p.0 s) (home_played n m p.1 s)) intp
  units_needed-fa2_at s slot =
      let away_i : ℕ = true_count values (away_in n p.0 (slots_up_to s)) in
      let away_j : ℕ = true_count values (away_in n p.1 (slots_up_to s)) in
      let at_home_i = homes_played n m values p.0 s mirrors first slot in
      let at_home_j = homes_played n m values p.1 s mirrors second slot in
      two_ways (s + 1) intp (home_played n m p.0 s) away_i (home_played n m p.1 s) away_j _ _
      (aways_played n m values p.0 s mirrors first slot) (aways_played n m values p.1 s mirrors second slot)
      (omega (
        arith,
        shortfall-at_least values (away_in n p.0 (slots_up_to s) ++ at_home_in n p.1 (slots_up_to s)) (s + 1 - intp),
        true_count-append values (away_in n p.0 (slots_up_to s)) (at_home_in n p.1 (slots_up_to s)),
      ))
      (omega (
        arith,
        shortfall-at_least values (at_home_in n p.0 (slots_up_to s) ++ away_in n p.1 (slots_up_to s)) (s + 1 - intp),
        true_count-append values (at_home_in n p.0 (slots_up_to s)) (away_in n p.1 (slots_up_to s)),
      ))

  pub units_needed-fa2 : (slots : List ℕ) → all_below (slot_count n) slots ≡ true
      → units_needed values (fa2_rows n intp slots p) ≡ fa2_entry n m intp slots p
  units_needed-fa2 slots fit =
      largest-flat_map (shortfall values) (fa2_rows_at n intp p) slots
      ∙ largest-agree (λ s. nat_lt s (slot_count n)) (λ s. units_needed values (fa2_rows_at n intp p s))
      (λ s. excess (difference (home_played n m p.0 s) (home_played n m p.1 s)) intp)
      (λ s slot. units_needed-fa2_at s (ltb-true s (slot_count n) slot)) slots fit
