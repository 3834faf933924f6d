-- Kept entries as they would be with some of them evaluated afresh, and their sum.
use Rattle.std.specs.Prelude.{◌≡◌, ℕ, ◌^◌, ◌<◌, ◌≤◌, Bool, true, false, not, if◌then◌else◌, List, length, map, slice_index}
use Rattle.std.specs.List.{filter, range_with_len, sum, sum_by}
use Rattle.league.specs.Counts.{Counts}
use Rattle.league.specs.declared.game.Game.{Game}
use Rattle.rule_core.specs.declared.rule.Entries.{Ghosts}
use Rattle.descent.specs.KeySet.{is_in}
use Rattle.descent.specs.Tallies.{cost_on, infeasibility_on, objective_on, touched_count}
use Rattle.descent.specs.declared.weigh.Sums.{Sums}
use Rattle.descent.specs.declared.weighted.Weighted.{Weighted}

-- the entries, those of these keys as f gives them
abbrev pub renewed : (ℕ → ℕ) → List ℕ → List ℕ → List ℕ
renewed f keys entries =
    map (λ k. if is_in keys k then f k else slice_index entries k) (range_with_len 0 (length entries))

-- the entries so renewed where what is evaluated is written, and else as they are
abbrev pub if_written : Bool → (ℕ → ℕ) → List ℕ → List ℕ → List ℕ
if_written true f keys entries = renewed f keys entries
if_written false f keys entries = entries

-- a deviation is the sum of the entries so renewed, each of which is a word
pub record IsWeighed (f : ℕ → ℕ) (keys entries : List ℕ) (deviation : ℕ) : Type 0 where
  pub sum_is : deviation ≡ sum (renewed f keys entries)
  pub words : (k : ℕ) → slice_index (renewed f keys entries) k < 2 ^ 64

-- a rule is of a kind: hard, or soft
abbrev pub is_kind : Bool → Bool → Bool
is_kind true hard = hard
is_kind false hard = not hard

-- a number of a rule of a kind, and 0 for a rule of the other kind
abbrev pub if_kind : {R : Type 0} → Bool → (Weighted R → ℕ) → Weighted R → ℕ
if_kind kind f w = if is_kind kind w.hard then f w else 0

-- what the rules of a kind cost on some counts
abbrev pub kind_cost : {R : Type 0} → Ghosts R → Counts → Bool → List (Weighted R) → ℕ
kind_cost E m kind weights = sum_by (cost_on E m) (filter (λ w. is_kind kind w.hard) weights)

-- how many keys of the rules of a kind some games touch
abbrev pub kind_touched : {R : Type 0} → Ghosts R → Bool → List (Weighted R) → List Game → ℕ
kind_touched E kind weights games =
    sum_by (λ w. touched_count E w.rule games) (filter (λ w. is_kind kind w.hard) weights)

-- sums are what rules cost on some counts, or parts of it, one of which is above its bound
pub record AreWeighed {R : Type 0} (E : Ghosts R) (most : Sums) (m : Counts) (weights : List (Weighted R))
    (sums : Sums) : Type 0 where
  pub infeasibility_part : sums.infeasibility ≤ infeasibility_on E m weights
  pub objective_part : sums.objective ≤ objective_on E m weights
  pub infeasibility : sums.infeasibility ≤ most.infeasibility → sums.infeasibility ≡ infeasibility_on E m weights
  pub objective : sums.infeasibility ≤ most.infeasibility → sums.objective ≤ most.objective
      → sums.objective ≡ objective_on E m weights
