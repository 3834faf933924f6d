-- What rules give and cost on some counts, counted afresh.
use Rattle.std.specs.Prelude.{◌≡◌, ℕ, ◌+◌, ◌-◌, ◌*◌, ◌^◌, ◌<◌, ◌≤◌, not, eqb, List, map}
use Rattle.std.specs.List.{filter, flat_map, range_with_len, sum, sum_by}
use Rattle.std.specs.Set.{distinct_count}
use Rattle.league.specs.Counts.{Counts, counts_of}
use Rattle.league.specs.declared.game.Game.{Game}
use Rattle.rule_core.specs.declared.rule.Entries.{Ghosts}
use Rattle.rule_core.specs.Table.{Table, table_counts}
use Rattle.descent.specs.declared.weigh.Sums.{Sums}
use Rattle.descent.specs.declared.weighted.Weighted.{Weighted}

-- weighted rules, and a table of counts
pub record Tallied (R : Type 0) : Type 0 where
  pub weights : List (Weighted R)
  pub table : Table

-- a tally before and after it was only asked: the same rules, on the same counts
pub record OnlyTallied {R : Type 0} (old new : Tallied R) : Type 0 where
  pub weights : new.weights ≡ old.weights
  pub n : new.table.n ≡ old.table.n
  pub counts : table_counts new.table ≡ table_counts old.table
  pub total : sum new.table.list ≡ sum old.table.list

-- the entries of a rule on some counts, in the order of their keys
abbrev pub vector_on : {R : Type 0} → Ghosts R → Counts → R → List ℕ
vector_on E m rule = map (λ key. E.entry rule key m) (range_with_len 0 (E.term_count rule))

-- penalty times deviation
abbrev pub cost_on : {R : Type 0} → Ghosts R → Counts → Weighted R → ℕ
cost_on E m w = w.penalty * sum (vector_on E m w.rule)

-- what the hard rules cost
abbrev pub infeasibility_on : {R : Type 0} → Ghosts R → Counts → List (Weighted R) → ℕ
infeasibility_on E m weights = sum_by (cost_on E m) (filter (λ w. w.hard) weights)

-- what the soft rules cost
abbrev pub objective_on : {R : Type 0} → Ghosts R → Counts → List (Weighted R) → ℕ
objective_on E m weights = sum_by (cost_on E m) (filter (λ w. not w.hard) weights)

-- a number is at most a bound; the greatest number of 128 bits is no bound
abbrev pub IsAtMost : ℕ → ℕ → Type 0
IsAtMost bound number = bound < 2 ^ 128 - 1 → number ≤ bound

-- what the rules cost is at most these bounds
pub record IsWithin {R : Type 0} (E : Ghosts R) (most : Sums) (m : Counts) (weights : List (Weighted R)) : Type 0 where
  pub infeasibility : IsAtMost most.infeasibility (infeasibility_on E m weights)
  pub objective : IsAtMost most.objective (objective_on E m weights)

-- how many entries the rules have in all
abbrev pub all_terms : {R : Type 0} → Ghosts R → List (Weighted R) → ℕ
all_terms E weights = sum_by (λ w. E.term_count w.rule) weights

-- how many different keys of a rule some games touch
abbrev pub touched_count : {R : Type 0} → Ghosts R → R → List Game → ℕ
touched_count E rule games = distinct_count eqb (flat_map (E.touches rule) games)

-- how many different keys of each of some rules the games touch, in all
abbrev pub all_touched : {R : Type 0} → Ghosts R → List (Weighted R) → List Game → ℕ
all_touched E weights games = sum_by (λ w. touched_count E w.rule games) weights

-- the counts with each of these games once more
abbrev pub with_games : Counts → List Game → Counts
with_games m games i j s = m i j s + counts_of games i j s
