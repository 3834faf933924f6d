-- How the proof goes. The law of the fewest breaks (de Werra) says: in a single round robin no two teams have one
-- pattern, and all teams together have at least n - 2 breaks. The idea: two teams that meet have different letters in
-- the slot of their game. A team without a break alternates, so its first letter tells all others. So at most one team
-- without a break begins at home, and at most one away.
-- In order, in `FewestLemmas`: `meet` and `apart` find a slot in which two teams have different letters, and
-- `patterns_apart` says that their patterns differ. `flip` and `flips` say that a team without a break changes its
-- venue from slot to slot. By induction over the slots, two such teams that begin alike go on alike (`alike`). `apart`
-- excludes that (`begin_apart`), so at most one such team begins with a given letter (`one_begins`). `breaks_at_least`
-- sums over the teams: each has a break or begins in one of two ways (`covered`). `distinct_patterns` and
-- `fewest_breaks` are the law.
-- `TermLemmas` counts by sums (`some_term`, `count-at_most_one`, `sum_by-at_least`). `PatternLemmas` says that what the
-- code reads are the patterns of the games (`patterns-read`). `BreakLemmas` says that the breaks which the letters show
-- are the team's breaks (`breaks_in-pattern_in`, `canonical-few`).
-- The difficulty is small: teams are counted by sums alone, so "all but two" becomes a sum over `covered`.

-- Lemmas on the definitions:
pub mod TermLemmas
pub mod FewestLemmas
pub mod PatternLemmas
pub mod BreakLemmas
-- Worked examples, so that a wrong definition does not check:
pub mod PatternFacts
