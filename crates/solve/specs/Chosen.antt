-- What is kept of two tries.
use Rattle.std.specs.Prelude.{nat_lt, if◌then◌else◌, Option, None, Some}
use Rattle.league_search.specs.declared.found.PatternFound.{PatternFound}
use Rattle.solve.specs.declared.lower.Season.{Season}
use Rattle.solve.specs.declared.solved.Solved.{Solved}
use Rattle.solve.specs.declared.solved.Solved.TheVariants as answers
use Rattle.solve.specs.declared.tries.Tried.{Tried}
use Rattle.solve.specs.declared.tries.Tried.TheVariants as tries

-- a schedule as the answer
abbrev pub schedule_found : Season → Solved
schedule_found season = answers.Schedule season.schedule season.objective season.descent

-- what a try comes to, as the answer, where this is known of the league's patterns
abbrev pub solved_by : Tried → PatternFound → Solved
solved_by (tries.Found season) patterns = schedule_found season
solved_by (tries.Refuted log) patterns = answers.Refuted log
solved_by (tries.Spent log) patterns = answers.Spent log patterns

-- the schedule of the lesser objective, and of equal ones the first
abbrev pub lesser : Season → Season → Season
lesser best later = if nat_lt later.objective best.objective then later else best

-- the better one of a schedule and of what a later try comes to
abbrev pub better_season : Season → Tried → Season
better_season best (tries.Found later) = lesser best later
better_season best (tries.Refuted log) = best
better_season best (tries.Spent log) = best

-- the better one of an answer and of what a later try comes to: a refutation stays, and what is spent gives way
abbrev pub better : Solved → Tried → Solved
better (answers.Schedule games objective descent) later =
    schedule_found (better_season (record { schedule = games; objective = objective; descent = descent }) later)
better (answers.Refuted log) later = answers.Refuted log
better (answers.Spent log patterns) later = solved_by later patterns

-- the better one of an answer and of the schedule of a later walk, if there is one
abbrev pub with_later : Solved → Option Season → Solved
with_later best None = best
with_later best (Some season) = better best (tries.Found season)

-- what a search comes to, or the schedule of a walk where there is one and it isn't worse
abbrev pub with_walked : Tried → Option Season → Tried
with_walked found None = found
with_walked found (Some season) = tries.Found (better_season season found)
