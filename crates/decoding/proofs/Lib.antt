-- How the proof goes. The idea: values mirror a schedule if they say the same as the counts of its games (`Mirrors`,
-- `MirrorsBreaks`). Under such values each group of rows is satisfied exactly if one condition of acceptance holds. An
-- equation between two tests serves both directions.
-- In order: `needs_between` and `needs_most` say what the rows of a count lack, and `satisfied-needs` that all are
-- satisfied where the worst lacks nothing. `games_listed`, `homes_listed`, `aways_listed` and `breaks_listed` say that
-- as many literals of a list are true as games are played, or breaks had. So each class has its law:
-- `units_needed-ca1`, `satisfied-ca3`, `units_needed-br1`, `units_needed-fa2`, `satisfied-se1` and those beside them.
-- `class_law` joins the nine, and `constraints_law` takes all hard constraints. The rows of the season have theirs:
-- `meeting_rows-law`, `cell_rows-law`, `half_rows-law`, `venue_rows-law`, `break_rows-law`. The rows of groups 5 and 6
-- follow from the others (`slot_rows-met`, `team_rows-met`). `season-from_rows` says that values which satisfy the
-- season's rows decode to a round robin (`counts_of-decoded_game`) and mirror it. `mirrored-from_shadow` says the same
-- of a round robin's shadow. `accepted-from_rows` and `rows-from_accepted` put all together, and `some_shadow` makes a
-- shadow of any schedule. The code is proved beside this: `season-true` says that its loops list what is decoded, and
-- `IsShadow-from_marks` that what it marks is the shadow.
-- The difficulty: the class laws need mirroring values, so these must come first, from groups 2 and 4
-- (`Mirrors-from_venues`). FA2 bounds a difference, and a row can only count: so one row counts away games of one team
-- and home games of the other, and a second row the other way round (`two_ways`). SE1 speaks of neighbouring games and
-- its rows of windows: `lacking-windows` says by induction over the slots that both mean the same.

-- Lists of literals and what they count:
pub mod MeetingLists
pub mod VenueLists
-- What rows lack:
pub mod ShortfallLemmas
-- The law of each class of constraints:
pub mod CapacityLaws
pub mod BreakLaws
pub mod FairnessLaw
pub mod GapLemmas
pub mod SeparationLaw
pub mod ClassLaws
-- All rows of the hard constraints:
pub mod ConstraintLaws
-- Decoding an assignment, and the shadow of a schedule:
pub mod DecodedCounts
pub mod SomeShadow
-- What the rows of a season say:
pub mod SeasonLaws
pub mod VenueLaws
pub mod BreakRows
pub mod HomeCounts
pub mod SeasonRows
-- The encoding is faithful both ways:
pub mod Faithful
-- Games that are decoded from accepted values fit, and are few; games that change places:
pub mod GameLemmas
-- Decoding as a walk through the slots, the home teams and the away teams, in order:
pub mod OrderOfGames
pub mod DecodeLemmas
-- The shadow of a schedule as marks of its games:
pub mod MarkLemmas
pub mod ShadowLemmas
pub mod ShadowLaw
-- An accepted log excludes every schedule:
pub mod SeasonLemmas
