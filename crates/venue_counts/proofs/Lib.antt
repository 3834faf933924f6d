-- How the proof goes. The claims: a log comes exactly if the venue counts are short (`are_short`) or crowded
-- (`are_crowded`), and each log that comes is accepted. The idea: too few games on one side are too many that are
-- needed on the other. So both are one question: do the teams need more games at a venue than there are (`exceeds_at`,
-- `need_of`)? The log adds up the rows of the slots, in each of which at least half of the teams play at one venue, and
-- the rows of the teams that need games at the other. Opposite literals cancel, and what is left can't reach its
-- degree.
-- In order: `parts-added` says what a log's parts add up to. `outcounted` says when a sum is in conflict with nothing
-- set, by what is left of each variable. `larger-covered` and `outnumber` bound that: what is false for a team counts
-- as true in its slot. `conflict` puts both together, and `adds_up_accepted` says that the log is accepted.
-- `is_short_at-exceeds` turns the definitions into needs. `slot_row-numbered` says where the rows of a slot stand, and
-- `team_row-of` that the row of a team is one of the constraint that its group notes.
-- Constraints over one set of slots are a group, found by a key: `same_key` says that one key is one set.
-- `groups-kept`, `groups-put` and `groups-raised` follow the constraints one by one, and `groups-done` and `all-groups`
-- end that. `none-exceeds` and `count-accepted` answer for all groups, and `short-counted`, `crowded-counted`,
-- `are_short-told` and `are_crowded-told` say it in the words of the claims. `names-rows` and `short-lines` say that
-- the log can be written and read back.
-- The difficulty: the cancelled sum is never written down. How often a literal stands in all rows is counted as a
-- double sum, over slots and over teams, whose order is changed (`count-slots`, `count-teams`).

-- Rows added up, and when a sum is in conflict:
pub mod AddedLemmas
pub mod CancelLaws
pub mod CountLaws
-- Logs of two steps:
pub mod VerdictLaws
pub mod LogLemmas
-- What teams need, and the rows that say so:
pub mod MemberLemmas
pub mod NeedLemmas
pub mod RowLemmas
pub mod SlotLemmas
pub mod NumberedLemmas
-- Groups of constraints, and what they say of a league:
pub mod KeyLemmas
pub mod GroupLemmas
pub mod CountedLemmas
pub mod StepLemmas
-- Worked examples, so that a wrong definition does not check:
mod VenueFacts
