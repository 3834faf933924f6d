-- How the proof goes. The idea: in slot s the last team meets team s. Of the m = n - 1 teams in the circle, those k
-- steps on and k steps back from s meet. So two teams i and j of the circle meet in slot s only if i + j is 2s, up to a
-- multiple of m. Since m is odd, there is exactly one such slot.
-- In order: `are_reached` says whom k steps reach, with the turn round the end as a case of its own. `place` finds the
-- step at which a team plays in a slot, and its venue there. `meeting` finds a slot and a step at which two teams meet.
-- `AreMet-slot` and `AreMet-step` say that there is no other. `GameLemmas` follows the code game by game
-- (`slot_games-more`, `double_games-more`), and says that each game fits the league (`IsGame-double_games`). `venue`
-- says that each team has one game in each slot, at home or away by `is_at_home`. `between-single_games`,
-- `meeting-once` and `half-once` say that each two teams meet as often as they must. `IsRoundRobin-double_games` puts
-- both together. `repeats-circle` finds the slot of a team's break, `team_repeats` counts a team's breaks, and
-- `HasFewBreaks-double_games` is the law of the breaks. `SingleLemmas` takes all of this over to the first half alone
-- (`count-first`, `single_round_robin_of`).
-- The difficulty lies in the remainders by m. `steps_on_cases` and `steps_back_cases` make two cases of each, with m
-- added or not. From there on linear arithmetic decides (`one_slot`). A team's venue is told by the parity of its
-- distance from the slot's team. The parity turns from slot to slot, so a break comes only where the slots pass the
-- team's own (`repeats-own`, `repeats-next`).

-- Lemmas on the definitions:
pub mod CircleLemmas
pub mod GameLemmas
pub mod VenueLemmas
pub mod MeetingLemmas
pub mod RoundRobinLemmas
pub mod BreakLemmas
pub mod SingleLemmas
-- Worked examples, so that a wrong definition does not check:
pub mod CircleFacts
