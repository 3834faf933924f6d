-- How the proof goes. The claims: `edit_of` says exactly whether a move is legal (`IsEditOf`), and each legal move
-- undoes itself (`legal_moves-undo`). The idea: a round swap and a part round swap exchange two slots in the games of a
-- closed set of teams (`slots_exchanged`). A team swap and a part team swap exchange two teams in a closed set of slots
-- (`teams_exchanged`). So there are two laws for four kinds of moves. A home swap always leads to a round robin
-- (`home_swap-done`).
-- In order: `PlayLemmas` says a round robin as sums (`IsPlayed`), in which two numbers change places
-- (`total-exchanged`). `IsPlayed-slots_exchanged` and `AreExchangeable-of` say when slots may be exchanged,
-- `IsPlayed-teams_exchanged` and `KeepPhases-of` when teams may. An exchange can break one condition alone: that each
-- two teams meet once in the first half of a phased league. `only_game` and `only_slot` read a board's tables,
-- `IsTable-placed` and `IsBoard-placed` write them, and `IsBoard-applied` takes an edit. `IsEdit-slots` and
-- `IsEdit-teams` say that an edit makes the exchange, `AreApart-slots` and `AreApart-teams` that no game is both taken
-- out and put in. `slot_walk_end` and `team_walk_end` say that a walk round its cycle marks the least closed set
-- (`closures-least`). `LegalLemmas` puts these together (`slots-done`, `slots-refused`, `teams-done`, `teams-refused`).
-- The difficulty lies in team swaps. The slots are closed under one step only, from whom i meets to the slot where j
-- meets the same team. It follows by counting that i and j meet the same teams in them, at the same venues (`both-le`,
-- `total-squeeze`, `venues-same`). To undo a part move one must find the same set on the changed season.
-- `closures-same` asks that each relation is closed under the other, for which `closed_back` walks the slots backwards
-- (`teams-same`, `slots-same`).

-- Worked examples, so that a wrong definition does not check:
pub mod MoveFacts
-- Lemmas on the definitions:
pub mod SumLemmas
pub mod PlayLemmas
pub mod SlotLaw
pub mod TeamLaw
pub mod RoundLemmas
pub mod PlacedLemmas
pub mod EditLemmas
pub mod ApartLemmas
pub mod OpponentLemmas
pub mod WalkLemmas
pub mod StepLemmas
pub mod LegalLemmas
pub mod HomeLemmas
pub mod TradeLemmas
pub mod BoardLemmas
pub mod RestLemmas
pub mod ClosureLaw
pub mod UndoLaw
