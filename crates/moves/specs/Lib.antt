-- What a reader of a claim must believe:
--
-- Read in this order. The least set that leads on from a number, the five kinds of moves, and that each legal one
-- undoes itself:
pub mod Closure
pub mod Moves
pub mod Neighbours
pub mod Undo
-- A round robin as a table, and what a move changes of it:
pub mod Round
pub mod Places
-- A list of moves:
pub mod MoveList
-- Kept inside (parts of moves, walks, and the moves still to come):
--
-- What moves of slots, and moves of teams, have in common, and what is answered of them:
pub mod Parts
pub mod Outcome
-- Room for the games that an edit holds:
pub mod Room
-- Walks that mark the least sets:
pub mod Walks
-- The moves still to come:
pub mod Rest
