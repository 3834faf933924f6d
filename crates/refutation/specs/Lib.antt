-- What a reader of a claim must believe:
--
-- Read in this order; each file needs only those above it. What a step is, and what its line and a log's text say:
pub mod Steps
pub mod Lines
pub mod Logs
-- The text of a log, and which logs are read back from it:
pub mod Texts
pub mod Writable
-- A text that is read in pieces:
pub mod Places
pub mod Feeding
pub mod Answers
-- When a step follows from rows, and what is said of a log:
pub mod Following
pub mod Verdict
-- Kept inside (laws, and how fields are seen):
--
-- How a log keeps its steps:
pub mod Flat
-- Which numbers a step can hold:
pub mod Written
-- What stands first in a line, its groups, and what is answered of it:
pub mod Cuts
pub mod Tokens
pub mod Groups
pub mod Outcomes
-- Lines of clause steps that stand in front of bytes:
pub mod Fronts
pub mod SeenPlace
