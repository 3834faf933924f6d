-- What a reader of a claim must believe:
--
-- Widths of texts, what a team does in a slot, how slots are cut into blocks, and the grid with its counts:
pub mod Widths
pub mod Cell
pub mod Blocks
pub mod Tallies
pub mod Grid
-- What holds of every grid:
pub mod Laws
-- The games as comma-separated values:
pub mod Csv
-- What is answered:
pub mod Show
pub mod Demands
-- Kept inside (how fields are seen):
--
-- A season without where it lies in memory:
pub mod SeenSeason
