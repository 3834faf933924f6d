-- What a reader of a claim must believe:
pub mod Walked
-- Kept inside (how fields are seen):
pub mod Standing
