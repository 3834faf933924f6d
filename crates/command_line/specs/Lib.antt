-- What a reader of a claim must believe:
pub mod Words
pub mod Topics
pub mod Faults
-- Kept inside (laws, and how fields are seen):
pub mod SeenWords
pub mod Standing
pub mod SeenStanding
pub mod SeenOptions
pub mod Later
