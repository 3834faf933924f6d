-- What a reader of a claim must believe:
pub mod Validate
pub mod Report
pub mod Check
-- Kept inside (laws, and how fields are seen):
--
-- What a schedule was assessed to be:
pub mod Assessed
-- A league that is read before the log:
pub mod Reading
-- A log that is checked while it is read:
pub mod Feeding
-- A log whose steps take more than they may:
pub mod Stopping
