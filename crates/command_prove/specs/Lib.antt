-- What a reader of a claim must believe:
--
-- The verdict on a certificate:
pub mod Bound
-- What is shown of a season:
pub mod Prove
-- What is shown of a floor:
pub mod Floor
-- Kept inside (laws, and how fields are seen):
pub mod Faults
pub mod Measured
pub mod Told
