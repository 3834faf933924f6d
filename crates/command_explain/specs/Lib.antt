-- What a reader of a claim must believe:
pub mod Parted
pub mod Texts
pub mod Explained
-- Kept inside (laws, and how fields are seen):
pub mod Replied
