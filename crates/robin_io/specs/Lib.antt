-- What a reader of a claim must believe:
pub mod Counts
pub mod Numbers
pub mod Written
pub mod ShelfView
pub mod Faults
pub mod SinkView
pub mod Outside
-- Kept inside (laws, and how fields are seen):
pub mod Files
pub mod ShelfFields
pub mod SinkFields
pub mod HostFields
pub mod Rests
