-- What a reader of a claim must believe:
pub mod Limits
