-- What a reader of a claim must believe:
--
-- What a floor and its log promise:
pub mod Floors
