-- What a reader of a claim must believe:
--
-- What is said of a log that a search finds:
pub mod Refuted
-- Kept inside (laws, and how fields are seen):
--
-- Numbers of a row, what variables count in it, and how literals stand on the trail:
pub mod Numbers
pub mod Coefs
pub mod Trails
-- How a row is divided, what its slack is, and that its coefficients are within the limit:
pub mod Dividing
pub mod Slack
pub mod Small
