-- What a reader of a claim must believe:
--
-- What the text of a certificate says, and which text is written:
pub mod Certificates
-- What each answer says of a league and a schedule:
pub mod Proofs
-- Kept inside (laws, and how fields are seen):
--
-- What a reader of certificates answers:
pub mod Answers
-- Games that are accepted and cost less:
pub mod Lower
