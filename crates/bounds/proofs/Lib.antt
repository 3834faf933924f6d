-- What the text of a certificate is read as:
pub mod ReadLemmas
-- It reads back:
pub mod TextLemmas
-- What the answers say:
pub mod ProofLemmas
-- Worked examples, so that a wrong definition does not check:
pub mod CertificateFacts
