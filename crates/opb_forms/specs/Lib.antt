-- What a reader of a claim must believe:
--
-- Rows and what is to be least, what a text says of them, and which text is written:
pub mod Systems
pub mod Opb
pub mod Texts
-- What a file of values says:
pub mod Values
-- Kept inside (laws, and how fields are seen):
--
-- A text on its way to a sink:
pub mod Streams
pub mod SeenWaiting
pub mod SeenSystem
-- What the reader of values answers:
pub mod Answers
