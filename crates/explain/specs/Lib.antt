-- What a reader of a claim must believe:
--
-- What a conflict is, with its cases, and what each answer says of a league:
pub mod Cases
pub mod Conflicts
pub mod Parts
-- Kept inside (laws, and how fields are seen):
--
-- What a try of a league came to:
pub mod Attempts
-- What is known of the members while a conflict is made smaller:
pub mod Standings
pub mod Cores
-- What a log uses, and which members it names so:
pub mod Used
