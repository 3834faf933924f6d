-- What a reader of a claim must believe:
--
-- The place of an entry in its vector:
pub mod Keys
pub mod Pairs
-- The counts of games, and what is counted on them:
pub mod Table
pub mod Meetings
pub mod Places
-- What a game touches, and what the rule of a constraint is:
pub mod Touched
pub mod Rule
-- Kept inside (laws, and how fields are seen):
--
-- Of keys:
pub mod KeyPlaces
pub mod Listed
pub mod KeptPairs
-- Of the counts of games:
pub mod Opponents
pub mod Spare
pub mod Tables
pub mod KeptMeetings
-- Of rules:
pub mod Ready
