-- What a reader of a claim must believe:
--
-- That the encoding is faithful both ways:
pub mod Faithful
-- What an accepted log proves of a league:
pub mod Excluded
-- Kept inside (laws, and how fields are seen):
--
-- Values that say the same as counts, and what rows lack:
pub mod Below
pub mod Mirrors
pub mod Shortfalls
-- How the games are gone through, and which variables each makes true:
pub mod TrueGames
pub mod Marks
