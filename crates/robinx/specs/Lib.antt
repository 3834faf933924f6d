-- What a reader of a claim must believe:
--
-- The pieces of a file, its tags and texts from front to back, each with its line, up to the first fault:
pub mod Bytes
pub mod Fronts
pub mod Tags
pub mod Pieces
pub mod SeenAttr
pub mod SeenTag
pub mod Next
pub mod Faults
pub mod SeenPieces
-- What a file says, read in this order; each needs only those above it.
pub mod Elements
pub mod Walk
pub mod Values
pub mod Words
pub mod Demands
pub mod Classes
pub mod InstanceFile
pub mod SolutionFile
-- The texts of files that are written:
pub mod Attributes
pub mod Texts
-- Faults of tags as faults of reading, and what the calls answer of what a file says:
pub mod Tagged
pub mod Answers
-- A value of a file as a name that is printed, and the names of a league:
pub mod Plain
pub mod Names
pub mod NamesFile
-- Kept inside (laws, and how fields are seen):
--
-- What the steps to the next piece answer:
pub mod Moves
-- Sets as they are read, item by item:
pub mod Gathered
-- Names and positions without where they lie in memory, and what a draft keeps:
pub mod Seen
pub mod SeenPosition
pub mod Drafts
-- What is kept of names at all times:
pub mod Kept
-- Values without where they lie in memory, and numbers as they are held in it:
pub mod SeenValues
pub mod Held
