-- What a reader of a claim must believe:
--
-- Read in this order; each file needs only those above it. What a league and a schedule are:
pub mod Sets
pub mod Counts
pub mod Order
pub mod Instance
pub mod Names
pub mod Meetings
pub mod Venues
pub mod Structure
-- How far a schedule is from each class of constraints:
pub mod Bounds
pub mod Capacity
pub mod Games
pub mod Breaks
pub mod Fairness
pub mod Separation
-- What it adds up to:
pub mod Deviation
pub mod Accepted
-- Kept inside (laws, and how fields are seen):
--
-- Laws that the sets rest on:
pub mod SetLaws
-- Which sets and bounds a class has:
pub mod Shapes
-- Tables in which games are counted:
pub mod Grid
pub mod Tables
