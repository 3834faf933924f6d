-- Kept inside (laws, and how fields are seen):
--
-- An assessment:
pub mod Assess
-- The rules of the classes, and what their helpers count:
pub mod Between
pub mod Ca1
pub mod Ca2
pub mod Ca3
pub mod Ca4
pub mod BySlot
pub mod Ga1
pub mod Bits
pub mod Br1
pub mod Br2
pub mod Played
pub mod Fa2
pub mod TeamGaps
pub mod Se1
