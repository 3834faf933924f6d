-- What a reader of a claim must believe:
--
-- One run, and what all commands promise of it:
pub mod Answer
pub mod Ends
pub mod Run
pub mod Said
pub mod Taken
-- What each command promises, and what its answers mean:
pub mod Commands
pub mod Validate
pub mod Show
pub mod Check
pub mod Solve
pub mod SolveFrom
pub mod Patterns
pub mod Explain
pub mod Readable
pub mod Part
pub mod Prove
pub mod Bound
pub mod Resume
pub mod ResumeNear
pub mod Audit
pub mod Rows
pub mod Values
pub mod Circle
pub mod Make
pub mod Trial
pub mod Help
-- Kept inside (laws, and how fields are seen):
pub mod Givens
pub mod Folded
