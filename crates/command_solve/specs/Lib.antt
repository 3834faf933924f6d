-- What a reader of a claim must believe:
--
-- `solve`:
pub mod Solve
pub mod From
-- `patterns`:
pub mod Patterns
-- `circle`, `make` and `trial`, which read no file:
pub mod Circle
pub mod MadeInstance
pub mod Trial
-- Kept inside (what an answer is written as):
pub mod Written
