-- The games of the circle method are few:
mod CircleLemmas
-- How many games a double round robin has:
pub mod FewLemmas
-- The budgets to which a run kept:
pub mod KeptLemmas
-- What a descent makes of an accepted schedule:
pub mod LowerLemmas
-- What a walk from an accepted start leads to:
mod StartLemmas
-- What is found, or where that is spent, a log that refutes:
mod PlaneLemmas
-- What counts say:
pub mod CountingLemmas
-- Which of several tries is the best:
pub mod EarliestLemmas
-- What the answers say:
pub mod AnswerLemmas
-- Worked budgets and answers:
mod KeptFacts
mod SolutionFacts
