-- Lemmas on runs of each command, and on how they end:
mod RunLemmas
mod ValidateLemmas
mod ShowLemmas
mod CheckLemmas
mod SolveLemmas
mod PatternLemmas
mod ExplainLemmas
mod FloorLemmas
mod BoundLemmas
mod ResumeLemmas
mod RowLemmas
mod MadeLemmas
mod CommandLemmas
mod EndLemmas
-- Worked examples, so that a wrong definition does not check:
mod RunFacts
