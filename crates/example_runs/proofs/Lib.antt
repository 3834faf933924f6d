-- Rows, what they force, and their sums; rows without a solution:
mod RowExamples
mod SoundExamples
-- The rows and variables of six teams and of four, and seasons read from values:
mod EncodingExamples
-- The terms of the rows of forty teams, at the limit:
mod SizeExamples
-- Logs over four rows, as steps and as text, and texts that are read in pieces:
mod LogExamples
mod TextExamples
-- Trails, and logs that refute or are spent:
mod TrailExamples
mod SearchExamples
-- Home-away patterns and venue counts, and a slot of the circle of eight teams:
mod PatternExamples
mod PatternSearchExamples
mod PatternLogExamples
mod CountExamples
-- Moves, scores, and numbers that two definitions say; a round robin as a table:
mod MoveExamples
mod RoundExamples
-- Parts of a league, and a conflict of two demands:
mod PartExamples
-- Bound rows, and the rows of a season partly played:
mod BoundExamples
mod LowerBoundExamples
mod PlayedExamples
-- Made leagues of six teams:
mod MadeExamples
-- States that parts of the program keep or come to:
mod StateExamples
mod PatternAnswerExamples
-- Runs of which an example knows how they ended and what they wrote:
mod Runs
-- What is solved, refuted or left open of a league of two teams, with what can be written of it:
mod SolveExamples
mod DescentExamples
-- Conflicts of two demands and of one, and what is explained of a league:
mod ConflictExamples
-- What is written of them:
mod ExplainExamples
-- A season of two slots of which the first is played:
mod ResumeExamples
mod ResumedExamples
-- What a walk gives, bounds on sums, rules with their prices, climbs, and what is said of a log:
mod WalkExamples
-- A least objective, one that is bettered, and a log that is spent:
mod LeastExamples
mod BetterExamples
-- What `prove` answers, and what is written:
mod ProveExamples
mod FloorExamples
-- What `bound` answers, and what a run of either says:
mod CertificateExamples
-- What the other commands answer:
mod CommandExamples
mod MadeLeagueExamples
-- Devices, and round robins of two teams:
mod DeviceExamples
mod RoundRobinExamples
-- What is said of words, pieces of files, what readers answer, and kept rows:
mod ReaderExamples
