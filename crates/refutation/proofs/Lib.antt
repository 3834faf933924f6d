-- Steps that lie end to end in flat lists:
pub mod FlatLemmas
-- Steps at places:
pub mod StepLemmas
-- The text of a log reads back:
pub mod NumberTexts
pub mod StepTexts
pub mod LogTexts
-- A text that is read is the text of its steps:
pub mod ReadTokens
pub mod ReadTexts
-- Worked examples, so that a wrong definition does not check:
pub mod LogFacts
-- Laws of cutting, of tokens, groups, lines and pieces:
pub mod SplitLemmas
pub mod TokenLemmas
pub mod FoundLemmas
pub mod GroupLemmas
pub mod LineLemmas
pub mod FeedLemmas
pub mod CutLemmas
-- Clause steps in front of bytes:
pub mod FrontLemmas
pub mod PlainLemmas
pub mod ClauseFacts
pub mod LinearFacts
