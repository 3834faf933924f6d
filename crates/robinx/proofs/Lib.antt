-- Lemmas on the pieces of a file:
pub mod ByteSearch
pub mod AttributeLemmas
pub mod PieceTexts
pub mod PieceLemmas
-- Lemmas on values and lists:
pub mod SearchLemmas
pub mod SetLemmas
pub mod ValueLemmas
pub mod KnownLemmas
-- Lemmas on numbers, on lists of items, on drafts, and on the walk:
pub mod NumberLemmas
pub mod PositionLemmas
pub mod ItemLemmas
pub mod WalkLemmas
pub mod DraftLemmas
pub mod KeptLemmas
pub mod SeasonLemmas
pub mod GamesLemmas
-- Lemmas on entities as a loop expands them, on names that may be printed, and on labels:
pub mod EntityLemmas
pub mod PlainLemmas
pub mod LabelLemmas
-- Lemmas on texts that grow, for crates above:
pub mod TextLemmas
-- Two meanings over one walk, and the counts of names along it:
pub mod WholeLemmas
pub mod CountLemmas
pub mod AnswerLemmas
-- Tags at the front of bytes, and the pieces and the walk from there on:
pub mod TagLemmas
pub mod StepLemmas
-- Texts of values:
pub mod NumberTexts
pub mod WrittenTexts
pub mod ListTexts
pub mod ClassLemmas
pub mod GroupLemmas
-- Texts of files, and comments behind them:
pub mod CommentLemmas
pub mod SolutionLemmas
pub mod InstanceLemmas
pub mod PartLemmas
-- Worked examples, so that a wrong definition does not check:
mod PieceFacts
mod TrimFacts
mod FileTexts
mod TextFacts
mod FileFacts
mod WalkFacts
mod ClassFacts
mod LimitFacts
mod PrefixFacts
mod ValueFacts
pub mod PlainFacts
pub mod NameFacts
pub mod NamesFacts
