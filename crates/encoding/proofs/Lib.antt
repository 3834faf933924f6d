-- Lists in ascending order, so that the variables of a row differ:
pub mod AscendLemmas
pub mod MeetingOrder
pub mod NumberLemmas
-- Lists that grow element by element:
pub mod GrownLemmas
-- Which rows are whose:
pub mod RowRangeLemmas
-- The rows of a class key by key, and what its sets are:
pub mod KeyRowLemmas
pub mod PairLemmas
pub mod FewLemmas
pub mod MemberLemmas
-- The numbers of variables, read back:
pub mod PlaceLemmas
-- The rows of a class by its subjects, and which these are:
pub mod KeyLaws
pub mod SubjectLemmas
pub mod HeldKeys
-- The variables of a row ascend, so they differ:
pub mod LiteralOrder
pub mod TieLemmas
-- The rows of a key, as they are written:
pub mod ListedRows
-- The rows of a league, group after group:
pub mod EncodeLemmas
-- Where the rows of each constraint begin:
pub mod StartLemmas
-- How many terms the rows of a class and of a season have:
pub mod SizeLemmas
pub mod ClassSizeLemmas
pub mod AlikeKeys
pub mod SeasonSizes
-- The variables of the rows are those that a league has:
pub mod KnownLemmas
-- Whose a row is:
mod OwnerLemmas
-- Worked examples, so that a wrong definition does not check:
pub mod EncodingFacts
pub mod ClassRowFacts
pub mod KeyFacts
pub mod RowRangeFacts
pub mod SizeFacts
