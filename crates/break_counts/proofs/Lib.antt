-- How the proof of the law goes (`few-none`). The idea: in a stretch of slots in which each two teams meet, all teams
-- but two have a break after its first slot (de Werra). The hard constraints BR1 and BR2 bound in how many stretches
-- each team may have one.
-- In order: `StretchLemmas` is the proof of `patterns` over any stretch: teams without a break that begin alike go on
-- alike and never meet (`alternates`, `alike`, `apart`, `begin_apart`), so `all_but_two`. `season-met`,
-- `first_half-met` and `second_half-met` say in which stretches each two teams meet. `counted_le` says that breaks in
-- stretches are no more than breaks at slots that cover them. So an accepted schedule has no more than is allowed:
-- `allowed-by` one constraint, `allowed-on` one side, `allowed-of` both, `allowed-with` all teams and a BR2.
-- `none_few_in` holds both numbers against each other, and `none_in` goes through the stretches of a league. In `SumLaws`
-- bounds that are added up allow as much together (`bounded`), and count the breaks of teams between them (`broken-counted`).
-- `TableLemmas` says that the code finds what is allowed (`table-more`, `table-both`, `few-at`, `none-few`), and
-- `LineLemmas` that a log's lines are short.
-- The difficulty: stretches that are counted together must not share a slot, or a break would count twice. `Follow`
-- puts them one behind another.

-- Sums over ranges and over sets:
mod RangeSums
-- In a stretch in which each two teams meet, all teams but two have a break:
mod StretchLemmas
-- In which stretches each two teams meet:
mod MetLemmas
-- What hard constraints allow, and the law:
pub mod FewLaws
-- What bounds allow together, and their law:
pub mod SumLaws
-- What bounds allow together, as it is found:
pub mod TogetherLemmas
-- What each team is allowed, as it is found:
pub mod TableLemmas
-- How long lines are:
pub mod LineLemmas
-- Rows over the variables that there are:
pub mod CheckLemmas
-- What a search without a limit answers:
pub mod SearchLemmas
-- Worked examples, so that a wrong definition does not check:
mod BreakFacts
mod SumFacts
