-- How the proof goes. The claims: each learnt step follows from the rows and is empowering over them (`IsNews`), the
-- log that closes is accepted, and the search ends. The idea: an analysis gives each place of the trail a role. A kept
-- literal's negation stands in the clause, a used literal's reason is a hint, all others stand apart (`IsAnalysis`).
-- That the step follows: make the clause false, so that the kept literals are true, and replay the hints in the trail's
-- order. Each used literal becomes true, until the row in conflict is reached (`analysis_replay`, `analysis_follows`).
-- That it is empowering: before the last decision the rows were quiet, and of the kept literals all were true there but
-- one, which was free (`analysis_empowers`). The code goes down the trail by `false_stands`, `Marks-mark`,
-- `walk_start`, `walk_pass` and `walk_use`, at level 0 by `trace_start`, `trace_pass` and `trace_use`. `walked_news`
-- takes the step from that, and `closes` the empty clause. `walked_learnable` says that the levels to which the search
-- goes back stay quiet (`kept_calm`, `calm_below`). On the trail the rows and the kept clauses have other numbers than in
-- the log; a replay over the one is one over the other (`named-row`, `judged-named`). No kept clause is learnt again
-- (`no_copy`, `not_again`), and what is empowering over more rows is so over fewer (`AreEmpowering-part`). So fewer
-- steps than 3 to the number of variables are kept at any time (`fewer_steps`). After each forgetting more may be kept
-- than before, and there is no forgetting where as many may be kept: so the search ends (`left_learnt`, `left_decided`,
-- `left_forgot`). `filled_satisfies`, `verdict_of-refuted` and `answer_spent` are for the three answers.
-- The difficulty: reasons aren't clauses. A row forces by its slack, so all its literals that were false at that place
-- take part (`Resolves`), and in the replay other values stand. There what was false is false again, so the slack is no
-- greater, and the row forces what it forced or is in conflict already (`reach-falls`, `reach-lost`,
-- `with_forced-true`). And one literal alone may be kept from the last decision on: `IsWalked` carries down the trail
-- which is the lowest that is marked.

-- Literals made true in turn, and the clause of an analysis, which follows:
pub mod ReplayLemmas
pub mod AnalysisLemmas
-- Trails, and the clause of an analysis, which is empowering:
pub mod TrailLaws
pub mod EmpoweringLemmas
-- Marks, term by term:
pub mod MarkLemmas
-- The walk of an analysis, place by place:
pub mod WalkLemmas
-- What is kept, and its numbers in the log:
pub mod KeptLemmas
pub mod NameLemmas
-- What is learnt:
pub mod TidyLemmas
pub mod BackLemmas
pub mod LearnLemmas
pub mod SearchLemmas
pub mod TurnLemmas
pub mod StopLemmas
-- Logs of news, which have fewer steps than there are clauses:
pub mod CountLemmas
-- Values at which propagation stands still:
pub mod SatLemmas
pub mod PickLemmas
-- Worked examples, so that a wrong definition does not check:
pub mod NewsFacts
-- How long the lines of a log are:
pub mod LineLemmas
