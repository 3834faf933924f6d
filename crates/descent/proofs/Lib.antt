-- How the proof of a tally goes. The claim: at every moment the kept vectors and sums are those that the rules have on the present
-- counts (`IsTallied`), and an edit that is only weighed changes nothing. The idea: by the law of the frame, which
-- `rule_core` has for each class, a game changes no entry whose key it doesn't touch. So after an edit only the keys
-- that its games touch are evaluated afresh (`renewed`).
-- In order: `frame_all` takes the law from one game to many. `edit_kept` compares the counts before and after an edit
-- with the same third ones, in which all its games stand, so that nothing is subtracted. `edit_exact` says that entries
-- with the touched ones renewed are exact. The touched keys are a set with marks (`AreMarked-add`). `touched-found`
-- says that the bench has each of them once, and `touched-many` that they are as many as the steps which are promised.
-- `same_touched` says that a rule which watches few teams misses no key if it asks for the games of these teams alone.
-- `renewed-one` and `weighed-one` renew entry by entry, and `AreReady-next` rule by rule. `hard_counted` and
-- `soft_counted` say that the sums are what is counted afresh. For weighing, `kind_more`, `kind_part` and `kind_whole`
-- add up until a bound is passed. The games are exchanged and exchanged back (`taken_more`, `put_more`), so that the
-- tally is as before (`tallied-kept`), and an edit leads to one set of counts alone (`exchanged-same`). `LeagueLemmas`
-- takes all to a league's constraints (`vectors-league`, `infeasibility-league`, `objective-league`, `hard_sum-met`).
-- The difficulty: all is said of any type of rules by what its trait promises, and a change of one rule must leave the
-- invariant of all (`AreReady-next`). The sums have to fit in 128 bits: each entry is below 2^64, each penalty below
-- 2^32, and there are fewer than 2^31 entries (`product_fits`, `hard_fits`, `soft_fits`).

pub mod SetLemmas
pub mod TouchedLemmas
pub mod ByTeamLemmas
pub mod WeighingLemmas
pub mod FrameLemmas
pub mod ExchangeLemmas
pub mod CostLemmas
pub mod KeepLemmas
pub mod LeagueLemmas
pub mod UndoLemmas
-- Lemmas on what a descent is:
pub mod ScoreLemmas
pub mod TrailLemmas
pub mod BackLaw
pub mod MoveLemmas
pub mod SettledLemmas
pub mod EditLemmas
pub mod WalkLemmas
pub mod SeasonLemmas
pub mod StopLemmas
-- Worked examples, so that a wrong definition does not check:
mod TallyFacts
mod LeagueFacts
mod DescentFacts
