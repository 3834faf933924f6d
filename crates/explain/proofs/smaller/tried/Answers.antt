use Rattle.std.proofs.Common.{inl, inr, subst}
use Rattle.explain.specs.Parts.{part_of, without}
use Rattle.explain.specs.Attempts.{IsAttempt}
use Rattle.explain.specs.declared.attempt.Attempt.{Attempt}
use Rattle.explain.specs.Standings.{numbers_of}
use Rattle.explain.specs.declared.cases.Case.TheVariants.{Without, Undecided}
use Rattle.explain.proofs.StandingLemmas.{dropped-shorter, dropped_explained, narrowed-less, open_within, settled_so}
use Rattle.explain.proofs.StandingLemmas.{settled_so-less, untried_at}
use Rattle.explain.proofs.smaller.tried.Goals as goal

pub settle-requires : goal.settle-requires
settle-requires g c = open_within c.args.contradiction.members.items c.args.place c.requires.untried

pub settle-requires-in-Met : goal.settle-requires-in-Met
settle-requires-in-Met g c = open_within c.args.contradiction.members.items c.args.place c.requires.untried

pub settle-requires-in-Spent : goal.settle-requires-in-Spent
settle-requires-in-Spent g c = open_within c.args.contradiction.members.items c.args.place c.requires.untried

pub narrow-requires : goal.narrow-requires
narrow-requires g c =
    let members = c.args.contradiction.members.items in
    let number = c.index.result.now.number in
    record {
      explained = dropped_explained c.args.league.now c.args.conflicts (g.W.Watch.may_stop c.args.watch.now) members
          c.in_ok-smaller-in-Refuted.smaller.members.items c.args.contradiction.log
          c.in_ok-smaller-in-Refuted.smaller.log c.in-Refuted.log number c.requires.explained
          (subst (λ (a : Attempt).
          IsAttempt (part_of c.args.league.now (without number (numbers_of members))) c.args.conflicts (g.W.Watch.may_stop c.args.watch.now) a)
          c.in-Refuted.is c.in_ok-schedule.ensures) c.in_ok-smaller-in-Refuted.ensures.members
          c.in_ok-smaller-in-Refuted.ensures.log;
    }

-- the run is to end: the member is left untried
pub returns-then-is_over_now-clause-explained : goal.returns-then-is_over_now-clause-explained
returns-then-is_over_now-clause-explained g c =
    let members = c.args.contradiction.members.items in
    let at = untried_at members c.args.place c.index.result.now c.index.ensures c.requires.untried in
    settled_so c.args.league.now c.args.conflicts (g.W.Watch.may_stop c.args.watch.now) members
    c.settle.result.members.items c.args.contradiction.log c.settle.result.log c.args.place c.index.result.now
    (Undecided c.new-log.result) c.requires.explained at.0
    (inr (c.is_over_now.ensures.cause c.if-is_over_now.true, c.new-log.ensures)) c.settle.ensures.members
    c.settle.ensures.log

pub returns-then-is_over_now-clause-less : goal.returns-then-is_over_now-clause-less
returns-then-is_over_now-clause-less g c =
    let members = c.args.contradiction.members.items in
    let at = untried_at members c.args.place c.index.result.now c.index.ensures c.requires.untried in
    settled_so-less members c.settle.result.members.items c.args.place c.index.result.now
    (Undecided c.new-log.result) at.0 at.1 c.settle.ensures.members

pub returns-in-Met-clause-explained : goal.returns-in-Met-clause-explained
returns-in-Met-clause-explained g c =
    let members = c.args.contradiction.members.items in
    let number = c.index.result.now.number in
    let at = untried_at members c.args.place c.index.result.now c.index.ensures c.requires.untried in
    settled_so c.args.league.now c.args.conflicts (g.W.Watch.may_stop c.args.watch.now) members c.settle-in-Met.result.members.items c.args.contradiction.log
    c.settle-in-Met.result.log c.args.place c.index.result.now (Without c.in-Met.schedule) c.requires.explained at.0
    (subst (λ (a : Attempt).
    IsAttempt (part_of c.args.league.now (without number (numbers_of members))) c.args.conflicts (g.W.Watch.may_stop c.args.watch.now) a)
    c.in-Met.is c.in_ok-schedule.ensures).0 c.settle-in-Met.ensures.members c.settle-in-Met.ensures.log

pub returns-in-Met-clause-less : goal.returns-in-Met-clause-less
returns-in-Met-clause-less g c =
    let members = c.args.contradiction.members.items in
    let at = untried_at members c.args.place c.index.result.now c.index.ensures c.requires.untried in
    settled_so-less members c.settle-in-Met.result.members.items c.args.place c.index.result.now
    (Without c.in-Met.schedule) at.0 at.1 c.settle-in-Met.ensures.members

pub returns-in-Spent-clause-explained : goal.returns-in-Spent-clause-explained
returns-in-Spent-clause-explained g c =
    let members = c.args.contradiction.members.items in
    let number = c.index.result.now.number in
    let at = untried_at members c.args.place c.index.result.now c.index.ensures c.requires.untried in
    settled_so c.args.league.now c.args.conflicts (g.W.Watch.may_stop c.args.watch.now) members c.settle-in-Spent.result.members.items
    c.args.contradiction.log c.settle-in-Spent.result.log c.args.place c.index.result.now (Undecided c.in-Spent.log)
    c.requires.explained at.0
    (inl (subst (λ (a : Attempt).
    IsAttempt (part_of c.args.league.now (without number (numbers_of members))) c.args.conflicts (g.W.Watch.may_stop c.args.watch.now) a)
    c.in-Spent.is c.in_ok-schedule.ensures)) c.settle-in-Spent.ensures.members c.settle-in-Spent.ensures.log

pub returns-in-Spent-clause-less : goal.returns-in-Spent-clause-less
returns-in-Spent-clause-less g c =
    let members = c.args.contradiction.members.items in
    let at = untried_at members c.args.place c.index.result.now c.index.ensures c.requires.untried in
    settled_so-less members c.settle-in-Spent.result.members.items c.args.place c.index.result.now
    (Undecided c.in-Spent.log) at.0 at.1 c.settle-in-Spent.ensures.members

pub returns-in_ok-smaller-in-Refuted-clause-less : goal.returns-in_ok-smaller-in-Refuted-clause-less
returns-in_ok-smaller-in-Refuted-clause-less g c =
    let members = c.args.contradiction.members.items in
    let at = untried_at members c.args.place c.index.result.now c.index.ensures c.requires.untried in
    narrowed-less c.narrow.result members c.in_ok-smaller-in-Refuted.smaller.members.items c.narrow.ensures.no_longer
    (dropped-shorter members c.in_ok-smaller-in-Refuted.smaller.members.items c.args.place c.index.result.now at.0
    c.in_ok-smaller-in-Refuted.ensures.members)
