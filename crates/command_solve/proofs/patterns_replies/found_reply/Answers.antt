use Rattle.std.proofs.Common.{List, Option, inl, subst}
use Rattle.std.specs.Prelude.{IfSome}
use Rattle.refutation.specs.Steps.{Step}
use Rattle.venue_counts.specs.CountLogs.{IsRefuting}
use Rattle.break_counts.specs.BreakCounts.{are_few}
use Rattle.solve.proofs.CountingLemmas.{none_told}
use Rattle.command_solve.proofs.PatternsFound.{replied-counted, some-told}
use Rattle.command_solve.proofs.patterns_replies.found_reply.Goals as goal

pub log_reply-requires-clause-named : goal.log_reply-requires-clause-named
log_reply-requires-clause-named c =
    (subst (λ (found : Option (List Step)). IfSome found (IsRefuting c.args.league.now)) c.in-Some.is
    c.in_ok-counted.ensures.refuting).named

pub log_reply-requires-clause-short : goal.log_reply-requires-clause-short
log_reply-requires-clause-short c =
    (subst (λ (found : Option (List Step)). IfSome found (IsRefuting c.args.league.now)) c.in-Some.is
    c.in_ok-counted.ensures.refuting).short_lines

pub added_reply-requires-clause-enough : goal.added_reply-requires-clause-enough
added_reply-requires-clause-enough c =
    none_told c.in_ok-counted.counted (are_few c.args.league.now) c.in-None.is c.in_ok-counted.ensures.few

pub returns-in-Some : goal.returns-in-Some
returns-in-Some c =
    replied-counted c.args.league.now c.args.conflicts c.in-Some.log c.log_reply.result
    c.in_ok-counted.ensures.instance
    (inl (some-told c.in_ok-counted.counted c.in-Some.log (are_few c.args.league.now) c.in-Some.is
    c.in_ok-counted.ensures.few))
    (subst (λ (found : Option (List Step)). IfSome found (IsRefuting c.args.league.now)) c.in-Some.is
    c.in_ok-counted.ensures.refuting)
    c.log_reply.ensures.status c.log_reply.ensures.text c.log_reply.ensures.reads_back
