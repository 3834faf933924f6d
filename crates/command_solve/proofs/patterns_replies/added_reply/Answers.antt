use Rattle.std.proofs.Common.{List, Option, inr, subst}
use Rattle.std.specs.Prelude.{IfSome}
use Rattle.refutation.specs.Steps.{Step}
use Rattle.venue_counts.specs.CountLogs.{IsRefuting}
use Rattle.break_counts.specs.Sums.{AddUp}
use Rattle.command_solve.proofs.PatternsFound.{replied-counted, replied-searched}
use Rattle.command_solve.proofs.patterns_replies.added_reply.Goals as goal

pub log_reply-requires-clause-named : goal.log_reply-requires-clause-named
log_reply-requires-clause-named c =
    (subst (λ (found : Option (List Step)). IfSome found (IsRefuting c.args.league.now)) c.in-Some.is
    c.in_ok-added.ensures.refuting).named

pub log_reply-requires-clause-short : goal.log_reply-requires-clause-short
log_reply-requires-clause-short c =
    (subst (λ (found : Option (List Step)). IfSome found (IsRefuting c.args.league.now)) c.in-Some.is
    c.in_ok-added.ensures.refuting).short_lines

pub returns-in-Some : goal.returns-in-Some
returns-in-Some c =
    replied-counted c.args.league.now c.args.conflicts c.in-Some.sum c.log_reply.result
    c.in_ok-added.ensures.instance
    (inr (subst (λ (found : Option (List Step)). IfSome found (λ log. AddUp c.args.league.now)) c.in-Some.is
    c.in_ok-added.ensures.few))
    (subst (λ (found : Option (List Step)). IfSome found (IsRefuting c.args.league.now)) c.in-Some.is
    c.in_ok-added.ensures.refuting)
    c.log_reply.ensures.status c.log_reply.ensures.text c.log_reply.ensures.reads_back

pub returns-in-None : goal.returns-in-None
returns-in-None c =
    replied-searched c.args.encoding.now c.args.league.now c.args.conflicts c.searched_reply.result c.requires.same
    c.requires.enough c.searched_reply.ensures
