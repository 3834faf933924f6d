use Rattle.std.proofs.Common.{List, Option, subst}
use Rattle.std.specs.Prelude.{IfSome}
use Rattle.refutation.specs.Steps.{Step}
use Rattle.command_resume.specs.Counted.{CountsOut}
use Rattle.command_resume.proofs.CountLemmas.{replied-counted}
use Rattle.command_resume.proofs.resumed.found_of.Goals as goal

pub counted_reply-requires-clause-named : goal.counted_reply-requires-clause-named
counted_reply-requires-clause-named g c =
    (subst (λ (found : Option (List Step)). IfSome found (CountsOut c.args.league.now c.args.played.now c.args.k))
    c.in-Some.is c.in_ok-counted.ensures.counted).refutes.named

pub counted_reply-requires-clause-short : goal.counted_reply-requires-clause-short
counted_reply-requires-clause-short g c =
    (subst (λ (found : Option (List Step)). IfSome found (CountsOut c.args.league.now c.args.played.now c.args.k))
    c.in-Some.is c.in_ok-counted.ensures.counted).refutes.short_lines

pub resumed_of-requires-clause-enough : goal.resumed_of-requires-clause-enough
resumed_of-requires-clause-enough g c = c.in_ok-counted.ensures.enough c.in-None.is

pub returns-in-Some : goal.returns-in-Some
returns-in-Some g c =
    replied-counted c.args.league.now c.args.played.now c.args.k _ c.in-Some.log c.counted_reply.result
    c.in_ok-counted.ensures.instance
    (subst (λ (found : Option (List Step)). IfSome found (CountsOut c.args.league.now c.args.played.now c.args.k))
    c.in-Some.is c.in_ok-counted.ensures.counted)
    c.counted_reply.ensures.status c.counted_reply.ensures.text c.counted_reply.ensures.reads_back
