use Rattle.command_resume.proofs.FoundLemmas.{replied-by}
use Rattle.command_resume.proofs.resumed.resumed_of.Goals as goal

pub found_reply-requires-clause-resumed : goal.found_reply-requires-clause-resumed
found_reply-requires-clause-resumed g c = (c.in-Ok.ensures.answer.0, c.in-Ok.ensures.answer.2)

pub returns-in-Ok : goal.returns-in-Ok
returns-in-Ok g c =
    replied-by c.args.league.now c.args.played.now c.args.k _ c.found_reply.result c.in-Ok.ensures.answer.0
    c.requires.enough c.in-Ok.ensures.answer.1
    (c.found_reply.ensures c.in-Ok.ensures.answer.0 c.in-Ok.ensures.answer.2)
