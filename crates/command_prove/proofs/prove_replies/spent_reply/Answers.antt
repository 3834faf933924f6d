use Rattle.command_prove.proofs.prove_replies.spent_reply.Goals as goal

pub returns-clause-floor_reads_back : goal.returns-clause-floor_reads_back
returns-clause-floor_reads_back c = c.in_ok-text.ensures.reads_back c.requires.short c.requires.nothing
