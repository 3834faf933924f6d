use Rattle.encoding.specs.Variables.{var_count}
use Rattle.league.specs.Counts.{counts_of}
use Rattle.league_search.proofs.LogLemmas.{refuted-clauses}
use Rattle.resume.specs.Kept.{resume_rows}
use Rattle.command_resume.proofs.FoundLemmas.{all_tidy, spent-clauses}
use Rattle.command_resume.proofs.NearLemmas.{replied-refuted, replied-season, replied-spent}
use Rattle.command_resume.proofs.near_replies.near_reply.Goals as goal

pub log_reply-requires-clause-tidy : goal.log_reply-requires-clause-tidy
log_reply-requires-clause-tidy c =
    all_tidy c.args.league.now c.in-Refuted.log c.n-n.ensures.instance
    (rw c.in-Refuted.is at c.requires.resumed.1).refutes.tidy

pub log_reply-requires-clause-clauses : goal.log_reply-requires-clause-clauses
log_reply-requires-clause-clauses c =
    refuted-clauses (resume_rows c.args.league.now (counts_of c.args.played.now) c.args.k)
    (var_count c.args.league.now) c.requires.resumed.0 c.in-Refuted.log
    (rw c.in-Refuted.is at c.requires.resumed.1).refutes

pub log_reply-requires-in-Spent-clause-tidy : goal.log_reply-requires-in-Spent-clause-tidy
log_reply-requires-in-Spent-clause-tidy c =
    all_tidy c.args.league.now c.in-Spent.log c.n-n.ensures.instance (rw c.in-Spent.is at c.requires.resumed.1).tidy

pub log_reply-requires-in-Spent-clause-clauses : goal.log_reply-requires-in-Spent-clause-clauses
log_reply-requires-in-Spent-clause-clauses c =
    spent-clauses (resume_rows c.args.league.now (counts_of c.args.played.now) c.args.k) (var_count c.args.league.now)
    c.requires.resumed.0 c.in-Spent.log (rw c.in-Spent.is at c.requires.resumed.1)

pub returns-in-Schedule : goal.returns-in-Schedule
returns-in-Schedule c =
    replied-season c.args.played.now c.args.k c.args.neared.now.settled c.args.neared.now.answer c.in-Schedule.schedule
    c.in-Schedule.objective c.schedule_reply.result c.in-Schedule.is c.schedule_reply.ensures.status
    c.schedule_reply.ensures.text

pub returns-in-Refuted : goal.returns-in-Refuted
returns-in-Refuted c =
    replied-refuted c.args.played.now c.args.k c.args.neared.now.settled c.args.neared.now.answer c.in-Refuted.log
    c.log_reply.result c.in-Refuted.is c.log_reply.ensures.status c.log_reply.ensures.text c.log_reply.ensures.reads_back

pub returns-in-Spent : goal.returns-in-Spent
returns-in-Spent c =
    replied-spent c.args.played.now c.args.k c.args.neared.now.settled c.args.neared.now.answer c.in-Spent.log
    c.log_reply-in-Spent.result c.in-Spent.is c.log_reply-in-Spent.ensures.status c.log_reply-in-Spent.ensures.text
    c.log_reply-in-Spent.ensures.reads_back
