use Rattle.std.proofs.Common.{◌≡◌, ℕ, Option, subst}
use Rattle.league.specs.Instance.{Instance}
use Rattle.league_search.specs.PatternAnswers.{IsPatternAnswer}
use Rattle.league_search.specs.declared.found.PatternFound.{PatternFound}
use Rattle.command_solve.proofs.PatternsFound.{all_tidy, refuted-clauses, spent-clauses}
use Rattle.command_solve.proofs.patterns_replies.searched_reply.Goals as goal

-- what was found, where the variant is known
here : (league : Instance) (limit : Option ℕ) (found variant : PatternFound) → found ≡ variant
    → IsPatternAnswer league limit found → IsPatternAnswer league limit variant
here league limit found variant same is = subst (λ (f : PatternFound). IsPatternAnswer league limit f) same is

pub log_reply-requires-clause-clauses : goal.log_reply-requires-clause-clauses
log_reply-requires-clause-clauses c =
    refuted-clauses c.args.encoding.now c.args.conflicts c.in-Refuted.log
    (here c.args.encoding.now c.args.conflicts _ _ c.in-Refuted.is c.in_ok-patterns.ensures)

pub log_reply-requires-in-Spent-clause-tidy : goal.log_reply-requires-in-Spent-clause-tidy
log_reply-requires-in-Spent-clause-tidy c =
    all_tidy c.args.encoding.now c.vars-vars.result c.in-Spent.log c.vars-vars.ensures.vars c.vars-vars.ensures.at_most
    (here c.args.encoding.now c.args.conflicts _ _ c.in-Spent.is c.in_ok-patterns.ensures).tidy

pub log_reply-requires-in-Spent-clause-clauses : goal.log_reply-requires-in-Spent-clause-clauses
log_reply-requires-in-Spent-clause-clauses c =
    spent-clauses c.args.encoding.now c.args.conflicts c.in-Spent.log
    (here c.args.encoding.now c.args.conflicts _ _ c.in-Spent.is c.in_ok-patterns.ensures)
