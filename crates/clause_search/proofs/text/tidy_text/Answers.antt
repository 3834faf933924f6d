use Rattle.std.proofs.Common.{◌≡◌, Ok}
use Rattle.std.proofs.lemmas.Result.{IfOk-weaker}
use Rattle.refutation.specs.Logs.{log_of}
use Rattle.refutation.specs.Writable.{HasShortLines}
use Rattle.clause_search.proofs.LineLemmas.{all_named, all_short}
use Rattle.clause_search.proofs.text.tidy_text.Goals as goal

pub log_text-requires : goal.log_text-requires
log_text-requires c = all_named c.args.log.now c.requires.tidy c.requires.clauses

pub returns-clause-reads_back : goal.returns-clause-reads_back
returns-clause-reads_back c =
    IfOk-weaker c.log_text.result (λ text. HasShortLines c.args.log.now → log_of text.items ≡ Ok c.args.log.now)
    (λ text. log_of text.items ≡ Ok c.args.log.now)
    (λ text given. given (all_short c.args.log.now c.requires.tidy c.requires.clauses))
    c.log_text.ensures.reads_back
