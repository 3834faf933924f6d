use Rattle.std.proofs.Common.{List, ap, arith, ◌++◌, ◌∙◌}
use Rattle.std.proofs.lemmas.List.{take_all}
use Rattle.refutation.specs.Steps.{Step}
use Rattle.league_search.proofs.SumLemmas.{behind-more}
use Rattle.league_search.proofs.behind.behind.Goals as goal

pub loop-k-preserved : goal.loop-k-preserved
loop-k-preserved c =
    behind-more c.args.sums c.args.search.now c.loop-k.log c.push.new.self c.loop-k.k c.clause.result.now
    c.hints.result.now (omega arith) c.requires c.clause.ensures c.hints.ensures c.loop-k.invariant
    c.in_ok-push.ensures.ok

pub returns : goal.returns
returns c =
    c.loop-k.invariant
    ∙ ap (λ (ss : List Step). c.args.sums ++ ss) (take_all c.loop-k.k c.args.search.now (omega arith))
