use Rattle.std.proofs.lemmas.Result.{IfOk-weaker}
use Rattle.encoding.proofs.FewLemmas.{pair_list_few, pairs_fit}
use Rattle.encoding.proofs.sets.team_pairs.Goals as goal

pub returns-clause-fit : goal.returns-clause-fit
returns-clause-fit c =
    IfOk-weaker c.pairs_of.result _ _ (λ pairs are. pairs_fit c.args.n c.args.teams.now c.numbers.result.now pairs.items c.requires.teams c.numbers.ensures.numbers are) c.pairs_of.ensures

pub returns-clause-few : goal.returns-clause-few
returns-clause-few c =
    IfOk-weaker c.pairs_of.result _ _ (λ pairs are. pair_list_few c.args.n c.args.teams.now c.numbers.result.now pairs.items c.requires.n c.requires.teams c.numbers.ensures.numbers are) c.pairs_of.ensures
