use Rattle.std.proofs.Common.{List, [], arith, subst, sym}
use Rattle.std.proofs.lemmas.List.{take_all}
use Rattle.rows.specs.Rows.{Row}
use Rattle.refutation.specs.Steps.{Step}
use Rattle.league_search.specs.Sums.{IsLonger}
use Rattle.league_search.proofs.SumLemmas.{IsLonger-none}
use Rattle.league_search.proofs.longer.with_sums.Goals as goal

pub loop-k-init : goal.loop-k-init
loop-k-init c = record {
  longer = subst (λ (rows : List Row). IsLonger c.args.rows.now c.args.vars [] rows) (sym c.in_ok-longer.ensures)
      (IsLonger-none c.args.rows.now c.args.vars c.requires);
  nothing = c.new-sum.ensures;
}

pub returns : goal.returns
returns c =
    subst (λ (steps : List Step). IsLonger c.args.rows.now c.args.vars steps c.loop-k.longer)
    (take_all c.loop-k.k c.args.sums.now (omega arith)) c.loop-k.invariant.longer
