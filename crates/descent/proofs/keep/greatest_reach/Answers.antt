use Rattle.std.proofs.Common.{◌≤◌, List, ap, subst, arith}
use Rattle.std.proofs.lemmas.List.{take_all}
use Rattle.std.specs.List.{All}
use Rattle.descent.specs.declared.weighted.Weighted.{Weighted}
use Rattle.descent.proofs.KeepLemmas.{greatest_more}
use Rattle.descent.proofs.keep.greatest_reach.Goals as goal

pub loop-weighted-preserved : goal.loop-weighted-preserved
loop-weighted-preserved g c =
    greatest_more (λ (w : Weighted g.row.R.Denot). g.R.Entries.reach_of w.rule) c.args.rules.now c.loop-weighted.weighted-index c.loop-weighted.greatest c.larger-greatest.result c.weighted-item.result c.loop-weighted-test.true c.loop-weighted.invariant c.larger-greatest.ensures.first
    (omega (arith, c.larger-greatest.ensures.second, c.reach.ensures, ap (λ (w : Weighted g.row.R.Denot). g.R.Entries.reach_of w.rule) c.weighted-item.is))

pub returns : goal.returns
returns g c =
    subst (λ (l : List (Weighted g.row.R.Denot)). All (λ w. g.R.Entries.reach_of w.rule ≤ c.loop-weighted.greatest) l) (take_all c.loop-weighted.weighted-index c.args.rules.now (omega (arith, c.loop-weighted-test.false))) c.loop-weighted.invariant
