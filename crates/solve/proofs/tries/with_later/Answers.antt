use Rattle.std.proofs.Common.{Option, ap, sym, ◌∙◌}
use Rattle.solve.specs.Chosen as chosen
use Rattle.solve.specs.declared.lower.Season.{Season}
use Rattle.solve.proofs.tries.with_later.Goals as goal

pub returns-in-Some-clause-kept : goal.returns-in-Some-clause-kept
returns-in-Some-clause-kept c =
    c.better.ensures.kept ∙ ap (λ (o : Option Season). chosen.with_later c.args.best o) (sym c.in-Some.is)
