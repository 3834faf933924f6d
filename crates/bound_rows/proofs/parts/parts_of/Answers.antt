use Rattle.std.proofs.Common.{List, subst, sym}
use Rattle.std.specs.List.{All}
use Rattle.league.specs.declared.class.Class.{Class}
use Rattle.bound_rows.proofs.FitParts.{Fits, fits-parts}
use Rattle.bound_rows.proofs.parts.parts_of.Goals as goal

pub returns-clause-fit : goal.returns-clause-fit
returns-clause-fit c =
    subst (λ (parts : List Class). All (Fits c.args.n) parts) (sym c.in_ok-made.ensures)
    (fits-parts c.args.n c.args.constraint.now.class c.requires.fits)
