use Rattle.std.proofs.Common.{arith, subst, sym}
use Rattle.bounds.specs.Proofs.{IsSought}
use Rattle.bounds.specs.declared.proved.Proved.{Proved}
use Rattle.bounds.proofs.ProofLemmas.{below-of, below-start}
use Rattle.bounds.proofs.prover.decoded.Goals as goal

pub bettered-requires : goal.bettered-requires
bettered-requires g c =
    omega (
      arith,
      below-start c.args.league.now c.args.objective _ c.in_ok-lower.lower.objective c.in_ok-schedule.schedule
          c.in_ok-lower.lower.schedule c.in_ok-lower.lower.descent c.in_ok-schedule.ensures
          c.in_ok-lower.ensures.season.is_season c.in_ok-lower.ensures.first,
      c.ranges.objective.fits,
    )

pub returns : goal.returns
returns g c = λ limit.
    subst (λ (p : Proved). IsSought c.args.league.now c.args.objective limit p) (sym c.bettered.ensures)
    (below-of c.args.league.now c.args.objective _ c.in_ok-lower.lower.objective c.in_ok-lower.lower.schedule
    c.in_ok-lower.lower.descent c.in_ok-lower.ensures.season.is_season
    (below-start c.args.league.now c.args.objective _ c.in_ok-lower.lower.objective c.in_ok-schedule.schedule
    c.in_ok-lower.lower.schedule c.in_ok-lower.lower.descent c.in_ok-schedule.ensures
    c.in_ok-lower.ensures.season.is_season c.in_ok-lower.ensures.first))
