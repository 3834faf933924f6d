use Rattle.solve.proofs.PlaneLemmas.{found_refutes}
use Rattle.solve.proofs.by_planes.refuted_by_planes.Goals as goal

pub returns : goal.returns
returns g c =
    found_refutes c.args.league.now c.in_ok-encoding.encoding c.in_ok-found.found c.in_ok-encoding.ensures
    c.in_ok-found.ensures.instance c.in_ok-found.ensures.refuted c.in_ok-found.ensures.writable
