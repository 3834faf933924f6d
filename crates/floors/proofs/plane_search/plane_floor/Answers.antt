use Rattle.floors.proofs.PlaneLemmas.{floors-searched}
use Rattle.floors.proofs.plane_search.plane_floor.Goals as goal

pub returns : goal.returns
returns g c =
    floors-searched c.args.league.now c.args.bound c.in_ok-system.system _ _ c.requires.counted.instance
    c.requires.some c.in_ok-system.ensures c.in_ok-found.ensures c.floor_with.ensures
