use Rattle.std.proofs.Common.{◌≡◌, ◌++◌, cond, map, take}
use Rattle.std.specs.List.{flat_map}
use Rattle.rows.specs.Literals.{yes}
use Rattle.encoding.specs.Lists.{after_first}
use Rattle.encoding.specs.Variables.{ab_var, hb_var}
use Rattle.encoding.proofs.counted.add_team_breaks.Given as goal

abbrev pub invariant-loop-team : goal.invariant-loop-team
invariant-loop-team l = l.literals.items ≡ l.fn.literals.items ++ flat_map
    (λ i. map (λ s. yes (cond l.home (hb_var l.n i s) (ab_var l.n i s))) (after_first l.slots))
    (take l.team-index l.teams)
