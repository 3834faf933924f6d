use Rattle.std.proofs.Common.{◌≡◌, ◌++◌, map, take}
use Rattle.rows.specs.Literals.{yes}
use Rattle.encoding.specs.Variables.{h_var}
use Rattle.encoding.proofs.literals.add_teams_at_home.Given as goal

abbrev pub invariant-loop-team : goal.invariant-loop-team
invariant-loop-team l = l.literals.items ≡ l.fn.literals.items ++ map (λ i. yes (h_var l.n i l.slot))
    (take l.team-index l.teams)
