use Rattle.std.proofs.Common.{subst}
use Rattle.std.specs.List.{All}
use Rattle.rows.specs.Rows.{IsRow}
use Rattle.propagate.specs.Trails.{AreLawful, KnowsVariables, SeenTrail}
use Rattle.propagate.proofs.trail.Trail.len.Goals as goal

pub returns-clause-lawful : goal.returns-clause-lawful
returns-clause-lawful c =
    subst (λ (t : SeenTrail). AreLawful t.rows t.vars t.entries) c.self.view_is c.self.invariant.ready.sound.lawful

pub returns-clause-rows : goal.returns-clause-rows
returns-clause-rows c = subst (λ (t : SeenTrail). All IsRow t.rows) c.self.view_is c.self.invariant.ready.sound.proper

pub returns-clause-known : goal.returns-clause-known
returns-clause-known c =
    subst (λ (t : SeenTrail). All (KnowsVariables t.vars) t.rows) c.self.view_is c.self.invariant.ready.sound.known
