use Rattle.std.proofs.Common.{◌≡◌}
use Rattle.planes.specs.Trails.{level_of}
use Rattle.planes.proofs.desk.Desk.back_to.Given as goal

abbrev pub invariant-entries : goal.invariant-entries
invariant-entries l = record {
  level : level_of l.self.trail ≡ level_of l.initial.self.trail;
  tools : l.self.tools ≡ l.initial.self.tools;
}
