use Rattle.std.proofs.Common.{◌≤◌, arith}
use Rattle.std.proofs.lemmas.List.Sums.{count_by-le-length}
use Rattle.propagate.specs.Trails.{is_decision}
use Rattle.propagate.proofs.path.Path.decide.Goals as goal

pub overflow_add-level : goal.overflow_add-level
overflow_add-level c =
    let from_one : 1 ≤ c.args.lit.var = omega arith in
    omega (arith, c.len-len.ensures.room c.args.lit from_one c.requires.known c.requires.free, count_by-le-length is_decision c.args.self.now.entries)
