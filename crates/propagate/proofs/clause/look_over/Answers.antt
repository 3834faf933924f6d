use Rattle.std.proofs.Common.{refl}
use Rattle.propagate.specs.Numbered.{row_at}
use Rattle.propagate.specs.Trails.{values_of}
use Rattle.propagate.proofs.ClauseLemmas.{IsInConflict-none, all_false_zero}
use Rattle.propagate.proofs.clause.look_over.Goals as goal

pub returns-in-None-clause-conflict : goal.returns-in-None-clause-conflict
returns-in-None-clause-conflict c = λ same.
    IsInConflict-none (values_of c.args.path.now.entries) (row_at c.args.path.now.rows c.args.place)
    (c.requires.sound.clauses c.args.place c.requires.there c.requires.within)
    (all_false_zero (values_of c.args.path.now.entries) (row_at c.args.path.now.rows c.args.place)
    (c.in-None.ensures.none refl))
