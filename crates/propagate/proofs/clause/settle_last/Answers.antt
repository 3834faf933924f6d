use Rattle.std.proofs.Common.{◌+◌, refl, sym, ◌∙◌}
use Rattle.propagate.specs.Numbered.{row_at}
use Rattle.propagate.specs.Trails.{values_of}
use Rattle.propagate.proofs.ClauseLemmas.{IsGrownOver-last, IsInConflict-none, all_false_last}
use Rattle.propagate.proofs.LookLemmas.{apart_in}
use Rattle.propagate.proofs.clause.settle_last.Goals as goal

pub returns-in-False-clause-conflict : goal.returns-in-False-clause-conflict
returns-in-False-clause-conflict c = λ same.
    IsInConflict-none (values_of c.args.path.now.entries) (row_at c.args.path.now.rows c.args.place)
    (c.requires.sound.clauses c.args.place c.requires.there c.requires.within)
    (all_false_last (values_of c.args.path.now.entries) (row_at c.args.path.now.rows c.args.place) c.args.lit
    (apart_in c.args.path.now c.args.place c.requires.sound c.requires.within)
    c.requires.literal (sym c.value.ensures ∙ c.in-False.is) c.requires.others)

pub returns-in-Free-clause-grown : goal.returns-in-Free-clause-grown
returns-in-Free-clause-grown c =
    IsGrownOver-last c.args.path.now c.force.new.self c.args.place (c.args.place + 1) c.args.lit c.requires.sound
    c.requires.there c.requires.within refl c.requires.literal c.requires.others
    (sym c.value.ensures ∙ c.in-Free.is) c.force.ensures.from_one c.force.ensures.forced
