use Rattle.std.proofs.Common.{sym, subst, ◌∙◌}
use Rattle.rows.specs.Partials.{IsQuietRow}
use Rattle.propagate.specs.Numbered.{row_at}
use Rattle.propagate.specs.Paths.{SeenPath}
use Rattle.propagate.specs.Trails.{values_of}
use Rattle.propagate.specs.Watches.{IsOpenIn}
use Rattle.propagate.proofs.ClauseLemmas.{IsQuietRow-true, IsQuietRow-two}
use Rattle.propagate.proofs.clause.look_beside.Goals as goal

pub returns-in-Some-clause-met : goal.returns-in-Some-clause-met
returns-in-Some-clause-met c = λ met.
    let second : IsOpenIn (values_of c.args.path.now.entries) (row_at c.args.path.now.rows c.args.place) c.var.result
    c.in-Some._second = c.in-Some.ensures.some in
    IsQuietRow-two (values_of c.args.path.now.entries) (row_at c.args.path.now.rows c.args.place) c.args.found
    c.in-Some._second
    (c.requires.sound.clauses c.args.place c.requires.there c.requires.within) c.requires.opened.there second.there
    (λ same. second.other (sym same ∙ sym c.var.ensures.var))
    c.requires.opened.not_false second.not_false

pub returns-clause-met : goal.returns-clause-met
returns-clause-met c = λ met.
    subst (λ (p : SeenPath). IsQuietRow (values_of c.settle_last.new.path.entries) (row_at p.rows c.args.place))
    (sym c.settle_last.ensures.grown.same)
    (IsQuietRow-true (values_of c.settle_last.new.path.entries) (row_at c.args.path.now.rows c.args.place) c.args.found
    (c.requires.sound.clauses c.args.place c.requires.there c.requires.within) c.requires.opened.there
    (c.settle_last.ensures.met met))
