use Rattle.std.proofs.Common.{◌<◌, ℕ, length, arith, ap, sym, ◌∙◌}
use Rattle.rows.specs.Partials as partials
use Rattle.rows.specs.Rows.{Row}
use Rattle.rows.specs.declared.partial.Value.{Value}
use Rattle.propagate.specs.Numbered.{row_at}
use Rattle.propagate.specs.Paths.{SeenPath}
use Rattle.propagate.specs.Trails.{values_of}
use Rattle.propagate.proofs.LinkLemmas.{row_at-front}
use Rattle.propagate.proofs.path.Path.reach.Goals as goal

pub returns : goal.returns
returns c =
    let there : c.args.k < length c.self.inside.counters.rows =
    omega (arith, c.requires, ap (λ (p : SeenPath). p.given) c.self.view_is) in
    c.reach.ensures
    ∙ ap (λ (w : ℕ → Value). partials.reach w (row_at c.self.inside.counters.rows c.args.k).terms)
    c.self.invariant.kept.same
    ∙ ap (λ (r : Row). partials.reach (values_of c.self.inside.entries.items) r.terms)
    (sym (row_at-front c.self.inside.counters.rows c.self.inside.added c.args.k there))
    ∙ ap (λ (p : SeenPath). partials.reach (values_of p.entries) (row_at p.rows c.args.k).terms) c.self.view_is
