use Rattle.std.proofs.Common.{◌≡◌, ◌+◌, ◌≤◌, ◌++◌, [], ◌∷◌, List, None, ap, sym, subst, ◌∙◌}
use Rattle.rows.specs.Partials.{IsQuiet, value_of}
use Rattle.rows.specs.Literals.{Literal}
use Rattle.rows.specs.Rows.{Row}
use Rattle.rows.specs.declared.partial.Value.TheVariants.{Free}
use Rattle.propagate.specs.Paths.{SeenPath}
use Rattle.propagate.specs.Trails.{IsQuietBelow, SeenTrail, level_of, values_of}
use Rattle.propagate.specs.declared.entry.Entry.{Entry}
use Rattle.propagate.proofs.EntryLemmas.{quiet_below-push}
use Rattle.propagate.proofs.TrailLemmas.{IsTrail-decide, no_conflict, nothing_added}
use Rattle.propagate.proofs.trail.Trail.decide.Goals as goal

abbrev decided : List Entry → Literal → List Entry
decided es l = es ++ record { lit = l; level = level_of es + 1; reason = None } ∷ []

pub decide-requires-clause-known : goal.decide-requires-clause-known
decide-requires-clause-known c =
    let quiet : IsQuiet (values_of c.self.inside.path.entries) c.self.inside.path.rows =
    subst (λ (t : SeenTrail). IsQuiet (values_of t.entries) t.rows) (sym c.self.view_is) c.requires.quiet in
    let same : c.settle-conflict.new.path ≡ c.self.inside.path =
    nothing_added c.self.inside.path c.settle-conflict.new.path quiet c.settle-conflict.ensures.grown in
    subst (λ (p : SeenPath). c.args.lit.var ≤ p.vars) (sym same)
    (subst (λ (t : SeenTrail). c.args.lit.var ≤ t.vars) (sym c.self.view_is) c.requires.known)

pub decide-requires-clause-free : goal.decide-requires-clause-free
decide-requires-clause-free c =
    let quiet : IsQuiet (values_of c.self.inside.path.entries) c.self.inside.path.rows =
    subst (λ (t : SeenTrail). IsQuiet (values_of t.entries) t.rows) (sym c.self.view_is) c.requires.quiet in
    let same : c.settle-conflict.new.path ≡ c.self.inside.path =
    nothing_added c.self.inside.path c.settle-conflict.new.path quiet c.settle-conflict.ensures.grown in
    subst (λ (p : SeenPath). value_of (values_of p.entries) c.args.lit ≡ Free) (sym same)
    (subst (λ (t : SeenTrail). value_of (values_of t.entries) c.args.lit ≡ Free) (sym c.self.view_is)
    c.requires.free)

pub invariant_of-self : goal.invariant_of-self
invariant_of-self c =
    let quiet : IsQuiet (values_of c.self.inside.path.entries) c.self.inside.path.rows =
    subst (λ (t : SeenTrail). IsQuiet (values_of t.entries) t.rows) (sym c.self.view_is) c.requires.quiet in
    let same : c.settle-conflict.new.path ≡ c.self.inside.path =
    nothing_added c.self.inside.path c.settle-conflict.new.path quiet c.settle-conflict.ensures.grown in
    let quiet_now : IsQuiet (values_of c.settle-conflict.new.path.entries) c.settle-conflict.new.path.rows =
    subst (λ (p : SeenPath). IsQuiet (values_of p.entries) p.rows) (sym same) quiet in
    IsTrail-decide c.settle-conflict.new.path c.decide.new.self c.settle-conflict.new.watches
    c.settle-conflict.new.looked c.args.lit c.settle-conflict.ensures.trail
    (c.settle-conflict.ensures.all
    (no_conflict c.settle-conflict.new.path.rows (values_of c.settle-conflict.new.path.entries)
    c.settle-conflict.result quiet_now c.settle-conflict.ensures.found))
    c.decide.ensures.from_one
    (subst (λ (p : SeenPath). c.args.lit.var ≤ p.vars) (sym same)
    (subst (λ (t : SeenTrail). c.args.lit.var ≤ t.vars) (sym c.self.view_is) c.requires.known))
    (subst (λ (p : SeenPath). value_of (values_of p.entries) c.args.lit ≡ Free) (sym same)
    (subst (λ (t : SeenTrail). value_of (values_of t.entries) c.args.lit ≡ Free) (sym c.self.view_is)
    c.requires.free))
    quiet_now c.decide.ensures.decided

pub returns : goal.returns
returns c =
    let quiet : IsQuiet (values_of c.self.inside.path.entries) c.self.inside.path.rows =
    subst (λ (t : SeenTrail). IsQuiet (values_of t.entries) t.rows) (sym c.self.view_is) c.requires.quiet in
    let same : c.settle-conflict.new.path ≡ c.self.inside.path =
    nothing_added c.self.inside.path c.settle-conflict.new.path quiet c.settle-conflict.ensures.grown in
    let rows : c.decide.new.self.rows ≡ c.args.self.now.rows =
    ap (λ (p : SeenPath). p.rows) c.decide.ensures.decided ∙ ap (λ (p : SeenPath). p.rows) same
    ∙ ap (λ (t : SeenTrail). t.rows) c.self.view_is in
    let entries : c.decide.new.self.entries ≡ decided c.args.self.now.entries c.args.lit =
    ap (λ (p : SeenPath). p.entries) c.decide.ensures.decided ∙ ap (λ (p : SeenPath). decided p.entries c.args.lit)
    same ∙ ap (λ (t : SeenTrail). decided t.entries c.args.lit) c.self.view_is in
    record {
      vars =
          ap (λ (p : SeenPath). p.vars) c.decide.ensures.decided ∙ ap (λ (p : SeenPath). p.vars) same
          ∙ ap (λ (t : SeenTrail). t.vars) c.self.view_is;
      rows = rows;
      entries = entries;
      below = λ below.
          subst (λ (rs : List Row). IsQuietBelow rs c.decide.new.self.entries) (sym rows)
          (quiet_below-push c.args.self.now.rows c.args.self.now.entries c.decide.new.self.entries _ entries
          c.requires.quiet below);
    }
