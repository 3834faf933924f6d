use Rattle.std.proofs.Common.{◌≡◌, ◌≢◌, ℕ, ◌<◌, ◌≤◌, ◌^◌, ◌++◌, List, [], ◌∷◌, ap, subst, sym, ◌∙◌}
use Rattle.std.specs.List.{All, AllPairs}
use Rattle.rows.specs.Cardinality.{at_least}
use Rattle.rows.specs.Literals.{Literal}
use Rattle.propagate.specs.Trails.{IsQuietRowBelow}
use Rattle.propagate.proofs.LookLemmas.{news}
use Rattle.refutation.specs.Steps.Step.{Clause}
use Rattle.clause_search.proofs.BackLemmas.{calm_below}
use Rattle.clause_search.proofs.TurnLemmas.{learned}
use Rattle.clause_search.proofs.learn.keep.Goals as goal

pub add-requires-clause-known : goal.add-requires-clause-known
add-requires-clause-known c =
    subst (λ (ls : List Literal). All (λ l. l.var ≤ c.back_to.new.self.vars) ls) (sym c.deref.ensures.value)
    (subst (λ (v : ℕ). All (λ l. l.var ≤ v) c.args.desk.now.clause.items) (sym c.back_to.ensures.vars)
    c.requires.learnable.tidy.known)

pub add-requires-clause-variables : goal.add-requires-clause-variables
add-requires-clause-variables c =
    subst (λ (ls : List Literal). AllPairs (λ l m. l.var ≢ m.var) ls) (sym c.deref.ensures.value)
    c.requires.learnable.tidy.variables

pub returns-clause-learns : goal.returns-clause-learns
returns-clause-learns c =
    let calm : IsQuietRowBelow (at_least 1 c.args.desk.now.clause.items) c.back_to.new.self.entries =
    calm_below c.args.trail.now.vars c.args.level (at_least 1 c.args.desk.now.clause.items) c.args.trail.now.entries
    c.back_to.new.self.entries
    (news c.args.trail.now.rows c.args.trail.now.vars c.args.trail.now.entries c.len-len.ensures.lawful)
    c.back_to.ensures.back c.requires.learnable.calm in
    learned c.args.desk.now.given c.args.desk.now.kept.places.items c.args.trail.now c.back_to.new.self c.add.new.self
    c.args.log.now c.push.new.self c.args.desk.now.clause.items c.args.desk.now.hints.items c.deref-3.result.now
    c.requires.learnable.is_news c.requires.learnable.tidy
    (c.deref-3.ensures.value ∙ c.in_ok-name_hints.ensures.names)
    (subst (λ (ns : List ℕ). All (λ name. name < 2 ^ 64) ns) (sym c.deref-3.ensures.value)
    c.in_ok-name_hints.ensures.small)
    c.back_to.ensures.vars c.back_to.ensures.rows
    (c.in_ok-_number.ensures.below (c.back_to.ensures.below c.requires.below)
    (subst (λ (ls : List Literal). IsQuietRowBelow (at_least 1 ls) c.back_to.new.self.entries)
    (sym c.deref.ensures.value) calm))
    (subst (λ (ls : List Literal).
    c.add.new.self ≡ record c.back_to.new.self { rows = c.back_to.new.self.rows ++ at_least 1 ls ∷ [] })
    c.deref.ensures.value c.in_ok-_number.ensures.ok)
    (c.in_ok-push.ensures.ok
    ∙ ap (λ (ls : List Literal). c.args.log.now ++ Clause ls c.deref-3.result.now ∷ [])
    (c.deref-2.ensures.value ∙ c.name_hints.ensures.clause))
