use Rattle.std.proofs.Common.{◌≢◌, ℕ, ◌≤◌, List, arith, ap, get_or, map, sym, subst, ◌∙◌}
use Rattle.std.specs.List.{All, AllPairs}
use Rattle.std.proofs.lemmas.List.{append-nil, take_all}
use Rattle.rows.specs.Literals.{Literal}
use Rattle.rows.specs.Rows.{Row}
use Rattle.propagate.specs.Trails.{SeenTrail}
use Rattle.refutation.specs.Steps.{clause_at}
use Rattle.clause_search.specs.Kept.{steps_at}
use Rattle.clause_search.specs.News.{row_of}
use Rattle.clause_search.proofs.KeptLemmas.{clause_differs, clause_known, trail_more, with_rows}
use Rattle.clause_search.proofs.forget.add_clauses.Goals as goal

pub loop-place-init : goal.loop-place-init
loop-place-init c =
    ap (λ (rs : List Row). record c.args.trail.now { rows = rs }) (sym (append-nil c.args.trail.now.rows))

pub add-requires-clause-known : goal.add-requires-clause-known
add-requires-clause-known c =
    subst (λ (ls : List Literal). All (λ l. l.var ≤ c.loop-place.trail.vars) ls) (sym c.clause.ensures)
    (subst (λ (v : ℕ). All (λ l. l.var ≤ v)
    (clause_at c.args.log.now (get_or c.args.places.now c.loop-place.place-index 0)))
    (sym (ap (λ (u : SeenTrail). u.vars) c.loop-place.invariant))
    (clause_known c.args.trail.now.vars c.args.log.now c.args.places.now c.loop-place.place-index (omega arith)
    c.requires.there c.requires.tidy))

pub add-requires-clause-variables : goal.add-requires-clause-variables
add-requires-clause-variables c =
    subst (λ (ls : List Literal). AllPairs (λ l m. l.var ≢ m.var) ls) (sym c.clause.ensures)
    (clause_differs c.args.trail.now.vars c.args.log.now c.args.places.now c.loop-place.place-index (omega arith)
    c.requires.there c.requires.tidy)

pub loop-place-preserved : goal.loop-place-preserved
loop-place-preserved c =
    trail_more c.args.trail.now.vars c.args.log.now c.args.places.now c.loop-place.place-index (omega arith)
    c.requires.there c.requires.tidy c.args.trail.now c.clause.result.now c.loop-place.trail c.add.new.self
    c.clause.ensures c.loop-place.invariant c.in_ok-_number.ensures.ok

pub returns : goal.returns
returns c =
    c.loop-place.invariant
    ∙ ap (λ (ps : List ℕ). with_rows c.args.trail.now (map row_of (steps_at c.args.log.now ps)))
    (take_all c.loop-place.place-index c.args.places.now (omega arith))
