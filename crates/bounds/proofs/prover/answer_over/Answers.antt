use Rattle.std.proofs.Common.{ℕ, ◌-◌, List, ap, inl, refl, subst, sym, ◌∙◌}
use Rattle.std.specs.List.{All}
use Rattle.rows.specs.Rows.{Row}
use Rattle.robin_watch.specs.Limits.{IsKeptTo}
use Rattle.propagate.specs.Trails.{KnowsVariables}
use Rattle.bound_rows.specs.BoundRows.{bound_rows, bound_vars}
use Rattle.bound_rows.specs.Bounded.{Bounded}
use Rattle.bounds.proofs.ProofLemmas.{answer-of, knows-from_known, none-of, sought-of, spent-of}
use Rattle.bounds.proofs.prover.answer_over.Goals as goal

pub search_watched-requires-clause-known : goal.search_watched-requires-clause-known
search_watched-requires-clause-known g c =
    subst (λ (rows : List Row). All (KnowsVariables c.vars.result) rows) (sym c.rows.ensures)
    (subst (λ (vars : ℕ). All (KnowsVariables vars)
    (bound_rows c.args.system.now.league c.args.system.now.bound)) (sym c.vars.ensures.vars)
    (knows-from_known (bound_vars c.args.system.now.league)
    (bound_rows c.args.system.now.league c.args.system.now.bound) c.vars.ensures.known))

pub decoded-requires-clause-count : goal.decoded-requires-clause-count
decoded-requires-clause-count g c =
    let answer = answer-of c.args.league.now (c.args.objective - 1) c.vars.result c.rows.result.now c.in_ok-found.ensures.answer.kept
    c.in_ok-found.found (c.rows.ensures ∙ ap (λ (b : Bounded). bound_rows b.league b.bound) c.requires.system)
    (c.vars.ensures.vars ∙ ap (λ (b : Bounded). bound_vars b.league) c.requires.system) c.in_ok-found.ensures.answer.answer
    in
    (rw c.in-Sat.is at answer).0

pub decoded-requires-clause-satisfied : goal.decoded-requires-clause-satisfied
decoded-requires-clause-satisfied g c =
    let answer = answer-of c.args.league.now (c.args.objective - 1) c.vars.result c.rows.result.now c.in_ok-found.ensures.answer.kept
    c.in_ok-found.found (c.rows.ensures ∙ ap (λ (b : Bounded). bound_rows b.league b.bound) c.requires.system)
    (c.vars.ensures.vars ∙ ap (λ (b : Bounded). bound_vars b.league) c.requires.system) c.in_ok-found.ensures.answer.answer
    in
    (rw c.in-Sat.is at answer).1

pub returns-in-Refuted : goal.returns-in-Refuted
returns-in-Refuted g c =
    let answer = answer-of c.args.league.now (c.args.objective - 1) c.vars.result c.rows.result.now c.in_ok-found.ensures.answer.kept
    c.in_ok-found.found (c.rows.ensures ∙ ap (λ (b : Bounded). bound_rows b.league b.bound) c.requires.system)
    (c.vars.ensures.vars ∙ ap (λ (b : Bounded). bound_vars b.league) c.requires.system) c.in_ok-found.ensures.answer.answer
    in (
      c.in_ok-found.ensures.answer.kept,
      c.in_ok-found.ensures.answer.is_kept,
      (
        refl,
        none-of c.args.league.now c.in_ok-found.ensures.answer.kept c.args.objective c.in-Refuted.log
            c.requires.instance c.requires.some (rw c.in-Refuted.is at answer),
      ),
    )

pub returns-in-Spent : goal.returns-in-Spent
returns-in-Spent g c =
    let answer = answer-of c.args.league.now (c.args.objective - 1) c.vars.result c.rows.result.now c.in_ok-found.ensures.answer.kept
    c.in_ok-found.found (c.rows.ensures ∙ ap (λ (b : Bounded). bound_rows b.league b.bound) c.requires.system)
    (c.vars.ensures.vars ∙ ap (λ (b : Bounded). bound_vars b.league) c.requires.system) c.in_ok-found.ensures.answer.answer
    in (
      c.in_ok-found.ensures.answer.kept,
      c.in_ok-found.ensures.answer.is_kept,
      spent-of c.args.league.now c.in_ok-found.ensures.answer.kept c.args.objective c.in-Spent.log c.requires.some
          (rw c.in-Spent.is at answer),
    )

pub returns-in-Sat : goal.returns-in-Sat
returns-in-Sat g c =
    sought-of c.args.league.now c.args.objective (IsKeptTo c.args.conflicts (g.W.Watch.may_stop c.args.watch.now))
    c.args.conflicts (inl refl) c.decoded.result c.decoded.ensures
