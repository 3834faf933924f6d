use Rattle.std.proofs.Common.{ℕ, ◌+◌, List, arith, refl, sym, subst, ◌∙◌}
use Rattle.clause_search.specs.Marks.{Marks}
use Rattle.clause_search.specs.declared.role.Role.{Role}
use Rattle.clause_search.proofs.MarkLemmas.{Marks-mark, Marks-pass}
use Rattle.clause_search.proofs.mark.mark.Goals as goal
use Rattle.clause_search.proofs.mark.mark.Goals.{in-Some, in-None}

pub loop-term-preserved : goal.loop-term-preserved
loop-term-preserved c =
    elim c.match-false_place.branch [
      | in-Some w ↦
          Marks-mark c.args.trail.now.entries c.args.terms.now c.loop-term.term-index c.args.limit c.args.start
          c.args.lowest c.loop-term.now c.match-false_place.now
          w.in-Some.place c.term-item.result c.args.roles.now c.loop-term.roles c.match-false_place.roles
          c.loop-term.invariant (omega arith) c.term-item.is
          w.in-Some.ensures.before (omega (arith, w.in-Some.ensures.before, c.loop-term.invariant.same_length))
          w.in-Some.ensures.stands
          (w.roles-is ∙ w.mark_place-now.ensures.roles)
          (λ from below. w.now-is ∙ w.mark_place-now.ensures.lower from below)
          (λ none. w.now-is ∙ w.mark_place-now.ensures.same none)
      | in-None w ↦
          subst (λ (roles : List Role). Marks c.args.trail.now.entries c.args.terms.now (c.loop-term.term-index + 1)
          c.args.limit c.args.start c.args.lowest c.args.roles.now roles c.match-false_place.now)
          (sym w.roles-is)
          (subst (λ (n : ℕ). Marks c.args.trail.now.entries c.args.terms.now (c.loop-term.term-index + 1) c.args.limit
          c.args.start c.args.lowest c.args.roles.now c.loop-term.roles n)
          (sym w.now-is)
          (Marks-pass c.args.trail.now.entries c.args.terms.now c.loop-term.term-index c.args.limit c.args.start
          c.args.lowest c.loop-term.now c.term-item.result
          c.args.roles.now c.loop-term.roles c.loop-term.invariant (omega arith) c.term-item.is
          (w.in-None.ensures.none refl)))
    ]
