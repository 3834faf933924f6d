use Rattle.std.proofs.Common.{ℕ, ◌<◌, ◌^◌, Some, refl, inr, ap, subst, ◌∙◌}
use Rattle.std.specs.Prelude.{IfSome}
use Rattle.clause_search.specs.Trails.{before}
use Rattle.clause_search.proofs.walk.meet.Goals as goal

pub returns-then-is_reached-clause-turn : goal.returns-then-is_reached-clause-turn
returns-then-is_reached-clause-turn c = (
  refl,
  c.if-is_reached.ensures.reached refl ∙ ap (λ (n : ℕ). Some n) c.len.ensures,
  subst (λ (n : ℕ). n < 2 ^ 64) c.len.ensures c.if-is_reached.ensures.small,
  (before c.args.trail.now.entries c.in-Some.start, c.in-Some.ensures.some.quiet),
)

pub returns-in_ok-learn-in-Some-clause-turn : goal.returns-in_ok-learn-in-Some-clause-turn
returns-in_ok-learn-in-Some-clause-turn c =
    inr (record {
      within =
          subst (λ (n : ℕ). IfSome c.args.limit (λ most. n < most)) c.len.ensures
          (c.if-is_reached.ensures.early refl);
      learns = c.in_ok-learn-in-Some.ensures.learns;
      keeps = c.in_ok-learn-in-Some.ensures.kept;
      room = c.in_ok-learn-in-Some.ensures.room;
    })
