use Rattle.std.proofs.Common.{ℕ, Option, inl, refl, subst}
use Rattle.std.specs.Prelude.{IfSome}
use Rattle.resume.specs.Answers.{IsResumed}
use Rattle.resume.specs.declared.resumed.Resumed.{Resumed}
use Rattle.resume.proofs.resumer.resume.Goals as goal

pub returns-in-Some-clause-answer : goal.returns-in-Some-clause-answer
returns-in-Some-clause-answer g c = (
  c.args.conflicts,
  inl refl,
  subst
      (λ (found : Option Resumed). IfSome found (λ resumed. (k : ℕ) (limit : Option ℕ)
      → IsResumed c.args.league.now c.args.played.now k limit resumed))
      c.in-Some.is c.in_ok-plan.ensures.resumed c.args.k c.args.conflicts,
)
