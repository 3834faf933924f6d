use Rattle.std.proofs.Common.{◌≡◌, ◌+◌, ℕ, Option, length, arith, subst, sym, ap}
use Rattle.std.specs.Prelude.{IfSome}
use Rattle.refutation_check.specs.Forgotten.{IsLean, NoneNames, without}
use Rattle.refutation_check.specs.Judged.{Judged}
use Rattle.refutation_check.specs.Room.{steps_bytes}
use Rattle.refutation_check.proofs.LeanLemmas.{lean-forget}
use Rattle.refutation_check.proofs.lean.let_row_go.Goals as goal

pub returns-clause-lean : goal.returns-clause-lean
returns-clause-lean c = λ full later none is.
    let before : Judged = c.args.checker.now in
    let place : ℕ = c.in-Some.place in
    let none_there : NoneNames (length before.rows + place + 1) later =
    subst (λ (o : Option ℕ). IfSome o (λ p. NoneNames (length before.rows + p + 1) later)) c.in-Some.is none in
    let kept : steps_bytes c.forget.new.self.steps ≡ steps_bytes (without place before.steps) =
    ap (λ (s : Judged). steps_bytes s.steps) c.forget.ensures.state in
    let taken : steps_bytes (without place before.steps) + c.forget.result ≡ steps_bytes before.steps =
    omega (arith, kept, c.forget.ensures.freed) in
    let lean = lean-forget full before c.args.freed.now c.forget.result place later is none_there taken in
    subst (λ (n : ℕ). IsLean full c.forget.new.self n later) (sym c.in-Some-checked_add.ensures.1)
    (subst (λ (s : Judged). IsLean full s (c.args.freed.now + c.forget.result) later) (sym c.forget.ensures.state) lean)
