use Rattle.std.proofs.Common.{◌≡◌, ◌∙◌, ap, sym, ℕ, None, Some, Option, Err, Result}
use Rattle.league.specs.Instance.{Instance}
use Rattle.explain.specs.declared.fault.PartFault.{PartFault}
use Rattle.explain.proofs.PartLemmas.{none_other}
use Rattle.explain.proofs.attempt.known_part.Goals as goal

none_some : (number : ℕ) → ◌≡◌ {A = Option ℕ} None (Some number) → ⊥
none_some number is = cc

pub unreachable-requires : goal.unreachable-requires
unreachable-requires c =
    let fault : PartFault → Result Instance PartFault = λ f. Err f in
    none_some c.in-Err-UnknownConstraint.field-0-0
    (sym (none_other c.args.league.now.constraints c.args.members.now c.requires.hard)
    ∙ c.part.ensures.only c.in-Err-UnknownConstraint.field-0-0
    (c.in-Err-UnknownConstraint.is ∙ ap fault c.in-Err-UnknownConstraint.field-0-is))
