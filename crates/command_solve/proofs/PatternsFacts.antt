-- Worked texts, so that a wrong definition of what `patterns` writes does not check.
use Rattle.std.proofs.Common.{◌≡◌, ℕ, List, [], ◌∷◌, None, Some, length, codes, refl}
use Rattle.std.specs.Prelude.{Option}
use Rattle.std.specs.Fmt.{digits}
use Rattle.league.specs.Instance.{Instance}
use Rattle.league.specs.declared.class.Side.TheVariants.{H, A}
use Rattle.answers.specs.Reply.{Answer}
use Rattle.refutation.specs.Steps.{Step}
use Rattle.command_solve.specs.Patterns.{IsBudgetSpent, pattern_line, patterns_text}

-- two teams that take turns, no team, and a team with two digits
pub patterns_text-some : (patterns_text ((H ∷ A ∷ []) ∷ (A ∷ H ∷ []) ∷ []) ≡ codes "0 HA\n1 AH\n")
    × (patterns_text [] ≡ []) × (pattern_line 39 (A ∷ A ∷ H ∷ []) ≡ codes "39 AAH\n")
unfolding digits
patterns_text-some = (refl, refl, refl)

-- without a budget nothing is spent
nothing_spent : (steps : List Step) → ◌≡◌ {A = Option ℕ} None (Some (length steps)) → ⊥
nothing_spent steps is = cc

pub never_spent : (league : Instance) (answer : Answer) → IsBudgetSpent league None answer → ⊥
never_spent league answer is = nothing_spent is.steps is.spent.limited
