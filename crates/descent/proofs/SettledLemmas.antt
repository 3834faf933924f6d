-- When no move of a whole round lowers a score.
use Rattle.std.proofs.Common.{◌≡◌, ◌↔◌, ℕ, Bool, List, ap, sym, subst, ◌∙◌}
use Rattle.std.specs.Prelude.{IsTrue}
use Rattle.std.specs.List.{All}
use Rattle.std.proofs.lemmas.List.Elements.{All-contains}
use Rattle.league.specs.Counts.{Counts}
use Rattle.moves.specs.Moves.{IsLegal, IsOfLeague, moved}
use Rattle.moves.specs.Neighbours.{all_moves}
use Rattle.moves.specs.declared.swap.Swap.{Swap}
use Rattle.descent.specs.Score.{is_lower}
use Rattle.descent.specs.Settled.{IsLowering, IsSettled}
use Rattle.descent.specs.declared.score.Score.{Score}
use Rattle.descent.proofs.MoveLemmas.{all_moves-lists}

-- whether a legal move lowers the score, by two scores that were read
pub lowering-read : (n : ℕ) (phased : Bool) (score : Counts → Score) (m : Counts) (step : Swap) (result : Bool)
    (before after : Score) → IsOfLeague n step → IsLegal n phased m step → before ≡ score m
    → after ≡ score (moved n m step) → result ≡ is_lower after before
    → IsTrue result ↔ IsLowering n phased score m step
lowering-read n phased score m step result before after of legal was now is =
    let same : result ≡ is_lower (score (moved n m step)) (score m) =
    is ∙ ap (λ (a : Score). is_lower a before) now ∙ ap (λ (b : Score). is_lower (score (moved n m step)) b) was in (
      λ said. record { of_league = of; legal = legal; lower = sym same ∙ said },
      λ lowers. same ∙ lowers.lower,
    )

-- where no listed move lowers the score, none at all does
pub IsSettled-of_all : (n : ℕ) (phased : Bool) (score : Counts → Score) (m : Counts) (moves : List Swap)
    → moves ≡ all_moves n → All (λ step. IsLowering n phased score m step → ⊥) moves → IsSettled n phased score m
IsSettled-of_all n phased score m moves are none step lowers =
    All-contains (λ step. IsLowering n phased score m step → ⊥) (all_moves n) step
    (subst (λ (all : List Swap). All (λ step. IsLowering n phased score m step → ⊥) all) are none)
    (all_moves-lists n m step lowers.of_league lowers.legal.own) lowers
