-- Trails taken backwards.
use Rattle.std.proofs.Common.{◌≡◌, ℕ, Bool, true, List, [], ◌∷◌, ◌++◌, reverse, sym, subst}
use Rattle.std.proofs.lemmas.List.{reverse-append}
use Rattle.std.proofs.Math.Path.{fun_ext}
use Rattle.league.specs.Counts.{Counts}
use Rattle.moves.specs.Moves.{IsLegal, moved}
use Rattle.moves.specs.Undo.{IsUndone}
use Rattle.moves.specs.declared.swap.Swap.{Swap}
use Rattle.moves.proofs.UndoLaw.{legal_moves-undo}
use Rattle.descent.specs.Score.{is_lower}
use Rattle.descent.specs.Trail.{IsClimb, TrailsClimbBack}
use Rattle.descent.specs.declared.score.Score.{Score}

-- one move more
climb-more : (n : ℕ) (phased : Bool) (score : Counts → Score) (first mid last : Counts) (climb : List Swap) (step : Swap)
    → IsClimb n phased score first climb mid → IsLegal n phased mid step
    → is_lower (score mid) (score (moved n mid step)) ≡ true → last ≡ moved n mid step
    → IsClimb n phased score first (climb ++ step ∷ []) last
climb-more n phased score first mid last [] step is legal up to = (
  subst (λ (m : Counts). IsLegal n phased m step) is legal,
  subst (λ (m : Counts). is_lower (score m) (score (moved n m step)) ≡ true) is up,
  subst (λ (m : Counts). last ≡ moved n m step) is to,
)
climb-more n phased score first mid last (next ∷ climb) step is legal up to =
    (is.0, is.1, climb-more n phased score (moved n first next) mid last climb step is.2 legal up to)

pub trails-climb_back : TrailsClimbBack
trails-climb_back n phased score first last [] round_robin is = sym is
trails-climb_back n phased score first last (step ∷ trail) round_robin is =
    let mid : Counts = moved n first step in
    let undone : IsUndone n phased first step = legal_moves-undo n phased first step round_robin is.0.of_league is.0.legal in
    let back : first ≡ moved n mid step = fun_ext (λ i. fun_ext (λ j. fun_ext (λ s. sym (undone.back i j s)))) in
    let up : is_lower (score mid) (score (moved n mid step)) ≡ true =
    subst (λ (m : Counts). is_lower (score mid) (score m) ≡ true) back is.0.lower in
    subst (λ (climb : List Swap). IsClimb n phased score last climb first) (sym (reverse-append (step ∷ []) trail))
    (climb-more n phased score last mid first (reverse trail) step
    (trails-climb_back n phased score mid last trail is.0.legal.round_robin is.1) undone.legal up back)
