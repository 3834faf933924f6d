-- The last games, and the reason of a lead.
use Rattle.std.proofs.Common.{◌≡◌, ℕ, ◌<◌, List, [], ◌∷◌, ◌++◌, length, refl, arith, ap, ◌∙◌}
use Rattle.league.specs.declared.game.Game.{Game}
use Rattle.season_misses.specs.Reasons.{neighbours, where_missed}
use Rattle.season_misses.specs.declared.reason.Cause.TheVariants.{Lead}
use Rattle.season_misses.specs.declared.reason.Reason.{Reason}

-- of fewer than two games none has a next one
pub neighbours-few : (games : List Game) → length games < 2 → neighbours games ≡ []
neighbours-few [] few = refl
neighbours-few (g ∷ []) few = refl
neighbours-few (g ∷ h ∷ games) few = absurd (omega arith)

-- the reason of a lead, by what was read
pub lead_added : (before more : List Reason) (key amount excess slot : ℕ) (first firsts second seconds : List Game)
    → more ≡ before ++ where_missed key amount (Lead (record { 0 = slot }) first second) → amount ≡ excess
    → first ≡ firsts → second ≡ seconds
    → more ≡ before ++ where_missed key excess (Lead (record { 0 = slot }) firsts seconds)
lead_added before more key amount excess slot first firsts second seconds now so_much one other =
    now
    ∙ ap (λ (x : ℕ). before ++ where_missed key x (Lead (record { 0 = slot }) first second)) so_much
    ∙ ap (λ (gs : List Game). before ++ where_missed key excess (Lead (record { 0 = slot }) gs second)) one
    ∙ ap (λ (gs : List Game). before ++ where_missed key excess (Lead (record { 0 = slot }) firsts gs)) other
