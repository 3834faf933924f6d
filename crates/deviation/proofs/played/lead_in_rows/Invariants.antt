use Rattle.std.proofs.Common.{◌≡◌, ℕ, take}
use Rattle.league.specs.Bounds.{difference, excess, largest}
use Rattle.league.specs.Counts.{Counts}
use Rattle.league.specs.Fairness.{home_played}
use Rattle.deviation.specs.Played.{IsPlayed}
use Rattle.deviation.proofs.played.lead_in_rows.Given as goal

abbrev pub invariant-loop-place : goal.invariant-loop-place
invariant-loop-place l = (n : ℕ) (m : Counts) → IsPlayed n m l.slots l.played l.first.0
    → IsPlayed n m l.slots l.played l.second.0 → excess l.most l.intp
    ≡ largest (λ s. excess (difference (home_played n m l.first.0 s) (home_played n m l.second.0 s)) l.intp)
    (take l.place l.slots)
