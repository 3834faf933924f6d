-- What the loops over opponents and slots add up to.
use Rattle.std.proofs.Common.{◌≡◌, ℕ, ◌≤◌, List, [], ◌∷◌, length, take, ap, sym, ◌∙◌}
use Rattle.std.proofs.lemmas.List.{take_all}
use Rattle.std.specs.List.{sum_by}
use Rattle.league.specs.Counts.{Counts}
use Rattle.league.specs.Meetings.{games_of}
use Rattle.rule_core.proofs.OpponentLemmas.{games_of-by_slot}

-- a sum over all slots
pub games_of_slots : (m : Counts) (meetings : List (ℕ × ℕ)) (slots : List ℕ) (index games : ℕ) → length slots ≤ index → games ≡ sum_by (λ s. games_of m meetings (s ∷ [])) (take index slots) → games ≡ games_of m meetings slots
games_of_slots m meetings slots index games all so_far =
    so_far
    ∙ ap (sum_by (λ s. games_of m meetings (s ∷ []))) (take_all index slots all)
    ∙ sym (games_of-by_slot m meetings slots)
