use Rattle.std.proofs.Common.{ℕ, ◌<◌, List, [], ◌∷◌, subst, sym, arith}
use Rattle.std.specs.List.{All}
use Rattle.league.specs.Counts.{slot_count}
use Rattle.instance_gen.proofs.FitLemmas.{three_below}
use Rattle.instance_gen.proofs.SetLemmas.{set_of-below}
use Rattle.instance_gen.proofs.kind.ca1.Goals as goal

pub games_in-max-requires-clause-slots : goal.games_in-max-requires-clause-slots
games_in-max-requires-clause-slots c =
    let season : ℕ = slot_count c.args.circle.now.n in
    let first : ℕ = c.next_draw-first.result in
    let second : ℕ = c.next_draw-second.result in
    let third : ℕ = c.next_draw-third.result in
    let P : List ℕ → Type 0 = λ set. All (λ s. s < season) set in
    subst P (sym c.in_ok-slots.ensures)
    (set_of-below season (first ∷ second ∷ third ∷ [])
    (three_below season first second third (omega arith) (omega arith) (omega arith)))
