use Rattle.std.proofs.Common.{◌<◌, ◌+◌, ◌*◌, ◌++◌, List, [], ◌∷◌, ℕ, get_or, length, take, set, subst, sym}
use Rattle.std.proofs.lemmas.List.{take_more}
use Rattle.league.specs.declared.game.Game.{Game}
use Rattle.moves.specs.Moves.{game}
use Rattle.moves.specs.Places.{ArePlaced}
use Rattle.moves.proofs.PlacedLemmas.{ArePlaced-more}
use Rattle.moves.proofs.place.place_all.Goals as goal

pub loop-game-preserved : goal.loop-game-preserved
loop-game-preserved c =
    let placed : List Game = c.args.placed.now in
    let k : ℕ = c.loop-game.game-index in
    let within : k < length placed = c.loop-game-test.true in
    let g : Game = get_or placed k (game 0 0 0) in
    let P : List Game → List Game → List ℕ → Type 0 = λ xs games slots. ArePlaced xs c.args.games.now games c.args.slots.now slots in
    let more : P (take k placed ++ g ∷ []) (set (set c.loop-game.games (g.home.0 * 78 + g.slot.0) g) (g.away.0 * 78 + g.slot.0) g) (set c.loop-game.slots (g.home.0 * 40 + g.away.0) g.slot.0) =
    ArePlaced-more (take k placed) c.args.games.now c.loop-game.games c.args.slots.now c.loop-game.slots g c.requires.games c.requires.slots (c.requires.fit k (game 0 0 0) within) c.loop-game.invariant in
    subst (λ (xs : List Game). P xs c.place.new.games c.place.new.slots) (sym (take_more placed k (game 0 0 0) within))
    (subst (λ (games : List Game). P (take k placed ++ g ∷ []) games c.place.new.slots) (sym c.place.ensures.games)
    (subst (λ (slots : List ℕ). P (take k placed ++ g ∷ []) (set (set c.loop-game.games (g.home.0 * 78 + g.slot.0) g) (g.away.0 * 78 + g.slot.0) g) slots) (sym c.place.ensures.slots) more))
