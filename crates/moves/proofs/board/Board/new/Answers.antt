use Rattle.std.proofs.Common.{◌≡◌, ℕ, ◌++◌, List, length, take, drop, arith, subst, sym}
use Rattle.std.specs.List.{All}
use Rattle.league.specs.Counts.{counts_of}
use Rattle.league.specs.Instance.{IsGame}
use Rattle.league.specs.declared.game.Game.{Game}
use Rattle.moves.specs.Places.{ArePlaced, IsRound, IsSlotTable}
use Rattle.moves.specs.Round.{round_counts}
use Rattle.moves.proofs.BoardLemmas.{IsBoard-new, fit-wider, written}
use Rattle.moves.proofs.PlacedLemmas.{IsBoard}
use Rattle.moves.proofs.board.Board.new.Goals as goal

pub place_all-requires-clause-fit : goal.place_all-requires-clause-fit
place_all-requires-clause-fit c =
    let P : List Game → Type 0 = λ games. All (IsGame 40) games in
    subst P (sym c.games.ensures) (fit-wider c.args.n c.args.schedule.now c.requires.teams.at_most c.requires.fit)

pub invariant_of-result : goal.invariant_of-result
invariant_of-result c =
    let games : List Game = c.place_all.new.games in
    let slots : List ℕ = c.place_all.new.slots in
    let long : length c.deref_mut.result.now ≡ 3120 = omega (arith, c.deref_mut.ensures.len, c.in_ok-games.ensures.len) in
    let slots_long : length c.deref_mut-2.result.now ≡ 1600 = omega (arith, c.deref_mut-2.ensures.len, c.in_ok-slots.ensures.len) in
    let P : List Game → Type 0 = λ placed. ArePlaced placed c.deref_mut.result.now games c.deref_mut-2.result.now slots in
    let board : IsBoard c.args.n c.args.phased (counts_of c.args.schedule.now) games slots =
    IsBoard-new c.args.n c.args.phased c.args.schedule.now c.deref_mut.result.now games c.deref_mut-2.result.now slots c.requires.teams c.requires.fit c.requires.round_robin (subst P c.games.ensures c.place_all.ensures) long slots_long in
    let whole : take c.in_ok-games.games.len (games ++ drop (length games) c.in_ok-games.games.items) ≡ games =
    written c.in_ok-games.games.len games c.in_ok-games.games.items (omega (arith, c.place_all.ensures.long, long, c.in_ok-games.ensures.len)) in
    let slots_whole : take c.in_ok-slots.slots.len (slots ++ drop (length slots) c.in_ok-slots.slots.items) ≡ slots =
    written c.in_ok-slots.slots.len slots c.in_ok-slots.slots.items (omega (arith, c.place_all.ensures.slots_long, slots_long, c.in_ok-slots.ensures.len)) in
    let Q : List Game → List ℕ → Type 0 = λ games slots.
    IsRound (record { n = c.args.n; phased = c.args.phased; games = games })
    × IsSlotTable c.args.n (round_counts (record { n = c.args.n; phased = c.args.phased; games = games })) slots in
    subst (λ (xs : List Game). Q xs (take c.in_ok-slots.slots.len (slots ++ drop (length slots) c.in_ok-slots.slots.items))) (sym whole)
    (subst (λ (xs : List ℕ). Q games xs) (sym slots_whole) (board.round, board.slot_table))

pub returns-clause-counts : goal.returns-clause-counts
returns-clause-counts c =
    let games : List Game = c.place_all.new.games in
    let slots : List ℕ = c.place_all.new.slots in
    let long : length c.deref_mut.result.now ≡ 3120 = omega (arith, c.deref_mut.ensures.len, c.in_ok-games.ensures.len) in
    let slots_long : length c.deref_mut-2.result.now ≡ 1600 = omega (arith, c.deref_mut-2.ensures.len, c.in_ok-slots.ensures.len) in
    let P : List Game → Type 0 = λ placed. ArePlaced placed c.deref_mut.result.now games c.deref_mut-2.result.now slots in
    let board : IsBoard c.args.n c.args.phased (counts_of c.args.schedule.now) games slots =
    IsBoard-new c.args.n c.args.phased c.args.schedule.now c.deref_mut.result.now games c.deref_mut-2.result.now slots c.requires.teams c.requires.fit c.requires.round_robin (subst P c.games.ensures c.place_all.ensures) long slots_long in
    let whole : take c.in_ok-games.games.len (games ++ drop (length games) c.in_ok-games.games.items) ≡ games =
    written c.in_ok-games.games.len games c.in_ok-games.games.items (omega (arith, c.place_all.ensures.long, long, c.in_ok-games.ensures.len)) in
    let Q : List Game → Type 0 = λ games. round_counts (record { n = c.args.n; phased = c.args.phased; games = games }) ≡ counts_of c.args.schedule.now in
    subst Q (sym whole) board.counts
