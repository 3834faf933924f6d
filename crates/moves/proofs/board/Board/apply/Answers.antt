use Rattle.std.proofs.Common.{◌≡◌, ℕ, ◌++◌, List, length, take, drop, arith, subst, sym}
use Rattle.league.specs.declared.game.Game.{Game}
use Rattle.moves.specs.Places.{ArePlaced, IsRound, IsSlotTable}
use Rattle.moves.specs.Round.{Edits, Round, edited, round_counts}
use Rattle.moves.proofs.BoardLemmas.{IsBoard-applied, IsMayApply, written}
use Rattle.moves.proofs.PlacedLemmas.{IsBoard}
use Rattle.moves.proofs.board.Board.apply.Goals as goal

pub invariant_of-self : goal.invariant_of-self
invariant_of-self c =
    let r : Round = record { n = c.self.inside.n; phased = c.self.inside.phased; games = c.self.inside.games.items } in
    let games : List Game = c.place_all.new.games in
    let slots : List ℕ = c.place_all.new.slots in
    let edit : Edits = c.args.edit.now in
    let may : IsMayApply r edit = subst (λ (r : Round). IsMayApply r edit) (sym c.self.view_is) (record { there = c.requires.there; fit = c.requires.fit; is = c.requires.round_robin }) in
    let P : List Game → List Game → List ℕ → Type 0 = λ placed old old_slots. ArePlaced placed old games old_slots slots in
    let placed : P edit.into c.self.inside.games.items c.self.inside.slots.items =
    subst (λ (xs : List ℕ). P edit.into c.self.inside.games.items xs) c.deref_mut-2.ensures.value
    (subst (λ (xs : List Game). P edit.into xs c.deref_mut-2.result.now) c.deref_mut.ensures.value
    (subst (λ (xs : List Game). P xs c.deref_mut.result.now c.deref_mut-2.result.now) c.into_games.ensures c.place_all.ensures)) in
    let board : IsBoard r.n r.phased (edited (round_counts r) edit) games slots =
    IsBoard-applied r c.self.inside.slots.items edit games slots c.self.invariant.0 c.self.invariant.1 may.there may.fit may.is placed in
    let whole : take c.self.inside.games.len (games ++ drop (length games) c.self.inside.games.items) ≡ games =
    written c.self.inside.games.len games c.self.inside.games.items (omega (arith, c.place_all.ensures.long, c.deref_mut.ensures.len)) in
    let slots_whole : take c.self.inside.slots.len (slots ++ drop (length slots) c.self.inside.slots.items) ≡ slots =
    written c.self.inside.slots.len slots c.self.inside.slots.items (omega (arith, c.place_all.ensures.slots_long, c.deref_mut-2.ensures.len)) in
    let Q : List Game → List ℕ → Type 0 = λ games slots.
    IsRound (record { n = c.self.inside.n; phased = c.self.inside.phased; games = games })
    × IsSlotTable c.self.inside.n (round_counts (record { n = c.self.inside.n; phased = c.self.inside.phased; games = games })) slots in
    subst (λ (xs : List Game). Q xs (take c.self.inside.slots.len (slots ++ drop (length slots) c.self.inside.slots.items))) (sym whole)
    (subst (λ (xs : List ℕ). Q games xs) (sym slots_whole) (board.round, board.slot_table))

pub returns-clause-counts : goal.returns-clause-counts
returns-clause-counts c =
    let r : Round = record { n = c.self.inside.n; phased = c.self.inside.phased; games = c.self.inside.games.items } in
    let games : List Game = c.place_all.new.games in
    let slots : List ℕ = c.place_all.new.slots in
    let edit : Edits = c.args.edit.now in
    let may : IsMayApply r edit = subst (λ (r : Round). IsMayApply r edit) (sym c.self.view_is) (record { there = c.requires.there; fit = c.requires.fit; is = c.requires.round_robin }) in
    let P : List Game → List Game → List ℕ → Type 0 = λ placed old old_slots. ArePlaced placed old games old_slots slots in
    let placed : P edit.into c.self.inside.games.items c.self.inside.slots.items =
    subst (λ (xs : List ℕ). P edit.into c.self.inside.games.items xs) c.deref_mut-2.ensures.value
    (subst (λ (xs : List Game). P edit.into xs c.deref_mut-2.result.now) c.deref_mut.ensures.value
    (subst (λ (xs : List Game). P xs c.deref_mut.result.now c.deref_mut-2.result.now) c.into_games.ensures c.place_all.ensures)) in
    let board : IsBoard r.n r.phased (edited (round_counts r) edit) games slots =
    IsBoard-applied r c.self.inside.slots.items edit games slots c.self.invariant.0 c.self.invariant.1 may.there may.fit may.is placed in
    let whole : take c.self.inside.games.len (games ++ drop (length games) c.self.inside.games.items) ≡ games =
    written c.self.inside.games.len games c.self.inside.games.items (omega (arith, c.place_all.ensures.long, c.deref_mut.ensures.len)) in
    let Q : List Game → Type 0 = λ games. round_counts (record { n = c.self.inside.n; phased = c.self.inside.phased; games = games }) ≡ edited (round_counts r) edit in
    subst (λ (r : Round). round_counts (record { n = c.self.inside.n; phased = c.self.inside.phased; games = take c.self.inside.games.len (games ++ drop (length games) c.self.inside.games.items) }) ≡ edited (round_counts r) edit) c.self.view_is
    (subst Q (sym whole) board.counts)
