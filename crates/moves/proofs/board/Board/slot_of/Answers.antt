use Rattle.std.proofs.Common.{◌≡◌, ℕ, ◌<◌, ◌+◌, ◌*◌, ◌==◌, if◌then◌else◌, length, arith, subst, sym}
use Rattle.std.proofs.lemmas.List.{get_or_read}
use Rattle.moves.specs.Places.{IsRound, IsSlotTable, slot_entry}
use Rattle.moves.specs.Round.{Round, round_counts}
use Rattle.moves.proofs.RoundLemmas.{only_slot-at}
use Rattle.moves.proofs.board.Board.slot_of.Goals as goal

pub returns-clause-at : goal.returns-clause-at
returns-clause-at c = λ s.
    let round : IsRound c.args.self.now = subst IsRound c.self.view_is c.self.invariant.0 in
    let slots = c.self.inside.slots.items in
    let P : Round → Type 0 = λ r. IsSlotTable r.n (round_counts r) slots in
    let table : IsSlotTable c.args.self.now.n (round_counts c.args.self.now) slots = subst P c.self.view_is c.self.invariant.1 in
    let within : c.args.home.0 * 40 + c.args.away.0 < length slots = omega (arith, table.long, round.teams.at_most, c.requires.home, c.requires.away) in
    let here : c.index.result.now ≡ slot_entry slots c.args.home.0 c.args.away.0 =
    get_or_read slots (c.args.home.0 * 40 + c.args.away.0) c.index.result.now within c.index.ensures 0 in
    let Q : ℕ → Type 0 = λ at. round_counts c.args.self.now c.args.home.0 c.args.away.0 s ≡ (if s == at then 1 else 0) in
    subst Q (sym here) (only_slot-at c.args.self.now slots c.args.home.0 c.args.away.0 round table c.requires.home c.requires.away c.requires.differ s)
