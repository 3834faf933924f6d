use Rattle.std.proofs.Common.{ℕ, sym, ap, ◌∙◌, arith}
use Rattle.bound_rows.specs.BoundRows.{groups_of}
use Rattle.bound_rows.proofs.DraftLemmas.{room-as}
use Rattle.bound_rows.proofs.RoomLemmas.{league_room}
use Rattle.bound_rows.proofs.written.softened.Goals as goal

pub add_paid-requires-clause-room : goal.add_paid-requires-clause-room
add_paid-requires-clause-room c =
    let league = c.args.league.now in
    room-as c.in_ok-draft.draft _ _
    (ap (λ (k : ℕ). groups_of k league.constraints) (sym (c.in_ok-season.ensures ∙ c.n.ensures.n))
    ∙ ap (groups_of c.in_ok-season.season) (sym c.constraints.ensures))
    (league_room league c.in_ok-draft.draft c.n.ensures.instance c.requires.size
    (c.in_ok-draft.ensures.next ∙ c.requires.first) (omega (arith, c.requires.first, c.requires.few))
    c.in_ok-draft.ensures.count)
