use Rattle.std.proofs.Common.{List, [], subst, sym}
use Rattle.std.proofs.lemmas.List.Elements.{All-head}
use Rattle.rows.specs.Rows.{Row}
use Rattle.bound_rows.specs.BoundRows.{group_of}
use Rattle.bound_rows.specs.Softening.{Group}
use Rattle.bound_rows.specs.Drafts.{AreBefore}
use Rattle.bound_rows.proofs.draft.add_part.Goals as goal

pub add_softened-requires-clause-below : goal.add_softened-requires-clause-below
add_softened-requires-clause-below c =
    subst (λ (rows : List Row). AreBefore c.args.draft.now.next rows) (sym c.in_ok-group.ensures)
    (All-head (λ (g : Group). AreBefore c.args.draft.now.next g.rows)
    (group_of c.args.season.now c.args.penalty c.args.part.now) [] c.requires.room.known)
