use Rattle.std.proofs.Common.{◌≡◌, length, sym, ◌∙◌}
use Rattle.std.proofs.lemmas.Bool.{eqb-true}
use Rattle.std.proofs.lemmas.List.{nil_from_length}
use Rattle.robinx.proofs.PieceLemmas.{pieces_from-end}
use Rattle.robinx.proofs.piece.next_from.Goals as goal

pub returns-clause-pieces : goal.returns-clause-pieces
returns-clause-pieces c =
    let none : length c.loop-alloc.rest.now ≡ 0 = eqb-true _ _ (sym c.loop-alloc-test.ensures) in
    (nil_from_length c.loop-alloc.rest.now none, sym c.loop-alloc.invariant.left ∙ pieces_from-end c.loop-alloc.line c.loop-alloc.rest.now none)
