use Rattle.std.proofs.Common.{◌≡◌, length, Err, sym, ap, ◌∙◌, subst, arith}
use Rattle.std.proofs.lemmas.Result.{err_from_is_err_and}
use Rattle.std.proofs.lemmas.Bool.Decides.{nat_tests}
use Rattle.robinx.specs.SeenTag.{view_of}
use Rattle.robinx.specs.declared.tag_fault.FormKind.TheVariants.{Truncated}
use Rattle.robinx.specs.Walk.{at_file_end}
use Rattle.robinx.specs.Tagged.{of_tags}
use Rattle.robinx.specs.SeenPosition.{position_of}
use Rattle.robinx.specs.Answers.{Walks}
use Rattle.robinx.proofs.WalkLemmas.{next_piece, nothing_left, walk-piece, walk-stop, walk-fault, walk-end, walk-cut, file_end-whole, file_end-open, file_end-incomplete}
use Rattle.robinx.proofs.walk.read_pieces.Goals as goal
use Rattle.robinx.proofs.walk.read_pieces.Goals.{then-not-is_empty-via-then-not-is_empty, then-not-is_empty-via-else-not-is_empty+then-not-is_complete}

pub returns-in_err-tag : goal.returns-in_err-tag
returns-in_err-tag g c =
    let p = err_from_is_err_and c.from_residual.result c.from_residual.ensures.1 in
    rw (p.1, p.2) (subst (λ said. Walks said (Err (of_tags c.in_err-tag.field-0.0)) c.pieces.read) c.pieces.invariant
    (walk-fault g.R.Reads.meaning c.pieces.tags c.next.new.self (position_of c.pieces.position c.pieces.read) c.pieces.read c.in_err-tag.field-0.0 c.in_err-tag.ensures))

pub returns-in_err-at_piece : goal.returns-in_err-at_piece
returns-in_err-at_piece g c =
    let p = err_from_is_err_and c.from_residual-in_err-at_piece.result c.from_residual-in_err-at_piece.ensures.1 in
    let is = next_piece c.pieces.tags c.next.new.self c.in_ok-tag.field-0 c.in-Some.tag c.in_ok-tag.ensures c.in-Some.is in
    rw (p.1, p.2) (subst (λ said. Walks said (Err c.in_err-at_piece.field-0.0) c.at_piece.new.read) c.pieces.invariant
    (walk-stop g.R.Reads.meaning c.pieces.tags c.next.new.self (view_of c.in-Some.tag) (position_of c.pieces.position c.pieces.read) (position_of c.at_piece.new.position c.at_piece.new.read) c.at_piece.new.read c.in_err-at_piece.field-0.0 is c.in_err-at_piece.ensures))

pub pieces-preserved-in_ok-at_piece : goal.pieces-preserved-in_ok-at_piece
pieces-preserved-in_ok-at_piece g c =
    let is = next_piece c.pieces.tags c.next.new.self c.in_ok-tag.field-0 c.in-Some.tag c.in_ok-tag.ensures c.in-Some.is in
    walk-piece g.R.Reads.meaning c.pieces.tags c.next.new.self (view_of c.in-Some.tag) (position_of c.pieces.position c.pieces.read) (position_of c.at_piece.new.position c.at_piece.new.read)
    is c.in_ok-at_piece.ensures
    ∙ c.pieces.invariant

pub pieces-preserved : goal.pieces-preserved
pieces-preserved g c =
    let is = next_piece c.pieces.tags c.next.new.self c.in_ok-tag.field-0 c.in-Some.tag c.in_ok-tag.ensures c.in-Some.is in
    walk-piece g.R.Reads.meaning c.pieces.tags c.next.new.self (view_of c.in-Some.tag) (position_of c.pieces.position c.pieces.read) (position_of c.at_piece.new.position c.at_piece.new.read)
    is c.in_ok-at_piece.ensures
    ∙ c.pieces.invariant

pub returns-then-not-is_empty : goal.returns-then-not-is_empty
returns-then-not-is_empty g c =
    let at = position_of c.pieces.position c.pieces.read in
    let end = nothing_left c.pieces.tags c.next.new.self c.in_ok-tag.field-0 c.in_ok-tag.ensures c.in_default.is in
    let line_is : c.end_line.result ≡ end.1.0 = c.end_line.ensures end.1.0 (ap (λ l. l.last) end.0 ∙ ap (λ l. l.last) end.1.1) in
    let refused : at_file_end at.outer end.1.0 at ≡ Err (Truncated, end.1.0) =
    elim c.then-not-is_empty.branch [
      | then-not-is_empty-via-then-not-is_empty w ↦ file_end-open at.outer end.1.0 at (grind (arith, nat_tests, c.is_empty.ensures, w.if-not-is_empty.true))
      | then-not-is_empty-via-else-not-is_empty+then-not-is_complete w ↦ file_end-incomplete at.outer end.1.0 at (sym w.is_complete.ensures ∙ w.if-not-is_complete.true)
    ] in
    rw c.fault.ensures (walk-cut g.R.Reads.meaning _ c.pieces.tags at end.1.0 c.end_line.result c.pieces.invariant end.1.1 line_is refused)

pub returns : goal.returns
returns g c =
    let at = position_of c.pieces.position c.pieces.read in
    let end = nothing_left c.pieces.tags c.next.new.self c.in_ok-tag.field-0 c.in_ok-tag.ensures c.in_default.is in
    let none : length at.outer ≡ 0 = grind (arith, nat_tests, c.is_empty.ensures, c.if-not-is_empty.false) in
    sym c.pieces.invariant
    ∙ walk-end g.R.Reads.meaning c.pieces.tags at end.1.0 end.1.1
    ∙ file_end-whole at.outer end.1.0 at none (sym c.is_complete.ensures ∙ c.if-not-is_complete.false)
