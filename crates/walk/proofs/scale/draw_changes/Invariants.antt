use Rattle.std.specs.Prelude.{◌≡◌}
use Rattle.walk.proofs.scale.draw_changes.Given as goal

-- the edit is for the board
abbrev pub invariant-looks : goal.invariant-looks
invariant-looks l = l.edit.n ≡ l.board.n
