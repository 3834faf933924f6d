use Rattle.std.proofs.Common.{◌≡◌, ℕ, ◌<◌, true, false, get_or}
use Rattle.moves.specs.Moves.{do_meet}
use Rattle.moves.specs.Round.{round_counts}
use Rattle.moves.proofs.slots.have_same_pairs.Given as goal

-- each team so far has one opponent in both slots
abbrev pub invariant-loop-team : goal.invariant-loop-team
invariant-loop-team l =
    (a b : ℕ) → a < l.team → b < l.board.n → get_or l.marks a false ≡ true → do_meet (round_counts l.board) a b l.s.0 ≡ do_meet (round_counts l.board) a b l.t.0
