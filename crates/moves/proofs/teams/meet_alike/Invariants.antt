use Rattle.std.proofs.Common.{◌≡◌, ℕ, ◌<◌, ◌≤◌, true, false, get_or}
use Rattle.moves.specs.Moves.{do_meet}
use Rattle.moves.specs.Parts.{early_games}
use Rattle.moves.specs.Round.{round_counts}
use Rattle.moves.proofs.teams.meet_alike.Given as goal

-- whom i meets in the slots so far, j meets too
abbrev pub invariant-loop-slot : goal.invariant-loop-slot
invariant-loop-slot l =
    (r k : ℕ) → r < l.slot → k < l.board.n → get_or l.marks r false ≡ true → do_meet (round_counts l.board) l.i.0 k r ≡ true
    → 1 ≤ early_games l.board.n (round_counts l.board) (λ r. get_or l.marks r false) l.j.0 k
