use Rattle.std.proofs.Common.{◌≡◌, true, subst, sym}
use Rattle.league.specs.Counts.{Counts}
use Rattle.league.specs.Structure.{IsRoundRobin}
use Rattle.moves.specs.Moves.{moved}
use Rattle.moves.specs.Round.{Round, round_counts}
use Rattle.moves.proofs.LegalLemmas.{edited-is}
use Rattle.example_calls.proofs.canonical.boards.is_legal.Goals as goal

-- what a legal move leads to is a round robin
pub returns-clause-round_robin : goal.returns-clause-round_robin
returns-clause-round_robin c is =
    let board : Round = c.args.board.now in
    let after : Counts = moved board.n (round_counts board) c.args.step in
    subst (IsRoundRobin board.n board.phased) (sym (edited-is (round_counts board) after c.edit_of.new.edit (c.edit_of.ensures.edit is)))
    (c.edit_of.ensures.legal.0 is).round_robin
