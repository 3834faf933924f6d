use Rattle.std.proofs.Common.{ap, ◌∙◌}
use Rattle.moves.specs.Round.{Edits, round_counts}
use Rattle.moves.proofs.HomeLemmas.{IsTurn, home_swap-done}
use Rattle.moves.proofs.legality.home_swap.Goals as goal

pub returns : goal.returns
returns c =
    let first : IsTurn (round_counts c.args.board.now) c.args.i.0 c.args.j.0 c.args.edit.now c.turn.new.edit = record { out = c.turn.ensures.out; into = c.turn.ensures.into } in
    let second : IsTurn (round_counts c.args.board.now) c.args.j.0 c.args.i.0 c.turn.new.edit c.turn-2.new.edit = record { out = c.turn-2.ensures.out; into = c.turn-2.ensures.into } in
    home_swap-done c.args.board.now c.args.i.0 c.args.j.0 c.args.edit.now c.turn.new.edit c.turn-2.new.edit c.n-round.ensures.round c.if-i-j.false c.requires.j c.requires.empty
    (c.turn-2.ensures.n ∙ c.turn.ensures.n ∙ ap (λ (e : Edits). e.n) c.requires.empty) first second
