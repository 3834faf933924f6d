use Rattle.std.proofs.Common.{◌≡◌, arith, sym, ◌∙◌}
use Rattle.moves.specs.Round.{round_counts}
use Rattle.moves.proofs.OpponentLemmas.{apart-by, follows-away, follows-home, not_opponent-away, not_opponent-home, played_at}
use Rattle.moves.proofs.walks.next_slot.Goals as goal

pub slot_of-requires-clause-differ : goal.slot_of-requires-clause-differ
slot_of-requires-clause-differ c =
    not_opponent-away c.args.board.now.n (round_counts c.args.board.now) c.args.i.0 c.args.j.0 c.args.slot.0 c.game-game.result
    c.game-game.ensures.fits c.game-game.ensures.of c.game-game.ensures.only c.if-game-i.true c.requires.apart

pub slot_of-requires-else-game-i-clause-differ : goal.slot_of-requires-else-game-i-clause-differ
slot_of-requires-else-game-i-clause-differ c = λ e.
    not_opponent-home c.args.board.now.n (round_counts c.args.board.now) c.args.i.0 c.args.j.0 c.args.slot.0 c.game-game.result
    c.game-game.ensures.fits c.game-game.ensures.of c.game-game.ensures.only c.if-game-i.false c.requires.apart (sym e)

pub returns-then-game-i-clause-apart : goal.returns-then-game-i-clause-apart
returns-then-game-i-clause-apart c =
    let g = c.game-game.result in
    let at = c.slot_of.result.0 in
    let one : round_counts c.args.board.now c.args.j.0 g.away.0 at ≡ 1 = played_at at (round_counts c.args.board.now c.args.j.0 g.away.0 at) (c.slot_of.ensures.at at) in
    apart-by c.args.board.now c.args.i.0 c.args.j.0 g.away.0 at c.n-round.ensures.round c.requires.i c.requires.j c.game-game.ensures.fits.away c.slot_of.ensures.below
    (λ e. c.game-game.ensures.fits.differ (c.if-game-i.true ∙ e)) (omega (arith, one))

pub returns-then-game-i-clause-follows : goal.returns-then-game-i-clause-follows
returns-then-game-i-clause-follows c =
    follows-home c.args.board.now.n (round_counts c.args.board.now) c.args.i.0 c.args.j.0 c.args.slot.0 c.slot_of.result.0 c.game-game.result
    c.game-game.ensures.fits c.game-game.ensures.of c.game-game.ensures.only c.if-game-i.true c.slot_of.ensures.at

pub returns-else-game-i-clause-apart : goal.returns-else-game-i-clause-apart
returns-else-game-i-clause-apart c =
    let g = c.game-game.result in
    let call = c.slot_of-else-game-i in
    let at = call.result.0 in
    let one : round_counts c.args.board.now g.home.0 c.args.j.0 at ≡ 1 = played_at at (round_counts c.args.board.now g.home.0 c.args.j.0 at) (call.ensures.at at) in
    apart-by c.args.board.now c.args.i.0 c.args.j.0 g.home.0 at c.n-round.ensures.round c.requires.i c.requires.j c.game-game.ensures.fits.home call.ensures.below
    (λ e. c.if-game-i.false (sym e)) (omega (arith, one))

pub returns-else-game-i-clause-follows : goal.returns-else-game-i-clause-follows
returns-else-game-i-clause-follows c =
    follows-away c.args.board.now.n (round_counts c.args.board.now) c.args.i.0 c.args.j.0 c.args.slot.0 c.slot_of-else-game-i.result.0 c.game-game.result
    c.game-game.ensures.fits c.game-game.ensures.of c.game-game.ensures.only c.if-game-i.false c.slot_of-else-game-i.ensures.at
