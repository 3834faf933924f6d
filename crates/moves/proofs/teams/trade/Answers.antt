use Rattle.std.proofs.Common.{◌≡◌, ◌+◌, ◌&&◌, ◌||◌, ◌==◌, if◌then◌else◌, subst, sym}
use Rattle.league.specs.Counts.{counts_of}
use Rattle.moves.specs.Moves.{exchange}
use Rattle.moves.specs.Round.{Edits, round_counts}
use Rattle.moves.proofs.TradeLemmas.{trade-into, trade-out}
use Rattle.moves.proofs.teams.trade.Goals as goal

pub returns-clause-out : goal.returns-clause-out
returns-clause-out c = λ a b r.
    let m = round_counts c.args.board.now in
    let P : Edits → Type 0 = λ e. counts_of e.out a b r ≡ counts_of c.args.edit.now.out a b r + (if (r == c.args.slot.0) && ((a == c.args.i.0) || (b == c.args.i.0)) then m a b c.args.slot.0 else 0) in
    subst P (sym c.replace.ensures) (trade-out m c.args.i.0 c.args.slot.0 c.args.edit.now.out c.game-game.result c.game-game.ensures.of c.game-game.ensures.only a b r)

pub returns-clause-into : goal.returns-clause-into
returns-clause-into c = λ a b r.
    let m = round_counts c.args.board.now in
    let P : Edits → Type 0 = λ e. counts_of e.into a b r ≡ counts_of c.args.edit.now.into a b r + (if (r == c.args.slot.0) && ((a == c.args.j.0) || (b == c.args.j.0)) then m (exchange c.args.i.0 c.args.j.0 a) (exchange c.args.i.0 c.args.j.0 b) c.args.slot.0 else 0) in
    subst P (sym c.replace.ensures)
    (trade-into c.args.board.now.n m c.args.i.0 c.args.j.0 c.args.slot.0 c.args.edit.now.into c.game-game.result c.with_team-after.result
    c.game-game.ensures.fits c.game-game.ensures.of c.game-game.ensures.only c.requires.apart
    c.with_team-after.ensures.home c.with_team-after.ensures.away c.with_team-after.ensures.slot a b r)
