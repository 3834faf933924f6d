use Rattle.std.proofs.Common.{◌≡◌, ◌<◌, ◌+◌, ◌*◌, ◌||◌, ◌==◌, if◌then◌else◌, length, arith, subst, sym}
use Rattle.std.proofs.lemmas.List.{get_or_read}
use Rattle.league.specs.Counts.{is_game}
use Rattle.league.specs.declared.game.Game.{Game}
use Rattle.moves.specs.Moves.{game}
use Rattle.moves.specs.Places.{IsRound}
use Rattle.moves.specs.Round.{Round, entry, round_counts}
use Rattle.moves.proofs.RoundLemmas.{only_game-at}
use Rattle.moves.proofs.board.Board.game.Goals as goal

pub returns-clause-only : goal.returns-clause-only
returns-clause-only c = λ a b.
    let round : IsRound c.args.self.now = subst IsRound c.self.view_is c.self.invariant.0 in
    let within : c.args.team.0 * 78 + c.args.slot.0 < length c.self.inside.games.items = omega (arith, c.self.invariant.0.table.long, round.teams.at_most, c.requires.team, c.requires.slot) in
    let P : Round → Type 0 = λ r. c.index.result.now ≡ entry r.games c.args.team.0 c.args.slot.0 in
    let here : c.index.result.now ≡ entry c.args.self.now.games c.args.team.0 c.args.slot.0 =
    subst P c.self.view_is (get_or_read c.self.inside.games.items (c.args.team.0 * 78 + c.args.slot.0) c.index.result.now within c.index.ensures (game 0 0 0)) in
    let Q : Game → Type 0 = λ g. (if (a == c.args.team.0) || (b == c.args.team.0) then round_counts c.args.self.now a b c.args.slot.0 else 0) ≡ (if is_game a b c.args.slot.0 g then 1 else 0) in
    subst Q (sym here) (only_game-at c.args.self.now c.args.team.0 c.args.slot.0 round c.requires.team c.requires.slot a b)
