use Rattle.std.proofs.Common.{ℕ, Bool, false, get_or}
use Rattle.moves.specs.Parts.{teams_exchanged}
use Rattle.moves.specs.Round.{round_counts}
use Rattle.moves.specs.declared.swap.Swap.TheVariants.{TeamSwap}
use Rattle.moves.proofs.LegalLemmas.{IsEditOf-outcome, slots_apart-closed, team_swap-same}
use Rattle.moves.proofs.legality.team_swap.Goals as goal

pub exchange_teams_if_legal-requires-clause-closed : goal.exchange_teams_if_legal-requires-clause-closed
exchange_teams_if_legal-requires-clause-closed c =
    let set : ℕ → Bool = λ r. get_or c.slots_apart-marks.result r false in
    slots_apart-closed c.args.board.now c.args.i.0 c.args.j.0 set c.n-round.ensures.round c.requires.i c.requires.j c.slots_apart-marks.ensures

pub returns : goal.returns
returns c =
    let set : ℕ → Bool = λ r. get_or c.slots_apart-marks.result r false in
    IsEditOf-outcome c.args.board.now.n c.args.board.now.phased (round_counts c.args.board.now) (teams_exchanged set c.args.i.0 c.args.j.0 (round_counts c.args.board.now)) (TeamSwap c.args.i c.args.j)
    c.exchange_teams_if_legal.result c.exchange_teams_if_legal.new.edit c.exchange_teams_if_legal.ensures c.if-i-j.false
    (team_swap-same c.args.board.now c.args.i.0 c.args.j.0 set c.slots_apart-marks.ensures)
