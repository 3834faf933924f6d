use Rattle.std.proofs.Common.{ℕ, ◌<◌, Bool, false, get_or, arith}
use Rattle.moves.specs.Parts.{teams_exchanged}
use Rattle.moves.specs.Round.{round_counts}
use Rattle.moves.specs.declared.swap.Swap.TheVariants.{PartTeamSwap}
use Rattle.moves.proofs.LegalLemmas.{IsEditOf-outcome, part_team_swap-same}
use Rattle.moves.proofs.legality.part_team_swap.Goals as goal

pub returns : goal.returns
returns c =
    let set : ℕ → Bool = λ r. get_or c.linked_slots-marks.result r false in
    let order : c.args.i.0 < c.args.j.0 = omega arith in
    IsEditOf-outcome c.args.board.now.n c.args.board.now.phased (round_counts c.args.board.now) (teams_exchanged set c.args.i.0 c.args.j.0 (round_counts c.args.board.now)) (PartTeamSwap c.args.i c.args.j c.args.s)
    c.exchange_teams_if_legal.result c.exchange_teams_if_legal.new.edit c.exchange_teams_if_legal.ensures
    (order, c.linked_slots-marks.ensures.closed.apart c.args.s.0 c.requires.s c.linked_slots-marks.ensures.start)
    (part_team_swap-same c.args.board.now.n (round_counts c.args.board.now) c.args.i.0 c.args.j.0 c.args.s.0 set c.linked_slots-marks.ensures.linked)
