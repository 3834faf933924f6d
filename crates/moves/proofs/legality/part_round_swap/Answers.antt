use Rattle.std.proofs.Common.{ℕ, Bool, false, get_or}
use Rattle.moves.specs.Parts.{slots_exchanged}
use Rattle.moves.specs.Round.{round_counts}
use Rattle.moves.specs.declared.swap.Swap.TheVariants.{PartRoundSwap}
use Rattle.moves.proofs.LegalLemmas.{IsEditOf-outcome, part_round_swap-same}
use Rattle.moves.proofs.legality.part_round_swap.Goals as goal

pub returns : goal.returns
returns c =
    let set : ℕ → Bool = λ a. get_or c.linked_teams-marks.result a false in
    IsEditOf-outcome c.args.board.now.n c.args.board.now.phased (round_counts c.args.board.now) (slots_exchanged set c.args.s.0 c.args.t.0 (round_counts c.args.board.now)) (PartRoundSwap c.args.i c.args.s c.args.t)
    c.exchange_slots_if_legal.result c.exchange_slots_if_legal.new.edit c.exchange_slots_if_legal.ensures c.if-s-t.false
    (part_round_swap-same c.args.board.now.n (round_counts c.args.board.now) c.args.i.0 c.args.s.0 c.args.t.0 set c.linked_teams-marks.ensures.linked)
