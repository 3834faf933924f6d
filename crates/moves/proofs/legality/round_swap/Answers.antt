use Rattle.std.proofs.Common.{ℕ, Bool, true, false, get_or, replicate}
use Rattle.moves.specs.Parts.{slots_exchanged}
use Rattle.moves.specs.Round.{round_counts}
use Rattle.moves.specs.declared.swap.Swap.TheVariants.{RoundSwap}
use Rattle.moves.proofs.LegalLemmas.{IsEditOf-outcome, all_teams-closed, round_swap-same}
use Rattle.moves.proofs.legality.round_swap.Goals as goal

pub exchange_slots_if_legal-requires-clause-closed : goal.exchange_slots_if_legal-requires-clause-closed
exchange_slots_if_legal-requires-clause-closed c =
    all_teams-closed c.args.board.now.n (round_counts c.args.board.now) c.args.s.0 c.args.t.0 40 c.n-round.ensures.teams.at_most

pub returns : goal.returns
returns c =
    let set : ℕ → Bool = λ a. get_or (replicate 40 true) a false in
    IsEditOf-outcome c.args.board.now.n c.args.board.now.phased (round_counts c.args.board.now) (slots_exchanged set c.args.s.0 c.args.t.0 (round_counts c.args.board.now)) (RoundSwap c.args.s c.args.t)
    c.exchange_slots_if_legal.result c.exchange_slots_if_legal.new.edit c.exchange_slots_if_legal.ensures c.if-s-t.false
    (round_swap-same c.args.board.now c.args.s.0 c.args.t.0 40 c.n-round.ensures.teams.at_most)
