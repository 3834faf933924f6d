use Rattle.std.proofs.Common.{◌≡◌, ◌↔◌, true, subst, sym}
use Rattle.std.specs.Prelude.{IsTrue}
use Rattle.moves.specs.Moves.{IsLegal, moved}
use Rattle.moves.specs.Round.{IsEdit, round_counts}
use Rattle.moves.specs.declared.swap.Swap.{Swap}
use Rattle.moves.proofs.EditLemmas.{out_fit-of}
use Rattle.moves.proofs.legality.edit_of.Goals as goal

pub returns-in-HomeSwap-clause-legal : goal.returns-in-HomeSwap-clause-legal
returns-in-HomeSwap-clause-legal c =
    let P : Swap → Type 0 = λ step. IsTrue c.home_swap.result ↔ IsLegal c.args.board.now.n c.args.board.now.phased (round_counts c.args.board.now) step in
    subst P (sym c.in-HomeSwap.is) c.home_swap.ensures.legal

pub returns-in-RoundSwap-clause-legal : goal.returns-in-RoundSwap-clause-legal
returns-in-RoundSwap-clause-legal c =
    let P : Swap → Type 0 = λ step. IsTrue c.round_swap.result ↔ IsLegal c.args.board.now.n c.args.board.now.phased (round_counts c.args.board.now) step in
    subst P (sym c.in-RoundSwap.is) c.round_swap.ensures.legal

pub returns-in-TeamSwap-clause-legal : goal.returns-in-TeamSwap-clause-legal
returns-in-TeamSwap-clause-legal c =
    let P : Swap → Type 0 = λ step. IsTrue c.team_swap.result ↔ IsLegal c.args.board.now.n c.args.board.now.phased (round_counts c.args.board.now) step in
    subst P (sym c.in-TeamSwap.is) c.team_swap.ensures.legal

pub returns-in-TeamSwap-clause-edit : goal.returns-in-TeamSwap-clause-edit
returns-in-TeamSwap-clause-edit c =
    let P : Swap → Type 0 = λ step. c.team_swap.result ≡ true → IsEdit (round_counts c.args.board.now) (moved c.args.board.now.n (round_counts c.args.board.now) step) c.team_swap.new.edit in
    subst P (sym c.in-TeamSwap.is) c.team_swap.ensures.change

pub returns-in-PartRoundSwap-clause-legal : goal.returns-in-PartRoundSwap-clause-legal
returns-in-PartRoundSwap-clause-legal c =
    let P : Swap → Type 0 = λ step. IsTrue c.part_round_swap.result ↔ IsLegal c.args.board.now.n c.args.board.now.phased (round_counts c.args.board.now) step in
    subst P (sym c.in-PartRoundSwap.is) c.part_round_swap.ensures.legal

pub returns-in-PartRoundSwap-clause-edit : goal.returns-in-PartRoundSwap-clause-edit
returns-in-PartRoundSwap-clause-edit c =
    let P : Swap → Type 0 = λ step. c.part_round_swap.result ≡ true → IsEdit (round_counts c.args.board.now) (moved c.args.board.now.n (round_counts c.args.board.now) step) c.part_round_swap.new.edit in
    subst P (sym c.in-PartRoundSwap.is) c.part_round_swap.ensures.change

pub returns-in-PartTeamSwap-clause-legal : goal.returns-in-PartTeamSwap-clause-legal
returns-in-PartTeamSwap-clause-legal c =
    let P : Swap → Type 0 = λ step. IsTrue c.part_team_swap.result ↔ IsLegal c.args.board.now.n c.args.board.now.phased (round_counts c.args.board.now) step in
    subst P (sym c.in-PartTeamSwap.is) c.part_team_swap.ensures.legal

pub returns-in-PartTeamSwap-clause-edit : goal.returns-in-PartTeamSwap-clause-edit
returns-in-PartTeamSwap-clause-edit c =
    let P : Swap → Type 0 = λ step. c.part_team_swap.result ≡ true → IsEdit (round_counts c.args.board.now) (moved c.args.board.now.n (round_counts c.args.board.now) step) c.part_team_swap.new.edit in
    subst P (sym c.in-PartTeamSwap.is) c.part_team_swap.ensures.change

pub returns-in-HomeSwap-clause-apart : goal.returns-in-HomeSwap-clause-apart
returns-in-HomeSwap-clause-apart c = c.home_swap.ensures.apart

pub returns-in-RoundSwap-clause-apart : goal.returns-in-RoundSwap-clause-apart
returns-in-RoundSwap-clause-apart c = c.round_swap.ensures.apart

pub returns-in-TeamSwap-clause-apart : goal.returns-in-TeamSwap-clause-apart
returns-in-TeamSwap-clause-apart c = c.team_swap.ensures.apart

pub returns-in-PartRoundSwap-clause-apart : goal.returns-in-PartRoundSwap-clause-apart
returns-in-PartRoundSwap-clause-apart c = c.part_round_swap.ensures.apart

pub returns-in-PartTeamSwap-clause-apart : goal.returns-in-PartTeamSwap-clause-apart
returns-in-PartTeamSwap-clause-apart c = c.part_team_swap.ensures.apart

pub returns-in-HomeSwap-clause-out_fit : goal.returns-in-HomeSwap-clause-out_fit
returns-in-HomeSwap-clause-out_fit c = out_fit-of c.args.board.now _ c.home_swap.result c.home_swap.new.edit c.n-round.ensures.round c.home_swap.ensures.change c.home_swap.ensures.none

pub returns-in-RoundSwap-clause-out_fit : goal.returns-in-RoundSwap-clause-out_fit
returns-in-RoundSwap-clause-out_fit c = out_fit-of c.args.board.now _ c.round_swap.result c.round_swap.new.edit c.n-round.ensures.round c.round_swap.ensures.change c.round_swap.ensures.none

pub returns-in-TeamSwap-clause-out_fit : goal.returns-in-TeamSwap-clause-out_fit
returns-in-TeamSwap-clause-out_fit c = out_fit-of c.args.board.now _ c.team_swap.result c.team_swap.new.edit c.n-round.ensures.round c.team_swap.ensures.change c.team_swap.ensures.none

pub returns-in-PartRoundSwap-clause-out_fit : goal.returns-in-PartRoundSwap-clause-out_fit
returns-in-PartRoundSwap-clause-out_fit c = out_fit-of c.args.board.now _ c.part_round_swap.result c.part_round_swap.new.edit c.n-round.ensures.round c.part_round_swap.ensures.change c.part_round_swap.ensures.none

pub returns-in-PartTeamSwap-clause-out_fit : goal.returns-in-PartTeamSwap-clause-out_fit
returns-in-PartTeamSwap-clause-out_fit c = out_fit-of c.args.board.now _ c.part_team_swap.result c.part_team_swap.new.edit c.n-round.ensures.round c.part_team_swap.ensures.change c.part_team_swap.ensures.none
