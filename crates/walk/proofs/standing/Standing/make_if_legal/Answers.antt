use Rattle.std.proofs.Common.{◌≡◌, true, subst, sym}
use Rattle.league.specs.Counts.{Counts}
use Rattle.league.specs.Structure.{IsRoundRobin}
use Rattle.moves.specs.Moves.{moved}
use Rattle.moves.specs.Round.{round_counts}
use Rattle.descent.proofs.EditLemmas.{edited-is}
use Rattle.walk.proofs.standing.Standing.make_if_legal.Goals as goal

pub apply-requires-clause-there : goal.apply-requires-clause-there
apply-requires-clause-there c i j s =
    let legal : c.edit_of.result ≡ true = c.if-edit_of.true in (c.edit_of.ensures.edit legal).there i j s

pub apply-requires-clause-round_robin : goal.apply-requires-clause-round_robin
apply-requires-clause-round_robin c =
    let n = c.args.self.now.board.n in
    let m = round_counts c.args.self.now.board in
    let legal : c.edit_of.result ≡ true = c.if-edit_of.true in
    subst (λ (k : Counts). IsRoundRobin n c.args.self.now.board.phased k)
    (sym (edited-is m (moved n m c.args.step) c.edit_of.new.edit (c.edit_of.ensures.edit legal)))
    (c.edit_of.ensures.legal.0 legal).round_robin
