use Rattle.std.proofs.Common.{◌+◌, ◌≤◌, arith, sym, ◌∙◌}
use Rattle.refutation_check.proofs.RoomLemmas.{room_up_to}
use Rattle.refutation_check.proofs.StateLemmas.{given_next}
use Rattle.refutation_check.proofs.whole.give_all.Goals as goal

pub loop-k-preserved : goal.loop-k-preserved
loop-k-preserved c =
    let has = sym c.has_room.ensures ∙ c.if-not-has_room.false in
    let judged = given_next c.args.checker.now c.loop-k.checker c.give_step.new.checker c.args.log.now c.loop-k.k
    (omega (arith, c.len-k-end.ensures)) c.loop-k.invariant.judged c.in_ok-give_step.ensures.ok in
    record {
      judged = judged;
      early = room_up_to c.args.room c.args.checker.now c.give_step.new.checker c.args.log.now c.loop-k.k judged has
          c.loop-k.invariant.early;
      within = λ _. has;
    }

-- the row of the step at hand is one too many
pub returns-then-not-has_room-clause-err : goal.returns-then-not-has_room-clause-err
returns-then-not-has_room-clause-err c = (
  c.loop-k.k + 1,
  omega (arith, c.len-k-end.ensures),
  given_next c.args.checker.now c.loop-k.checker c.give_step.new.checker c.args.log.now c.loop-k.k
      (omega (arith, c.len-k-end.ensures)) c.loop-k.invariant.judged c.in_ok-give_step.ensures.ok,
  λ j some before. let most : j ≤ c.loop-k.k = omega (arith, before) in c.loop-k.invariant.early j some most,
)
