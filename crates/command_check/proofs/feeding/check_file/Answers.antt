use Rattle.std.proofs.Common.{◌≡◌, ◌<◌, ◌≤◌, ◌+◌, Result, Err, ap, drop, length, length-take, length-take-le, arith, ◌∙◌}
use Rattle.std.proofs.lemmas.Result.{err_from_is_err_and}
use Rattle.refutation_check.specs.declared.fault.StepsFault.{StepsFault}
use Rattle.refutation_check.specs.declared.fault.StepsFault.TheVariants as wants
use Rattle.command_check.specs.Check.{most_log_bytes}
use Rattle.command_check.specs.Feeding.{feed_fault}
use Rattle.command_check.proofs.StoppingLemmas.{feed_fault-failed, feed_fault-full, feed_fault-long, under_way-passes}
use Rattle.command_check.proofs.FeedingLemmas.{under_way-few, under_way-long, under_way-next, under_way-start, under_way-whole}
use Rattle.command_check.proofs.feeding.check_file.Goals as goal

pub pieces-init : goal.pieces-init
pieces-init g c =
    let begun = under_way-start _ _ _ _ c.args.feed.now c.args.checker.now c.in_ok-start.ensures.left c.in_ok-start.ensures.taken c.in_ok-start.ensures.last in
    record {
      under_way = begun;
      taken = begun.taken;
      within = begun.within;
      roomy = λ has. has;
      started = c.in_ok-start.ensures.started;
      contents = c.in_ok-start.ensures.contents;
      later = c.in_ok-start.ensures.cause.later;
    }

-- the last piece is empty
pub returns-then-count-eq0-clause-checked : goal.returns-then-count-eq0-clause-checked
returns-then-count-eq0-clause-checked g c =
    let within = c.pieces.invariant.under_way.within in
    let front = length-take c.min-most.result c.pieces.room in
    let some : 0 < length c.take.new.room = omega (arith, within, front) in
    under_way-whole _ _ _ _ _ _ _ _ _ _ _ _ (length-take-le c.in_ok-count.count c.take.new.room c.in_ok-count.ensures.count ∙ c.if-count-eq0.true) c.pieces.invariant.under_way c.in_ok-count.ensures.bytes (c.in_ok-count.ensures.end c.if-count-eq0.true some)

-- a piece that lies beyond the limit
pub returns-then-count-bytes-clause-too_long : goal.returns-then-count-bytes-clause-too_long
returns-then-count-bytes-clause-too_long g c is =
    let beyond : most_log_bytes < c.pieces.bytes + c.in_ok-count.count = omega (arith, c.pieces.invariant.under_way.within) in
    under_way-long _ _ _ _ _ _ _ _ _ _ _ _ _ _ (length-take-le c.in_ok-count.count c.take.new.room c.in_ok-count.ensures.count) c.pieces.invariant.under_way c.in_ok-count.ensures.bytes c.in_ok-count.ensures.taken beyond

-- no more steps come than bytes and one
pub overflow_add-steps : goal.overflow_add-steps
overflow_add-steps g c =
    let within : c.pieces.bytes + c.in_ok-count.count ≤ most_log_bytes = omega (arith, c.pieces.invariant.under_way.within) in
    let next = under_way-next (g.S.Shelf.contents c.args.shelf.now c.args.name.now) (g.S.Shelf.left c.pieces.shelf)
    (g.S.Shelf.left c.take.new.self) (g.S.Shelf.taken c.args.shelf.now) (g.S.Shelf.taken c.pieces.shelf)
    (g.S.Shelf.taken c.take.new.self) c.args.feed.now c.pieces.feed c.check_piece.new.feed c.args.checker.now
    c.pieces.checker c.check_piece.new.checker c.pieces.steps c.in_ok-steps.field-0 c.pieces.bytes c.in_ok-count.count
    c.take.new.room (drop c.min-most.result c.pieces.room) c.in_ok-count.ensures.count c.pieces.invariant.under_way c.in_ok-count.ensures.bytes c.in_ok-count.ensures.taken within c.in_ok-steps.ensures.checked c.in_ok-steps.ensures.line in
    let few : c.pieces.steps + c.in_ok-steps.field-0 ≤ c.pieces.bytes + c.in_ok-count.count + 1 = under_way-few _ _ _ _ _ _ _ _ _ _ c.requires.start next in
    omega (arith, few, within)

-- a piece more
pub pieces-preserved : goal.pieces-preserved
pieces-preserved g c =
    let within : c.pieces.bytes + c.in_ok-count.count ≤ most_log_bytes = omega (arith, c.pieces.invariant.under_way.within) in
    let next = under_way-next (g.S.Shelf.contents c.args.shelf.now c.args.name.now) (g.S.Shelf.left c.pieces.shelf)
    (g.S.Shelf.left c.take.new.self) (g.S.Shelf.taken c.args.shelf.now) (g.S.Shelf.taken c.pieces.shelf)
    (g.S.Shelf.taken c.take.new.self) c.args.feed.now c.pieces.feed c.check_piece.new.feed c.args.checker.now
    c.pieces.checker c.check_piece.new.checker c.pieces.steps c.in_ok-steps.field-0 c.pieces.bytes c.in_ok-count.count
    c.take.new.room (drop c.min-most.result c.pieces.room) c.in_ok-count.ensures.count c.pieces.invariant.under_way c.in_ok-count.ensures.bytes c.in_ok-count.ensures.taken within c.in_ok-steps.ensures.checked c.in_ok-steps.ensures.line in
    record {
      under_way = next;
      taken = next.taken;
      within = next.within;
      roomy = λ has. c.in_ok-steps.ensures.within (c.pieces.invariant.roomy has);
      started = c.in_ok-count.ensures.started;
      contents = λ n. c.in_ok-count.ensures.contents n ∙ c.pieces.invariant.contents n;
      later = λ n. omega (arith, c.in_ok-count.ensures.cause.later n, c.pieces.invariant.later n);
    }

-- the steps take more than they may
pub returns-in_err-steps-clause-full : goal.returns-in_err-steps-clause-full
returns-in_err-steps-clause-full g c = λ is.
    let p = err_from_is_err_and c.from_residual-in_err-steps.result c.from_residual-in_err-steps.ensures.1 in
    let fault : StepsFault = c.in_err-steps.field-0.0 in
    let ended : c.from_residual-in_err-steps.result ≡ Err p.0 = p.1 in
    let same : p.0 ≡ feed_fault fault = p.2 in
    let full : fault ≡ wants.Full = feed_fault-full fault (cc) in
    let some = c.in_err-steps.ensures.full (ap (λ (f : StepsFault). let r : Result _ StepsFault = Err f in r) full) in
    under_way-passes (g.S.Shelf.contents c.args.shelf.now c.args.name.now) (g.S.Shelf.left c.pieces.shelf)
    (g.S.Shelf.left c.take.new.self) c.args.limit (g.S.Shelf.taken c.args.shelf.now) (g.S.Shelf.taken c.pieces.shelf)
    c.args.feed.now c.pieces.feed c.args.checker.now c.pieces.checker c.check_piece.new.checker c.pieces.steps
    c.pieces.bytes c.in_ok-count.count c.take.new.room (drop c.min-most.result c.pieces.room)
    c.in_ok-count.ensures.count c.pieces.invariant.under_way c.in_ok-count.ensures.bytes some.0 some.1

-- and then the file isn't at fault
pub returns-in_err-steps-clause-failed : goal.returns-in_err-steps-clause-failed
returns-in_err-steps-clause-failed g c = λ is.
    let p = err_from_is_err_and c.from_residual-in_err-steps.result c.from_residual-in_err-steps.ensures.1 in
    let fault : StepsFault = c.in_err-steps.field-0.0 in
    let ended : c.from_residual-in_err-steps.result ≡ Err p.0 = p.1 in
    let same : p.0 ≡ feed_fault fault = p.2 in
    absurd (feed_fault-failed fault (cc))

pub returns-in_err-steps-clause-too_long : goal.returns-in_err-steps-clause-too_long
returns-in_err-steps-clause-too_long g c = λ is.
    let p = err_from_is_err_and c.from_residual-in_err-steps.result c.from_residual-in_err-steps.ensures.1 in
    let fault : StepsFault = c.in_err-steps.field-0.0 in
    let ended : c.from_residual-in_err-steps.result ≡ Err p.0 = p.1 in
    let same : p.0 ≡ feed_fault fault = p.2 in
    absurd (feed_fault-long fault (cc))
