use Rattle.std.proofs.Common.{◌≡◌, Result, Err, ap}
use Rattle.std.proofs.lemmas.Result.{err_from_is_err_and}
use Rattle.refutation_check.specs.declared.fault.StepsFault.{StepsFault}
use Rattle.refutation_check.specs.declared.fault.StepsFault.TheVariants.{Full}
use Rattle.command_check.proofs.StoppingLemmas.{some-piece}
use Rattle.command_check.proofs.feeding.check_piece.Goals as goal

-- some first steps of the piece were judged, and are too many
pub returns-in_err-give_all-clause-full : goal.returns-in_err-give_all-clause-full
returns-in_err-give_all-clause-full c = λ is.
    let p = err_from_is_err_and c.from_residual-in_err-give_all.result c.from_residual-in_err-give_all.ensures.1 in
    let fault : StepsFault = c.in_err-give_all.field-0.0 in
    let ended : c.from_residual-in_err-give_all.result ≡ Err p.0 = p.1 in
    let same : p.0 ≡ fault = p.2 in
    let full : fault ≡ Full = cc in (
      some-piece c.args.limit c.args.feed.now c.feed.new.self _ _ c.args.checker.now c.give_all.new.checker c.args.piece.now
          c.new-steps.ensures c.in_ok-feed.ensures.read c.in_err-give_all.ensures.err,
      c.in_err-give_all.ensures.full (ap (λ (f : StepsFault). let r : Result (Unit {0}) StepsFault = Err f in r) full),
    )
