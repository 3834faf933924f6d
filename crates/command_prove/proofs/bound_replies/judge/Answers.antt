use Rattle.std.proofs.Common.{◌≡◌, Result, Err, ap}
use Rattle.std.proofs.lemmas.Result.{err_from_is_err_and}
use Rattle.refutation.specs.declared.verdict.Verdict.{Verdict}
use Rattle.refutation_check.specs.declared.fault.StepsFault.{StepsFault}
use Rattle.refutation_check.specs.declared.fault.StepsFault.TheVariants.{Full}
use Rattle.command_prove.proofs.bound_replies.judge.Goals as goal

pub returns-in_err-verdict-clause-full : goal.returns-in_err-verdict-clause-full
returns-in_err-verdict-clause-full c = λ is.
    let p = err_from_is_err_and c.from_residual.result c.from_residual.ensures.1 in
    let fault : StepsFault = c.in_err-verdict.field-0.0 in
    let ended : c.from_residual.result ≡ Err p.0 = p.1 in
    let same : p.0 ≡ fault = p.2 in
    let full : fault ≡ Full = cc in
    c.in_err-verdict.ensures.full (ap (λ (f : StepsFault). let r : Result Verdict StepsFault = Err f in r) full)
