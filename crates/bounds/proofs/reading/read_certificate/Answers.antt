use Rattle.std.proofs.Common.{ℕ, ◌+◌, List, None, Err, ap, drop, refl, subst, sym, take, ◌∙◌}
use Rattle.std.proofs.lemmas.List.{take_rest}
use Rattle.std.proofs.lemmas.Result.{err_from_is_err_and}
use Rattle.refutation.specs.Answers.{SaysLog}
use Rattle.refutation.specs.Logs.{lines_of}
use Rattle.bounds.specs.Certificates.{log_behind}
use Rattle.bounds.proofs.ReadLemmas.{certificate-cut, certificate-uncut, stated-none, stated-some, with_log-says}
use Rattle.bounds.proofs.ReadLemmas.{with_log-steps}
use Rattle.bounds.proofs.reading.read_certificate.Goals as goal

pub returns-in_default : goal.returns-in_default
returns-in_default c = certificate-uncut c.args.bytes.now c.in_default.ensures

pub returns-in_default-bound_of : goal.returns-in_default-bound_of
returns-in_default-bound_of c =
    let bytes : List ℕ = c.args.bytes.now in
    let at : ℕ = c.in-Some.at in
    stated-none bytes (take at bytes) (lines_of (drop (at + 1) bytes)) None
    (certificate-cut bytes at c.in-Some.ensures) c.in_default-bound_of.ensures refl

pub returns-in_err-log : goal.returns-in_err-log
returns-in_err-log c =
    let bytes : List ℕ = c.args.bytes.now in
    let at : ℕ = c.in-Some.at in
    let bound : ℕ = c.in-Some-bound_of.bound in
    let rest : List ℕ = drop (at + 1) bytes in
    let stated = stated-some bytes (take at bytes) (lines_of rest) bound (certificate-cut bytes at c.in-Some.ensures)
    c.in-Some-bound_of.ensures in
    let p = err_from_is_err_and c.from_residual.result c.from_residual.ensures.1 in
    rw (p.1, p.2)
    (with_log-says bytes bound (lines_of rest) c.in_err-log.field-0.0 stated
    (subst (λ (b : List ℕ). SaysLog (log_behind bound (lines_of b)) (Err c.in_err-log.field-0.0))
    (take_rest bytes (at + 1)) c.in_err-log.ensures))

pub returns : goal.returns
returns c =
    let bytes : List ℕ = c.args.bytes.now in
    let at : ℕ = c.in-Some.at in
    let bound : ℕ = c.in-Some-bound_of.bound in
    let rest : List ℕ = drop (at + 1) bytes in
    let stated = stated-some bytes (take at bytes) (lines_of rest) bound (certificate-cut bytes at c.in-Some.ensures)
    c.in-Some-bound_of.ensures in
    with_log-steps bytes bound (lines_of rest) c.in_ok-log.log stated
    (ap (λ (b : List ℕ). log_behind bound (lines_of b)) (sym (take_rest bytes (at + 1))) ∙ c.in_ok-log.ensures)
