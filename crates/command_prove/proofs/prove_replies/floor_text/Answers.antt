use Rattle.std.proofs.Common.{◌≡◌, ℕ, List, Result, Ok, subst}
use Rattle.refutation.specs.Logs.{Fault}
use Rattle.refutation.specs.Steps.{Step}
use Rattle.bounds.specs.Certificates.{certificate_of}
use Rattle.bounds.specs.declared.certificate.Certificate.{Certificate}
use Rattle.command_prove.proofs.prove_replies.floor_text.Goals as goal

abbrev certificate_said : ℕ → List Step → Result Certificate Fault
certificate_said bound log = Ok (record { bound = bound; log = log })

pub returns-clause-reads_back : goal.returns-clause-reads_back
returns-clause-reads_back c = λ short nothing.
    subst (λ (text : List ℕ). certificate_of text ≡ certificate_said c.args.bound c.args.log.now)
    c.in_ok-certificate.ensures.text (c.in_ok-certificate.ensures.reads_back short nothing)
