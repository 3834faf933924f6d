-- What a reader answers of what is read. Want of memory says nothing of it.
use Rattle.std.specs.Prelude.{◌≡◌, Result, Ok, Err}
use Rattle.refutation.specs.Logs.{Fault}
use Rattle.refutation.specs.declared.fault.LogFault.{LogFault}
use Rattle.refutation.specs.declared.fault.LogFault.TheVariants.{Form, Mem}
use Rattle.bounds.specs.declared.certificate.Certificate.{Certificate}

-- the answer to a whole text
abbrev pub SaysCertificate : Result Certificate Fault → Result Certificate LogFault → Type 0
SaysCertificate said (Ok certificate) = said ≡ Ok certificate
SaysCertificate said (Err (Form kind line)) = said ≡ Err (kind, line)
SaysCertificate said (Err Mem) = Unit {0}
