-- Certificates, worked out by hand, so that a wrong definition does not check.
use Rattle.std.proofs.Common.{◌≡◌, List, [], ◌∷◌, Ok, Err, codes, refl}
use Rattle.std.specs.Fmt.{digits}
use Rattle.refutation.specs.Logs.{lines_from}
use Rattle.refutation.specs.Steps.{Step}
use Rattle.refutation.specs.Steps.Step.{Clause}
use Rattle.refutation.specs.declared.fault.LogKind.TheVariants.{BadLine, BadNumber, NoEnd}
use Rattle.bounds.specs.Certificates.{certificate_of, certificate_text}
use Rattle.bounds.specs.declared.certificate.Certificate.{Certificate}

-- three rows that contradict each other
abbrev pub one_step : List Step
one_step = Clause [] (32 ∷ 31 ∷ 27 ∷ []) ∷ []

abbrev pub at_five : Certificate
at_five = record { bound = 5; log = one_step }

pub worked : certificate_of (codes "bound 5\nrefutation 1\n0 32 31 27 0\nend\n") ≡ Ok at_five
unfolding lines_from
worked = refl

-- a bound of 0 needs no log, and has none
pub zero-alone : (certificate_of (codes "bound 0\n") ≡ Ok (record { bound = 0; log = [] }))
    × (certificate_of (codes "bound 0\nrefutation 1\nend\n") ≡ Err (BadLine, 2))
    × (certificate_of (codes "bound 0\n\n") ≡ Err (BadLine, 2))
    × (certificate_of (codes "bound 0\n ") ≡ Err (BadLine, 2))
zero-alone = (refl, refl, refl, refl)

pub first-line : (certificate_of [] ≡ Err (NoEnd, 1)) × (certificate_of (codes "bound 0") ≡ Err (NoEnd, 1))
    × (certificate_of (codes "\n") ≡ Err (BadLine, 1)) × (certificate_of (codes "bound 00\n") ≡ Err (BadLine, 1))
    × (certificate_of (codes "bound 05\n") ≡ Err (BadLine, 1))
    × (certificate_of (codes "bound  5\n") ≡ Err (BadLine, 1)) × (certificate_of (codes "bound \n") ≡ Err (BadLine, 1))
    × (certificate_of (codes "bound\n") ≡ Err (BadLine, 1)) × (certificate_of (codes "Bound 5\n") ≡ Err (BadLine, 1))
    × (certificate_of (codes "bound 5\r\n") ≡ Err (BadLine, 1)) × (certificate_of (codes "bound -5\n") ≡ Err (BadLine, 1))
first-line = (refl, refl, refl, refl, refl, refl, refl, refl, refl, refl, refl)

pub largest : (certificate_of (codes "bound 18446744073709551615\nrefutation 1\nend\n")
    ≡ Ok (record { bound = 18446744073709551615; log = [] }))
    × (certificate_of (codes "bound 18446744073709551616\nrefutation 1\nend\n") ≡ Err (BadLine, 1))
unfolding lines_from
largest = (refl, refl)

-- the lines of the log count on
pub later : (certificate_of (codes "bound 5\n") ≡ Err (NoEnd, 2))
    × (certificate_of (codes "bound 5\nrefutation 1\n") ≡ Err (NoEnd, 3))
    × (certificate_of (codes "bound 5\nrefutation 3\nend\n") ≡ Err (BadLine, 2))
    × (certificate_of (codes "bound 5\nrefutation 1\n00 0\nend\n") ≡ Err (BadLine, 3))
    × (certificate_of (codes "bound 5\nrefutation 1\n2147483648 0 0\nend\n") ≡ Err (BadNumber, 3))
    × (certificate_of (codes "bound 5\nrefutation 1\nend\nx") ≡ Err (BadLine, 4))
unfolding lines_from
later = (refl, refl, refl, refl, refl, refl)

pub written : (certificate_text 5 one_step ≡ codes "bound 5\nrefutation 1\n0 32 31 27 0\nend\n")
    × (certificate_text 0 [] ≡ codes "bound 0\n") × (certificate_text 0 one_step ≡ codes "bound 0\n")
unfolding digits
written = (refl, refl, refl)
