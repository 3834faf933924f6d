-- Worked names of new files.
use Rattle.std.proofs.Common.{◌≡◌, ℕ, List, ◌++◌, refl, ap, arith, length, length-append, decimal}
use Rattle.std.specs.Fmt.{digits}
use Rattle.std.specs.Prelude.{codes}
use Rattle.robin_host.specs.Names.{draft_name}

pub first-name : draft_name (codes "season.xml") 0 ≡ codes "season.xml.robin-0"
unfolding digits
first-name = refl

pub last-name : draft_name (codes "a/b") 999 ≡ codes "a/b.robin-999"
unfolding digits
last-name = refl

-- a new file's name is never that of the file
pub another-name : (file : List ℕ) (number : ℕ) → draft_name file number ≡ file → ⊥
another-name file number same =
    omega (arith, ap length same, length-append file (codes ".robin-" ++ decimal number), length-append (codes ".robin-") (decimal number))
