-- What the answer of the reader says of a file.
use Rattle.std.proofs.Common.{◌≡◌, ℕ, Ok, Err}
use Rattle.std.specs.Prelude.{Result, IfErr, IfOk}
use Rattle.robinx.specs.Pieces.{Pieces}
use Rattle.robinx.specs.InstanceFile.{instance_of}
use Rattle.league.specs.Instance.{Instance}
use Rattle.robinx.specs.Answers.{Says}
use Rattle.robinx.specs.declared.fault.ReadFault.{ReadFault}
use Rattle.robinx.specs.declared.fault.ReadFault.TheVariants as faults
use Rattle.robinx.specs.Names.{Names, IsNames}
use Rattle.robinx.specs.NamesFile.{names_of}
use Rattle.robinx.proofs.CountLemmas.{names_counted}
use Rattle.robinx.proofs.WholeLemmas.{names_whole, fault_is}

pub counts_if : (n : ℕ) (found : Pieces) (result : Result Names ReadFault) → Says (names_of n found) result → IfOk result (IsNames n)
counts_if n found (Ok names) says = names_counted n found names says
counts_if n found (Err fault) says = tt

pub whole_if : (n : ℕ) (found : Pieces) (league : Instance) (result : Result Names ReadFault) → Says (names_of n found) result → instance_of found ≡ Ok league → IfErr result (λ fault. fault ≡ faults.Mem)
whole_if n found league result says is =
    let names = names_whole n found league is in
    fault_is (names_of n found) names.0 result names.1 says
