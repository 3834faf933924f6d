-- What `bound` and `prove` read first: a league whose bound rows haven't too many terms.
use Rattle.std.specs.Prelude.{◌≡◌, ℕ, List, codes, Option, Ok}
use Rattle.robin_io.specs.Outside.{Store}
use Rattle.league.specs.Instance.{Instance}
use Rattle.robinx.specs.Pieces.{pieces}
use Rattle.robinx.specs.InstanceFile.{instance_of}
use Rattle.robinx.specs.declared.instance.TheConstants.{INSTANCE_LIMIT}
use Rattle.answers.specs.Stages.{◌>>=◌, IsFile, Outcome, reads, says}
use Rattle.bound_rows.specs.Bounded.{IsCounted}
use Rattle.command_prove.specs.Bound.{has_few_terms}

-- the bytes of a file, which are known or not, say a league whose bound rows have so many terms
pub record IsMeasured (known : Option (List ℕ)) (league : Instance) (terms : ℕ) (bytes : List ℕ) : Type 0 where
  pub file : IsFile known INSTANCE_LIMIT bytes
  pub says : instance_of (pieces bytes) ≡ Ok league
  pub counted : IsCounted league terms

-- the stages that take such a league from the file of a name, with those that follow
abbrev pub measures : Store → List ℕ → (List ℕ → Instance → Outcome) → Outcome
measures store instance next = do
  bytes ← reads store (codes "instance") instance INSTANCE_LIMIT 0
  league ← says (codes "instance") (instance_of (pieces bytes))
  few ← has_few_terms league
  next bytes league

-- the answer where one of them refuses the file
abbrev pub IsUnmeasured : Store → List ℕ → Outcome
IsUnmeasured store instance = measures store instance (λ bytes league answer. ⊥)
