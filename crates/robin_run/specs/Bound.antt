-- What `bound` promises: a certificate gets its verdict.
use Rattle.std.specs.Prelude.{◌≡◌, ◌⊎◌, ℕ, List, [], ◌∷◌, ◌++◌, codes, decimal, Some}
use Rattle.std.specs.Io.KnownBytes.{Appends}
use Rattle.robin_io.specs.Outside.{Output}
use Rattle.league.specs.Instance.{Instance}
use Rattle.command_line.specs.Words.{Command}
use Rattle.answers.specs.declared.status.Status.TheVariants.{Yes, No}
use Rattle.bound_rows.specs.Faithful.{IsLowerBound}
use Rattle.command_prove.specs.Bound.{IsBoundVerdict, IsWellFormedCertificate, IsWithinRoom}
use Rattle.bounds.specs.declared.certificate.Certificate.{Certificate}
use Rattle.robin_run.specs.Said.{SaysLeague}
use Rattle.robin_run.specs.Run.{NothingFails, Run, Writes}

-- the line that is written states a bound, and each accepted schedule has an objective of at least this
pub record IsCertified (league : Instance) (output : Output) : Type 0 where
  pub bound : ℕ
  pub steps : ℕ
  pub least : IsLowerBound league bound
  pub written : Appends output.before output.after
      (codes "accepted bound " ++ (decimal bound ++ (codes " steps " ++ (decimal steps ++ codes "\n"))))

pub record Promise (run : Run) (instance log : List ℕ) : Type 0 where
  -- A well-formed certificate over a league whose bound rows aren't too many gets its verdict, where nothing fails.
  pub bounded : (league : Instance) (certificate : Certificate)
      → IsWellFormedCertificate run.store instance log league certificate
      → NothingFails run (instance ∷ log ∷ [])
      → Writes run (IsBoundVerdict league run.room certificate)
  -- A well-formed certificate is accepted or rejected only where its steps keep to the room that the words give.
  pub within : (league : Instance) (certificate : Certificate)
      → IsWellFormedCertificate run.store instance log league certificate
      → (run.ended ≡ Yes) ⊎ (run.ended ≡ No)
      → IsWithinRoom league run.room certificate
  -- Where a certificate is accepted, each accepted season has an objective of at least the bound that is written.
  pub certified : (league : Instance)
      → SaysLeague run.store instance league
      → run.ended ≡ Yes
      → IsCertified league run.output

-- each run of `bound` keeps it
abbrev pub Bounds : Run → Type 0
Bounds run = (instance log : List ℕ) → run.command ≡ Some (Command.Bound instance log) → Promise run instance log
