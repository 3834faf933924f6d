-- What a page is answered.
use Rattle.std.specs.Prelude.{◌≡◌, ◌<◌, ◌⊎◌, ◌==◌, ℕ, List, length, take, IsUtf8}
use Rattle.std.specs.List.{slice_split}
use Rattle.answers.specs.Status.{status_code}
use Rattle.answers.specs.declared.status.Status.{Status}
use Rattle.page.specs.declared.files.Files.{Files}
use Rattle.page.specs.Ran.{Ran}

-- the text stands at the front of the room, and nothing of it is lacking
pub record IsShown (ended : Status) (text : List ℕ) (faults status written : ℕ) (room : List ℕ) : Type 0 where
  pub whole : faults ≡ 0
  pub status_is : status ≡ status_code ended
  pub length_is : written ≡ length text
  pub text_is : take written room ≡ text

-- nothing is shown: memory for the text ran out, or the room is too small for it
pub record IsCut (text : List ℕ) (faults status written : ℕ) (room : List ℕ) : Type 0 where
  pub status_is : status ≡ 7
  pub nothing : written ≡ 0
  pub cause : (0 < faults) ⊎ (length room < length text)

-- a run of the words over the files, and what is shown of it
pub record HasRun (words : List (List ℕ)) (files : Files) (status written : ℕ) (room : List ℕ) : Type 0 where
  pub ended : Status
  pub text : List ℕ
  pub faults : ℕ
  pub ran : Ran words files text faults ended
  pub shown : IsShown ended text faults status written room ⊎ IsCut text faults status written room

-- the lines of a text: a byte 10 stands between two
abbrev pub lines : List ℕ → List (List ℕ)
lines text = slice_split (λ b. b == 10) text

-- The words, one on a line, aren't UTF-8, or memory for them ran out, or they were run.
abbrev pub IsAnswered : List ℕ → Files → ℕ → ℕ → List ℕ → Type 0
IsAnswered words files status written room =
    ((status ≡ 10) × (IsUtf8 words → ⊥) × (written ≡ 0))
    ⊎ ((status ≡ 8) × (written ≡ 0))
    ⊎ HasRun (lines words) files status written room
