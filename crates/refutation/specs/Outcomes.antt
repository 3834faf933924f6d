-- What the parts of a line's reader answer.
use Rattle.std.specs.Prelude.{◌≡◌, ℕ, ◌≤◌, true, List, [], ◌∷◌, ◌++◌, Result, Ok, Err}
use Rattle.std.specs.List.{All}
use Rattle.rows.specs.Literals.{Literal}
use Rattle.refutation.specs.Steps.{Step}
use Rattle.refutation.specs.Steps.Step.{Clause, Linear}
use Rattle.refutation.specs.Lines.{is_count, is_small_number, linear_step, number}
use Rattle.refutation.specs.Logs.{Line}
use Rattle.refutation.specs.Logs.Line.{End, Heading, Says}
use Rattle.refutation.specs.declared.fault.LogKind.{LogKind}
use Rattle.refutation.specs.declared.fault.LogKind.TheVariants.{BadLine}
use Rattle.refutation.specs.declared.fault.Stop.{Stop}
use Rattle.refutation.specs.declared.fault.Stop.TheVariants.{Form, Mem}
use Rattle.refutation.specs.declared.line.LineKind.{LineKind}
use Rattle.refutation.specs.declared.line.LineKind.TheVariants as kinds
use Rattle.refutation.specs.declared.step.Part.{Part}
use Rattle.refutation.specs.declared.token.Item.{Item}
use Rattle.refutation.specs.declared.version.Version.{Version}

-- the clause and the hints that were read
abbrev pub ReadsClause : Result Step LogKind → Result (Unit {0}) Stop → List Literal → List ℕ → Type 0
ReadsClause said (Ok _) clause hints = said ≡ Ok (Clause clause hints)
ReadsClause said (Err (Form kind)) clause hints = said ≡ Err kind
ReadsClause said (Err Mem) clause hints = Unit {0}

-- the parts and the divisor that were read, with no 0 among factors and divisor
pub record IsLinear (said : Result Step LogKind) (parts : List Part) (divisor : ℕ) : Type 0 where
  pub says : said ≡ Ok (Linear parts divisor)
  pub factors : All (λ part. 1 ≤ part.factor) parts
  pub least : 1 ≤ divisor

-- what a linear step's reader answers
abbrev pub ReadsLinear : Result Step LogKind → Result ℕ Stop → List Part → Type 0
ReadsLinear said (Ok divisor) parts = IsLinear said parts divisor
ReadsLinear said (Err (Form kind)) parts = said ≡ Err kind
ReadsLinear said (Err Mem) parts = Unit {0}

-- the one number that ends a linear step
pub record IsLast (groups : List (List (List ℕ))) (item : Item ℕ) : Type 0 where
  pub token : List ℕ
  pub found : groups ≡ (token ∷ []) ∷ []
  pub written : is_count token ≡ true
  pub small_is : item.small ≡ is_small_number token
  pub value_is : is_small_number token ≡ true → item.value ≡ number token

-- what stands behind the parts of a linear step
abbrev pub EndsLine : List (List (List ℕ)) → Result (Item ℕ) LogKind → Type 0
EndsLine groups (Ok item) = IsLast groups item
EndsLine groups (Err kind) = (kind ≡ BadLine) × ((parts : List (List ℕ)) → linear_step (parts ∷ groups) ≡ Err BadLine)

-- a step more
pub record AddsStep (said : Result Step LogKind) (old new : List Step) : Type 0 where
  pub step : Step
  pub says : said ≡ Ok step
  pub added : new ≡ old ++ step ∷ []

-- what a step's reader answers, and the steps that are there then
abbrev pub ReadsStep : Result Step LogKind → Result (Unit {0}) Stop → List Step → List Step → Type 0
ReadsStep said (Ok _) old new = AddsStep said old new
ReadsStep said (Err (Form kind)) old new = (said ≡ Err kind) × (new ≡ old)
ReadsStep said (Err Mem) old new = Unit {0}

-- the version that the first line names
abbrev pub Heads : Result Line LogKind → Result Version LogKind → Type 0
Heads said (Ok version) = said ≡ Ok (Heading version)
Heads said (Err kind) = said ≡ Err kind

-- a line that says a step, which was added
pub record AddsLine (said : Result Line LogKind) (old new : List Step) : Type 0 where
  pub step : Step
  pub says : said ≡ Ok (Says step)
  pub added : new ≡ old ++ step ∷ []

-- what a line's reader answers, and the steps that are there then
abbrev pub ReadsLine : Result Line LogKind → Result LineKind Stop → List Step → List Step → Type 0
ReadsLine said (Ok (kinds.Heading version)) old new = (said ≡ Ok (Heading version)) × (new ≡ old)
ReadsLine said (Ok kinds.End) old new = (said ≡ Ok End) × (new ≡ old)
ReadsLine said (Ok kinds.Step) old new = AddsLine said old new
ReadsLine said (Err (Form kind)) old new = (said ≡ Err kind) × (new ≡ old)
ReadsLine said (Err Mem) old new = Unit {0}
