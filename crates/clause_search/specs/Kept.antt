-- Which steps of a log are kept, and which are forgotten.
use Rattle.std.specs.Prelude.{◌≡◌, ◌⊎◌, ℕ, ◌+◌, ◌-◌, ◌<◌, nat_le, if◌then◌else◌, List, [], ◌∷◌, length, map, slice_index_or}
use Rattle.refutation.specs.Steps.{Step}
use Rattle.refutation.specs.Steps.Step.{Clause}

-- the first list is the second one, or comes of it by leaving items out
abbrev pub IsPart : {A : Type 0} → List A → List A → Type 0
IsPart {A} less [] = less ≡ []
IsPart {A} less (x ∷ xs) = IsPart less xs ⊎ ((rest : List A) × (less ≡ x ∷ rest) × IsPart rest xs)

-- the step at a place of a log, from 0
abbrev pub step_at : List Step → ℕ → Step
step_at steps place = slice_index_or steps place (Clause [] [])

abbrev pub steps_at : List Step → List ℕ → List Step
steps_at steps places = map (step_at steps) places

-- where nothing is ever forgotten: with so many variables or fewer, and while so many steps are kept or fewer
abbrev pub few_variables : ℕ
few_variables = 40

abbrev pub least_room : ℕ
least_room = 2000

-- What may be kept of steps at some places: all; or a part of them, where there are many variables and many steps.
abbrev pub MayKeep : ℕ → List ℕ → List ℕ → Type 0
MayKeep vars old new = (new ≡ old) ⊎ ((few_variables < vars) × (least_room < length old) × IsPart new old)

-- The number in a log of the row that has this number where the steps at these places stand behind the rows: `given`
-- rows come before all steps, and the steps have the next numbers.
abbrev pub named : ℕ → List ℕ → ℕ → ℕ
named given places number =
    if nat_le number given then number else given + 1 + slice_index_or places (number - given - 1) 0
