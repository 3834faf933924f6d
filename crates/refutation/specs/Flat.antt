-- Steps that are kept in flat lists: literals, hints and parts end to end, with the places where those of a step end.
use Rattle.std.specs.Prelude.{◌≡◌, ℕ, zero, suc, ◌≤◌, ◌==◌, if◌then◌else◌, List, [], ◌∷◌, length, slice_range}
use Rattle.std.specs.List.{All}
use Rattle.rows.specs.Literals.{Literal}
use Rattle.refutation.specs.Steps.{Step}
use Rattle.refutation.specs.Steps.Step.{Clause, Linear}
use Rattle.refutation.specs.declared.log.End.{End}
use Rattle.refutation.specs.declared.step.Part.{Part}

-- the lists
pub record Lists : Type 0 where
  pub lits : List Literal
  pub hints : List ℕ
  pub parts : List Part

-- where the first step begins
abbrev pub front : End
front = record { lits = 0; hints = 0; parts = 0; divisor = 0 }

-- the step that lies between two ends: a divisor 0 marks a clause step
abbrev pub step_between : Lists → End → End → Step
step_between lists from to =
    if to.divisor == 0
    then Clause (slice_range lists.lits from.lits to.lits) (slice_range lists.hints from.hints to.hints)
    else Linear (slice_range lists.parts from.parts to.parts) to.divisor

-- the steps that begin at an end
abbrev pub steps_from : End → Lists → List End → List Step
steps_from from lists [] = []
steps_from from lists (to ∷ ends) = step_between lists from to ∷ steps_from to lists ends

-- where the step at place k begins: where the one before it ends
abbrev pub end_before : End → List End → ℕ → End
end_before from ends zero = from
end_before from [] (suc k) = from
end_before from (to ∷ ends) (suc k) = end_before to ends k

-- one end lies behind another, in each list
pub record IsBehind (from to : End) : Type 0 where
  pub lits : from.lits ≤ to.lits
  pub hints : from.hints ≤ to.hints
  pub parts : from.parts ≤ to.parts

-- nothing lies behind this end
pub record IsWhole (lists : Lists) (last : End) : Type 0 where
  pub lits : last.lits ≡ length lists.lits
  pub hints : last.hints ≡ length lists.hints
  pub parts : last.parts ≡ length lists.parts

-- the ends ascend from an end to the last one
abbrev pub AreEnds : End → List End → Lists → Type 0
AreEnds from [] lists = IsWhole lists from
AreEnds from (to ∷ ends) lists = IsBehind from to × AreEnds to ends lists

-- the steps lie end to end, and factors are from 1
pub record AreKept (lists : Lists) (ends : List End) : Type 0 where
  pub ended : AreEnds front ends lists
  pub factors : All (λ part. 1 ≤ part.factor) lists.parts
