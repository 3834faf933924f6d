-- Groups of tokens, up to each `0`.
use Rattle.std.specs.Prelude.{◌≡◌, ◌⊎◌, ℕ, ◌+◌, Bool, true, false, List, [], ◌∷◌, ◌++◌, length, map, Option}
use Rattle.std.specs.Prelude.{Result, Ok, Err}
use Rattle.std.specs.List.{list_all}
use Rattle.std.specs.Borrow.{Bor}
use Rattle.refutation.specs.Lines.{groups_of, tokens_of}
use Rattle.refutation.specs.Cuts.{onto_front}
use Rattle.refutation.specs.Tokens.{tokens_left}
use Rattle.refutation.specs.declared.fault.LogKind.TheVariants.{BadLine}
use Rattle.refutation.specs.declared.fault.Stop.{Stop}
use Rattle.refutation.specs.declared.fault.Stop.TheVariants as stops

-- A group that ends with `0`: its tokens are as the test asks, and where all are small their values were added.
pub record IsGroup {T : Type 0} (test small : List ℕ → Bool) (value : List ℕ → T) (groups : List (List (List ℕ)))
    (all_small : Bool) (left : Option (Bor (List ℕ))) (old new : List T) : Type 0 where
  pub group : List (List ℕ)
  pub found : groups ≡ group ∷ groups_of (tokens_left left)
  pub written : list_all test group ≡ true
  pub small_is : all_small ≡ list_all small group
  pub count : length new ≡ length old + length group
  pub values : list_all small group ≡ true → new ≡ old ++ map value group

-- A group with a wrong token, or without its `0`.
pub record IsBadGroup (test : List ℕ → Bool) (groups : List (List (List ℕ))) : Type 0 where
  pub group : List (List ℕ)
  pub others : List (List (List ℕ))
  pub found : groups ≡ group ∷ others
  pub bad : (list_all test group ≡ false) ⊎ (others ≡ [])

-- the group that stands first
abbrev pub FindsGroup : {T : Type 0} → (List ℕ → Bool) → (List ℕ → Bool) → (List ℕ → T) → List (List (List ℕ))
    → Result (Bool × Option (Bor (List ℕ))) Stop → List T → List T → Type 0
FindsGroup test small value groups (Ok r) old new = IsGroup test small value groups r.0 r.1 old new
FindsGroup test small value groups (Err (stops.Form kind)) old new = (kind ≡ BadLine) × IsBadGroup test groups
FindsGroup test small value groups (Err stops.Mem) old new = Unit {0}

-- the tokens that a loop has taken, and what is left
pub record IsSoFar {T : Type 0} (test small : List ℕ → Bool) (value : List ℕ → T) (groups : List (List (List ℕ)))
    (rest : List ℕ) (all_small : Bool) (old new : List T) : Type 0 where
  pub done : List (List ℕ)
  pub found : groups ≡ onto_front done (groups_of (tokens_of rest))
  pub written : list_all test done ≡ true
  pub small_is : all_small ≡ list_all small done
  pub count : length new ≡ length old + length done
  pub values : list_all small done ≡ true → new ≡ old ++ map value done
