-- Parts of lists, and what steps at places are where a log grows.
use Rattle.std.proofs.Common.{◌≡◌, ◌≢◌, ℕ, ◌+◌, ◌<◌, ◌≤◌, List, [], ◌∷◌, ◌++◌, length, get_or, map, take}
use Rattle.std.proofs.Common.{Option, refl, inl, inr, ap, sym, subst, append_assoc, ◌∙◌}
use Rattle.std.specs.Prelude.{◌⊎◌}
use Rattle.std.specs.List.{All, AllPairs}
use Rattle.std.specs.Option.{option_map_or}
use Rattle.std.proofs.lemmas.List.{get_or_append_left, get_or_push, map-append, take_more}
use Rattle.std.proofs.lemmas.List.Elements.{All-cons, All-get_or, All-head, All-map, All-nil, All-same, All-tail}
use Rattle.std.proofs.lemmas.Option.{slice_get-get_or}
use Rattle.rows.specs.Cardinality.{at_least}
use Rattle.rows.specs.Literals.{Literal}
use Rattle.rows.specs.Rows.{Row}
use Rattle.propagate.specs.Trails.{SeenTrail}
use Rattle.refutation.specs.Steps.{Step, clause_at, clause_of}
use Rattle.refutation.specs.Steps.Step.{Clause}
use Rattle.clause_search.specs.Kept.{IsPart, step_at, steps_at}
use Rattle.clause_search.specs.News.{IsTidy, row_of}
use Rattle.clause_search.proofs.CountLemmas.{clause_row-differ}

-- ---- parts

module _ {A : Type 0} where
  pub part_all : (xs : List A) → IsPart xs xs
  part_all [] = refl
  part_all (x ∷ xs) = inr (xs, refl, part_all xs)

  -- without an item more, and with it
  pub part_skip : (less xs : List A) (x : A) → IsPart less xs → IsPart less (xs ++ x ∷ [])
  part_skip less [] x is = inl is
  part_skip less (y ∷ xs) x (inl part) = inl (part_skip less xs x part)
  part_skip less (y ∷ xs) x (inr (rest, same, part)) = inr (rest, same, part_skip rest xs x part)

  pub part_push : (less xs : List A) (x : A) → IsPart less xs → IsPart (less ++ x ∷ []) (xs ++ x ∷ [])
  part_push less [] x is = inr ([], ap (λ (l : List A). l ++ x ∷ []) is, refl)
  part_push less (y ∷ xs) x (inl part) = inl (part_push less xs x part)
  part_push less (y ∷ xs) x (inr (rest, same, part)) =
      inr (rest ++ x ∷ [], ap (λ (l : List A). l ++ x ∷ []) same, part_push rest xs x part)

  -- a part of a part
  pub part_part : (less mid xs : List A) → IsPart less mid → IsPart mid xs → IsPart less xs
  part_part less mid [] one other = subst (λ (l : List A). IsPart less l) other one
  part_part less mid (x ∷ xs) one (inl part) = inl (part_part less mid xs one part)
  part_part less mid (x ∷ xs) one (inr (rest, same, part)) =
      by (λ l is. part_part l rest xs is part) (subst (λ (l : List A). IsPart less l) same one) where
        by : ((l : List A) → IsPart l rest → IsPart l xs) → IsPart less (x ∷ rest) → IsPart less (x ∷ xs)
        by go (inl skipped) = inl (go less skipped)
        by go (inr (behind, is, kept)) = inr (behind, is, go behind kept)

  -- what holds of all holds of a part
  pub All-part : (P : A → Type 0) (less xs : List A) → All P xs → IsPart less xs → All P less
  All-part P less [] all is = All-same P less [] is (All-nil P)
  All-part P less (x ∷ xs) all (inl part) = All-part P less xs (All-tail P x xs all) part
  All-part P less (x ∷ xs) all (inr (rest, same, part)) =
      All-same P less (x ∷ rest) same
      (All-cons P x rest (All-head P x xs all) (All-part P rest xs (All-tail P x xs all) part))

module _ {A B : Type 0} where
  pub part_map : (f : A → B) (less xs : List A) → IsPart less xs → IsPart (map f less) (map f xs)
  part_map f less [] is = ap (λ (l : List A). map f l) is
  part_map f less (x ∷ xs) (inl part) = inl (part_map f less xs part)
  part_map f less (x ∷ xs) (inr (rest, same, part)) =
      inr (map f rest, ap (λ (l : List A). map f l) same, part_map f rest xs part)

-- ---- steps at places

-- a step more changes none before it
pub steps_at-more : (steps : List Step) (s : Step) (places : List ℕ) → All (λ place. place < length steps) places
    → steps_at (steps ++ s ∷ []) places ≡ steps_at steps places
steps_at-more steps s [] within = refl
steps_at-more steps s (place ∷ places) within =
    ap (λ (x : Step). x ∷ steps_at (steps ++ s ∷ []) places)
    (get_or_append_left steps (s ∷ []) (Clause [] []) place
    (All-head (λ p. p < length steps) place places within))
    ∙ ap (λ (xs : List Step). step_at steps place ∷ xs)
    (steps_at-more steps s places (All-tail (λ p. p < length steps) place places within))

-- and comes behind them
pub steps_at-push : (steps : List Step) (s : Step) (places : List ℕ) → All (λ place. place < length steps) places
    → steps_at (steps ++ s ∷ []) (places ++ length steps ∷ []) ≡ steps_at steps places ++ s ∷ []
steps_at-push steps s places within =
    map-append (step_at (steps ++ s ∷ [])) places (length steps ∷ [])
    ∙ ap (λ (xs : List Step). xs ++ step_at (steps ++ s ∷ []) (length steps) ∷ []) (steps_at-more steps s places within)
    ∙ ap (λ (x : Step). steps_at steps places ++ x ∷ []) (get_or_push steps s (Clause [] []) (length steps) refl)

-- ---- a part, item by item

pub part_more : (less new xs : List ℕ) (k : ℕ) → k < length xs → IsPart less (take k xs)
    → (new ≡ less) ⊎ (new ≡ less ++ get_or xs k 0 ∷ []) → IsPart new (take (k + 1) xs)
part_more less new xs k within part either =
    subst (λ (l : List ℕ). IsPart new l) (sym (take_more xs k 0 within))
    (elim either [
      | inl same ↦
          part_skip new (take k xs) (get_or xs k 0) (subst (λ (l : List ℕ). IsPart l (take k xs)) (sym same) part)
      | inr more ↦
          subst (λ (l : List ℕ). IsPart l (take k xs ++ get_or xs k 0 ∷ [])) (sym more)
          (part_push less (take k xs) (get_or xs k 0) part)
    ])

-- ---- a trail with clauses of steps at places

-- what holds of each step holds of those at some places
pub All-steps_at : (P : Step → Type 0) (steps : List Step) (places : List ℕ)
    → All (λ place. place < length steps) places → All P steps → All P (steps_at steps places)
All-steps_at P steps places within all =
    All-map P (step_at steps) places
    (λ k d inside. All-get_or P steps _ (Clause [] []) (within k d inside) all)

-- a trail without entries
abbrev pub bare_trail : ℕ → List Row → SeenTrail
bare_trail vars rows = record { vars = vars; rows = rows; entries = [] }

-- a trail with some rows more
abbrev pub with_rows : SeenTrail → List Row → SeenTrail
with_rows trail rows = record trail { rows = trail.rows ++ rows }

module _ (vars : ℕ) (steps : List Step) (places : List ℕ) (k : ℕ) (within : k < length places)
    (there : All (λ p. p < length steps) places) (tidy : All (IsTidy vars) steps) where
  abbrev place : ℕ
  place = get_or places k 0

  tidy_there : IsTidy vars (step_at steps place)
  tidy_there = tidy place (Clause [] []) (there k 0 within)

  clause_there : clause_at steps place ≡ clause_of (step_at steps place)
  clause_there =
      ap (λ (o : Option Step). option_map_or clause_of o [])
      (slice_get-get_or steps place (Clause [] []) (there k 0 within))

  pub clause_known : All (λ l. l.var ≤ vars) (clause_at steps place)
  clause_known = subst (λ (c : List Literal). All (λ l. l.var ≤ vars) c) (sym clause_there) tidy_there.known

  pub clause_differs : AllPairs (λ l m. l.var ≢ m.var) (clause_at steps place)
  clause_differs =
      subst (λ (c : List Literal). AllPairs (λ l m. l.var ≢ m.var) c) (sym clause_there) tidy_there.variables

  row_there : (clause : List Literal) → clause ≡ clause_at steps place
      → row_of (step_at steps place) ≡ at_least 1 clause
  row_there clause clause_is =
      clause_row-differ (clause_of (step_at steps place)) tidy_there.variables
      ∙ ap (λ (c : List Literal). at_least 1 c) (sym (clause_is ∙ clause_there))

  rows_more : (rows : List Row) (clause : List Literal) → clause ≡ clause_at steps place
      → (rows ++ map row_of (steps_at steps (take k places))) ++ at_least 1 clause ∷ []
      ≡ rows ++ map row_of (steps_at steps (take (k + 1) places))
  rows_more rows clause clause_is =
      append_assoc rows (map row_of (steps_at steps (take k places))) (at_least 1 clause ∷ [])
      ∙ ap (λ (rs : List Row). rows ++ rs)
      (sym (ap (λ (ps : List ℕ). map row_of (steps_at steps ps)) (take_more places k 0 within)
      ∙ ap (λ (ss : List Step). map row_of ss)
      (map-append (step_at steps) (take k places) (place ∷ []))
      ∙ map-append row_of (steps_at steps (take k places)) (step_at steps place ∷ [])
      ∙ ap (λ (row : Row). map row_of (steps_at steps (take k places)) ++ row ∷ []) (row_there clause clause_is)))

  -- a clause more
  pub trail_more : (bare : SeenTrail) (clause : List Literal) (old new : SeenTrail) → clause ≡ clause_at steps place
      → old ≡ with_rows bare (map row_of (steps_at steps (take k places)))
      → new ≡ record old { rows = old.rows ++ at_least 1 clause ∷ [] }
      → new ≡ with_rows bare (map row_of (steps_at steps (take (k + 1) places)))
  trail_more bare clause old new clause_is old_is new_is =
      new_is ∙ ap (λ (u : SeenTrail). record u { rows = u.rows ++ at_least 1 clause ∷ [] }) old_is
      ∙ ap (λ (rs : List Row). record bare { rows = rs }) (rows_more bare.rows clause clause_is)
