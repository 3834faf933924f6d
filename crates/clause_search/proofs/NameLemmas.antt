-- Rows by the log's numbers: a replay over the trail's rows is one over all rows and steps.
use Rattle.std.proofs.Common.{◌≡◌, ℕ, zero, suc, ◌+◌, ◌-◌, ◌^◌, ◌<◌, ◌≤◌, Bool, true, false, cond}
use Rattle.std.proofs.Common.{List, [], ◌∷◌, ◌++◌, length, get_or, map, Option, Some, None, Ok}
use Rattle.std.proofs.Common.{refl, inl, inr, arith, ap, sym, ◌∙◌}
use Rattle.std.specs.Prelude.{nat_le, nat_lt, slice_get}
use Rattle.std.specs.List.{All, list_any}
use Rattle.std.proofs.lemmas.Bool.{cases_lt, cond-false, cond-true, cond_both, le-leb, lt-leb}
use Rattle.std.proofs.lemmas.List.{get_or-append_right, get_or-map, get_or_append_left, length-append, length-map}
use Rattle.std.proofs.lemmas.List.Elements.{All-map}
use Rattle.std.proofs.lemmas.Option.{get_or_from_slice_get, slice_get-get_or, slice_get_within}
use Rattle.rows.specs.Forcing.{with_forced}
use Rattle.rows.specs.Literals.{Literal}
use Rattle.rows.specs.Rows.{Row}
use Rattle.rows.specs.declared.partial.Value.{Value}
use Rattle.refutation.specs.Following.{after_row, denied, has_opposites, is_in_conflict}
use Rattle.refutation.specs.Following.{replay, row_numbered, row_unless}
use Rattle.refutation.specs.Steps.{Step}
use Rattle.refutation.specs.Steps.Step.{Clause}
use Rattle.refutation.specs.declared.verdict.Cause.{Cause}
use Rattle.refutation.specs.declared.verdict.Cause.TheVariants.{UnknownVariable}
use Rattle.clause_search.specs.Kept.{named, step_at, steps_at}
use Rattle.clause_search.specs.News.{IsTidy, row_of}

-- ---- numbers

named_row : (given : ℕ) (places : List ℕ) (k : ℕ) → k < given → named given places (suc k) ≡ suc k
named_row given places k early =
    cond-true (nat_le (suc k) given) (suc k) (given + 1 + get_or places (suc k - given - 1) 0)
    (le-leb (suc k) given (omega (arith, early)))

named_step : (given : ℕ) (places : List ℕ) (k : ℕ) → given ≤ k
    → named given places (suc k) ≡ suc (given + get_or places (k - given) 0)
named_step given places k late =
    cond-false (nat_le (suc k) given) (suc k) (given + 1 + get_or places (suc k - given - 1) 0)
    (lt-leb (suc k) given (omega (arith, late)))
    ∙ ap (λ (i : ℕ). given + 1 + get_or places i 0) (let same : suc k - given - 1 ≡ k - given = omega arith in same)
    ∙ (let next : given + 1 + get_or places (k - given) 0 ≡ suc (given + get_or places (k - given) 0) = omega arith in
    next)

-- ---- the same row under the log's number

module _ (rows more less : List Row) where
  -- a row that was given
  given_row : (k : ℕ) (row : Row) → k < length rows → slice_get (rows ++ less) k ≡ Some row
      → slice_get (rows ++ more) k ≡ Some row
  given_row k row early found =
      slice_get-get_or (rows ++ more) k row (omega (arith, early, length-append rows more))
      ∙ ap (λ (r : Row). Some r)
      (get_or_append_left rows more row k early ∙ sym (get_or_append_left rows less row k early)
      ∙ get_or_from_slice_get (rows ++ less) k row row found)

  -- a row behind those that were given
  later_row : (k at : ℕ) (row : Row) → length rows ≤ k → at < length more → get_or more at row
      ≡ get_or less (k - length rows) row → slice_get (rows ++ less) k ≡ Some row
      → slice_get (rows ++ more) (length rows + at) ≡ Some row
  later_row k at row late within same found =
      let back : length rows + at - length rows ≡ at = omega arith in
      slice_get-get_or (rows ++ more) (length rows + at) row (omega (arith, within, length-append rows more))
      ∙ ap (λ (r : Row). Some r)
      (get_or-append_right rows more (length rows) (length rows + at) row refl (omega arith)
      ∙ ap (λ (i : ℕ). get_or more i row) back
      ∙ same ∙ sym (get_or-append_right rows less (length rows) k row refl late)
      ∙ get_or_from_slice_get (rows ++ less) k row row found)

row_at_place : (steps : List Step) (places : List ℕ) (j : ℕ) (row : Row) → j < length places
    → get_or (map row_of (steps_at steps places)) j row ≡ row_of (step_at steps (get_or places j 0))
row_at_place steps places j row within =
    get_or-map row_of (steps_at steps places) j (Clause [] []) row
    (omega (arith, within, length-map places (step_at steps)))
    ∙ ap row_of (get_or-map (step_at steps) places j 0 (Clause [] []) within)

-- what has a number on the trail has the named number in the log
pub named-row : (rows : List Row) (steps : List Step) (places : List ℕ) (given h : ℕ) (row : Row)
    → given ≡ length rows → All (λ place. place < length steps) places
    → row_numbered (rows ++ map row_of (steps_at steps places)) h ≡ Some row
    → row_numbered (rows ++ map row_of steps) (named given places h) ≡ Some row
named-row rows steps places given zero row is within found = absurd (cc)
named-row rows steps places given (suc k) row is within found =
    elim (cases_lt k (length rows)) [
      | inl early ↦
          ap (λ (n : ℕ). row_numbered (rows ++ map row_of steps) n)
          (named_row given places k (omega (arith, early, is)))
          ∙ given_row rows (map row_of steps) (map row_of (steps_at steps places)) k row early found
      | inr late ↦
          let inside : k - length rows < length places =
          omega (
            arith,
            late,
            slice_get_within (rows ++ map row_of (steps_at steps places)) k row found,
            length-append rows (map row_of (steps_at steps places)),
            length-map (steps_at steps places) row_of,
            length-map places (step_at steps),
          ) in
          let there : get_or places (k - length rows) 0 < length steps = within (k - length rows) 0 inside in
          ap (λ (n : ℕ). row_numbered (rows ++ map row_of steps) n)
          (ap (λ (n : ℕ). named n places (suc k)) is ∙ named_step (length rows) places k late)
          ∙ later_row rows (map row_of steps) (map row_of (steps_at steps places)) k
          (get_or places (k - length rows) 0) row late (omega (arith, there, length-map steps row_of))
          (get_or-map row_of steps (get_or places (k - length rows) 0) (Clause [] []) row there
          ∙ sym (row_at_place steps places (k - length rows) row inside)) found
    ]

-- ---- a replay

found_by : (b : Bool) (rest rest' : Option Cause) → (rest ≡ None → rest' ≡ None) → cond b None rest ≡ None
    → cond b None rest' ≡ None
found_by true rest rest' go_on was = refl
found_by false rest rest' go_on was = go_on was

module _ (low whole : List Row) (name : ℕ → ℕ)
    (same : (h : ℕ) (row : Row) → row_numbered low h ≡ Some row → row_numbered whole (name h) ≡ Some row) where
  -- hints come to the same under other numbers
  replay-named : (hints : List ℕ) (values : ℕ → Value) → replay low hints values ≡ None
      → replay whole (map name hints) values ≡ None
  replay-named [] values was = absurd (cc)
  replay-named (h ∷ hints) values was =
      by (λ values'. replay-named hints values') (row_numbered low h) refl was where
        by : ((values' : ℕ → Value) → replay low hints values' ≡ None → replay whole (map name hints) values' ≡ None)
            → (found : Option Row) → row_numbered low h ≡ found → after_row found values (replay low hints) ≡ None
            → after_row (row_numbered whole (name h)) values (replay whole (map name hints)) ≡ None
        by rest None there was = absurd (cc)
        by rest (Some row) there was =
            ap (λ (o : Option Row). after_row o values (replay whole (map name hints))) (same h row there)
            ∙ found_by (is_in_conflict values row) (replay low hints (with_forced values row))
            (replay whole (map name hints) (with_forced values row)) (rest (with_forced values row)) was

  judged_by : (any opposites : Bool) (found found' : Option Cause) (row : Row) → (found ≡ None → found' ≡ None)
      → row_unless (cond any (Some UnknownVariable) (cond opposites None found)) row ≡ Ok row
      → row_unless (cond any (Some UnknownVariable) (cond opposites None found')) row ≡ Ok row
  judged_by true opposites found found' row go_on was = absurd (cc)
  judged_by false true found found' row go_on was = refl
  judged_by false false None found' row go_on was = ap (λ (o : Option Cause). row_unless o row) (go_on refl)
  judged_by false false (Some cause) found' row go_on was = absurd (cc)

  -- so does a step
  pub judged-named : (vars : ℕ) (clause : List Literal) (hints : List ℕ) (row : Row)
      → row_unless (cond (list_any (λ l. nat_lt vars l.var) clause) (Some UnknownVariable)
      (cond (has_opposites clause) None (replay low hints (denied clause)))) row ≡ Ok row
      → row_unless (cond (list_any (λ l. nat_lt vars l.var) clause) (Some UnknownVariable)
      (cond (has_opposites clause) None (replay whole (map name hints) (denied clause)))) row ≡ Ok row
  judged-named vars clause hints row was =
      judged_by (list_any (λ l. nat_lt vars l.var) clause) (has_opposites clause) (replay low hints (denied clause))
      (replay whole (map name hints) (denied clause)) row (replay-named hints (denied clause)) was

-- ---- tidy steps

named_some : (given : ℕ) (places : List ℕ) (h : ℕ) → 1 ≤ h → 1 ≤ named given places h
named_some given places h some =
    cond_both (nat_le h given) h (given + 1 + get_or places (h - given - 1) 0) (λ n. 1 ≤ n) (λ yes. some)
    (λ no. omega arith)

pub named-tidy : (given : ℕ) (places : List ℕ) (vars : ℕ) (clause : List Literal) (hints : List ℕ)
    → IsTidy vars (Clause clause hints) → All (λ hint. hint < 2 ^ 64) (map (named given places) hints)
    → IsTidy vars (Clause clause (map (named given places) hints))
named-tidy given places vars clause hints tidy small = record {
  variables = tidy.variables;
  from_one = tidy.from_one;
  known = tidy.known;
  few = omega (arith, tidy.few, length-map hints (named given places));
  named = All-map (λ hint. 1 ≤ hint) (named given places) hints
      (λ k d within. named_some given places (get_or hints k d) (tidy.named k d within));
  small = small;
}
