-- Rows and steps are numbered anew: a replay over lowered rows is one over all rows.
use Rattle.std.proofs.Common.{◌≡◌, ℕ, zero, suc, ◌+◌, ◌-◌, ◌<◌, ◌≤◌, nat_lt, ◌&&◌, ◌||◌, Bool, true, false, cond}
use Rattle.std.proofs.Common.{List, [], ◌∷◌, ◌++◌, length, map, Option, Some, None, Ok}
use Rattle.std.proofs.Common.{refl, arith, ap, sym, subst, ◌∙◌, inl, inr, ◌⊎◌}
use Rattle.std.specs.Prelude.{slice_get, slice_index, nat_le}
use Rattle.std.specs.List.{All, cons_option, filter_map, list_any}
use Rattle.std.proofs.lemmas.Bool.{lt-leb, le-leb, le-ltb, lt-ltb}
use Rattle.std.proofs.lemmas.List.{length_push}
use Rattle.std.proofs.lemmas.List.Elements.{All-head, All-map, All-push, All-tail}
use Rattle.std.proofs.lemmas.Option.{slice_get_within}
use Rattle.rows.specs.Forcing.{with_forced}
use Rattle.rows.specs.Literals.{Literal}
use Rattle.rows.specs.Rows.{Row}
use Rattle.rows.specs.declared.partial.Value.{Value}
use Rattle.refutation.specs.Following.{after_row, clause_row, denied, has_opposites, is_in_conflict, judged}
use Rattle.refutation.specs.Following.{no_demand, replay, row_numbered, row_unless}
use Rattle.refutation.specs.Steps.Step.{Clause}
use Rattle.refutation.specs.declared.verdict.Cause.{Cause}
use Rattle.refutation.specs.declared.verdict.Cause.TheVariants.{UnknownVariable}
use Rattle.clause_search.proofs.CountLemmas.{clause_row-differ}
use Rattle.league_search.specs.Raised.{IsFromOne, number_of, raised_literal, raised_row, renumbered}
use Rattle.league_search.proofs.RaiseLemmas.{Differ, Raises, conflict-raised}
use Rattle.league_search.proofs.RaiseLemmas.{denied-raised, with_forced-raised}

-- ---- rows at places

module _ {X : Type 0} where
  pub slice_get-left : (xs ys : List X) (k : ℕ) (x : X) → slice_get xs k ≡ Some x → slice_get (xs ++ ys) k ≡ Some x
  slice_get-left [] ys k x is = absurd (cc)
  slice_get-left (y ∷ xs) ys zero x is = is
  slice_get-left (y ∷ xs) ys (suc k) x is = slice_get-left xs ys k x is

  pub slice_get-last : (xs : List X) (y : X) → slice_get (xs ++ y ∷ []) (length xs) ≡ Some y
  slice_get-last [] y = refl
  slice_get-last (x ∷ xs) y = slice_get-last xs y

  pub slice_get-push : (xs : List X) (y : X) (k : ℕ) (x : X) → slice_get (xs ++ y ∷ []) k ≡ Some x
      → (slice_get xs k ≡ Some x) ⊎ ((k ≡ length xs) × (y ≡ x))
  slice_get-push [] y zero x is = inr (refl, cc)
  slice_get-push [] y (suc k) x is = absurd (cc)
  slice_get-push (z ∷ xs) y zero x is = inl is
  slice_get-push (z ∷ xs) y (suc k) x is =
      elim (slice_get-push xs y k x is) [
        | inl before ↦ inl before
        | inr last ↦ inr (ap suc last.0, last.1)
      ]

row_numbered-left : (rows more : List Row) (n : ℕ) (row : Row) → row_numbered rows n ≡ Some row
    → row_numbered (rows ++ more) n ≡ Some row
row_numbered-left rows more zero row is = absurd (cc)
row_numbered-left rows more (suc k) row is = slice_get-left rows more k row is

row_numbered-last : (rows : List Row) (row : Row) (n : ℕ) → n ≡ suc (length rows)
    → row_numbered (rows ++ row ∷ []) n ≡ Some row
row_numbered-last rows row n is = ap (row_numbered (rows ++ row ∷ [])) is ∙ slice_get-last rows row

pub row_numbered-some : (rows : List Row) (n : ℕ) (row : Row) → row_numbered rows n ≡ Some row → 1 ≤ n
row_numbered-some rows zero row is = absurd (cc)
row_numbered-some rows (suc k) row is = omega arith

row_numbered-within : (rows : List Row) (n : ℕ) (row : Row) → row_numbered rows n ≡ Some row → n ≤ length rows
row_numbered-within rows zero row is = omega arith
row_numbered-within rows (suc k) row is = omega (arith, slice_get_within rows k row is)

-- ---- a numbering

-- the rows behind which so many steps stand, numbered as all rows with these steps are
pub record IsNumbering (x : ℕ) (numbers : List ℕ) (all before : ℕ) (low whole : List Row) : Type 0 where
  pub low_count : length low ≡ length numbers + before
  pub whole_count : length whole ≡ all + before
  pub gives : (h : ℕ) (row : Row) → row_numbered low h ≡ Some row
      → row_numbered whole (renumbered numbers all h) ≡ Some (raised_row x row)
  pub from_one : All IsFromOne low

past_numbers : (numbers : List ℕ) (all h : ℕ) → length numbers < h → renumbered numbers all h ≡ h - length numbers + all
past_numbers numbers all h past =
    ap (λ (b : Bool). cond b (slice_index numbers (h - 1)) (h - length numbers + all)) (lt-leb h (length numbers) past)

-- a step more
pub numbering-push : (x : ℕ) (numbers : List ℕ) (all before : ℕ) (low whole : List Row) (row : Row)
    → IsNumbering x numbers all before low whole → IsFromOne row
    → IsNumbering x numbers all (before + 1) (low ++ row ∷ []) (whole ++ raised_row x row ∷ [])
numbering-push x numbers all before low whole row is from_one = record {
  low_count = omega (arith, length_push low row, is.low_count);
  whole_count = omega (arith, length_push whole (raised_row x row), is.whole_count);
  gives = given;
  from_one = All-push IsFromOne low row is.from_one from_one;
} where
  given : (h : ℕ) (found : Row) → row_numbered (low ++ row ∷ []) h ≡ Some found
      → row_numbered (whole ++ raised_row x row ∷ []) (renumbered numbers all h) ≡ Some (raised_row x found)
  given zero found there = absurd (cc)
  given (suc k) found there =
      elim (slice_get-push low row k found there) [
        | inl old ↦
            row_numbered-left whole (raised_row x row ∷ []) (renumbered numbers all (suc k)) (raised_row x found)
            (is.gives (suc k) found old)
        | inr new ↦
            row_numbered-last whole (raised_row x row) (renumbered numbers all (suc k))
            (past_numbers numbers all (suc k) (omega (arith, new.0, is.low_count))
            ∙ omega (arith, new.0, is.low_count, is.whole_count))
            ∙ ap (λ (r : Row). Some (raised_row x r)) new.1
      ]

pub numbering-same : (x : ℕ) (numbers : List ℕ) (all before before' : ℕ) (low low' whole whole' : List Row)
    → before ≡ before' → low ≡ low' → whole ≡ whole' → IsNumbering x numbers all before low whole
    → IsNumbering x numbers all before' low' whole'
numbering-same x numbers all before before' low low' whole whole' same same_low same_whole is =
    subst (λ (b : ℕ). IsNumbering x numbers all b low' whole') same
    (subst (λ (rows : List Row). IsNumbering x numbers all before rows whole') same_low
    (subst (λ (rows : List Row). IsNumbering x numbers all before low rows) same_whole is))

-- ---- a hint

some_if : (a b : Bool) (n : ℕ) → a ≡ true → b ≡ true → cond (a && b) (Some n) None ≡ Some n
some_if true true n is are = refl
some_if true false n is are = absurd (cc)
some_if false b n is are = absurd (cc)

-- what names a row has a number among all
pub number_of-row : (x : ℕ) (numbers : List ℕ) (all before : ℕ) (low whole : List Row) (h : ℕ) (row : Row)
    → IsNumbering x numbers all before low whole → row_numbered low h ≡ Some row
    → number_of numbers all before h ≡ Some (renumbered numbers all h)
number_of-row x numbers all before low whole h row is there =
    some_if (nat_lt 0 h) (nat_le h (length numbers + before)) (renumbered numbers all h)
    (lt-ltb 0 h (row_numbered-some low h row there))
    (le-leb h (length numbers + before) (omega (arith, row_numbered-within low h row there, is.low_count)))

-- ---- a replay

conflict_or : (b c : Bool) (rest rest' : Option Cause) → b ≡ c → cond b None rest ≡ None
    → (rest ≡ None → rest' ≡ None) → cond c None rest' ≡ None
conflict_or true true rest rest' same was go_on = refl
conflict_or true false rest rest' same was go_on = absurd (cc)
conflict_or false true rest rest' same was go_on = refl
conflict_or false false rest rest' same was go_on = go_on was

module _ (x : ℕ) (numbers : List ℕ) (all before : ℕ) (low whole : List Row)
    (is : IsNumbering x numbers all before low whole) where
  abbrev IsRaised : List ℕ → (ℕ → Value) → (ℕ → Value) → Type 0
  IsRaised hints over under =
      replay low hints under ≡ None → replay whole (filter_map (number_of numbers all before) hints) over ≡ None

  pub replay-raised : (hints : List ℕ) (over under : ℕ → Value) → Raises x over under → IsRaised hints over under
  replay-raised [] over under raises was = absurd (cc)
  replay-raised (h ∷ hints) over under raises was =
      by (λ over' under' raises'. replay-raised hints over' under' raises') (row_numbered low h) refl was where
        by : ((over' under' : ℕ → Value) → Raises x over' under' → IsRaised hints over' under') → (found : Option Row)
            → row_numbered low h ≡ found → after_row found under (replay low hints) ≡ None
            → replay whole (filter_map (number_of numbers all before) (h ∷ hints)) over ≡ None
        by rest None there was = absurd (cc)
        by rest (Some row) there was =
            ap (λ (o : Option ℕ). replay whole (cons_option o (filter_map (number_of numbers all before) hints)) over)
            (number_of-row x numbers all before low whole h row is there)
            ∙ ap (λ (o : Option Row). after_row o over
            (replay whole (filter_map (number_of numbers all before) hints))) (is.gives h row there)
            ∙ conflict_or (is_in_conflict under row) (is_in_conflict over (raised_row x row))
            (replay low hints (with_forced under row))
            (replay whole (filter_map (number_of numbers all before) hints) (with_forced over (raised_row x row)))
            (sym (conflict-raised x over under raises row)) was
            (rest (with_forced over (raised_row x row)) (with_forced under row)
            (with_forced-raised x over under raises row))

-- ---- a clause

-- where the clause's row demands something it holds no opposites
opposites_none : (b : Bool) (row : Row) → (cond b no_demand row).degree ≡ 1 → b ≡ false
opposites_none true row is = absurd (omega (arith, is))
opposites_none false row is = refl

no_opposites : (clause : List Literal) → Differ clause → has_opposites clause ≡ false
no_opposites clause differ =
    opposites_none (has_opposites clause) _ (ap (λ (row : Row). row.degree) (clause_row-differ clause differ))

none_above : (vars : ℕ) (clause : List Literal) → All (λ l. l.var ≤ vars) clause
    → list_any (λ l. nat_lt vars l.var) clause ≡ false
none_above vars [] known = refl
none_above vars (l ∷ clause) known =
    ap (λ (b : Bool). b || list_any (λ (m : Literal). nat_lt vars m.var) clause)
    (le-ltb vars l.var (All-head (λ (m : Literal). m.var ≤ vars) l clause known))
    ∙ none_above vars clause (All-tail (λ (m : Literal). m.var ≤ vars) l clause known)

-- what a replay says of a step, and what a step says of its replay
found_none : (any opposites : Bool) (found : Option Cause) (row : Row)
    → row_unless (cond any (Some UnknownVariable) (cond opposites None found)) row ≡ Ok row → opposites ≡ false
    → found ≡ None
found_none true opposites found row is none = absurd (cc)
found_none false true found row is none = absurd (cc)
found_none false false None row is none = refl
found_none false false (Some cause) row is none = absurd (cc)

follows_by : (any opposites : Bool) (found : Option Cause) (row : Row) → any ≡ false → found ≡ None
    → row_unless (cond any (Some UnknownVariable) (cond opposites None found)) row ≡ Ok row
follows_by true opposites found row known none = absurd (cc)
follows_by false true found row known none = refl
follows_by false false found row known none = ap (λ (o : Option Cause). row_unless o row) none

pub judged-raised : (x : ℕ) (numbers : List ℕ) (all before vars : ℕ) (low whole : List Row) (clause : List Literal)
    (hints : List ℕ) → IsNumbering x numbers all before low whole → Differ clause → All (λ l. l.var ≤ vars) clause
    → judged low vars (Clause clause hints) ≡ Ok (clause_row clause)
    → judged whole (vars + x)
    (Clause (map (raised_literal x) clause) (filter_map (number_of numbers all before) hints))
    ≡ Ok (clause_row (map (raised_literal x) clause))
judged-raised x numbers all before vars low whole clause hints is differ known follows =
    let replayed : replay low hints (denied clause) ≡ None =
    found_none (list_any (λ l. nat_lt vars l.var) clause) (has_opposites clause) (replay low hints (denied clause))
    (clause_row clause) follows (no_opposites clause differ) in
    follows_by (list_any (λ l. nat_lt (vars + x) l.var) (map (raised_literal x) clause))
    (has_opposites (map (raised_literal x) clause))
    (replay whole (filter_map (number_of numbers all before) hints) (denied (map (raised_literal x) clause)))
    (clause_row (map (raised_literal x) clause))
    (none_above (vars + x) (map (raised_literal x) clause)
    (All-map (λ (l : Literal). l.var ≤ vars + x) (raised_literal x) clause
    (λ k d within. omega (arith, known k d within))))
    (replay-raised x numbers all before low whole is hints (denied (map (raised_literal x) clause)) (denied clause)
    (denied-raised x clause) replayed)
