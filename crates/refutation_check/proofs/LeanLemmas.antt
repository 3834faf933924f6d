-- A state with rows let go, and the full one: they go on alike.
use Rattle.std.proofs.Common.{◌≡◌, ◌≢◌, ℕ, zero, suc, ◌+◌, ◌<◌, Bool, true, false, List, [], ◌∷◌, ◌++◌}
use Rattle.std.proofs.Common.{drop, get_or, length, length-append, map, take, slice_get, slice_set, Option, Some, None}
use Rattle.std.proofs.Common.{refl, arith, ap, sym, subst, ◌∙◌}
use Rattle.std.specs.Prelude.{Result, Ok, Err, IfSome, nat_lt, if◌then◌else◌}
use Rattle.std.specs.List.{fold}
use Rattle.std.proofs.lemmas.Bool.Decides.{nat_tests}
use Rattle.std.proofs.lemmas.List.{drop_more, length-map}
use Rattle.std.proofs.lemmas.List.Elements.{All-head, All-tail, All-weaker}
use Rattle.std.proofs.lemmas.List.Sums.{fold_more, sum_by_push}
use Rattle.std.proofs.lemmas.Option.{slice_get-get_or}
use Rattle.rows.specs.Rows.{Row}
use Rattle.refutation.specs.Steps.{Step, kind_of}
use Rattle.refutation.specs.Steps.Step.{Clause}
use Rattle.refutation.specs.Following.{judged, row_numbered}
use Rattle.refutation.specs.Verdict.{verdict_by}
use Rattle.refutation.specs.declared.step.StepKind.{StepKind}
use Rattle.refutation.specs.declared.verdict.Cause.{Cause}
use Rattle.refutation_check.specs.Forgotten.{IsLean, NamesSame, NoneNames, forget, gone, names, without}
use Rattle.refutation_check.specs.Judged.{Judged, JudgedStep, after_step, ends_false, rows_of, verdict_so_far, with_step}
use Rattle.refutation_check.specs.Room.{row_bytes, steps_bytes}
use Rattle.refutation_check.proofs.ForgetLemmas.{judged-same}
use Rattle.refutation_check.proofs.VerdictLemmas.{ends_false-push, rows-push}

-- ---- nothing is let go

pub lean-none : (state : Judged) (later : List Step) → IsLean state state 0 later
lean-none state later = record {
  rows = refl;
  vars = refl;
  rejection = refl;
  count = refl;
  ends = refl;
  named = λ k d there i e here. refl;
  bytes = omega arith;
}

-- ---- a step more

get-push : (a b : List Row) (row : Row) (k : ℕ) → length a ≡ length b → slice_get a k ≡ slice_get b k
    → slice_get (a ++ row ∷ []) k ≡ slice_get (b ++ row ∷ []) k
get-push [] [] row k even same = refl
get-push [] (y ∷ b) row k even same = absurd (omega (arith, even))
get-push (x ∷ a) [] row k even same = absurd (omega (arith, even))
get-push (x ∷ a) (y ∷ b) row zero even same = same
get-push (x ∷ a) (y ∷ b) row (suc k) even same = get-push a b row k (omega (arith, even)) same

number-push : (a b : List Row) (row : Row) (n : ℕ) → length a ≡ length b → row_numbered a n ≡ row_numbered b n
    → row_numbered (a ++ row ∷ []) n ≡ row_numbered (b ++ row ∷ []) n
number-push a b row zero even same = refl
number-push a b row (suc k) even same = get-push a b row k even same

rows-even : (rows : List Row) (a b : List JudgedStep) → length a ≡ length b
    → length (rows ++ map (λ s. s.row) a) ≡ length (rows ++ map (λ s. s.row) b)
rows-even rows a b even =
    omega (
      arith,
      length-append rows (map (λ (s : JudgedStep). s.row) a),
      length-append rows (map (λ (s : JudgedStep). s.row) b),
      length-map a (λ (s : JudgedStep). s.row),
      length-map b (λ (s : JudgedStep). s.row),
      even,
    )

-- the rows that the next step may name are as many in both
names-even : (full lean : Judged) → lean.rows ≡ full.rows → length lean.steps ≡ length full.steps
    → length (rows_of lean) ≡ length (rows_of full)
names-even full lean rows count =
    ap (λ (r : List Row). length (r ++ map (λ s. s.row) lean.steps)) rows
    ∙ rows-even full.rows lean.steps full.steps count

lean-with : (full lean : Judged) (freed : ℕ) (kind : StepKind) (found : Result Row Cause) (step : Step)
    (later : List Step) → IsLean full lean freed (step ∷ later)
    → IsLean (with_step full kind found) (with_step lean kind found) freed later
lean-with full lean freed kind (Ok row) step later is =
    let s : JudgedStep = record { row = row; kind = kind } in
    record {
      rows = is.rows;
      vars = is.vars;
      rejection = refl;
      count = omega (arith, length-append lean.steps (s ∷ []), length-append full.steps (s ∷ []), is.count);
      ends = ends_false-push lean.steps s ∙ sym (ends_false-push full.steps s);
      named = All-weaker (NamesSame full lean) (NamesSame (with_step full kind (Ok row)) (with_step lean kind (Ok row)))
          (λ next same i e here.
          ap (λ (rows : List Row). row_numbered rows (get_or (names next) i e)) (rows-push lean.rows lean.steps s)
          ∙ number-push (rows_of lean) (rows_of full) row (get_or (names next) i e)
          (names-even full lean is.rows is.count) (same i e here)
          ∙ ap (λ (rows : List Row). row_numbered rows (get_or (names next) i e))
          (sym (rows-push full.rows full.steps s)))
          later (All-tail (NamesSame full lean) step later is.named);
      bytes = omega (
        arith,
        sum_by_push (λ (j : JudgedStep). row_bytes j.row) lean.steps s,
        sum_by_push (λ (j : JudgedStep). row_bytes j.row) full.steps s,
        is.bytes,
      );
    }
lean-with full lean freed kind (Err cause) step later is = record {
  rows = is.rows;
  vars = is.vars;
  rejection = ap (λ (n : ℕ). let r : Option (ℕ × Cause) = Some (n + 1, cause) in r) is.count;
  count = is.count;
  ends = is.ends;
  named = All-tail (NamesSame full lean) step later is.named;
  bytes = is.bytes;
}

-- what a step is judged to be, it is in both
next-same : (full lean : Judged) (freed : ℕ) (step : Step) (later : List Step) → IsLean full lean freed (step ∷ later)
    → judged (rows_of lean) lean.vars step ≡ judged (rows_of full) full.vars step
next-same full lean freed step later is =
    judged-same (rows_of lean) (rows_of full) lean.vars step (All-head (NamesSame full lean) step later is.named)
    ∙ ap (λ (vars : ℕ). judged (rows_of full) vars step) is.vars

lean-stays : (full lean : Judged) (freed : ℕ) (step : Step) (later : List Step) → IsLean full lean freed (step ∷ later)
    → IsLean full lean freed later
lean-stays full lean freed step later is = record {
  rows = is.rows;
  vars = is.vars;
  rejection = is.rejection;
  count = is.count;
  ends = is.ends;
  named = All-tail (NamesSame full lean) step later is.named;
  bytes = is.bytes;
}

-- the state behind a step, where it is known whether one was rejected before
abbrev after_found : Option (ℕ × Cause) → Judged → StepKind → Result Row Cause → Judged
after_found None state kind found = with_step state kind found
after_found (Some rejection) state kind found = state

lean-found : (rejection : Option (ℕ × Cause)) (full lean : Judged) (freed : ℕ) (kind : StepKind)
    (found : Result Row Cause) (step : Step) (later : List Step) → IsLean full lean freed (step ∷ later)
    → IsLean (after_found rejection full kind found) (after_found rejection lean kind found) freed later
lean-found None full lean freed kind found step later is = lean-with full lean freed kind found step later is
lean-found (Some rejection) full lean freed kind found step later is = lean-stays full lean freed step later is

after-is : (state : Judged) (step : Step) (rejection : Option (ℕ × Cause))
    → (elim rejection [
      | None ↦ with_step state (kind_of step) (judged (rows_of state) state.vars step)
      | Some rejected ↦ state
    ])
    ≡ after_found rejection state (kind_of step) (judged (rows_of state) state.vars step)
after-is state step None = refl
after-is state step (Some rejected) = refl

pub lean-next : (full lean : Judged) (freed : ℕ) (step : Step) (later : List Step) → IsLean full lean freed (step ∷ later)
    → IsLean (after_step full step) (after_step lean step) freed later
lean-next full lean freed step later is =
    let found : Result Row Cause = judged (rows_of full) full.vars step in
    let lean_is : after_found full.rejection lean (kind_of step) found ≡ after_step lean step =
    sym (after-is lean step lean.rejection
    ∙ ap (λ (r : Option (ℕ × Cause)). after_found r lean (kind_of step) (judged (rows_of lean) lean.vars step)) is.rejection
    ∙ ap (λ (f : Result Row Cause). after_found full.rejection lean (kind_of step) f)
    (next-same full lean freed step later is)) in
    let full_is : after_found full.rejection full (kind_of step) found ≡ after_step full step =
    sym (after-is full step full.rejection) in
    subst (λ (state : Judged). IsLean state (after_step lean step) freed later) full_is
    (subst (λ (state : Judged). IsLean (after_found full.rejection full (kind_of step) found) state freed later) lean_is
    (lean-found full.rejection full lean freed (kind_of step) found step later is))

-- ---- the rows under the steps stay

with-rows : (state : Judged) (kind : StepKind) (found : Result Row Cause) → (with_step state kind found).rows ≡ state.rows
with-rows state kind (Ok row) = refl
with-rows state kind (Err cause) = refl

found-rows : (rejection : Option (ℕ × Cause)) (state : Judged) (kind : StepKind) (found : Result Row Cause)
    → (after_found rejection state kind found).rows ≡ state.rows
found-rows None state kind found = with-rows state kind found
found-rows (Some rejected) state kind found = refl

after-rows : (state : Judged) (step : Step) → (after_step state step).rows ≡ state.rows
after-rows state step =
    ap (λ (s : Judged). s.rows) (after-is state step state.rejection)
    ∙ found-rows state.rejection state (kind_of step) (judged (rows_of state) state.vars step)

pub fold-rows : (state : Judged) (steps : List Step) → (fold after_step state steps).rows ≡ state.rows
fold-rows state [] = refl
fold-rows state (step ∷ steps) = fold-rows (after_step state step) steps ∙ after-rows state step

-- ---- the step at a place of a log

of_some : (now next : Judged) (o : Option Step) (step : Step) → o ≡ Some step
    → IfSome o (λ s. next ≡ after_step now s) → next ≡ after_step now step
of_some now next o step is given = subst (λ (p : Option Step). IfSome p (λ s. next ≡ after_step now s)) is given

pub lean-given : (start lean next : Judged) (freed : ℕ) (log : List Step) (k : ℕ) → k < length log
    → IsLean (fold after_step start (take k log)) lean freed (drop k log)
    → IfSome (slice_get log k) (λ step. next ≡ after_step lean step)
    → IsLean (fold after_step start (take (k + 1) log)) next freed (drop (k + 1) log)
lean-given start lean next freed log k within is given =
    let none : Step = Clause [] [] in
    let step : Step = get_or log k none in
    let more : IsLean (after_step (fold after_step start (take k log)) step) (after_step lean step) freed (drop (k + 1) log) =
    lean-next (fold after_step start (take k log)) lean freed step (drop (k + 1) log)
    (subst (λ (later : List Step). IsLean (fold after_step start (take k log)) lean freed later)
    (drop_more log k none within) is) in
    subst (λ (full : Judged). IsLean full next freed (drop (k + 1) log)) (sym (fold_more after_step start log k none within))
    (subst (λ (state : Judged). IsLean (after_step (fold after_step start (take k log)) step) state freed (drop (k + 1) log))
    (sym (of_some lean next (slice_get log k) step (slice_get-get_or log k none within) given)) more)

-- ---- a row is let go

get-set : (rows : List Row) (steps : List JudgedStep) (place k : ℕ) (s : JudgedStep) → k ≢ length rows + place
    → slice_get (rows ++ map (λ j. j.row) (slice_set steps place s)) k ≡ slice_get (rows ++ map (λ j. j.row) steps) k
get-set [] [] place k s other = refl
get-set [] (j ∷ steps) zero zero s other = absurd (other (omega arith))
get-set [] (j ∷ steps) zero (suc k) s other = refl
get-set [] (j ∷ steps) (suc place) zero s other = refl
get-set [] (j ∷ steps) (suc place) (suc k) s other = get-set [] steps place k s (λ is. other (omega (arith, is)))
get-set (r ∷ rows) steps place zero s other = refl
get-set (r ∷ rows) steps place (suc k) s other = get-set rows steps place k s (λ is. other (omega (arith, is)))

number-set : (rows : List Row) (steps : List JudgedStep) (place n : ℕ) (s : JudgedStep) → n ≢ length rows + place + 1
    → row_numbered (rows ++ map (λ j. j.row) (slice_set steps place s)) n
    ≡ row_numbered (rows ++ map (λ j. j.row) steps) n
number-set rows steps place zero s other = refl
number-set rows steps place (suc k) s other = get-set rows steps place k s (λ is. other (omega (arith, is)))

number-without : (inside : Bool) (rows : List Row) (steps : List JudgedStep) (place n : ℕ)
    → n ≢ length rows + place + 1
    → row_numbered (rows ++ map (λ j. j.row) (if inside then slice_set steps place gone else steps)) n
    ≡ row_numbered (rows ++ map (λ j. j.row) steps) n
number-without true rows steps place n other = number-set rows steps place n gone other
number-without false rows steps place n other = refl

length-set : (steps : List JudgedStep) (place : ℕ) (s : JudgedStep) → length (slice_set steps place s) ≡ length steps
length-set [] place s = refl
length-set (j ∷ steps) zero s = refl
length-set (j ∷ steps) (suc place) s = omega (arith, length-set steps place s)

count-without : (inside : Bool) (steps : List JudgedStep) (place : ℕ)
    → length (if inside then slice_set steps place gone else steps) ≡ length steps
count-without true steps place = length-set steps place gone
count-without false steps place = refl

ends-set : (steps : List JudgedStep) (place : ℕ) (s : JudgedStep) → place + 1 < length steps
    → ends_false (slice_set steps place s) ≡ ends_false steps
ends-set [] place s within = refl
ends-set (j ∷ []) place s within = absurd (omega (arith, within))
ends-set (j ∷ t ∷ steps) zero s within = refl
ends-set (j ∷ t ∷ []) (suc place) s within = absurd (omega (arith, within))
ends-set (j ∷ t ∷ u ∷ steps) (suc zero) s within = refl
ends-set (j ∷ t ∷ u ∷ steps) (suc (suc place)) s within = ends-set (t ∷ u ∷ steps) (suc place) s (omega (arith, within))

ends-without : (inside : Bool) (steps : List JudgedStep) (place : ℕ) → nat_lt (place + 1) (length steps) ≡ inside
    → ends_false (if inside then slice_set steps place gone else steps) ≡ ends_false steps
ends-without true steps place is = ends-set steps place gone (grind (arith, nat_tests))
ends-without false steps place is = refl

pub lean-forget : (full lean : Judged) (freed more place : ℕ) (later : List Step) → IsLean full lean freed later
    → NoneNames (length lean.rows + place + 1) later
    → steps_bytes (without place lean.steps) + more ≡ steps_bytes lean.steps
    → IsLean full (forget place lean) (freed + more) later
lean-forget full lean freed more place later is none taken = record {
  rows = is.rows;
  vars = is.vars;
  rejection = is.rejection;
  count = count-without (nat_lt (place + 1) (length lean.steps)) lean.steps place ∙ is.count;
  ends = ends-without (nat_lt (place + 1) (length lean.steps)) lean.steps place refl ∙ is.ends;
  named = λ k d there i e here.
      number-without (nat_lt (place + 1) (length lean.steps)) lean.rows lean.steps place
      (get_or (names (get_or later k d)) i e) (none k d there i e here)
      ∙ is.named k d there i e here;
  bytes = omega (arith, taken, is.bytes);
}

-- ---- the end

pub lean-verdict : (full lean : Judged) (freed : ℕ) (later : List Step) → IsLean full lean freed later
    → verdict_so_far lean ≡ verdict_so_far full
lean-verdict full lean freed later is =
    ap (λ (r : Option (ℕ × Cause)). verdict_by r (ends_false lean.steps) (length lean.steps)) is.rejection
    ∙ ap (λ (ends : Bool). verdict_by full.rejection ends (length lean.steps)) is.ends
    ∙ ap (λ (n : ℕ). verdict_by full.rejection (ends_false full.steps) n) is.count
