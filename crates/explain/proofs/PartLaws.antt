-- Parts of a league: what fewer constraints accept, how many rows they have, and the part of all hard constraints.
use Rattle.std.proofs.Common.{◌≡◌, ℕ, ◌+◌, ◌*◌, ◌≤◌, Bool, true, false, ◌||◌, ◌&&◌, cond, if◌then◌else◌, ◌==◌, not}
use Rattle.std.proofs.Common.{List, [], ◌∷◌, ◌++◌, length}
use Rattle.std.proofs.Common.{suc, refl, sym, ap, subst, ◌∙◌, arith, length-append}
use Rattle.std.proofs.lemmas.List.{get_or_append_left}
use Rattle.std.proofs.lemmas.List.Elements.{All-append, All-nil, filter-append}
use Rattle.std.proofs.lemmas.List.Folds.{list_any-append}
use Rattle.std.proofs.lemmas.List.Sums.{sum_by-append, sum_by-cons}
use Rattle.std.specs.List.{All, filter, flat_map, list_any, sum_by}
use Rattle.league.specs.Accepted.{IsAccepted, hard_of}
use Rattle.league.specs.Counts.{Counts, counts_of}
use Rattle.league.specs.Deviation.{vector_of}
use Rattle.league.specs.Instance.{Instance, IsTeamCount}
use Rattle.league.specs.declared.class.Constraint.{Constraint}
use Rattle.league.proofs.SumLemmas.{sum_by-flat_map}
use Rattle.league.proofs.RoundRobinLemmas.{any_phases}
use Rattle.rows.specs.Rows.{Row, size_of}
use Rattle.circle_method.specs.Circle.{double_games}
use Rattle.circle_method.proofs.RoundRobinLemmas.{IsRoundRobin-double_games}
use Rattle.encoding.specs.Encoding.{class_rows, constraint_rows, encoding_size, rows_of, season_rows}
use Rattle.encoding.specs.Season.{break_rows}
use Rattle.encoding.specs.Variables.{bounds_breaks, has_breaks, hb_count, h_count, var_count, x_count}
use Rattle.explain.specs.Parts.{constraint_numbered, hard_numbers, listed, numbered, part_of, without}
use Rattle.explain.proofs.PartLemmas.{numbered-hard_numbers}

-- ---- the hard constraints with some numbers, number by number

abbrev hard_at : List Constraint → ℕ → List Constraint
hard_at constraints k = hard_of (listed (constraint_numbered constraints k))

hard_of-numbered : (constraints : List Constraint) (members : List ℕ)
    → hard_of (numbered constraints members) ≡ flat_map (hard_at constraints) members
hard_of-numbered constraints [] = refl
hard_of-numbered constraints (k ∷ members) =
    filter-append (λ c. c.hard) (listed (constraint_numbered constraints k)) (numbered constraints members)
    ∙ ap (λ (cs : List Constraint). hard_at constraints k ++ cs) (hard_of-numbered constraints members)

-- ---- what fewer constraints accept

All-front : {X : Type 0} (P : X → Type 0) (xs ys : List X) → All P (xs ++ ys) → All P xs
All-front {X} P xs ys each = λ k d within.
    subst P (get_or_append_left xs ys d k within) (each k d (omega (arith, within, length-append xs ys)))

All-back : {X : Type 0} (P : X → Type 0) (xs ys : List X) → All P (xs ++ ys) → All P ys
All-back {X} P [] ys each = each
All-back {X} P (x ∷ xs) ys each = All-back P xs ys (λ k d within. each (suc k) d (omega (arith, within)))

put_first : {X : Type 0} (P : X → Type 0) (f : ℕ → List X) (k : ℕ) (members : List ℕ) (b : Bool) → All P (f k)
    → All P (flat_map f members) → All P (flat_map f (cond b (k ∷ members) members))
put_first {X} P f k members true first later = All-append P (f k) (flat_map f members) first later
put_first {X} P f k members false first later = later

fewer_hold : {X : Type 0} (P : X → Type 0) (f : ℕ → List X) (keep : ℕ → Bool) (members : List ℕ)
    → All P (flat_map f members) → All P (flat_map f (filter keep members))
fewer_hold {X} P f keep [] each = each
fewer_hold {X} P f keep (k ∷ members) each =
    put_first P f k (filter keep members) (keep k) (All-front P (f k) (flat_map f members) each)
    (fewer_hold P f keep members (All-back P (f k) (flat_map f members) each))

-- a schedule that meets some constraints meets fewer
pub fewer_accept : (league : Instance) (keep : ℕ → Bool) (members : List ℕ) (m : Counts)
    → IsAccepted (part_of league members) m → IsAccepted (part_of league (filter keep members)) m
fewer_accept league keep members m accepted =
    let Meets : Constraint → Type 0 = λ c. All (λ entry. entry ≡ 0) (vector_of league.n m c.class) in
    record {
      round_robin = accepted.round_robin;
      hard = subst (All Meets) (sym (hard_of-numbered league.constraints (filter keep members)))
          (fewer_hold Meets (hard_at league.constraints) keep members
          (subst (All Meets) (hard_of-numbered league.constraints members) accepted.hard));
    }

filter-cond : (p : ℕ → Bool) (x : ℕ) (xs : List ℕ) (b : Bool)
    → filter p (cond b (x ∷ xs) xs) ≡ cond b (cond (p x) (x ∷ filter p xs) (filter p xs)) (filter p xs)
filter-cond p x xs true = refl
filter-cond p x xs false = refl

cond-swap : (b c : Bool) (xs ys : List ℕ) → cond b (cond c xs ys) ys ≡ cond c (cond b xs ys) ys
cond-swap true true xs ys = refl
cond-swap true false xs ys = refl
cond-swap false true xs ys = refl
cond-swap false false xs ys = refl

filter-swap : (p q : ℕ → Bool) (xs : List ℕ) → filter p (filter q xs) ≡ filter q (filter p xs)
filter-swap p q [] = refl
filter-swap p q (x ∷ xs) =
    let one : List ℕ = filter p (filter q xs) in
    filter-cond p x (filter q xs) (q x)
    ∙ cond-swap (q x) (p x) (x ∷ one) one
    ∙ ap (λ (ks : List ℕ). cond (p x) (cond (q x) (x ∷ ks) ks) ks) (filter-swap p q xs)
    ∙ sym (filter-cond q x (filter p xs) (p x))

-- what meets all members but one still does where the set shrinks
pub still_accepted : (league : Instance) (keep : ℕ → Bool) (members : List ℕ) (k : ℕ) (m : Counts)
    → IsAccepted (part_of league (without k members)) m
    → IsAccepted (part_of league (without k (filter keep members))) m
still_accepted league keep members k m accepted =
    subst (λ (ks : List ℕ). IsAccepted (part_of league ks) m) (filter-swap keep (λ j. not (j == k)) members)
    (fewer_accept league keep (without k members) m accepted)

-- ---- how many variables and terms fewer constraints have

or_later : (a b c : Bool) → (c ≡ true → b ≡ true) → (a || c) ≡ true → (a || b) ≡ true
or_later true b c later holds = refl
or_later false b c later holds = later holds

or_true : (a b : Bool) → b ≡ true → (a || b) ≡ true
or_true true b holds = refl
or_true false b holds = holds

first_holds : (p : Constraint → Bool) (f : ℕ → List Constraint) (k : ℕ) (kept members : List ℕ) (b : Bool)
    → (list_any p (flat_map f kept) ≡ true → list_any p (flat_map f members) ≡ true)
    → list_any p (flat_map f (cond b (k ∷ kept) kept)) ≡ true
    → (list_any p (f k) || list_any p (flat_map f members)) ≡ true
first_holds p f k kept members true later holds =
    or_later (list_any p (f k)) (list_any p (flat_map f members)) (list_any p (flat_map f kept)) later
    (sym (list_any-append p (f k) (flat_map f kept)) ∙ holds)
first_holds p f k kept members false later holds =
    or_true (list_any p (f k)) (list_any p (flat_map f members)) (later holds)

less_holds : (p : Constraint → Bool) (f : ℕ → List Constraint) (keep : ℕ → Bool) (members : List ℕ)
    → list_any p (flat_map f (filter keep members)) ≡ true → list_any p (flat_map f members) ≡ true
less_holds p f keep [] some = some
less_holds p f keep (k ∷ members) some =
    list_any-append p (f k) (flat_map f members)
    ∙ first_holds p f k (filter keep members) members (keep k) (less_holds p f keep members) some

fewer_breaks : (constraints : List Constraint) (keep : ℕ → Bool) (members : List ℕ)
    → has_breaks (numbered constraints (filter keep members)) ≡ true → has_breaks (numbered constraints members) ≡ true
fewer_breaks constraints keep members =
    less_holds (λ c. c.hard && bounds_breaks c.class) (λ k. listed (constraint_numbered constraints k)) keep members

if_more : (b c : Bool) (x : ℕ) → (b ≡ true → c ≡ true) → (if b then x else 0) ≤ (if c then x else 0)
if_more false c x more = omega arith
if_more true true x more = omega arith
if_more true false x more = absurd (let wrong : false ≡ true = more refl in cc)

pub fewer_vars : (league : Instance) (keep : ℕ → Bool) (members : List ℕ)
    → var_count (part_of league (filter keep members)) ≤ var_count (part_of league members)
fewer_vars league keep members =
    omega (
      arith,
      if_more (has_breaks (numbered league.constraints (filter keep members)))
          (has_breaks (numbered league.constraints members)) (2 * hb_count league.n)
          (fewer_breaks league.constraints keep members),
    )

first_sum : (f : ℕ → ℕ) (k : ℕ) (kept : List ℕ) (total : ℕ) (b : Bool) → sum_by f kept ≤ total
    → sum_by f (cond b (k ∷ kept) kept) ≤ f k + total
first_sum f k kept total true most =
    let sum : sum_by f (k ∷ kept) ≡ f k + sum_by f kept = sum_by-cons f k kept in
    let order : sum_by f (k ∷ kept) ≤ f k + total = omega (arith, sum, most) in
    order
first_sum f k kept total false most =
    let order : sum_by f kept ≤ f k + total = omega (arith, most) in
    order

fewer_sum : (f : ℕ → ℕ) (keep : ℕ → Bool) (members : List ℕ) → sum_by f (filter keep members) ≤ sum_by f members
fewer_sum f keep [] = omega arith
fewer_sum f keep (k ∷ members) =
    subst (λ (total : ℕ). sum_by f (cond (keep k) (k ∷ filter keep members) (filter keep members)) ≤ total)
    (sym (sum_by-cons f k members))
    (first_sum f k (filter keep members) (sum_by f members) (keep k) (fewer_sum f keep members))

abbrev terms_at : ℕ → List Constraint → ℕ → ℕ
terms_at n constraints k =
    sum_by (λ c. sum_by (λ r. length r.terms) (class_rows n c.class)) (hard_at constraints k)

size-constraint_rows : (n : ℕ) (constraints : List Constraint) (members : List ℕ)
    → size_of (constraint_rows n (numbered constraints members)) ≡ sum_by (terms_at n constraints) members
size-constraint_rows n constraints members =
    let size : Row → ℕ = λ r. length r.terms in
    sum_by-flat_map size (λ c. class_rows n c.class) (hard_of (numbered constraints members))
    ∙ ap (sum_by (λ c. sum_by size (class_rows n c.class))) (hard_of-numbered constraints members)
    ∙ sum_by-flat_map (λ c. sum_by size (class_rows n c.class)) (hard_at constraints) members

size-break_rows : (n : ℕ) (b c : Bool) → (b ≡ true → c ≡ true) → size_of (break_rows n b) ≤ size_of (break_rows n c)
size-break_rows n false c more = omega arith
size-break_rows n true true more = omega arith
size-break_rows n true false more = absurd (let wrong : false ≡ true = more refl in cc)

size-three : (xs ys zs more_ys more_zs : List Row) → size_of ys ≤ size_of more_ys → size_of zs ≤ size_of more_zs
    → size_of (xs ++ ys ++ zs) ≤ size_of (xs ++ more_ys ++ more_zs)
size-three xs ys zs more_ys more_zs second third =
    let size : Row → ℕ = λ r. length r.terms in
    omega (
      arith,
      sum_by-append size (xs ++ ys) zs,
      sum_by-append size xs ys,
      sum_by-append size (xs ++ more_ys) more_zs,
      sum_by-append size xs more_ys,
      second,
      third,
    )

by_sums : {a b c d : ℕ} → a ≡ c → b ≡ d → c ≤ d → a ≤ b
by_sums {a} {b} {c} {d} first second order = omega (arith, first, second, order)

pub fewer_terms : (league : Instance) (keep : ℕ → Bool) (members : List ℕ)
    → encoding_size (part_of league (filter keep members)) ≤ encoding_size (part_of league members)
fewer_terms league keep members =
    let n : ℕ = league.n in
    let constraints : List Constraint = league.constraints in
    let fewer : size_of (constraint_rows n (numbered constraints (filter keep members)))
    ≤ size_of (constraint_rows n (numbered constraints members)) =
    by_sums (size-constraint_rows n constraints (filter keep members)) (size-constraint_rows n constraints members)
    (fewer_sum (terms_at n constraints) keep members) in
    size-three (season_rows n league.phased) (break_rows n (has_breaks (numbered constraints (filter keep members))))
    (constraint_rows n (numbered constraints (filter keep members)))
    (break_rows n (has_breaks (numbered constraints members))) (constraint_rows n (numbered constraints members))
    (size-break_rows n (has_breaks (numbered constraints (filter keep members)))
    (has_breaks (numbered constraints members)) (fewer_breaks constraints keep members)) fewer

-- ---- the part of all hard constraints

abbrev with : Instance → List Constraint → Instance
with league constraints = record { n = league.n; phased = league.phased; constraints = constraints }

put_again : (c : Constraint) (hard again : List Constraint) (b : Bool) → c.hard ≡ b → again ≡ hard
    → hard_of hard ≡ again
    → hard_of (cond b (c ∷ hard) hard) ≡ cond b (c ∷ hard) hard
put_again c hard again true is same said =
    ap (λ (h : Bool). cond h (c ∷ hard_of hard) (hard_of hard)) is ∙ ap (λ (cs : List Constraint). c ∷ cs) (said ∙ same)
put_again c hard again false is same said = said ∙ same

hard-again : (constraints : List Constraint) → hard_of (hard_of constraints) ≡ hard_of constraints
hard-again [] = refl
hard-again (c ∷ constraints) =
    put_again c (hard_of constraints) (hard_of constraints) c.hard refl refl (hard-again constraints)

put_breaks : (c : Constraint) (hard : List Constraint) (some : Bool) (b : Bool) → c.hard ≡ b → has_breaks hard ≡ some
    → has_breaks (cond b (c ∷ hard) hard) ≡ ((b && bounds_breaks c.class) || some)
put_breaks c hard some true is same =
    ap (λ (h : Bool). (h && bounds_breaks c.class) || has_breaks hard) is
    ∙ ap (λ (h : Bool). bounds_breaks c.class || h) same
put_breaks c hard some false is same = same

breaks-hard : (constraints : List Constraint) → has_breaks (hard_of constraints) ≡ has_breaks constraints
breaks-hard [] = refl
breaks-hard (c ∷ constraints) =
    put_breaks c (hard_of constraints) (has_breaks constraints) c.hard refl (breaks-hard constraints)

pub whole_rows : (league : Instance) → rows_of (part_of league (hard_numbers league.constraints)) ≡ rows_of league
whole_rows league =
    let n : ℕ = league.n in
    let first : List Row = season_rows n league.phased in
    let constraints : List Constraint = league.constraints in
    ap (λ (cs : List Constraint). rows_of (with league cs)) (numbered-hard_numbers constraints)
    ∙ ap (λ (b : Bool). first ++ break_rows n b ++ constraint_rows n (hard_of constraints)) (breaks-hard constraints)
    ∙ ap (λ (cs : List Constraint). first ++ break_rows n (has_breaks constraints)
    ++ flat_map (λ c. class_rows n c.class) cs) (hard-again constraints)

pub whole_vars : (league : Instance) → var_count (part_of league (hard_numbers league.constraints)) ≡ var_count league
whole_vars league =
    let vars : Bool → ℕ = λ b. x_count league.n + h_count league.n + (if b then 2 * hb_count league.n else 0) in
    ap (λ (cs : List Constraint). vars (has_breaks cs)) (numbered-hard_numbers league.constraints)
    ∙ ap vars (breaks-hard league.constraints)

pub whole_accepts : (league : Instance) (m : Counts)
    → IsAccepted (part_of league (hard_numbers league.constraints)) m → IsAccepted league m
whole_accepts league m accepted =
    let Meets : Constraint → Type 0 = λ c. All (λ entry. entry ≡ 0) (vector_of league.n m c.class) in
    record {
      round_robin = accepted.round_robin;
      hard = subst (All Meets)
          (ap hard_of (numbered-hard_numbers league.constraints) ∙ hard-again league.constraints) accepted.hard;
    }

-- ---- the part of no constraint

-- the part of no constraint accepts the schedule of the circle method
pub none_accepts : (league : Instance) → IsTeamCount league.n
    → IsAccepted (part_of league []) (counts_of (double_games league.n))
none_accepts league teams = record {
  round_robin = any_phases league.n league.phased (counts_of (double_games league.n))
      (IsRoundRobin-double_games league.n teams);
  hard = All-nil (λ (c : Constraint).
      All (λ entry. entry ≡ 0) (vector_of league.n (counts_of (double_games league.n)) c.class));
}
