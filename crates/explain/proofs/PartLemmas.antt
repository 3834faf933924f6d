-- Laws of parts and of the numbers of constraints.
use Rattle.std.proofs.Common.{◌≡◌, ℕ, zero, suc, ◌+◌, ◌<◌, ◌≤◌, Bool, true, false, cond, not, List, [], ◌∷◌, ◌++◌}
use Rattle.std.proofs.Common.{length, get_or, Option, Some, None, refl, sym, ap, subst, ◌∙◌, arith, append_assoc}
use Rattle.std.proofs.Common.{append-nil, length-append}
use Rattle.std.proofs.lemmas.List.Concat.{length-flat_map}
use Rattle.std.proofs.lemmas.List.Elements.{All-append, All-cons, All-nil, filter-append, filter_passes}
use Rattle.std.proofs.lemmas.List.Kept.{AllPairs-cons, AllPairs-filter, AllPairs-from_increasing}
use Rattle.std.proofs.lemmas.List.Sums.{sum_by-le}
use Rattle.std.specs.List.{All, filter, range_with_len, slice_get}
use Rattle.std.specs.List.Sorted.{IsStrictlyIncreasing}
use Rattle.std.specs.Ordering.{nat_cmp}
use Rattle.std.specs.declared.cmp.Ordering.TheVariants.{Less}
use Rattle.std.specs.Prelude.{IsTrue}
use Rattle.league.specs.Accepted.{hard_of}
use Rattle.league.specs.Instance.{class_fits}
use Rattle.league.specs.Sets.{IsAscending}
use Rattle.league.specs.declared.class.Constraint.{Constraint}
use Rattle.league.proofs.RangeLemmas.{range_with_len-more}
use Rattle.league.proofs.SetLemmas.{length-ascending}
use Rattle.league.proofs.NumberSets.{nat_cmp-less, range-ascending}
use Rattle.explain.specs.Parts.{constraint_numbered, first_other, hard_numbers, is_hard, is_hard_number, listed, numbered}

-- ---- what holds of each constraint

listed-get : (P : Constraint → Type 0) (constraints : List Constraint) (k : ℕ) → All P constraints
    → All P (listed (slice_get constraints k))
listed-get P [] k all = All-nil P
listed-get P (c ∷ constraints) zero all = All-cons P c [] (all 0 c (omega arith)) (All-nil P)
listed-get P (c ∷ constraints) (suc k) all =
    listed-get P constraints k (λ i d within. all (suc i) d (omega (arith, within)))

listed-all : (P : Constraint → Type 0) (constraints : List Constraint) (k : ℕ) → All P constraints
    → All P (listed (constraint_numbered constraints k))
listed-all P constraints zero all = All-nil P
listed-all P constraints (suc k) all = listed-get P constraints k all

-- what holds of each constraint holds of those with some numbers
pub numbered-all : (P : Constraint → Type 0) (constraints : List Constraint) (members : List ℕ) → All P constraints
    → All P (numbered constraints members)
numbered-all P constraints [] all = All-nil P
numbered-all P constraints (k ∷ members) all =
    All-append P (listed (constraint_numbered constraints k)) (numbered constraints members)
    (listed-all P constraints k all) (numbered-all P constraints members all)

-- ---- how many there are

listed-few : (found : Option Constraint) → length (listed found) ≤ 1
listed-few None = omega arith
listed-few (Some c) = omega arith

numbered-few : (constraints : List Constraint) (members : List ℕ)
    → length (numbered constraints members) ≤ length members
numbered-few constraints members =
    omega (
      arith,
      length-flat_map (λ k. listed (constraint_numbered constraints k)) members,
      sum_by-le (λ k. length (listed (constraint_numbered constraints k))) 1 members
          (λ i d within. listed-few (constraint_numbered constraints (get_or members i d))),
    )

inside : (constraints : List Constraint) (k : ℕ) → is_hard (slice_get constraints k) ≡ true → k < length constraints
inside [] k is = absurd (cc)
inside (c ∷ constraints) zero is = omega arith
inside (c ∷ constraints) (suc k) is = omega (arith, inside constraints k is)

-- the number of a hard constraint is from 1 to the number of constraints
pub hard-at_least : (constraints : List Constraint) (k : ℕ) → is_hard_number constraints k ≡ true → 1 ≤ k
hard-at_least constraints zero is = absurd (cc)
hard-at_least constraints (suc k) is = omega arith

pub hard-at_most : (constraints : List Constraint) (k : ℕ) → is_hard_number constraints k ≡ true
    → k < length constraints + 1
hard-at_most constraints zero is = absurd (cc)
hard-at_most constraints (suc k) is = omega (arith, inside constraints k is)

members-few : (constraints : List Constraint) (members : List ℕ) → IsAscending nat_cmp members
    → All (λ k. is_hard_number constraints k ≡ true) members → length members ≤ length constraints
members-few constraints members ascending hard =
    let from_zero : IsAscending nat_cmp (0 ∷ members) =
    AllPairs-cons (λ a b. nat_cmp a b ≡ Less) 0 members
    (λ i d within. nat_cmp-less 0 (get_or members i d) (omega (
      arith,
      hard-at_least constraints (get_or members i d)
          (hard i d within),
    ))) ascending in
    let below : All (λ k. k < length constraints + 1) (0 ∷ members) =
    All-cons (λ k. k < length constraints + 1) 0 members (omega arith)
    (λ i d within. hard-at_most constraints (get_or members i d) (hard i d within)) in
    omega (arith, length-ascending (0 ∷ members) (length constraints + 1) from_zero below)

-- ---- numbers that hard constraints have

none-first : (test rest : Bool) (k : ℕ) (found : Option ℕ) → cond (not test) (Some k) found ≡ None → test ≡ true
none-first true rest k found none = refl
none-first false rest k found none = absurd (cc)

none-later : (test : Bool) (k : ℕ) (found : Option ℕ) → cond (not test) (Some k) found ≡ None → found ≡ None
none-later true k found none = none
none-later false k found none = absurd (cc)

-- where no number is another's, all are those of hard constraints
pub all_hard : (constraints : List Constraint) (members : List ℕ) → first_other constraints members ≡ None
    → All (λ k. is_hard_number constraints k ≡ true) members
all_hard constraints [] none = All-nil (λ k. is_hard_number constraints k ≡ true)
all_hard constraints (k ∷ members) none =
    All-cons (λ k. is_hard_number constraints k ≡ true) k members
    (none-first (is_hard_number constraints k) true k (first_other constraints members) none)
    (all_hard constraints members
    (none-later (is_hard_number constraints k) k (first_other constraints members) none))

-- where all numbers are those of hard constraints, none is another's
pub none_other : (constraints : List Constraint) (members : List ℕ)
    → All (λ k. is_hard_number constraints k ≡ true) members → first_other constraints members ≡ None
none_other constraints [] hard = refl
none_other constraints (k ∷ members) hard =
    ap (λ (b : Bool). cond (not b) (Some k) (first_other constraints members)) (hard 0 k (omega arith))
    ∙ none_other constraints members (λ i d within. hard (suc i) d (omega (arith, within)))

-- there are no more constraints in a part than in its league
pub part-few : (constraints : List Constraint) (members : List ℕ) (most : ℕ) → IsAscending nat_cmp members
    → first_other constraints members ≡ None → length constraints ≤ most
    → length (numbered constraints members) ≤ most
part-few constraints members most ascending none few =
    omega (
      arith,
      numbered-few constraints members,
      members-few constraints members ascending (all_hard constraints members none),
      few,
    )

-- ---- all hard constraints

get-at : (before : List Constraint) (c : Constraint) (after : List Constraint)
    → slice_get (before ++ c ∷ after) (length before) ≡ Some c
get-at [] c after = refl
get-at (b ∷ before) c after = get-at before c after

numbered-at : (all before : List Constraint) (c : Constraint) (after : List Constraint) (first : ℕ)
    → all ≡ before ++ c ∷ after → first ≡ suc (length before) → constraint_numbered all first ≡ Some c
numbered-at all before c after first is place =
    ap (λ (k : ℕ). constraint_numbered all k) place
    ∙ ap (λ (cs : List Constraint). slice_get cs (length before)) is
    ∙ get-at before c after

chosen : (all : List Constraint) (first : ℕ) (c : Constraint) (rest : List ℕ) (later : List Constraint) (b : Bool)
    → constraint_numbered all first ≡ Some c → numbered all rest ≡ later
    → numbered all (cond b (first ∷ rest) rest) ≡ cond b (c ∷ later) later
chosen all first c rest later true found is =
    ap (λ (o : Option Constraint). listed o ++ numbered all rest) found ∙ ap (λ (cs : List Constraint). c ∷ cs) is
chosen all first c rest later false found is = is

hard_from : (all before after : List Constraint) (first : ℕ) → all ≡ before ++ after → first ≡ suc (length before)
    → numbered all (filter (is_hard_number all) (range_with_len first (length after))) ≡ hard_of after
hard_from all before [] first is place = refl
hard_from all before (c ∷ after) first is place =
    let found : constraint_numbered all first ≡ Some c = numbered-at all before c after first is place in
    let rest : List ℕ = filter (is_hard_number all) (range_with_len (first + 1) (length after)) in
    let later : numbered all rest ≡ hard_of after =
    hard_from all (before ++ c ∷ []) after (first + 1) (is ∙ sym (append_assoc before (c ∷ []) after))
    (omega (arith, place, length-append before (c ∷ []))) in
    ap (λ (b : Bool). numbered all (cond b (first ∷ rest) rest)) (ap is_hard found)
    ∙ chosen all first c rest (hard_of after) c.hard found later

-- the part of all hard constraints has the hard constraints
pub numbered-hard_numbers : (constraints : List Constraint)
    → numbered constraints (hard_numbers constraints) ≡ hard_of constraints
numbered-hard_numbers constraints = hard_from constraints [] constraints 1 refl refl

pub hard_numbers-hard : (constraints : List Constraint)
    → All (λ k. is_hard_number constraints k ≡ true) (hard_numbers constraints)
hard_numbers-hard constraints = filter_passes (is_hard_number constraints) (range_with_len 1 (length constraints))

pub hard_numbers-ascending : (constraints : List Constraint) → IsAscending nat_cmp (hard_numbers constraints)
hard_numbers-ascending constraints =
    AllPairs-filter (λ x y. nat_cmp x y ≡ Less) (is_hard_number constraints) (range_with_len 1 (length constraints))
    (range-ascending 1 (length constraints))

-- the numbers of the hard constraints among one more
hard_so_far : (constraints : List Constraint) (k : ℕ)
    → filter (is_hard_number constraints) (range_with_len 1 (k + 1))
    ≡ filter (is_hard_number constraints) (range_with_len 1 k)
    ++ cond (is_hard_number constraints (k + 1)) ((k + 1) ∷ []) []
hard_so_far constraints k =
    ap (filter (is_hard_number constraints)) (range_with_len-more 1 k)
    ∙ filter-append (is_hard_number constraints) (range_with_len 1 k) ((1 + k) ∷ [])
    ∙ ap (λ (j : ℕ). filter (is_hard_number constraints) (range_with_len 1 k)
    ++ cond (is_hard_number constraints j) (j ∷ []) []) (omega arith)

pub hard_more-yes : (constraints : List Constraint) (k : ℕ) → is_hard_number constraints (k + 1) ≡ true
    → filter (is_hard_number constraints) (range_with_len 1 (k + 1))
    ≡ filter (is_hard_number constraints) (range_with_len 1 k) ++ (k + 1) ∷ []
hard_more-yes constraints k is =
    hard_so_far constraints k
    ∙ ap (λ (b : Bool). filter (is_hard_number constraints) (range_with_len 1 k) ++ cond b ((k + 1) ∷ []) []) is

pub hard_more-no : (constraints : List Constraint) (k : ℕ) → is_hard_number constraints (k + 1) ≡ false
    → filter (is_hard_number constraints) (range_with_len 1 (k + 1))
    ≡ filter (is_hard_number constraints) (range_with_len 1 k)
hard_more-no constraints k is =
    hard_so_far constraints k
    ∙ ap (λ (b : Bool). filter (is_hard_number constraints) (range_with_len 1 k) ++ cond b ((k + 1) ∷ []) []) is
    ∙ append-nil (filter (is_hard_number constraints) (range_with_len 1 k))

-- numbers that rise step by step ascend
pub ascending_steps : (members : List ℕ) → IsStrictlyIncreasing members → IsAscending nat_cmp members
ascending_steps members rises = λ i j d before within.
    nat_cmp-less (get_or members i d) (get_or members j d) (AllPairs-from_increasing members rises i j d before within)

-- what is said of the numbers so far, where these are a league's constraints
pub hard_among : (constraints found : List Constraint) (k : ℕ) (numbers : List ℕ) → found ≡ constraints
    → numbers ≡ filter (is_hard_number found) (range_with_len 1 k)
    → All (λ j. is_hard_number constraints j ≡ true) numbers
hard_among constraints found k numbers same are =
    subst (λ (cs : List Constraint). All (λ j. is_hard_number cs j ≡ true) numbers) same
    (subst (λ (ks : List ℕ). All (λ j. is_hard_number found j ≡ true) ks) (sym are)
    (filter_passes (is_hard_number found) (range_with_len 1 k)))

pub ascending_among : (found : List Constraint) (k : ℕ) (numbers : List ℕ)
    → numbers ≡ filter (is_hard_number found) (range_with_len 1 k) → IsAscending nat_cmp numbers
ascending_among found k numbers are =
    subst (λ (ks : List ℕ). IsAscending nat_cmp ks) (sym are)
    (AllPairs-filter (λ x y. nat_cmp x y ≡ Less) (is_hard_number found) (range_with_len 1 k) (range-ascending 1 k))

-- what a league asks of its constraints holds of those of a part
pub part-fit : (n k : ℕ) (constraints found : List Constraint) (members : List ℕ) (taken : List Constraint) → k ≡ n
    → found ≡ constraints → taken ≡ numbered found members
    → All (λ c. IsTrue (class_fits n c.class)) constraints → All (λ c. IsTrue (class_fits k c.class)) taken
part-fit n k constraints found members taken same_n same are fit =
    subst (λ (j : ℕ). All (λ c. IsTrue (class_fits j c.class)) taken) (sym same_n)
    (subst (λ (cs : List Constraint). All (λ c. IsTrue (class_fits n c.class)) cs) (sym are)
    (subst (λ (cs : List Constraint). All (λ c. IsTrue (class_fits n c.class)) (numbered cs members)) (sym same)
    (numbered-all (λ c. IsTrue (class_fits n c.class)) constraints members fit)))
