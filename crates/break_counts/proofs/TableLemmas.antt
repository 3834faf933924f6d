-- What each team is allowed, constraint by constraint, and what all are allowed together.
use Rattle.std.proofs.Common.{◌≡◌, ℕ, ◌+◌, ◌-◌, ◌*◌, ◌<◌, ◌≤◌, Bool, true, false, not, ◌&&◌, ◌||◌, min, cond}
use Rattle.std.proofs.Common.{List, [], ◌∷◌, ◌++◌, length, get_or, take, refl, arith, ap, sym, ◌∙◌}
use Rattle.std.specs.Prelude.{sum}
use Rattle.std.specs.List.{filter, fold, list_all, list_any, range_with_len, sum_by}
use Rattle.std.proofs.lemmas.Bool.{false_from_ne_true, false≢true, lt-ltb}
use Rattle.std.proofs.lemmas.List.{append-nil, take_all, take_more}
use Rattle.std.proofs.lemmas.List.Elements.{filter-append}
use Rattle.std.proofs.lemmas.List.Folds.{list_all-append, list_any_at}
use Rattle.std.proofs.lemmas.List.FromFn.{fill_by_all}
use Rattle.std.proofs.lemmas.List.Sums.{fold_push, sum_by-append, sum-map}
use Rattle.league.specs.Accepted.{hard_of}
use Rattle.league.specs.Counts.{teams_of}
use Rattle.league.specs.Sets.{is_in}
use Rattle.league.specs.declared.class.Class.{Class}
use Rattle.league.specs.declared.class.Class.TheVariants.{Ca1, Ca2, Ca3, Ca4, Ga1, Br1, Br2, Fa2, Se1}
use Rattle.league.specs.declared.class.Constraint.{Constraint}
use Rattle.league.specs.declared.class.Side.{Side}
use Rattle.league.specs.declared.class.Side.TheVariants.{H, A, Both}
use Rattle.league.proofs.OneTermLemmas.{sum_by-range_same}
use Rattle.league.proofs.RangeLemmas.{range_with_len-more}
use Rattle.league.proofs.SumLemmas.{sum_by-filter}
use Rattle.rows.proofs.ListLemmas.{list_all-at}
use Rattle.break_counts.specs.BreakCounts.{allowed_by, allowed_of, allowed_on, allowed_singly, allowed_with, covers}
use Rattle.break_counts.specs.BreakCounts.{is_few_in, is_few_with}
use Rattle.break_counts.specs.Tables.{IsTable, IsTableOn, IsUniform}
use Rattle.break_counts.specs.declared.stretch.Stretch.{Stretch}

-- ---- a range that all passes a test, number by number

pub passes-more : (p : ℕ → Bool) (first d : ℕ) → 1 ≤ d → list_all p (range_with_len (first + 1) (d - 1)) ≡ true
    → p (first + d) ≡ true → list_all p (range_with_len (first + 1) (d + 1 - 1)) ≡ true
passes-more p first d some so_far here =
    let more : d + 1 - 1 ≡ d - 1 + 1 = omega (arith, some) in
    let place : first + 1 + (d - 1) ≡ first + d = omega (arith, some) in
    ap (λ (k : ℕ). list_all p (range_with_len (first + 1) k)) more
    ∙ ap (list_all p) (range_with_len-more (first + 1) (d - 1))
    ∙ list_all-append p (range_with_len (first + 1) (d - 1)) ((first + 1 + (d - 1)) ∷ [])
    ∙ ap (λ (b : Bool). b && list_all p ((first + 1 + (d - 1)) ∷ [])) so_far
    ∙ ap (λ (k : ℕ). list_all p (k ∷ [])) place
    ∙ ap (λ (b : Bool). b && true) here

pub fails-at : (p : ℕ → Bool) (a k x : ℕ) → a ≤ x → x < a + k → p x ≡ false → false ≡ list_all p (range_with_len a k)
fails-at p a k x low high fails =
    sym (false_from_ne_true (list_all p (range_with_len a k))
    (λ all. false≢true (sym fails ∙ list_all-at p a k x all low high)))

-- ---- one constraint more

hard_of-more : (constraints : List Constraint) (k : ℕ) (c : Constraint) → k < length constraints
    → c ≡ get_or constraints k c
    → hard_of (take (k + 1) constraints) ≡ hard_of (take k constraints) ++ cond c.hard (c ∷ []) []
hard_of-more constraints k c there is =
    ap hard_of (take_more constraints k c there ∙ ap (λ (d : Constraint). take k constraints ++ d ∷ []) (sym is))
    ∙ filter-append (λ (d : Constraint). d.hard) (take k constraints) (c ∷ [])

folded-more : (stretches : List Stretch) (side : Side) (i : ℕ) (hard : List Constraint) (c : Constraint) (here : Bool)
    → fold (λ least d. min least (allowed_by stretches side i d.class)) (length stretches)
    (hard ++ cond here (c ∷ []) [])
    ≡ cond here
    (min (fold (λ least d. min least (allowed_by stretches side i d.class)) (length stretches) hard)
    (allowed_by stretches side i c.class))
    (fold (λ least d. min least (allowed_by stretches side i d.class)) (length stretches) hard)
folded-more stretches side i hard c true =
    fold_push (λ least (d : Constraint). min least (allowed_by stretches side i d.class)) (length stretches) hard c
folded-more stretches side i hard c false =
    ap (λ (cs : List Constraint).
    fold (λ least (d : Constraint). min least (allowed_by stretches side i d.class)) (length stretches) cs)
    (append-nil hard)

allowed_on-more : (constraints : List Constraint) (stretches : List Stretch) (side : Side) (i k : ℕ) (c : Constraint)
    → k < length constraints → c ≡ get_or constraints k c
    → allowed_on (take (k + 1) constraints) stretches side i
    ≡ cond c.hard (min (allowed_on (take k constraints) stretches side i) (allowed_by stretches side i c.class))
    (allowed_on (take k constraints) stretches side i)
allowed_on-more constraints stretches side i k c there is =
    ap (λ (cs : List Constraint).
    fold (λ least (d : Constraint). min least (allowed_by stretches side i d.class)) (length stretches) cs)
    (hard_of-more constraints k c there is)
    ∙ folded-more stretches side i (hard_of (take k constraints)) c c.hard

folded-le : (stretches : List Stretch) (side : Side) (i least : ℕ) (hard : List Constraint)
    → fold (λ a d. min a (allowed_by stretches side i d.class)) least hard ≤ least
folded-le stretches side i least [] = omega arith
folded-le stretches side i least (c ∷ hard) =
    omega (arith, folded-le stretches side i (min least (allowed_by stretches side i c.class)) hard)

pub allowed_on-le : (constraints : List Constraint) (stretches : List Stretch) (side : Side) (i : ℕ)
    → allowed_on constraints stretches side i ≤ length stretches
allowed_on-le constraints stretches side i = folded-le stretches side i (length stretches) (hard_of constraints)

pub table-start : (n : ℕ) (constraints : List Constraint) (stretches : List Stretch) (side : Side) (table : List ℕ)
    → length table ≡ n → IsUniform (length stretches) table → IsTableOn n (take 0 constraints) stretches side table
table-start n constraints stretches side table count uniform = record {
  count = count;
  each = λ i below. uniform i (omega (arith, below, count));
}

pub table-more : (n : ℕ) (constraints : List Constraint) (stretches : List Stretch) (side : Side)
    (before after : List ℕ) (k : ℕ) (c : Constraint) → k < length constraints → c ≡ get_or constraints k c
    → length after ≡ length before
    → ((i : ℕ) → get_or before i 0 ≤ length stretches → get_or after i 0
    ≡ cond c.hard (min (get_or before i 0) (allowed_by stretches side i c.class)) (get_or before i 0))
    → IsTableOn n (take k constraints) stretches side before
    → IsTableOn n (take (k + 1) constraints) stretches side after
table-more n constraints stretches side before after k c there is same lowered so_far = record {
  count = same ∙ so_far.count;
  each = λ i below.
      (let known : get_or before i 0 ≡ allowed_on (take k constraints) stretches side i = so_far.each i below in
      lowered i (omega (arith, known, allowed_on-le (take k constraints) stretches side i))
      ∙ ap (λ (a : ℕ). cond c.hard (min a (allowed_by stretches side i c.class)) a) known
      ∙ sym (allowed_on-more constraints stretches side i k c there is));
}

-- both sides
pub table-both : (n : ℕ) (constraints : List Constraint) (stretches : List Stretch) (both home away table : List ℕ)
    → IsTableOn n constraints stretches Both both → IsTableOn n constraints stretches H home
    → IsTableOn n constraints stretches A away → length table ≡ length both
    → ((i : ℕ) → i < length both → get_or table i 0 ≡ min (get_or both i 0) (get_or home i 0 + get_or away i 0))
    → IsTable n constraints stretches table
table-both n constraints stretches both home away table on_both on_home on_away same lowered = record {
  count = same ∙ on_both.count;
  each = λ i below.
      omega (
        arith,
        lowered i (omega (arith, below, on_both.count)),
        on_both.each i below,
        on_home.each i below,
        on_away.each i below,
      );
}

pub sums-small : (n : ℕ) (constraints : List Constraint) (stretches : List Stretch) (home away : List ℕ)
    → IsTableOn n constraints stretches H home → IsTableOn n constraints stretches A away → length stretches ≤ 2
    → (i : ℕ) → i < n → get_or home i 0 + get_or away i 0 ≤ 4
sums-small n constraints stretches home away on_home on_away few i below =
    omega (
      arith,
      on_home.each i below,
      on_away.each i below,
      allowed_on-le constraints stretches H i,
      allowed_on-le constraints stretches A i,
      few,
    )

-- ---- all teams together

pub singly-total : (n : ℕ) (constraints : List Constraint) (stretches : List Stretch) (table : List ℕ) (total : ℕ)
    → IsTable n constraints stretches table → total ≡ sum table → total ≡ allowed_singly n constraints stretches
singly-total n constraints stretches table total is summed =
    summed
    ∙ ap sum (fill_by_all (allowed_of constraints stretches) table n 0 is.count is.each)
    ∙ sum-map (allowed_of constraints stretches) (teams_of n)

same-if : (b : Bool) (x y : ℕ) → x ≡ y → cond b x 0 ≡ cond b y 0
same-if b x y same = ap (λ (k : ℕ). cond b k 0) same

-- of those that pass a test
pub outside-total : (n : ℕ) (constraints : List Constraint) (stretches : List Stretch) (table : List ℕ) (out : ℕ → Bool)
    → IsTable n constraints stretches table
    → sum_by (λ i. get_or table i 0) (filter out (range_with_len 0 (length table)))
    ≡ sum_by (allowed_of constraints stretches) (filter out (teams_of n))
outside-total n constraints stretches table out is =
    let f : ℕ → ℕ = λ i. get_or table i 0 in
    let g : ℕ → ℕ = allowed_of constraints stretches in
    ap (λ (k : ℕ). sum_by f (filter out (range_with_len 0 k))) is.count
    ∙ sum_by-filter f out (teams_of n)
    ∙ sum_by-range_same (λ i. cond (out i) (f i) 0) (λ i. cond (out i) (g i) 0) 0 n
    (λ i low high. same-if (out i) (f i) (g i) (is.each i (omega (arith, high))))
    ∙ sym (sum_by-filter g out (teams_of n))

filtered-one : (f : ℕ → ℕ) (b : Bool) (k : ℕ) → sum_by f (cond b (k ∷ []) []) ≡ cond b (f k) 0
filtered-one f true k = omega arith
filtered-one f false k = refl

passing-more : (f : ℕ → ℕ) (p : ℕ → Bool) (k : ℕ)
    → sum_by f (filter p (range_with_len 0 (k + 1))) ≡ sum_by f (filter p (range_with_len 0 k)) + cond (p k) (f k) 0
passing-more f p k =
    let place : 0 + k ≡ k = omega arith in
    ap (λ (xs : List ℕ). sum_by f (filter p xs)) (range_with_len-more 0 k)
    ∙ ap (λ (x : ℕ). sum_by f (filter p (range_with_len 0 k ++ x ∷ []))) place
    ∙ ap (sum_by f) (filter-append p (range_with_len 0 k) (k ∷ []))
    ∙ sum_by-append f (filter p (range_with_len 0 k)) (cond (p k) (k ∷ []) [])
    ∙ ap (λ (x : ℕ). sum_by f (filter p (range_with_len 0 k)) + x) (filtered-one f (p k) k)

pub passing-taken : (f : ℕ → ℕ) (p : ℕ → Bool) (k so_far next : ℕ)
    → so_far ≡ sum_by f (filter p (range_with_len 0 k)) → p k ≡ true → next ≡ so_far + f k
    → next ≡ sum_by f (filter p (range_with_len 0 (k + 1)))
passing-taken f p k so_far next is passes more =
    omega (arith, more, is, passing-more f p k, ap (λ (b : Bool). cond b (f k) 0) passes)

pub passing-left : (f : ℕ → ℕ) (p : ℕ → Bool) (k so_far next : ℕ) → so_far ≡ sum_by f (filter p (range_with_len 0 k))
    → p k ≡ false → next ≡ so_far → next ≡ sum_by f (filter p (range_with_len 0 (k + 1)))
passing-left f p k so_far next is fails same =
    omega (arith, same, is, passing-more f p k, ap (λ (b : Bool). cond b (f k) 0) fails)

-- a class that is no BR2
abbrev pub IsNoBr2 : Class → Type 0
IsNoBr2 class = (teams : List ℕ) (intp : ℕ) (slots : List ℕ) → class ≡ Br2 teams intp slots → ⊥

pub singly-other : (n : ℕ) (constraints : List Constraint) (stretches : List Stretch) (class : Class) → IsNoBr2 class
    → allowed_singly n constraints stretches ≡ allowed_with n constraints stretches class
singly-other n constraints stretches (Br2 teams intp slots) is = absurd (is teams intp slots refl)
singly-other n constraints stretches (Br1 teams intp side slots) is = refl
singly-other n constraints stretches (Ca1 teams min max other others) is = refl
singly-other n constraints stretches (Ca2 teams1 teams2 min max other others) is = refl
singly-other n constraints stretches (Ca3 teams1 teams2 min max intp other) is = refl
singly-other n constraints stretches (Ca4 teams1 teams2 min max other span others) is = refl
singly-other n constraints stretches (Ga1 meetings min max others) is = refl
singly-other n constraints stretches (Fa2 teams intp others) is = refl
singly-other n constraints stretches (Se1 teams min) is = refl

pub with-br2 : (n : ℕ) (constraints : List Constraint) (stretches : List Stretch) (class : Class) (teams slots : List ℕ)
    (intp : ℕ) (covered : Bool) → class ≡ Br2 teams intp slots → covers slots stretches ≡ covered
    → allowed_with n constraints stretches class
    ≡ cond covered
    (intp + sum_by (allowed_of constraints stretches) (filter (λ i. not (is_in i teams)) (teams_of n)))
    (allowed_singly n constraints stretches)
with-br2 n constraints stretches class teams slots intp covered is covers_are =
    ap (allowed_with n constraints stretches) is
    ∙ ap (λ (b : Bool). cond b
    (intp + sum_by (allowed_of constraints stretches) (filter (λ i. not (is_in i teams)) (teams_of n)))
    (allowed_singly n constraints stretches)) covers_are

-- ---- a constraint with which too little is allowed

any-hard : (p : Constraint → Bool) (constraints : List Constraint)
    → list_any (λ c. c.hard && p c) constraints ≡ list_any p (hard_of constraints)
any-hard p [] = refl
any-hard p (c ∷ constraints) = by_hard c.hard (any-hard p constraints) where
  by_hard : (b : Bool) → list_any (λ d. d.hard && p d) constraints ≡ list_any p (hard_of constraints)
      → (b && p c) || list_any (λ d. d.hard && p d) constraints
      ≡ list_any p (cond b (c ∷ hard_of constraints) (hard_of constraints))
  by_hard true later = ap (λ (x : Bool). p c || x) later
  by_hard false later = later

pub few-at : (n : ℕ) (constraints shown : List Constraint) (stretches : List Stretch) (k allowed : ℕ) (c : Constraint)
    → shown ≡ constraints → k < length shown → c ≡ get_or shown k c → c.hard ≡ true
    → allowed ≡ allowed_with n constraints stretches c.class → allowed < length stretches * (n - 2)
    → true ≡ is_few_in n constraints stretches
few-at n constraints shown stretches k allowed c same there is hard told below =
    let p : Constraint → Bool = λ d. is_few_with n constraints stretches d.class in
    let few : p c ≡ true =
    lt-ltb (allowed_with n constraints stretches c.class) (length stretches * (n - 2)) (omega (arith, told, below)) in
    let passes : c.hard && p c ≡ true = ap (λ (b : Bool). b && p c) hard ∙ few in
    sym (ap (λ (cs : List Constraint). list_any p (hard_of cs)) (sym same)
    ∙ sym (any-hard p shown)
    ∙ list_any_at (λ (d : Constraint). d.hard && p d) shown k c there
    (ap (λ (d : Constraint). d.hard && p d) (sym is) ∙ passes))

pub none-few : (n : ℕ) (constraints shown : List Constraint) (stretches : List Stretch) (k : ℕ) → shown ≡ constraints
    → length shown ≤ k
    → list_any (λ c. c.hard && is_few_with n constraints stretches c.class) (take k shown) ≡ false
    → false ≡ is_few_in n constraints stretches
none-few n constraints shown stretches k same whole none =
    let p : Constraint → Bool = λ d. is_few_with n constraints stretches d.class in
    sym (ap (λ (cs : List Constraint). list_any p (hard_of cs)) (sym same)
    ∙ sym (any-hard p shown)
    ∙ ap (list_any (λ (d : Constraint). d.hard && p d)) (sym (take_all k shown whole))
    ∙ none)
