-- What teams need, constraint by constraint, and how it goes with their bounds.
use Rattle.std.proofs.Common.{◌≡◌, ℕ, ◌+◌, ◌-◌, ◌*◌, ◌/◌, ◌%◌, ◌≤◌, Bool, true, false, ◌&&◌, ◌||◌, nat_lt, min}
use Rattle.std.proofs.Common.{max, cond}
use Rattle.std.proofs.Common.{List, [], ◌∷◌, ◌++◌, length, refl, arith, ap, sym, ◌∙◌}
use Rattle.std.specs.Prelude.{bytes_eq}
use Rattle.std.specs.List.{fold, list_any, sum_by}
use Rattle.std.proofs.lemmas.Bool.Decides.{nat_tests}
use Rattle.std.proofs.lemmas.List.Elements.{filter-append}
use Rattle.std.proofs.lemmas.List.Folds.{fold_along, list_any-append}
use Rattle.std.proofs.lemmas.List.FromFn.{length-range_with_len}
use Rattle.std.proofs.lemmas.List.Sums.{fold_push}
use Rattle.std.proofs.lemmas.Slice.Eq.{bytes_eq-Decides}
use Rattle.league.proofs.SumLemmas.{sum_by-add, sum_by-same}
use Rattle.league.specs.Accepted.{hard_of}
use Rattle.league.specs.Counts.{teams_of}
use Rattle.league.specs.Instance.{Instance}
use Rattle.league.specs.Sets.{is_in}
use Rattle.league.specs.declared.class.Class.{Class}
use Rattle.league.specs.declared.class.Class.TheVariants.{Ca1, Ca2, Ca3, Ca4, Ga1, Br1, Br2, Fa2, Se1}
use Rattle.league.specs.declared.class.Constraint.{Constraint}
use Rattle.league.specs.declared.class.Side.{Side}
use Rattle.league.specs.declared.class.Side.TheVariants.{H, A, Both}
use Rattle.encoding.proofs.SizeLemmas.{sum_by-constant}
use Rattle.venue_counts.specs.VenueCounts.{allowed_by, are_short, are_crowded, are_those, bound_of}
use Rattle.venue_counts.specs.VenueCounts.{is_crowded_by, is_short_at, is_short_by, is_side}
use Rattle.venue_counts.specs.Needs.{bounds_at, exceeds, exceeds_at, exceeds_by, is_bounded, need_by, need_of, own_need}
use Rattle.venue_counts.specs.declared.limit.Limit.{Limit}
use Rattle.venue_counts.specs.declared.limit.Limit.TheVariants.{Most, Least}

-- ---- the same side and slots

same_side : (s t : Side) → is_side s t ≡ true → s ≡ t
same_side H H is = refl
same_side A A is = refl
same_side Both Both is = refl
same_side H A is = absurd (cc)
same_side H Both is = absurd (cc)
same_side A H is = absurd (cc)
same_side A Both is = absurd (cc)
same_side Both H is = absurd (cc)
same_side Both A is = absurd (cc)

side_itself : (s : Side) → is_side s s ≡ true
side_itself H = refl
side_itself A = refl
side_itself Both = refl

first_of_two : (a b : Bool) → a && b ≡ true → a ≡ true
first_of_two true b is = refl
first_of_two false b is = absurd (cc)

second_of_two : (a b : Bool) → a && b ≡ true → b ≡ true
second_of_two true b is = is
second_of_two false b is = absurd (cc)

both_true : (a b : Bool) → a ≡ true → b ≡ true → a && b ≡ true
both_true true b first second = second
both_true false b first second = absurd (cc)

-- what passes the test is the same
pub those-same : (s t : Side) (xs ys : List ℕ) → are_those s xs t ys ≡ true → (s ≡ t) × (xs ≡ ys)
those-same s t xs ys is = (
  same_side s t (first_of_two (is_side s t) (bytes_eq xs ys) is),
  (bytes_eq-Decides xs ys).0 (second_of_two (is_side s t) (bytes_eq xs ys) is),
)

-- a side and slots pass the test with themselves
pub those-itself : (s : Side) (xs : List ℕ) → are_those s xs s xs ≡ true
those-itself s xs = both_true (is_side s s) (bytes_eq xs xs) (side_itself s) ((bytes_eq-Decides xs xs).1 refl)

-- ---- by constraints, one after another

less_left : (k least allowed need : ℕ) → k - least ≡ need → k - min least allowed ≡ max need (k - allowed)
less_left k least allowed need is = omega (arith, is)

-- the most that a hard constraint makes a team need
abbrev pub need_folded : Limit → List Constraint → Side → List ℕ → ℕ → ℕ
need_folded limit hard side slots i = fold (λ most c. max most (need_by limit side slots i c.class)) 0 hard

need-most : (hard : List Constraint) (side : Side) (slots : List ℕ) (i : ℕ)
    → length slots - fold (λ least c. min least (allowed_by side slots i c.class)) (length slots) hard
    ≡ need_folded Most hard side slots i
need-most hard side slots i =
    fold_along (λ least (c : Constraint). min least (allowed_by side slots i c.class))
    (λ most (c : Constraint). max most (need_by Most side slots i c.class)) (λ least most. length slots - least ≡ most)
    (λ least most c is. less_left (length slots) least (allowed_by side slots i c.class) most is)
    (length slots) 0 hard (let none : length slots - length slots ≡ 0 = omega arith in none)

pub need_of-folded : (limit : Limit) (constraints : List Constraint) (side : Side) (slots : List ℕ) (i : ℕ)
    → need_of limit constraints side slots i ≡ need_folded limit (hard_of constraints) side slots i
need_of-folded Most constraints side slots i = need-most (hard_of constraints) side slots i
need_of-folded Least constraints side slots i = refl

hard_of-push : (constraints : List Constraint) (c : Constraint)
    → hard_of (constraints ++ c ∷ []) ≡ hard_of constraints ++ cond c.hard (c ∷ []) []
hard_of-push constraints c = filter-append (λ (d : Constraint). d.hard) constraints (c ∷ [])

folded-more : (limit : Limit) (hard : List Constraint) (c : Constraint) (here : Bool) (side : Side)
    (slots : List ℕ) (i : ℕ)
    → need_folded limit (hard ++ cond here (c ∷ []) []) side slots i
    ≡ cond here (max (need_folded limit hard side slots i) (need_by limit side slots i c.class))
    (need_folded limit hard side slots i)
folded-more limit hard c true side slots i =
    fold_push (λ most (d : Constraint). max most (need_by limit side slots i d.class)) 0 hard c
folded-more limit hard c false side slots i =
    ap (λ (cs : List Constraint). need_folded limit cs side slots i) (append-none hard) where
      append-none : (cs : List Constraint) → cs ++ [] ≡ cs
      append-none [] = refl
      append-none (d ∷ cs) = ap (λ (ds : List Constraint). d ∷ ds) (append-none cs)

-- one constraint more
pub need_of-push : (limit : Limit) (constraints : List Constraint) (c : Constraint) (side : Side) (slots : List ℕ)
    (i : ℕ)
    → need_of limit (constraints ++ c ∷ []) side slots i
    ≡ cond c.hard (max (need_of limit constraints side slots i) (need_by limit side slots i c.class))
    (need_of limit constraints side slots i)
need_of-push limit constraints c side slots i =
    need_of-folded limit (constraints ++ c ∷ []) side slots i
    ∙ ap (λ (cs : List Constraint). need_folded limit cs side slots i) (hard_of-push constraints c)
    ∙ folded-more limit (hard_of constraints) c c.hard side slots i
    ∙ ap (λ (k : ℕ). cond c.hard (max k (need_by limit side slots i c.class)) k)
    (sym (need_of-folded limit constraints side slots i))

bounded-if : (here : Bool) (c : Constraint) (side : Side) (slots : List ℕ)
    → list_any (λ (d : Constraint). bounds_at side slots d.class) (cond here (c ∷ []) [])
    ≡ (here && bounds_at side slots c.class)
bounded-if true c side slots = or_none (bounds_at side slots c.class) where
  or_none : (b : Bool) → b || false ≡ b
  or_none true = refl
  or_none false = refl
bounded-if false c side slots = refl

pub is_bounded-push : (constraints : List Constraint) (c : Constraint) (side : Side) (slots : List ℕ)
    → is_bounded (constraints ++ c ∷ []) side slots
    ≡ (is_bounded constraints side slots || (c.hard && bounds_at side slots c.class))
is_bounded-push constraints c side slots =
    ap (λ (cs : List Constraint). list_any (λ (d : Constraint). bounds_at side slots d.class) cs)
    (hard_of-push constraints c)
    ∙ list_any-append (λ (d : Constraint). bounds_at side slots d.class) (hard_of constraints) (cond c.hard (c ∷ []) [])
    ∙ ap (λ (b : Bool). is_bounded constraints side slots || b) (bounded-if c.hard c side slots)

-- ---- what one class makes a team need

others_allowed : (here is : Bool) (max count : ℕ) → here ≡ false → count - cond (here && is) max count ≡ 0
others_allowed true is max count other = absurd (cc)
others_allowed false is max count other = omega arith

others_asked : (here is : Bool) (min : ℕ) → here ≡ false → cond (here && is) min 0 ≡ 0
others_asked true is min other = absurd (cc)
others_asked false is min other = refl

none_left : (count : ℕ) → count - count ≡ 0
none_left count = omega arith

-- nothing, where it isn't a CA1 of the side and the slots
pub need_by-others : (limit : Limit) (side : Side) (slots : List ℕ) (i : ℕ) (class : Class)
    → bounds_at side slots class ≡ false → need_by limit side slots i class ≡ 0
need_by-others Most side slots i (Ca1 teams min max other others) is =
    others_allowed (are_those side slots other others) (is_in i teams) max (length slots) is
need_by-others Least side slots i (Ca1 teams min max other others) is =
    others_asked (are_those side slots other others) (is_in i teams) min is
need_by-others Most side slots i (Ca2 teams1 teams2 min max other others) is = none_left (length slots)
need_by-others Most side slots i (Ca3 teams1 teams2 min max intp other) is = none_left (length slots)
need_by-others Most side slots i (Ca4 teams1 teams2 min max other span others) is = none_left (length slots)
need_by-others Most side slots i (Ga1 meetings min max others) is = none_left (length slots)
need_by-others Most side slots i (Br1 teams intp other others) is = none_left (length slots)
need_by-others Most side slots i (Br2 teams intp others) is = none_left (length slots)
need_by-others Most side slots i (Fa2 teams intp others) is = none_left (length slots)
need_by-others Most side slots i (Se1 teams min) is = none_left (length slots)
need_by-others Least side slots i (Ca2 teams1 teams2 min max other others) is = refl
need_by-others Least side slots i (Ca3 teams1 teams2 min max intp other) is = refl
need_by-others Least side slots i (Ca4 teams1 teams2 min max other span others) is = refl
need_by-others Least side slots i (Ga1 meetings min max others) is = refl
need_by-others Least side slots i (Br1 teams intp other others) is = refl
need_by-others Least side slots i (Br2 teams intp others) is = refl
need_by-others Least side slots i (Fa2 teams intp others) is = refl
need_by-others Least side slots i (Se1 teams min) is = refl

own_allowed : (here is : Bool) (max count : ℕ) → here ≡ true
    → count - cond (here && is) max count ≡ cond is (count - max) 0
own_allowed true true max count own = refl
own_allowed true false max count own = omega arith
own_allowed false is max count own = absurd (cc)

own_asked : (here is : Bool) (min : ℕ) → here ≡ true → cond (here && is) min 0 ≡ cond is min 0
own_asked true is min own = refl
own_asked false is min own = absurd (cc)

-- a CA1 at its own side and slots
pub need_by-own : (limit : Limit) (side : Side) (slots teams : List ℕ) (i min max : ℕ)
    → need_by limit side slots i (Ca1 teams min max side slots)
    ≡ cond (is_in i teams) (own_need limit min max (length slots)) 0
need_by-own Most side slots teams i min max =
    own_allowed (are_those side slots side slots) (is_in i teams) max (length slots) (those-itself side slots)
need_by-own Least side slots teams i min max =
    own_asked (are_those side slots side slots) (is_in i teams) min (those-itself side slots)

-- ---- short, and crowded

bound_within : (hard : List Constraint) (side : Side) (slots : List ℕ) (i from : ℕ)
    → fold (λ least c. min least (allowed_by side slots i c.class)) from hard ≤ from
bound_within [] side slots i from = omega arith
bound_within (c ∷ hard) side slots i from =
    omega (arith, bound_within hard side slots i (min from (allowed_by side slots i c.class)))

-- a team's bound and what it needs are all slots
bound_and_need : (constraints : List Constraint) (side : Side) (slots : List ℕ) (i : ℕ)
    → bound_of constraints side slots i + need_of Most constraints side slots i ≡ length slots
bound_and_need constraints side slots i =
    omega (arith, bound_within (hard_of constraints) side slots i (length slots))

short_is : (n bounds needs count : ℕ) → n % 2 ≡ 0 → bounds + needs ≡ n * count
    → nat_lt bounds (count * (n / 2)) ≡ nat_lt (count * (n / 2)) needs
short_is n bounds needs count even all =
    let halves : n ≡ 2 * (n / 2) = omega (arith, even) in
    let split : n * count ≡ 2 * (count * (n / 2)) = omega (arith, ap (λ (k : ℕ). k * count) halves) in
    grind (arith, nat_tests)

pub is_short_at-exceeds : (n : ℕ) (constraints : List Constraint) (side : Side) (slots : List ℕ) → n % 2 ≡ 0
    → is_short_at n constraints side slots ≡ exceeds_at Most n constraints side slots
is_short_at-exceeds n constraints side slots even =
    short_is n (sum_by (bound_of constraints side slots) (teams_of n))
    (sum_by (need_of Most constraints side slots) (teams_of n)) (length slots) even
    (sym (sum_by-add (bound_of constraints side slots) (need_of Most constraints side slots) (teams_of n))
    ∙ sum_by-same (λ i. bound_of constraints side slots i + need_of Most constraints side slots i) (λ i. length slots)
    (λ i. bound_and_need constraints side slots i) (teams_of n)
    ∙ sum_by-constant (length slots) (teams_of n)
    ∙ ap (λ (k : ℕ). k * length slots) (length-range_with_len 0 n))

is_short_by-exceeds : (n : ℕ) (constraints : List Constraint) (class : Class) → n % 2 ≡ 0
    → is_short_by n constraints class ≡ exceeds_by Most n constraints class
is_short_by-exceeds n constraints (Ca1 teams min max side slots) even =
    is_short_at-exceeds n constraints side slots even
is_short_by-exceeds n constraints (Ca2 teams1 teams2 min max other others) even = refl
is_short_by-exceeds n constraints (Ca3 teams1 teams2 min max intp other) even = refl
is_short_by-exceeds n constraints (Ca4 teams1 teams2 min max other span others) even = refl
is_short_by-exceeds n constraints (Ga1 meetings min max others) even = refl
is_short_by-exceeds n constraints (Br1 teams intp other others) even = refl
is_short_by-exceeds n constraints (Br2 teams intp others) even = refl
is_short_by-exceeds n constraints (Fa2 teams intp others) even = refl
is_short_by-exceeds n constraints (Se1 teams min) even = refl

is_crowded_by-exceeds : (n : ℕ) (constraints : List Constraint) (class : Class)
    → is_crowded_by n constraints class ≡ exceeds_by Least n constraints class
is_crowded_by-exceeds n constraints (Ca1 teams min max side slots) = refl
is_crowded_by-exceeds n constraints (Ca2 teams1 teams2 min max other others) = refl
is_crowded_by-exceeds n constraints (Ca3 teams1 teams2 min max intp other) = refl
is_crowded_by-exceeds n constraints (Ca4 teams1 teams2 min max other span others) = refl
is_crowded_by-exceeds n constraints (Ga1 meetings min max others) = refl
is_crowded_by-exceeds n constraints (Br1 teams intp other others) = refl
is_crowded_by-exceeds n constraints (Br2 teams intp others) = refl
is_crowded_by-exceeds n constraints (Fa2 teams intp others) = refl
is_crowded_by-exceeds n constraints (Se1 teams min) = refl

any-same : {X : Type 0} (p q : X → Bool) → ((x : X) → p x ≡ q x) → (xs : List X) → list_any p xs ≡ list_any q xs
any-same p q same [] = refl
any-same p q same (x ∷ xs) =
    ap (λ (b : Bool). b || list_any p xs) (same x) ∙ ap (λ (b : Bool). q x || b) (any-same p q same xs)

pub are_short-exceeds : (league : Instance) → league.n % 2 ≡ 0
    → are_short league ≡ exceeds Most league.n league.constraints
are_short-exceeds league even =
    any-same (λ (c : Constraint). is_short_by league.n league.constraints c.class)
    (λ (c : Constraint). exceeds_by Most league.n league.constraints c.class)
    (λ c. is_short_by-exceeds league.n league.constraints c.class even) (hard_of league.constraints)

pub are_crowded-exceeds : (league : Instance) → are_crowded league ≡ exceeds Least league.n league.constraints
are_crowded-exceeds league =
    any-same (λ (c : Constraint). is_crowded_by league.n league.constraints c.class)
    (λ (c : Constraint). exceeds_by Least league.n league.constraints c.class)
    (λ c. is_crowded_by-exceeds league.n league.constraints c.class) (hard_of league.constraints)
