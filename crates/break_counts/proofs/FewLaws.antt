-- What hard constraints allow is an upper bound of what an accepted schedule has: so one that allows too little accepts
-- none.
use Rattle.std.proofs.Common.{◌≡◌, ℕ, ◌+◌, ◌-◌, ◌*◌, ◌≤◌, Bool, true, false, not, ◌&&◌, ◌||◌, ◌==◌, nat_lt, min, cond, get_or}
use Rattle.std.proofs.Common.{List, [], ◌∷◌, length, map, inl, inr, refl, arith, ap, sym, ◌∙◌}
use Rattle.std.specs.List.{All, filter, fold, list_all, list_any, range_with_len, sum_by}
use Rattle.std.proofs.lemmas.Bool.Decides.{nat_tests}
use Rattle.std.proofs.lemmas.Bool.{and_parts, cond-true, cond_both, eqb-true, ltb-true, or_cases}
use Rattle.std.proofs.lemmas.List.Elements.{All-cons, All-head, All-nil, All-tail}
use Rattle.std.proofs.lemmas.List.Sums.{sum_by-cons, sum_by-le, sum_by-le-sum_by}
use Rattle.league.specs.Accepted.{IsAccepted, hard_of}
use Rattle.league.specs.Breaks.{all_breaks, br1_entry, breaks_among, breaks_at}
use Rattle.league.specs.Counts.{Counts, slot_count, teams_of}
use Rattle.league.specs.Deviation.{vector_of}
use Rattle.league.specs.Instance.{Instance, IsInstance}
use Rattle.league.specs.Sets.{is_in}
use Rattle.league.specs.Structure.{IsPlayedOnce}
use Rattle.league.specs.declared.class.Class.{Class}
use Rattle.league.specs.declared.class.Class.TheVariants.{Ca1, Ca2, Ca3, Ca4, Ga1, Br1, Br2, Fa2, Se1}
use Rattle.league.specs.declared.class.Constraint.{Constraint}
use Rattle.league.specs.declared.class.Side.{Side}
use Rattle.league.specs.declared.class.Side.TheVariants.{H, A, Both}
use Rattle.league.proofs.OneTermLemmas.{sum_by-swap}
use Rattle.league.proofs.RangeLemmas.{one_if, one_if-le}
use Rattle.league.proofs.RoundRobinLemmas.{IsPlayedOnce-of}
use Rattle.league.proofs.SumLemmas.{sum_by-add, sum_by-filter, sum_by-same}
use Rattle.rows.proofs.ListLemmas.{list_all-at, sum_by-range-append, sum_by-range-part}
use Rattle.venue_counts.specs.VenueCounts.{is_side}
use Rattle.break_counts.specs.BreakCounts.{FewBreaksAllowNone, allowed_by, allowed_of, allowed_on, allowed_singly}
use Rattle.break_counts.specs.BreakCounts.{allowed_with, covers, is_few_in, is_few_with, later_slots}
use Rattle.break_counts.specs.BreakCounts.{stretch, stretches_of}
use Rattle.break_counts.specs.declared.stretch.Stretch.{Stretch}
use Rattle.break_counts.proofs.MetLemmas.{first_half-met, season-met, second_half-met}
use Rattle.break_counts.proofs.RangeSums.{only_in, only_in-le, range_le}
use Rattle.break_counts.proofs.StretchLemmas.{IsMet, all_but_two}

-- ---- stretches one behind another

-- so that their slots differ
abbrev pub Follow : ℕ → List Stretch → ℕ → Type 0
Follow from [] end = from ≤ end
Follow from (t ∷ stretches) end = (from ≤ t.first) × (1 ≤ t.count) × Follow (t.first + t.count) stretches end

abbrev pub before : (ℕ → ℕ) → ℕ → ℕ
before g k = sum_by g (range_with_len 0 k)

later_before : (g : ℕ → ℕ) (t : Stretch) (from : ℕ) → from ≤ t.first → 1 ≤ t.count
    → sum_by g (later_slots t) + before g from ≤ before g (t.first + t.count)
later_before g t from low some =
    let place : 0 + (t.first + 1) ≡ t.first + 1 = omega arith in
    let end : t.first + 1 + (t.count - 1) ≡ t.first + t.count = omega (arith, some) in
    omega (
      arith,
      sum_by-range-append g 0 (t.first + 1) (t.count - 1),
      ap (λ (a : ℕ). sum_by g (range_with_len a (t.count - 1))) place,
      ap (before g) end,
      sum_by-range-part g 0 (t.first + 1) 0 from (omega arith) (omega (arith, low)),
    )

-- a sum over all their later slots
pub all_later : (g : ℕ → ℕ) (stretches : List Stretch) (from end : ℕ) → Follow from stretches end
    → sum_by (λ t. sum_by g (later_slots t)) stretches + before g from ≤ before g end
all_later g [] from end follow = omega (arith, sum_by-range-part g 0 end 0 from (omega arith) (omega (arith, follow)))
all_later g (t ∷ stretches) from end follow =
    omega (
      arith,
      sum_by-cons (λ (u : Stretch). sum_by g (later_slots u)) t stretches,
      later_before g t from follow.0 follow.1,
      all_later g stretches (t.first + t.count) end follow.2,
    )

-- numbers at their later slots that are no more where all these pass a test
pub tested_le : (g h : ℕ → ℕ) (p : ℕ → Bool) → ((s : ℕ) → p s ≡ true → g s ≤ h s) → (stretches : List Stretch)
    → list_all (λ t. list_all p (later_slots t)) stretches ≡ true
    → sum_by (λ t. sum_by g (later_slots t)) stretches ≤ sum_by (λ t. sum_by h (later_slots t)) stretches
tested_le g h p each [] passes = omega arith
tested_le g h p each (t ∷ stretches) passes =
    let parts = and_parts (list_all p (later_slots t)) (list_all (λ u. list_all p (later_slots u)) stretches) passes in
    omega (
      arith,
      sum_by-cons (λ (u : Stretch). sum_by g (later_slots u)) t stretches,
      sum_by-cons (λ (u : Stretch). sum_by h (later_slots u)) t stretches,
      range_le g h (t.first + 1) (t.count - 1)
          (λ x low high. each x (list_all-at p (t.first + 1) (t.count - 1) x parts.0 low high)),
      tested_le g h p each stretches parts.1,
    )

-- what is counted at the later slots is counted at slots that cover them
covered_le : (g : ℕ → ℕ) (slots : List ℕ) (stretches : List Stretch) → covers slots stretches ≡ true
    → sum_by (λ t. sum_by g (later_slots t)) stretches
    ≤ sum_by (λ t. sum_by (only_in slots g) (later_slots t)) stretches
covered_le g slots stretches covered =
    tested_le g (only_in slots g) (λ s. is_in s slots)
    (λ s within. (let kept : only_in slots g s ≡ g s = cond-true (is_in s slots) (g s) 0 within in omega (arith, kept)))
    stretches covered

pub counted_le : (g : ℕ → ℕ) (slots : List ℕ) (stretches : List Stretch) (end : ℕ) → Follow 0 stretches end
    → covers slots stretches ≡ true → sum_by (λ t. sum_by g (later_slots t)) stretches ≤ sum_by g slots
counted_le g slots stretches end follow covered =
    omega (
      arith,
      covered_le g slots stretches covered,
      all_later (only_in slots g) stretches 0 end follow,
      only_in-le g slots end,
    )

-- ---- hard constraints of an accepted schedule

-- a member's entry
pub member_entry : (f : ℕ → ℕ) (xs : List ℕ) (i : ℕ) → All (λ e. e ≡ 0) (map f xs) → is_in i xs ≡ true → f i ≡ 0
member_entry f [] i none member = absurd (cc)
member_entry f (x ∷ xs) i none member =
    elim (or_cases (x == i) (is_in i xs) member) [
      | inl here ↦ ap f (sym (eqb-true x i here)) ∙ All-head (λ e. e ≡ 0) (f x) (map f xs) none
      | inr later ↦ member_entry f xs i (All-tail (λ e. e ≡ 0) (f x) (map f xs) none) later
    ]

pub same_side : (s t : Side) → is_side s t ≡ true → s ≡ t
same_side H H is = refl
same_side A A is = refl
same_side Both Both is = refl
same_side H A is = absurd (cc)
same_side H Both is = absurd (cc)
same_side A H is = absurd (cc)
same_side A Both is = absurd (cc)
same_side Both H is = absurd (cc)
same_side Both A is = absurd (cc)

-- a number counts in a set or outside of it
pub parted : (b : Bool) (k : ℕ) → k ≡ cond b k 0 + cond (not b) k 0
parted true k = omega arith
parted false k = omega arith

module _ (n : ℕ) (m : Counts) (stretches : List Stretch) (end : ℕ) (follow : Follow 0 stretches end) where
  -- in how many of the stretches a team has a break on a side
  abbrev pub broken : Side → ℕ → ℕ
  broken side i = sum_by (λ t. one_if (nat_lt 0 (breaks_among n m side (later_slots t) i))) stretches

  pub one_le : (b : Bool) (k : ℕ) → nat_lt 0 k ≡ b → one_if b ≤ k
  one_le true k is = omega (arith, ltb-true 0 k is)
  one_le false k is = omega arith

  broken-length : (side : Side) (i : ℕ) → broken side i ≤ length stretches
  broken-length side i =
      omega (
        arith,
        sum_by-le (λ (t : Stretch). one_if (nat_lt 0 (breaks_among n m side (later_slots t) i))) 1 stretches
            (λ k d within. one_if-le (nat_lt 0 (breaks_among n m side (later_slots (get_or stretches k d)) i))),
      )

  -- no more than the breaks at slots that cover them
  broken-breaks : (side : Side) (slots : List ℕ) (i : ℕ) → covers slots stretches ≡ true
      → broken side i ≤ breaks_among n m side slots i
  broken-breaks side slots i covered =
      let g : ℕ → ℕ = λ s. breaks_at n m side i s in
      omega (
        arith,
        sum_by-le-sum_by (λ (t : Stretch). one_if (nat_lt 0 (breaks_among n m side (later_slots t) i)))
            (λ (t : Stretch). sum_by g (later_slots t)) stretches
            (λ t. one_le (nat_lt 0 (breaks_among n m side (later_slots t) i)) (sum_by g (later_slots t)) refl),
        counted_le g slots stretches end follow covered,
      )

  -- a constraint that is met
  br1-le : (teams slots : List ℕ) (intp : ℕ) (side other : Side) (i : ℕ)
      → All (λ e. e ≡ 0) (map (br1_entry n m intp other slots) teams)
      → is_side side other && is_in i teams && covers slots stretches ≡ true → broken side i ≤ intp
  br1-le teams slots intp side other i met counts =
      let outer = and_parts (is_side side other && is_in i teams) (covers slots stretches) counts in
      let inner = and_parts (is_side side other) (is_in i teams) outer.0 in
      let same : side ≡ other = same_side side other inner.0 in
      let entry : br1_entry n m intp other slots i ≡ 0 =
      member_entry (br1_entry n m intp other slots) teams i met inner.1 in
      omega (
        arith,
        entry,
        broken-breaks other slots i outer.1,
        ap (λ (s : Side). broken s i) same,
      )

  allowed-by : (class : Class) (side : Side) (i : ℕ) → All (λ e. e ≡ 0) (vector_of n m class)
      → broken side i ≤ allowed_by stretches side i class
  allowed-by (Br1 teams intp other slots) side i met =
      cond_both (is_side side other && is_in i teams && covers slots stretches) intp (length stretches)
      (λ (k : ℕ). broken side i ≤ k) (λ yes. br1-le teams slots intp side other i met yes)
      (λ no. broken-length side i)
  allowed-by (Ca1 teams min max other others) side i met = broken-length side i
  allowed-by (Ca2 teams1 teams2 min max other others) side i met = broken-length side i
  allowed-by (Ca3 teams1 teams2 min max intp other) side i met = broken-length side i
  allowed-by (Ca4 teams1 teams2 min max other span others) side i met = broken-length side i
  allowed-by (Ga1 meetings min max others) side i met = broken-length side i
  allowed-by (Br2 teams intp others) side i met = broken-length side i
  allowed-by (Fa2 teams intp others) side i met = broken-length side i
  allowed-by (Se1 teams min) side i met = broken-length side i

  -- constraints that are met
  abbrev AreMet : List Constraint → Type 0
  AreMet hard = All (λ c. All (λ e. e ≡ 0) (vector_of n m c.class)) hard

  folded-le : (hard : List Constraint) (side : Side) (i least : ℕ) → AreMet hard → broken side i ≤ least
      → broken side i ≤ fold (λ a c. min a (allowed_by stretches side i c.class)) least hard
  folded-le [] side i least met so_far = so_far
  folded-le (c ∷ hard) side i least met so_far =
      folded-le hard side i (min least (allowed_by stretches side i c.class))
      (All-tail (λ (d : Constraint). All (λ e. e ≡ 0) (vector_of n m d.class)) c hard met)
      (omega (
        arith,
        so_far,
        allowed-by c.class side i
            (All-head (λ (d : Constraint). All (λ e. e ≡ 0) (vector_of n m d.class)) c hard met),
      ))

  -- breaks on both sides are those on either
  either_side : (a b : ℕ) → one_if (nat_lt 0 (a + b)) ≤ one_if (nat_lt 0 a) + one_if (nat_lt 0 b)
  either_side a b = grind (arith, nat_tests)

  broken-sides : (i : ℕ) → broken Both i ≤ broken H i + broken A i
  broken-sides i =
      let on : Side → Stretch → ℕ = λ side t. breaks_among n m side (later_slots t) i in
      omega (
        arith,
        sum_by-le-sum_by (λ (t : Stretch). one_if (nat_lt 0 (on Both t)))
            (λ (t : Stretch). one_if (nat_lt 0 (on H t)) + one_if (nat_lt 0 (on A t))) stretches
            (λ t.
            (let both : on Both t ≡ on H t + on A t =
            sum_by-add (λ s. breaks_at n m H i s) (λ s. breaks_at n m A i s) (later_slots t) in
            omega (arith, either_side (on H t) (on A t), ap (λ (k : ℕ). one_if (nat_lt 0 k)) both))),
        sum_by-add (λ (t : Stretch). one_if (nat_lt 0 (on H t))) (λ t. one_if (nat_lt 0 (on A t))) stretches,
      )

  module _ (constraints : List Constraint) (met : AreMet (hard_of constraints)) where
    allowed-on : (side : Side) (i : ℕ) → broken side i ≤ allowed_on constraints stretches side i
    allowed-on side i = folded-le (hard_of constraints) side i (length stretches) met (broken-length side i)

    pub allowed-of : (i : ℕ) → broken Both i ≤ allowed_of constraints stretches i
    allowed-of i = omega (arith, allowed-on Both i, allowed-on H i, allowed-on A i, broken-sides i)

    singly : sum_by (broken Both) (teams_of n) ≤ allowed_singly n constraints stretches
    singly = sum_by-le-sum_by (broken Both) (allowed_of constraints stretches) (teams_of n) allowed-of

    together : (teams slots : List ℕ) (intp : ℕ) → all_breaks n m teams slots ≤ intp → covers slots stretches ≡ true
        → sum_by (broken Both) (teams_of n)
        ≤ intp + sum_by (allowed_of constraints stretches) (filter (λ i. not (is_in i teams)) (teams_of n))
    together teams slots intp few covered =
        let f : ℕ → ℕ = broken Both in
        let out : ℕ → Bool = λ i. not (is_in i teams) in
        omega (
          arith,
          sum_by-same f (λ i. only_in teams f i + cond (out i) (f i) 0) (λ i. parted (is_in i teams) (f i)) (teams_of n),
          sum_by-add (only_in teams f) (λ i. cond (out i) (f i) 0) (teams_of n),
          only_in-le f teams n,
          sum_by-le-sum_by f (breaks_among n m Both slots) teams (λ i. broken-breaks Both slots i covered),
          few,
          sum_by-filter f out (teams_of n),
          sum_by-le-sum_by f (allowed_of constraints stretches) (filter out (teams_of n)) allowed-of,
        )

    pub allowed-with : (class : Class) → All (λ e. e ≡ 0) (vector_of n m class)
        → sum_by (broken Both) (teams_of n) ≤ allowed_with n constraints stretches class
    allowed-with (Br2 teams intp slots) here =
        cond_both (covers slots stretches)
        (intp + sum_by (allowed_of constraints stretches) (filter (λ i. not (is_in i teams)) (teams_of n)))
        (allowed_singly n constraints stretches) (λ (k : ℕ). sum_by (broken Both) (teams_of n) ≤ k)
        (λ yes.
        together teams slots intp
        (omega (arith, All-head (λ e. e ≡ 0) (all_breaks n m teams slots - intp) [] here)) yes)
        (λ no. singly)
    allowed-with (Br1 teams intp side slots) here = singly
    allowed-with (Ca1 teams min max other others) here = singly
    allowed-with (Ca2 teams1 teams2 min max other others) here = singly
    allowed-with (Ca3 teams1 teams2 min max intp other) here = singly
    allowed-with (Ca4 teams1 teams2 min max other span others) here = singly
    allowed-with (Ga1 meetings min max others) here = singly
    allowed-with (Fa2 teams intp others) here = singly
    allowed-with (Se1 teams min) here = singly

    -- all teams but two have a break in each stretch
    pub needed : All (IsMet n m) stretches → length stretches * (n - 2) ≤ sum_by (broken Both) (teams_of n)
    needed are_met =
        let has : ℕ → Stretch → ℕ = λ i t. one_if (nat_lt 0 (breaks_among n m Both (later_slots t) i)) in
        omega (
          arith,
          at_least (λ (t : Stretch). sum_by (λ i. has i t) (teams_of n)) stretches are_met,
          sum_by-swap has (teams_of n) stretches,
        )
      where
        at_least : (f : Stretch → ℕ) (ts : List Stretch) → All (IsMet n m) ts
            → length ts * (n - 2)
            ≤ sum_by (λ t. sum_by (λ i. one_if (nat_lt 0 (breaks_among n m Both (later_slots t) i))) (teams_of n)) ts
        at_least f [] are = omega arith
        at_least f (t ∷ ts) are =
            omega (
              arith,
              sum_by-cons
                  (λ (u : Stretch). sum_by (λ i. one_if (nat_lt 0 (breaks_among n m Both (later_slots u) i))) (teams_of n))
                  t ts,
              all_but_two n m t (All-head (IsMet n m) t ts are),
              at_least f ts (All-tail (IsMet n m) t ts are),
            )

    none_few : (hard : List Constraint) → AreMet hard → All (IsMet n m) stretches
        → list_any (λ c. is_few_with n constraints stretches c.class) hard ≡ true → ⊥
    none_few [] all are_met few = absurd (cc)
    none_few (c ∷ hard) all are_met few =
        elim (or_cases (is_few_with n constraints stretches c.class)
        (list_any (λ (d : Constraint). is_few_with n constraints stretches d.class) hard) few) [
          | inl here ↦
              omega (
                arith,
                ltb-true (allowed_with n constraints stretches c.class) (length stretches * (n - 2)) here,
                needed are_met,
                allowed-with c.class
                    (All-head (λ (d : Constraint). All (λ e. e ≡ 0) (vector_of n m d.class)) c hard all),
              )
          | inr later ↦
              none_few hard
              (All-tail (λ (d : Constraint). All (λ e. e ≡ 0) (vector_of n m d.class)) c hard all) are_met later
        ]

    pub none_few_in : All (IsMet n m) stretches → is_few_in n constraints stretches ≡ true → ⊥
    none_few_in are_met few = none_few (hard_of constraints) met are_met few

-- ---- the law

met-one : (n : ℕ) (m : Counts) (t : Stretch) → IsMet n m t → All (IsMet n m) (t ∷ [])
met-one n m t is = All-cons (IsMet n m) t [] is (All-nil (IsMet n m))

-- what is never so of stretches that are met, one behind another, is so of none that a league counts together
module _ (league : Instance) (m : Counts) (instance : IsInstance league) (accepted : IsAccepted league m)
    (few_in : List Stretch → Bool)
    (never : (stretches : List Stretch) → Follow 0 stretches (slot_count league.n) → All (IsMet league.n m) stretches
    → few_in stretches ≡ true → ⊥) where
  two : 2 ≤ league.n
  two = instance.teams.at_least

  played : IsPlayedOnce league.n league.phased m
  played = IsPlayedOnce-of league.n league.phased m accepted.round_robin

  in_season : few_in (stretch 0 (slot_count league.n) ∷ []) ≡ true → ⊥
  in_season few =
      never (stretch 0 (slot_count league.n) ∷ []) (omega arith, omega (arith, two), omega arith)
      (met-one league.n m (stretch 0 (slot_count league.n)) (season-met league.n league.phased m two played)) few

  module _ (phases : league.phased ≡ true) where
    abbrev first : Stretch
    first = stretch 0 (league.n - 1)

    abbrev second : Stretch
    second = stretch (league.n - 1) (league.n - 1)

    first_met : IsMet league.n m first
    first_met = first_half-met league.n league.phased m two phases played

    second_met : IsMet league.n m second
    second_met = second_half-met league.n league.phased m two phases played

    in_first : few_in (first ∷ []) ≡ true → ⊥
    in_first few =
        never (first ∷ []) (omega arith, omega (arith, two), omega arith) (met-one league.n m first first_met) few

    in_second : few_in (second ∷ []) ≡ true → ⊥
    in_second few =
        never (second ∷ []) (omega arith, omega (arith, two), omega (arith, two))
        (met-one league.n m second second_met) few

    in_both : few_in (first ∷ second ∷ []) ≡ true → ⊥
    in_both few =
        never (first ∷ second ∷ [])
        (omega arith, omega (arith, two), (omega arith, omega (arith, two), omega (arith, two)))
        (All-cons (IsMet league.n m) first (second ∷ []) first_met (met-one league.n m second second_met)) few

  by_phases : (b : Bool) → league.phased ≡ b → list_any few_in (stretches_of league.n b) ≡ true → ⊥
  by_phases false phases few =
      elim (or_cases (few_in (stretch 0 (slot_count league.n) ∷ [])) false few) [
        | inl here ↦ in_season here
        | inr later ↦ absurd (cc)
      ]
  by_phases true phases few =
      let a : Stretch = stretch 0 (league.n - 1) in
      let b : Stretch = stretch (league.n - 1) (league.n - 1) in
      elim (or_cases (few_in (a ∷ [])) (few_in (b ∷ []) || (few_in (a ∷ b ∷ []) || false)) few) [
        | inl here ↦ in_first phases here
        | inr later ↦
            elim (or_cases (few_in (b ∷ [])) (few_in (a ∷ b ∷ []) || false) later) [
              | inl here ↦ in_second phases here
              | inr last ↦
                  elim (or_cases (few_in (a ∷ b ∷ [])) false last) [
                    | inl here ↦ in_both phases here
                    | inr none ↦ absurd (cc)
                  ]
            ]
      ]

  pub none_in : list_any few_in (stretches_of league.n league.phased) ≡ true → ⊥
  none_in few = by_phases league.phased refl few

pub few-none : FewBreaksAllowNone
few-none league m instance few accepted =
    none_in league m instance accepted (is_few_in league.n league.constraints)
    (λ stretches follow are_met here.
    none_few_in league.n m stretches (slot_count league.n) follow league.constraints accepted.hard are_met here)
    few
