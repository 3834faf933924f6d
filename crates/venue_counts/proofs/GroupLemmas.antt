-- Groups, as constraints are added one after another.
use Rattle.std.proofs.Common.{◌≡◌, ◌≢◌, ℕ, ◌+◌, ◌<◌, Bool, true, false, ◌&&◌, ◌||◌, ◌==◌, nat_lt, max, cond}
use Rattle.std.proofs.Common.{List, [], ◌∷◌, ◌++◌, length, get_or, set, take, Option, Some, None, inl, inr, refl, arith}
use Rattle.std.proofs.Common.{ap, sym, subst, ◌∙◌}
use Rattle.std.specs.Prelude.{IsSome}
use Rattle.std.specs.List.{All, fold, list_any}
use Rattle.std.proofs.lemmas.Bool.{cases_Bool, cases_eq, cases_lt, le-ltb, lt-ltb, or_cases, or_parts, or_right}
use Rattle.std.proofs.lemmas.Bool.Decides.{nat_tests}
use Rattle.std.proofs.Math.Seq.{get_or-append_seam}
use Rattle.std.proofs.lemmas.List.{get_or-set_other, get_or-set_same, get_or_append_left, get_or_default, length-set}
use Rattle.std.proofs.lemmas.List.{length_push, take_more}
use Rattle.std.proofs.lemmas.List.Elements.{All-push, All-weaker}
use Rattle.std.proofs.lemmas.List.Folds.{list_any-append}
use Rattle.std.proofs.lemmas.Option.{same_Some}
use Rattle.league.specs.Accepted.{hard_of}
use Rattle.league.specs.Instance.{are_slots, is_one_side}
use Rattle.league.specs.Sets.{is_in}
use Rattle.league.specs.declared.class.Class.TheVariants.{Ca1}
use Rattle.league.specs.declared.class.Constraint.{Constraint}
use Rattle.league.specs.declared.class.Side.{Side}
use Rattle.venue_counts.specs.VenueCounts.{are_those}
use Rattle.venue_counts.specs.Needs.{bounds_at, is_bounded, need_by, need_of, own_need}
use Rattle.venue_counts.specs.Keys.{key_of}
use Rattle.venue_counts.specs.Groups.{AreFound, AreGroups, AreNoted, IsFresh, IsGroup, IsRaised, MakesNeed, key_at}
use Rattle.venue_counts.specs.declared.group.Group.{Group}
use Rattle.venue_counts.specs.declared.limit.Limit.{Limit}
use Rattle.venue_counts.proofs.MemberLemmas.{got-last, got-left}
use Rattle.venue_counts.proofs.NeedLemmas.{is_bounded-push, need_by-others, need_by-own, need_folded, need_of-folded}
use Rattle.venue_counts.proofs.NeedLemmas.{need_of-push, those-same}

-- ---- a constraint that is in no group

kept_need : (hard bounds : Bool) (need by : ℕ) → hard && bounds ≡ false → (bounds ≡ false → by ≡ 0)
    → cond hard (max need by) need ≡ need
kept_need true bounds need by others none = omega (arith, none others)
kept_need false bounds need by others none = refl

-- what is needed elsewhere stays
pub need-kept : (limit : Limit) (constraints : List Constraint) (c : Constraint) (side : Side) (slots : List ℕ) (i : ℕ)
    → c.hard && bounds_at side slots c.class ≡ false
    → need_of limit (constraints ++ c ∷ []) side slots i ≡ need_of limit constraints side slots i
need-kept limit constraints c side slots i others =
    need_of-push limit constraints c side slots i
    ∙ kept_need c.hard (bounds_at side slots c.class) (need_of limit constraints side slots i)
    (need_by limit side slots i c.class) others (need_by-others limit side slots i c.class)

-- by what it is needed stays where it is
makes-kept : (limit : Limit) (constraints : List Constraint) (c : Constraint) (side : Side) (slots : List ℕ)
    (i need place : ℕ) → MakesNeed limit constraints side slots i need place
    → MakesNeed limit (constraints ++ c ∷ []) side slots i need place
makes-kept limit constraints c side slots i need place by = record {
  constraint = by.constraint;
  there = got-left constraints (c ∷ []) place by.constraint by.there;
  hard = by.hard;
  makes = by.makes;
}

group-kept : (limit : Limit) (n : ℕ) (constraints : List Constraint) (c : Constraint) (g : Group)
    → c.hard && bounds_at g.side g.slots.now c.class ≡ false → IsGroup limit n constraints g
    → IsGroup limit n (constraints ++ c ∷ []) g
group-kept limit n constraints c g others is = record {
  one = is.one;
  season = is.season;
  count = is.count;
  needs = λ i below. is.needs i below ∙ sym (need-kept limit constraints c g.side g.slots.now i others);
  places = is.places;
  causes = λ i below some.
      makes-kept limit constraints c g.side g.slots.now i (get_or g.needs.items i 0) (get_or g.causes.items i 0)
      (is.causes i below some);
}

pub groups-kept : (limit : Limit) (n : ℕ) (constraints : List Constraint) (c : Constraint) (groups : List Group)
    (find : ℕ → Option ℕ) → ((side : Side) (slots : List ℕ) → c.hard && bounds_at side slots c.class ≡ false)
    → AreGroups limit n constraints groups find → AreGroups limit n (constraints ++ c ∷ []) groups find
groups-kept limit n constraints c groups find others are = record {
  each = All-weaker (IsGroup limit n constraints) (IsGroup limit n (constraints ++ c ∷ []))
      (λ g is. group-kept limit n constraints c g (others g.side g.slots.now) is) groups are.each;
  seen = λ side slots bounded.
      elim (or_cases (is_bounded constraints side slots) (c.hard && bounds_at side slots c.class)
      (sym (is_bounded-push constraints c side slots) ∙ bounded)) [
        | inl before ↦ are.seen side slots before
        | inr here ↦ absurd (let never = others side slots in cc)
      ];
}

-- ---- a group more

unbounded-folded : (limit : Limit) (hard : List Constraint) (side : Side) (slots : List ℕ) (i : ℕ)
    → list_any (λ (c : Constraint). bounds_at side slots c.class) hard ≡ false
    → need_folded limit hard side slots i ≡ 0
unbounded-folded limit [] side slots i none = refl
unbounded-folded limit (c ∷ hard) side slots i none =
    let parts = or_parts (bounds_at side slots c.class)
    (list_any (λ (d : Constraint). bounds_at side slots d.class) hard) none in
    let nothing : max 0 (need_by limit side slots i c.class) ≡ 0 =
    omega (arith, need_by-others limit side slots i c.class parts.0) in
    ap (λ (from : ℕ). fold (λ most (d : Constraint). max most (need_by limit side slots i d.class)) from hard) nothing
    ∙ unbounded-folded limit hard side slots i parts.1

-- where no hard constraint bounds the slots on the side, nothing is needed
pub need-unbounded : (limit : Limit) (constraints : List Constraint) (side : Side) (slots : List ℕ) (i : ℕ)
    → is_bounded constraints side slots ≡ false → need_of limit constraints side slots i ≡ 0
need-unbounded limit constraints side slots i none =
    need_of-folded limit constraints side slots i ∙ unbounded-folded limit (hard_of constraints) side slots i none

none_is_some : (o : Option ℕ) → o ≡ None → IsSome o → ⊥
none_is_some None none some = absurd (cc)
none_is_some (Some x) none some = absurd (cc)

some_kept : (o p : Option ℕ) → o ≡ p → IsSome o → IsSome p
some_kept o p same some = subst (λ (q : Option ℕ). IsSome q) same some

-- the keys that were found before, and the new one
pub record IsPut (find found : ℕ → Option ℕ) (key place : ℕ) : Type 0 where
  pub new : found key ≡ Some place
  pub old : (q : ℕ) → q ≢ key → found q ≡ find q
  pub absent : find key ≡ None

unseen : (limit : Limit) (n : ℕ) (constraints : List Constraint) (groups : List Group) (find : ℕ → Option ℕ)
    (side : Side) (slots : List ℕ) → AreGroups limit n constraints groups find → find (key_of side slots) ≡ None
    → is_bounded constraints side slots ≡ false
unseen limit n constraints groups find side slots are absent =
    elim (cases_Bool (is_bounded constraints side slots)) [
      | inl bounded ↦ absurd (none_is_some (find (key_of side slots)) absent (are.seen side slots bounded))
      | inr none ↦ none
    ]

put-some : (find found : ℕ → Option ℕ) (key place q : ℕ) → IsPut find found key place → IsSome (find q)
    → IsSome (found q)
put-some find found key place q put some =
    elim (cases_eq q key) [
      | inl same ↦ absurd (none_is_some (find q) (ap find same ∙ put.absent) some)
      | inr other ↦ some_kept (find q) (found q) (sym (put.old q other)) some
    ]

fresh-group : (limit : Limit) (n : ℕ) (constraints : List Constraint) (g : Group) (side : Side) (slots : List ℕ)
    → IsFresh n side slots g → is_one_side side ≡ true → are_slots n slots ≡ true
    → is_bounded constraints side slots ≡ false → IsGroup limit n constraints g
fresh-group limit n constraints g side slots fresh one season none = record {
  one = ap is_one_side fresh.side_is ∙ one;
  season = ap (are_slots n) fresh.slots_are ∙ season;
  count = fresh.count;
  needs = λ i below.
      fresh.none i below
      ∙ sym (ap (λ (s : Side). need_of limit constraints s g.slots.now i) fresh.side_is
      ∙ ap (λ (ss : List ℕ). need_of limit constraints side ss i) fresh.slots_are
      ∙ need-unbounded limit constraints side slots i none);
  places = fresh.places;
  causes = λ i below some. absurd (omega (arith, fresh.none i below, some));
}

pub groups-put : (limit : Limit) (n : ℕ) (constraints : List Constraint) (groups : List Group) (g : Group)
    (find found : ℕ → Option ℕ) (side : Side) (slots : List ℕ) → IsFresh n side slots g → is_one_side side ≡ true
    → are_slots n slots ≡ true → IsPut find found (key_of side slots) (length groups)
    → AreGroups limit n constraints groups find → AreGroups limit n constraints (groups ++ g ∷ []) found
groups-put limit n constraints groups g find found side slots fresh one season put are =
    record {
      each = All-push (IsGroup limit n constraints) groups g are.each
          (fresh-group limit n constraints g side slots fresh one season
          (unseen limit n constraints groups find side slots are put.absent));
      seen = λ s ss bounded.
          put-some find found (key_of side slots) (length groups) (key_of s ss) put (are.seen s ss bounded);
    }

key-fresh : (n : ℕ) (g : Group) (side : Side) (slots : List ℕ) → IsFresh n side slots g → key_at g ≡ key_of side slots
key-fresh n g side slots fresh =
    ap (λ (s : Side). key_of s g.slots.now) fresh.side_is ∙ ap (λ (ss : List ℕ). key_of side ss) fresh.slots_are

none_found : (o : Option ℕ) (p : ℕ) → o ≡ None → o ≡ Some p → ⊥
none_found o p none some = cc

pub found-put : (n : ℕ) (groups : List Group) (g : Group) (find found : ℕ → Option ℕ) (side : Side) (slots : List ℕ)
    → IsFresh n side slots g → IsPut find found (key_of side slots) (length groups) → AreFound groups find
    → AreFound (groups ++ g ∷ []) found
found-put n groups g find found side slots fresh put are =
    record { placed = placed; within = within; key = key }
  where
    new_key : ℕ
    new_key = key_of side slots

    old_place : (q p : ℕ) → found q ≡ Some p → q ≢ new_key → find q ≡ Some p
    old_place q p is other = sym (put.old q other) ∙ is

    new_place : (q p : ℕ) → found q ≡ Some p → q ≡ new_key → p ≡ length groups
    new_place q p is same = same_Some p (length groups) (sym is ∙ ap found same ∙ put.new)

    placed : (p : ℕ) (d : Group) → p < length (groups ++ g ∷ [])
        → found (key_at (get_or (groups ++ g ∷ []) p d)) ≡ Some p
    placed p d inside =
        elim (cases_eq p (length groups)) [
          | inl last ↦
              ap (λ (k : ℕ). found (key_at (get_or (groups ++ g ∷ []) k d))) last
              ∙ ap (λ (h : Group). found (key_at h)) (get_or-append_seam groups g [] d)
              ∙ ap found (key-fresh n g side slots fresh) ∙ put.new
              ∙ ap (λ (k : ℕ). Some k) (sym last)
          | inr earlier ↦
              let before : p < length groups = omega (arith, inside, earlier, length_push groups g) in
              let at : find (key_at (get_or groups p d)) ≡ Some p = are.placed p d before in
              let other : key_at (get_or groups p d) ≢ new_key =
              λ same. none_found (find new_key) p put.absent (sym (ap find same) ∙ at) in
              ap (λ (h : Group). found (key_at h)) (get_or_append_left groups (g ∷ []) d p before)
              ∙ put.old (key_at (get_or groups p d)) other ∙ at
        ]

    within : (q p : ℕ) → found q ≡ Some p → p < length (groups ++ g ∷ [])
    within q p is =
        elim (cases_eq q new_key) [
          | inl same ↦ omega (arith, new_place q p is same, length_push groups g)
          | inr other ↦ omega (arith, are.within q p (old_place q p is other), length_push groups g)
        ]

    key : (q p : ℕ) (d : Group) → found q ≡ Some p → key_at (get_or (groups ++ g ∷ []) p d) ≡ q
    key q p d is =
        elim (cases_eq q new_key) [
          | inl same ↦
              ap (λ (k : ℕ). key_at (get_or (groups ++ g ∷ []) k d)) (new_place q p is same)
              ∙ ap key_at (get_or-append_seam groups g [] d) ∙ key-fresh n g side slots fresh ∙ sym same
          | inr other ↦
              let before : p < length groups = are.within q p (old_place q p is other) in
              ap key_at (get_or_append_left groups (g ∷ []) d p before)
              ∙ are.key q p d (old_place q p is other)
        ]

-- ---- what a constraint raises

raised_by : (inside : Bool) (need more now : ℕ) → now ≡ cond inside (max need more) need
    → now ≡ max need (cond inside more 0)
raised_by true need more now is = is
raised_by false need more now is = omega (arith, is)

hard_need : (hard : Bool) (need by : ℕ) → hard ≡ true → cond hard (max need by) need ≡ max need by
hard_need true need by is = refl
hard_need false need by is = absurd (cc)

need-raised : (limit : Limit) (constraints : List Constraint) (c : Constraint) (side : Side) (slots teams : List ℕ)
    (min most i old now : ℕ) → c.hard ≡ true → c.class ≡ Ca1 teams min most side slots
    → old ≡ need_of limit constraints side slots i
    → now ≡ cond (is_in i teams) (max old (own_need limit min most (length slots))) old
    → now ≡ need_of limit (constraints ++ c ∷ []) side slots i
need-raised limit constraints c side slots teams min most i old now hard is before after =
    let by : need_by limit side slots i c.class ≡ cond (is_in i teams) (own_need limit min most (length slots)) 0 =
    ap (need_by limit side slots i) is ∙ need_by-own limit side slots teams i min most in
    raised_by (is_in i teams) old (own_need limit min most (length slots)) now after
    ∙ ap (λ (k : ℕ). max k (cond (is_in i teams) (own_need limit min most (length slots)) 0)) before
    ∙ ap (λ (k : ℕ). max (need_of limit constraints side slots i) k) (sym by)
    ∙ sym (hard_need c.hard (need_of limit constraints side slots i) (need_by limit side slots i c.class) hard)
    ∙ sym (need_of-push limit constraints c side slots i)

-- the group of a hard CA1
pub record Holds (c : Constraint) (teams : List ℕ) (min most : ℕ) (side : Side) (slots : List ℕ) : Type 0 where
  pub hard : c.hard ≡ true
  pub class_is : c.class ≡ Ca1 teams min most side slots

-- and the cause of what is needed then
raised-cause : (limit : Limit) (constraints : List Constraint) (c : Constraint) (side : Side) (slots teams : List ℕ)
    (need i old now known cause place : ℕ) → c.hard ≡ true
    → need_by limit side slots i c.class ≡ cond (is_in i teams) need 0 → place ≡ length constraints
    → now ≡ cond (is_in i teams) (max old need) old
    → cause ≡ cond (is_in i teams) (cond (nat_lt old need) place known) known
    → (0 < old → MakesNeed limit constraints side slots i old known) → 0 < now
    → MakesNeed limit (constraints ++ c ∷ []) side slots i now cause
raised-cause limit constraints c side slots teams need i old now known cause place hard by at after noted was some =
    elim (cases_Bool (is_in i teams)) [
      | inl inside ↦
          let larger : now ≡ max old need = after ∙ ap (λ (b : Bool). cond b (max old need) old) inside in
          let chosen : cause ≡ cond (nat_lt old need) place known =
          noted ∙ ap (λ (b : Bool). cond b (cond (nat_lt old need) place known) known) inside in
          elim (cases_lt old need) [
            | inl below ↦
                own inside (omega (arith, larger, below))
                (chosen ∙ ap (λ (b : Bool). cond b place known) (lt-ltb old need below) ∙ at)
            | inr above ↦
                kept (omega (arith, larger, above))
                (chosen ∙ ap (λ (b : Bool). cond b place known) (le-ltb old need above))
          ]
      | inr outside ↦
          kept (after ∙ ap (λ (b : Bool). cond b (max old need) old) outside)
          (noted ∙ ap (λ (b : Bool). cond b (cond (nat_lt old need) place known) known) outside)
    ]
  where
    own : is_in i teams ≡ true → now ≡ need → cause ≡ length constraints
        → MakesNeed limit (constraints ++ c ∷ []) side slots i now cause
    own inside is here = record {
      constraint = c;
      there = got-last constraints c cause here;
      hard = hard;
      makes = by ∙ ap (λ (b : Bool). cond b need 0) inside ∙ sym is;
    }

    kept : now ≡ old → cause ≡ known → MakesNeed limit (constraints ++ c ∷ []) side slots i now cause
    kept same same_cause =
        subst (λ (k : ℕ). MakesNeed limit (constraints ++ c ∷ []) side slots i k cause) (sym same)
        (subst (λ (k : ℕ). MakesNeed limit (constraints ++ c ∷ []) side slots i old k) (sym same_cause)
        (makes-kept limit constraints c side slots i old known (was (omega (arith, same, some)))))

raised-group : (limit : Limit) (n : ℕ) (constraints : List Constraint) (c : Constraint) (side : Side)
    (slots teams : List ℕ) (min most place : ℕ) (g h : Group) → Holds c teams min most side slots
    → place ≡ length constraints → g.side ≡ side → g.slots.now ≡ slots
    → IsRaised teams (own_need limit min most (length slots)) place g h → IsGroup limit n constraints g
    → IsGroup limit n (constraints ++ c ∷ []) h
raised-group limit n constraints c side slots teams min most place g h holds at side_is slots_are raised is =
    let same_side : h.side ≡ side = raised.side_is ∙ side_is in
    let same_slots : h.slots.now ≡ slots = raised.slots_are ∙ slots_are in
    record {
      one = ap is_one_side raised.side_is ∙ is.one;
      season = ap (are_slots n) raised.slots_are ∙ is.season;
      count = raised.count ∙ is.count;
      needs = λ i below.
          need-raised limit constraints c side slots teams min most i (get_or g.needs.items i 0)
          (get_or h.needs.items i 0) holds.hard holds.class_is
          (is.needs i below ∙ ap (λ (s : Side). need_of limit constraints s g.slots.now i) side_is
          ∙ ap (λ (ss : List ℕ). need_of limit constraints side ss i) slots_are)
          (raised.raised i)
          ∙ sym (ap (λ (s : Side). need_of limit (constraints ++ c ∷ []) s h.slots.now i) same_side
          ∙ ap (λ (ss : List ℕ). need_of limit (constraints ++ c ∷ []) side ss i) same_slots);
      places = raised.places ∙ is.places;
      causes = λ i below some.
          let old : ℕ = get_or g.needs.items i 0 in
          let known : ℕ = get_or g.causes.items i 0 in
          let now : ℕ = get_or h.needs.items i 0 in
          let cause : ℕ = get_or h.causes.items i 0 in
          let was : 0 < old → MakesNeed limit constraints side slots i old known = λ needed.
          subst (λ (ss : List ℕ). MakesNeed limit constraints side ss i old known) slots_are
          (subst (λ (s : Side). MakesNeed limit constraints s g.slots.now i old known) side_is
          (is.causes i below needed)) in
          subst (λ (s : Side). MakesNeed limit (constraints ++ c ∷ []) s h.slots.now i now cause) (sym same_side)
          (subst (λ (ss : List ℕ). MakesNeed limit (constraints ++ c ∷ []) side ss i now cause) (sym same_slots)
          (raised-cause limit constraints c side slots teams (own_need limit min most (length slots)) i old now known
          cause place holds.hard
          (ap (need_by limit side slots i) holds.class_is ∙ need_by-own limit side slots teams i min most) at
          (raised.raised i) (raised.noted i) was some));
    }

-- another group doesn't hold it
apart : (c : Constraint) (teams : List ℕ) (min most : ℕ) (side s : Side) (slots ss : List ℕ)
    → Holds c teams min most side slots → (s ≡ side → ss ≡ slots → ⊥) → c.hard && bounds_at s ss c.class ≡ false
apart c teams min most side s slots ss holds differ =
    elim (cases_Bool (are_those s ss side slots)) [
      | inl those ↦ let same = those-same s side ss slots those in absurd (differ same.0 same.1)
      | inr other ↦
          let tested : bounds_at s ss c.class ≡ are_those s ss side slots = ap (bounds_at s ss) holds.class_is in
          not_both c.hard (bounds_at s ss c.class) (tested ∙ other)
    ]
  where
    not_both : (a b : Bool) → b ≡ false → a && b ≡ false
    not_both true b is = is
    not_both false b is = refl

-- the group that holds a constraint has its side and slots
here-found : (c : Constraint) (teams : List ℕ) (min most : ℕ) (side s : Side) (slots ss : List ℕ)
    → Holds c teams min most side slots → c.hard && bounds_at s ss c.class ≡ true → (s ≡ side) × (ss ≡ slots)
here-found c teams min most side s slots ss holds is =
    let tested : bounds_at s ss c.class ≡ are_those s ss side slots = ap (bounds_at s ss) holds.class_is in
    those-same s side ss slots (sym tested ∙ second c.hard (bounds_at s ss c.class) is) where
      second : (a b : Bool) → a && b ≡ true → b ≡ true
      second true b is = is
      second false b is = absurd (cc)

key-raised : (teams : List ℕ) (need cause : ℕ) (g h : Group) → IsRaised teams need cause g h → key_at h ≡ key_at g
key-raised teams need cause g h raised =
    ap (λ (s : Side). key_of s h.slots.now) raised.side_is ∙ ap (λ (ss : List ℕ). key_of g.side ss) raised.slots_are

pub found-raised : (groups : List Group) (find : ℕ → Option ℕ) (p : ℕ) (g h : Group) (teams : List ℕ)
    (need cause : ℕ) → p < length groups → g ≡ get_or groups p g → IsRaised teams need cause g h
    → AreFound groups find → AreFound (set groups p h) find
found-raised groups find p g h teams need cause there is raised are =
    record { placed = placed; within = within; key = key }
  where
    key_there : (k : ℕ) (d : Group) → k < length groups
        → key_at (get_or (set groups p h) k d) ≡ key_at (get_or groups k d)
    key_there k d inside =
        elim (cases_eq k p) [
          | inl same ↦
              ap (λ (j : ℕ). key_at (get_or (set groups p h) j d)) same
              ∙ ap key_at (get_or-set_same groups p h d there) ∙ key-raised teams need cause g h raised
              ∙ ap key_at (is ∙ get_or_default groups p g d there)
              ∙ ap (λ (j : ℕ). key_at (get_or groups j d)) (sym same)
          | inr other ↦ ap key_at (get_or-set_other groups p k h d other)
        ]

    placed : (k : ℕ) (d : Group) → k < length (set groups p h) → find (key_at (get_or (set groups p h) k d)) ≡ Some k
    placed k d inside =
        let before : k < length groups = omega (arith, inside, length-set groups p h) in
        ap find (key_there k d before) ∙ are.placed k d before

    within : (q k : ℕ) → find q ≡ Some k → k < length (set groups p h)
    within q k found = omega (arith, are.within q k found, length-set groups p h)

    key : (q k : ℕ) (d : Group) → find q ≡ Some k → key_at (get_or (set groups p h) k d) ≡ q
    key q k d found = key_there k d (are.within q k found) ∙ are.key q k d found

pub groups-raised : (limit : Limit) (n : ℕ) (constraints : List Constraint) (c : Constraint) (side : Side)
    (slots teams : List ℕ) (min most place : ℕ) (groups : List Group) (find : ℕ → Option ℕ) (p : ℕ) (g h : Group)
    → Holds c teams min most side slots → place ≡ length constraints → p < length groups → g ≡ get_or groups p g
    → g.side ≡ side → g.slots.now ≡ slots → IsRaised teams (own_need limit min most (length slots)) place g h
    → AreFound groups find → AreGroups limit n constraints groups find
    → AreGroups limit n (constraints ++ c ∷ []) (set groups p h) find
groups-raised limit n constraints c side slots teams min most place groups find p g h holds at there is side_is
    slots_are raised found are =
    record { each = each; seen = seen }
  where
    own_key : key_at g ≡ key_of side slots
    own_key =
        ap (λ (s : Side). key_of s g.slots.now) side_is ∙ ap (λ (ss : List ℕ). key_of side ss) slots_are

    found_here : find (key_of side slots) ≡ Some p
    found_here = ap find (sym own_key ∙ ap key_at is) ∙ found.placed p g there

    others_differ : (k : ℕ) (d : Group) → k < length groups → k ≢ p → (get_or groups k d).side ≡ side
        → (get_or groups k d).slots.now ≡ slots → ⊥
    others_differ k d inside other same_side same_slots =
        let at : find (key_at (get_or groups k d)) ≡ Some k = found.placed k d inside in
        let same : key_at (get_or groups k d) ≡ key_of side slots =
        ap (λ (s : Side). key_of s (get_or groups k d).slots.now) same_side
        ∙ ap (λ (ss : List ℕ). key_of side ss) same_slots in
        other (same_Some k p (sym at ∙ ap find same ∙ found_here))

    each : All (IsGroup limit n (constraints ++ c ∷ [])) (set groups p h)
    each k d within =
        let inside : k < length groups = omega (arith, within, length-set groups p h) in
        elim (cases_eq k p) [
          | inl same ↦
              let first : IsGroup limit n constraints g =
              subst (λ (e : Group). IsGroup limit n constraints e) (sym is) (are.each p g there) in
              let now : get_or (set groups p h) k d ≡ h =
              ap (λ (j : ℕ). get_or (set groups p h) j d) same ∙ get_or-set_same groups p h d there in
              subst (λ (e : Group). IsGroup limit n (constraints ++ c ∷ []) e) (sym now)
              (raised-group limit n constraints c side slots teams min most place g h holds at side_is slots_are
              raised first)
          | inr other ↦
              let before : Group = get_or groups k d in
              subst (λ (e : Group). IsGroup limit n (constraints ++ c ∷ []) e)
              (sym (get_or-set_other groups p k h d other))
              (group-kept limit n constraints c before
              (apart c teams min most side before.side slots before.slots.now holds
              (others_differ k d inside other))
              (are.each k d inside))
        ]

    seen : (s : Side) (ss : List ℕ) → is_bounded (constraints ++ c ∷ []) s ss ≡ true → IsSome (find (key_of s ss))
    seen s ss bounded =
        elim (or_cases (is_bounded constraints s ss) (c.hard && bounds_at s ss c.class)
        (sym (is_bounded-push constraints c s ss) ∙ bounded)) [
          | inl before ↦ are.seen s ss before
          | inr here ↦
              let same = here-found c teams min most side s slots ss holds here in
              let at : Some p ≡ find (key_of s ss) =
              sym (ap (λ (t : Side). find (key_of t ss)) same.0 ∙ ap (λ (ts : List ℕ). find (key_of side ts)) same.1
              ∙ found_here) in
              some_kept (Some p) (find (key_of s ss)) at refl
        ]

-- ---- causes that are noted, team by team

or_none : (b : Bool) → b || false ≡ b
or_none true = refl
or_none false = refl

is_in-push : (i : ℕ) (teams : List ℕ) (j : ℕ) → is_in i (teams ++ j ∷ []) ≡ (is_in i teams || (j == i))
is_in-push i teams j =
    list_any-append (λ k. k == i) teams (j ∷ []) ∙ ap (λ (b : Bool). is_in i teams || b) (or_none (j == i))

itself : (i j : ℕ) → i ≡ j → (j == i) ≡ true
itself i j same = grind (arith, nat_tests)

another : (i j : ℕ) → i ≢ j → (j == i) ≡ false
another i j other = grind (arith, nat_tests)

once : (inside more : Bool) (cause before : ℕ)
    → cond more cause (cond inside (cond more cause before) before) ≡ cond more cause before
once true true cause before = refl
once true false cause before = refl
once false true cause before = refl
once false false cause before = refl

-- one team more
pub noted-more : (teams needs before after : List ℕ) (k need cause place now : ℕ) → k < length teams
    → place ≡ get_or teams k 0 → place < length after
    → now ≡ cond (nat_lt (get_or needs place 0) need) cause (get_or after place 0)
    → AreNoted (take k teams) needs need cause before after
    → AreNoted (take (k + 1) teams) needs need cause before (set after place now)
noted-more teams needs before after k need cause place now there at within is so_far i =
    let first : List ℕ = take k teams in
    let chosen : ℕ → ℕ = λ from. cond (nat_lt (get_or needs i 0) need) cause from in
    let whole : ℕ = get_or before i 0 in
    let more : take (k + 1) teams ≡ first ++ place ∷ [] =
    take_more teams k 0 there ∙ ap (λ (j : ℕ). first ++ j ∷ []) (sym at) in
    let test : is_in i (take (k + 1) teams) ≡ (is_in i first || (place == i)) =
    ap (is_in i) more ∙ is_in-push i first place in
    elim (cases_eq i place) [
      | inl same ↦
          let inside : is_in i (take (k + 1) teams) ≡ true =
          test ∙ or_right (is_in i first) (place == i) (itself i place same) in
          ap (λ (j : ℕ). get_or (set after place now) j 0) same ∙ get_or-set_same after place now 0 within ∙ is
          ∙ ap (λ (j : ℕ). cond (nat_lt (get_or needs j 0) need) cause (get_or after j 0)) (sym same)
          ∙ ap chosen (so_far i)
          ∙ once (is_in i first) (nat_lt (get_or needs i 0) need) cause whole
          ∙ ap (λ (b : Bool). cond b (chosen whole) whole) (sym inside)
      | inr other ↦
          let as_before : is_in i (take (k + 1) teams) ≡ is_in i first =
          test ∙ ap (λ (b : Bool). is_in i first || b) (another i place other) ∙ or_none (is_in i first) in
          get_or-set_other after place i now 0 other ∙ so_far i
          ∙ ap (λ (b : Bool). cond b (chosen whole) whole) (sym as_before)
    ]
