-- The steps by which groups are made: keys, places, and one constraint more.
use Rattle.std.proofs.Common.{◌≡◌, ◌≢◌, ℕ, ◌+◌, ◌*◌, ◌%◌, ◌^◌, ◌<◌, ◌≤◌, Bool, true, false, ◌&&◌, ◌==◌, nat_lt, cond}
use Rattle.std.proofs.Common.{List, [], ◌∷◌, ◌++◌}
use Rattle.std.proofs.Common.{length, get_or, set, take, Option, Some, None, refl, arith, ap, sym, subst, ◌∙◌}
use Rattle.std.specs.Prelude.{IsTrue}
use Rattle.std.specs.List.{All}
use Rattle.std.specs.BTreeMap.{BTreeMap, Updates, get}
use Rattle.std.specs.Ordering.{is_eq, nat_cmp}
use Rattle.std.specs.declared.cmp.Ordering.TheVariants.{Less, Equal, Greater}
use Rattle.std.proofs.Math.Nat.{pow-le-pow_right}
use Rattle.std.proofs.lemmas.Bool.Decides.{nat_tests}
use Rattle.std.proofs.lemmas.List.{length-take-le, take_all, take_more}
use Rattle.std.proofs.lemmas.List.Sums.{sum_by_more}
use Rattle.std.proofs.lemmas.Nat.{one_shl}
use Rattle.league.specs.Instance.{class_fits}
use Rattle.league.specs.declared.class.Class.{Class}
use Rattle.league.specs.declared.class.Class.TheVariants.{Ca1, Ca2, Ca3, Ca4, Ga1, Br1, Br2, Fa2, Se1}
use Rattle.league.specs.declared.class.Constraint.{Constraint}
use Rattle.league.specs.declared.class.Side.{Side}
use Rattle.venue_counts.specs.Needs.{bounds_at, own_need}
use Rattle.venue_counts.specs.Keys.{key_of, mask_of}
use Rattle.venue_counts.specs.Groups.{AreAllGroups, AreFound, AreGroups, IsGroup, IsRaised, key_at}
use Rattle.venue_counts.specs.declared.group.Group.{Group}
use Rattle.venue_counts.specs.declared.limit.Limit.{Limit}
use Rattle.venue_counts.proofs.CountedLemmas.{all-groups, fits_parts}
use Rattle.venue_counts.proofs.GroupLemmas.{IsPut, groups-kept, groups-raised}
use Rattle.venue_counts.proofs.KeyLemmas.{same_key}

-- ---- the bits of a key

bit_is : (s : ℕ) → s < 78 → 1 * 2 ^ s % 340282366920938463463374607431768211456 ≡ 2 ^ s
bit_is s below = one_shl s 128 (omega arith)

pub bit-le : (s : ℕ) → s < 78 → 1 * 2 ^ s % 340282366920938463463374607431768211456 ≤ 151115727451828646838272
bit-le s below =
    let order : s ≤ 77 = omega arith in
    let positive : 0 < 2 = omega arith in
    let most : 2 ^ s ≤ 2 ^ 77 = pow-le-pow_right positive order in
    omega (arith, bit_is s below, most)

pub mask-more : (slots : List ℕ) (k mask s : ℕ) → s < 78 → k < length slots → s ≡ get_or slots k 0
    → mask ≡ mask_of (take k slots)
    → mask + 1 * 2 ^ s % 340282366920938463463374607431768211456 ≡ mask_of (take (k + 1) slots)
mask-more slots k mask s below there is made =
    omega (
      arith,
      bit_is s below,
      made,
      sum_by_more (λ (t : ℕ). 2 ^ t) slots k 0 there,
      ap (λ (t : ℕ). 2 ^ t) is,
    )

-- ---- a place that is put

unlike : (key q : ℕ) → q ≢ key → is_eq (nat_cmp key q) ≡ false
unlike key q differ = by_tests (nat_lt key q) (key == q) (not_equal key q differ) where
  not_equal : (k p : ℕ) → p ≢ k → (k == p) ≡ false
  not_equal k p other = grind (arith, nat_tests)

  by_tests : (less equal : Bool) → equal ≡ false
      → is_eq (cond less Less (cond equal Equal Greater)) ≡ false
  by_tests true equal is = refl
  by_tests false true is = absurd (cc)
  by_tests false false is = refl

pub put-from : (before after : BTreeMap ℕ ℕ) (key place : ℕ) → Updates nat_cmp before after key (Some place)
    → get nat_cmp before key ≡ None → IsPut (get nat_cmp before) (get nat_cmp after) key place
put-from before after key place updates absent = record {
  new = updates.1;
  old = λ q differ. updates.2 q (unlike key q differ);
  absent = absent;
}

pub put-of : (before after : BTreeMap ℕ ℕ) (key place wanted count : ℕ) → key ≡ wanted → place ≡ count
    → Updates nat_cmp before after key (Some place) → get nat_cmp before key ≡ None
    → IsPut (get nat_cmp before) (get nat_cmp after) wanted count
put-of before after key place wanted count is at updates absent =
    subst (λ (k : ℕ). IsPut (get nat_cmp before) (get nat_cmp after) k count) is
    (subst (λ (p : ℕ). IsPut (get nat_cmp before) (get nat_cmp after) key p) at
    (put-from before after key place updates absent))

-- the group at a place
pub group-at : (limit : Limit) (n : ℕ) (constraints : List Constraint) (groups : List Group) (find : ℕ → Option ℕ)
    (p : ℕ) (g : Group) → AreGroups limit n constraints groups find → p < length groups → g ≡ get_or groups p g
    → IsGroup limit n constraints g
group-at limit n constraints groups find p g are within at =
    subst (λ (e : Group). IsGroup limit n constraints e) (sym at) (are.each p g within)

pub teams-counted : (limit : Limit) (n : ℕ) (constraints : List Constraint) (groups : List Group) (find : ℕ → Option ℕ)
    (p : ℕ) (g : Group) (teams : List ℕ) → AreGroups limit n constraints groups find → p < length groups
    → g ≡ get_or groups p g → All (λ i. i < n) teams → All (λ i. i < length g.needs.items) teams
teams-counted limit n constraints groups find p g teams are within at below k d inside =
    omega (arith, below k d inside, (group-at limit n constraints groups find p g are within at).count)

pub teams-placed : (limit : Limit) (n : ℕ) (constraints : List Constraint) (groups : List Group) (find : ℕ → Option ℕ)
    (p : ℕ) (g : Group) (teams : List ℕ) → AreGroups limit n constraints groups find → p < length groups
    → g ≡ get_or groups p g → All (λ i. i < n) teams → All (λ i. i < length g.causes.items) teams
teams-placed limit n constraints groups find p g teams are within at below k d inside =
    omega (arith, below k d inside, (group-at limit n constraints groups find p g are within at).places)

-- ---- one constraint more

more-constraints : (constraints : List Constraint) (k : ℕ) (c : Constraint) → k < length constraints
    → c ≡ get_or constraints k c → take (k + 1) constraints ≡ take k constraints ++ c ∷ []
more-constraints constraints k c there is =
    take_more constraints k c there ∙ ap (λ (d : Constraint). take k constraints ++ d ∷ []) (sym is)

-- one that is in no group
pub skipped : (limit : Limit) (n : ℕ) (constraints : List Constraint) (k : ℕ) (c : Constraint) (groups : List Group)
    (find : ℕ → Option ℕ) → k < length constraints → c ≡ get_or constraints k c
    → ((side : Side) (slots : List ℕ) → c.hard && bounds_at side slots c.class ≡ false)
    → AreGroups limit n (take k constraints) groups find → AreGroups limit n (take (k + 1) constraints) groups find
skipped limit n constraints k c groups find there is others are =
    subst (λ (cs : List Constraint). AreGroups limit n cs groups find) (sym (more-constraints constraints k c there is))
    (groups-kept limit n (take k constraints) c groups find others are)

pub soft-skipped : (hard bounds : Bool) → hard ≡ false → hard && bounds ≡ false
soft-skipped true bounds is = absurd (cc)
soft-skipped false bounds is = refl

no_bounds : (hard bounds : Bool) → bounds ≡ false → hard && bounds ≡ false
no_bounds true bounds is = is
no_bounds false bounds is = refl

-- a class that is no CA1
abbrev pub IsOther : Class → Type 0
IsOther class = (teams : List ℕ) (min max : ℕ) (side : Side) (slots : List ℕ)
    → class ≡ Ca1 teams min max side slots → ⊥

other-bounds : (class : Class) (side : Side) (slots : List ℕ) → IsOther class → bounds_at side slots class ≡ false
other-bounds (Ca1 teams min max other others) side slots is = absurd (is teams min max other others refl)
other-bounds (Ca2 teams1 teams2 min max other others) side slots is = refl
other-bounds (Ca3 teams1 teams2 min max intp other) side slots is = refl
other-bounds (Ca4 teams1 teams2 min max other span others) side slots is = refl
other-bounds (Ga1 meetings min max others) side slots is = refl
other-bounds (Br1 teams intp other others) side slots is = refl
other-bounds (Br2 teams intp others) side slots is = refl
other-bounds (Fa2 teams intp others) side slots is = refl
other-bounds (Se1 teams min) side slots is = refl

pub other-skipped : (c : Constraint) (side : Side) (slots : List ℕ) → IsOther c.class
    → c.hard && bounds_at side slots c.class ≡ false
other-skipped c side slots is = no_bounds c.hard (bounds_at side slots c.class) (other-bounds c.class side slots is)

-- a hard CA1, where its group was raised
pub added : (limit : Limit) (n : ℕ) (constraints : List Constraint) (k : ℕ) (c : Constraint) (side : Side)
    (slots teams : List ℕ) (min most need : ℕ) (groups : List Group) (find : ℕ → Option ℕ) (p : ℕ) (g h : Group)
    → k < length constraints → c ≡ get_or constraints k c → c.hard ≡ true → c.class ≡ Ca1 teams min most side slots
    → IsTrue (class_fits n c.class) → need ≡ own_need limit min most (length slots) → p < length groups
    → g ≡ get_or groups p g → key_at g ≡ key_of side slots → IsRaised teams need k g h → AreFound groups find
    → AreGroups limit n (take k constraints) groups find
    → AreGroups limit n (take (k + 1) constraints) (set groups p h) find
added limit n constraints k c side slots teams min most need groups find p g h there is hard class fits needed within at
    key raised found are =
    let own : IsTrue (class_fits n (Ca1 teams min most side slots)) =
    subst (λ (class : Class). IsTrue (class_fits n class)) class fits in
    let parts = fits_parts n teams slots min most side own in
    let group : IsGroup limit n (take k constraints) g =
    subst (λ (e : Group). IsGroup limit n (take k constraints) e) (sym at) (are.each p g within) in
    let same = same_key n g.side side g.slots.now slots group.one parts.1 group.season parts.0 key in
    subst (λ (cs : List Constraint). AreGroups limit n cs (set groups p h) find)
    (sym (more-constraints constraints k c there is))
    (groups-raised limit n (take k constraints) c side slots teams min most k groups find p g h
    (record { hard = hard; class_is = class }) (sym (length-take-le k constraints (omega (arith, there)))) within at
    same.0 same.1 (subst (λ (m : ℕ). IsRaised teams m k g h) needed raised) found are)

-- ---- all constraints

pub groups-done : (limit : Limit) (n m : ℕ) (constraints shown : List Constraint) (groups : List Group)
    (find : ℕ → Option ℕ) (k : ℕ) → n ≡ m → shown ≡ constraints → length shown ≤ k → AreFound groups find
    → AreGroups limit n (take k shown) groups find → AreAllGroups limit m constraints groups
groups-done limit n m constraints shown groups find k same is all found are =
    subst (λ (l : ℕ). AreAllGroups limit l constraints groups) same
    (subst (λ (cs : List Constraint). AreAllGroups limit n cs groups) (take_all k shown all ∙ is)
    (all-groups limit n (take k shown) groups find found are))
