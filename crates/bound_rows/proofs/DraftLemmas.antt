-- Groups that are added one after another.
use Rattle.std.proofs.Common.{◌≡◌, ℕ, suc, ◌+◌, ◌<◌, ◌≤◌, Bool, true, false, not, ◌&&◌, cond, nat_lt, List, [], ◌∷◌, ◌++◌}
use Rattle.std.proofs.Common.{length, map, get_or, take, drop, append_assoc, refl, sym, ap, subst, ◌∙◌, arith}
use Rattle.std.proofs.lemmas.Bool.{and_parts}
use Rattle.std.proofs.lemmas.List.{append-nil, map-append, take-append-drop, take_more}
use Rattle.std.proofs.lemmas.List.Concat.{flat_map-append}
use Rattle.std.proofs.lemmas.List.Elements.{All-cons, All-head, All-nil, All-tail, All-weaker, filter-append}
use Rattle.std.proofs.lemmas.List.Sums.{sum_by-append, sum_by-cons}
use Rattle.std.proofs.Math.Seq.{drop-cons}
use Rattle.std.specs.List.{All, filter, flat_map}
use Rattle.league.specs.Accepted.{soft_of}
use Rattle.league.specs.declared.class.Class.{Class}
use Rattle.league.specs.declared.class.Constraint.{Constraint}
use Rattle.rows.specs.Rows.{Row}
use Rattle.bound_rows.specs.BoundRows.{group_of, groups_of, paid_of}
use Rattle.bound_rows.specs.Parts.{parts_of}
use Rattle.bound_rows.specs.Softening.{Group, soften, softened_rows, units_from}
use Rattle.bound_rows.specs.Bare.{bare_groups}
use Rattle.bound_rows.specs.Drafts.{AreBefore, Extends, HasRoom, stripped, units_in}
use Rattle.bound_rows.specs.declared.draft.Draft.{Draft}

softened-append : (first : ℕ) (xs ys : List Group)
    → softened_rows first (xs ++ ys) ≡ softened_rows first xs ++ softened_rows (first + units_in xs) ys
softened-append first [] ys =
    let place : first ≡ first + units_in [] = omega arith in
    ap (λ (v : ℕ). softened_rows v ys) place
softened-append first (g ∷ xs) ys =
    let here : List Row = map (soften (units_from first g.units)) g.rows in
    let place : first + g.units + units_in xs ≡ first + units_in (g ∷ xs) =
    omega (arith, sum_by-cons (λ (g : Group). g.units) g xs) in
    ap (λ (rs : List Row). here ++ rs) (softened-append (first + g.units) xs ys)
    ∙ sym (append_assoc here (softened_rows (first + g.units) xs) (softened_rows (first + g.units + units_in xs) ys))
    ∙ ap (λ (v : ℕ). here ++ softened_rows (first + g.units) xs ++ softened_rows v ys) place

-- nothing is added
pub extends-none : (draft : Draft) → Extends draft draft []
extends-none draft = record {
  rows = sym (append-nil draft.rows);
  kept = sym (append-nil (bare_groups draft.groups.items));
  next = omega arith;
  count = omega arith;
}

-- some groups, and then others
pub extends-both : (old mid new : Draft) (xs ys : List Group) → Extends old mid xs → Extends mid new ys
    → Extends old new (xs ++ ys)
extends-both old mid new xs ys first second = record {
  rows = second.rows
      ∙ ap (λ (rs : List Row). rs ++ softened_rows mid.next ys) first.rows
      ∙ append_assoc old.rows (softened_rows old.next xs) (softened_rows mid.next ys)
      ∙ ap (λ (v : ℕ). old.rows ++ (softened_rows old.next xs ++ softened_rows v ys)) first.next
      ∙ ap (λ (rs : List Row). old.rows ++ rs) (sym (softened-append old.next xs ys));
  kept = second.kept
      ∙ ap (λ (gs : List Group). gs ++ map stripped ys) first.kept
      ∙ append_assoc (bare_groups old.groups.items) (map stripped xs) (map stripped ys)
      ∙ ap (λ (gs : List Group). bare_groups old.groups.items ++ gs) (sym (map-append stripped xs ys));
  next = omega (arith, first.next, second.next, sum_by-append (λ (g : Group). g.units) xs ys);
  count = omega (arith, first.count, second.count, sum_by-append (λ (g : Group). length g.rows) xs ys);
}

-- what extends a draft by some groups extends it by equal groups
pub extends-as : (old new : Draft) (xs ys : List Group) → xs ≡ ys → Extends old new xs → Extends old new ys
extends-as old new xs ys same is = subst (λ (gs : List Group). Extends old new gs) same is

-- rows before a number are before a larger one
later_known : (low high : ℕ) (groups : List Group) → low ≤ high → All (λ g. AreBefore low g.rows) groups
    → All (λ g. AreBefore high g.rows) groups
later_known low high groups less known =
    All-weaker (λ (g : Group). AreBefore low g.rows) (λ g. AreBefore high g.rows)
    (λ g before k d within l e inside. omega (arith, before k d within l e inside, less)) groups known

-- a list is what stands before a place, the element there, and what stands behind
pub split_at : {X : Type 0} (xs : List X) (k : ℕ) (d : X) → k < length xs
    → xs ≡ take k xs ++ (get_or xs k d ∷ drop (k + 1) xs)
split_at xs k d within =
    let next : suc k ≡ k + 1 = omega arith in
    sym (take-append-drop k xs)
    ∙ ap (λ ys. take k xs ++ ys) (drop-cons xs k d within ∙ ap (λ (i : ℕ). get_or xs k d ∷ drop i xs) next)

pub All-back : {X : Type 0} (P : X → Type 0) (xs ys : List X) → All P (xs ++ ys) → All P ys
All-back P [] ys all = all
All-back P (x ∷ xs) ys all = All-back P xs ys (All-tail P x (xs ++ ys) all)

pub All-front : {X : Type 0} (P : X → Type 0) (xs ys : List X) → All P (xs ++ ys) → All P xs
All-front P [] ys all = All-nil P
All-front P (x ∷ xs) ys all =
    All-cons P x xs (All-head P x (xs ++ ys) all) (All-front P xs ys (All-tail P x (xs ++ ys) all))

-- room for what comes between
pub room-between : (old mid : Draft) (all xs ys zs : List Group) → all ≡ xs ++ (ys ++ zs) → HasRoom old all
    → Extends old mid xs → HasRoom mid ys
room-between old mid all xs ys zs is room done =
    let here : HasRoom old (xs ++ (ys ++ zs)) = subst (λ (gs : List Group). HasRoom old gs) is room in
    let u = sum_by-append (λ (g : Group). g.units) xs (ys ++ zs) in
    let v = sum_by-append (λ (g : Group). g.units) ys zs in
    let r = sum_by-append (λ (g : Group). length g.rows) xs (ys ++ zs) in
    let s = sum_by-append (λ (g : Group). length g.rows) ys zs in
    let before : Group → Type 0 = λ g. AreBefore old.next g.rows in
    record {
      first = omega (arith, here.first, done.next);
      units = omega (arith, here.units, done.next, u, v);
      rows = omega (arith, here.rows, done.count, r, s);
      known = later_known old.next mid.next ys (omega (arith, done.next))
          (All-front before ys zs (All-back before xs (ys ++ zs) here.known));
    }

-- room for groups by another name
pub room-as : (draft : Draft) (xs ys : List Group) → xs ≡ ys → HasRoom draft xs → HasRoom draft ys
room-as draft xs ys same is = subst (λ (gs : List Group). HasRoom draft gs) same is

-- ---- parts

module _ (f : Class → Group) (parts : List Class) (k : ℕ) (part : Class) (within : k < length parts)
    (is : part ≡ get_or parts k part) where
  pub parts-split : map f parts ≡ map f (take k parts) ++ ((f part ∷ []) ++ map f (drop (k + 1) parts))
  parts-split =
      ap (map f) (split_at parts k part within)
      ∙ map-append f (take k parts) (get_or parts k part ∷ drop (k + 1) parts)
      ∙ ap (λ (p : Class). map f (take k parts) ++ (f p ∷ map f (drop (k + 1) parts))) (sym is)

  pub parts-more : map f (take k parts) ++ f part ∷ [] ≡ map f (take (k + 1) parts)
  parts-more =
      ap (λ (p : Class). map f (take k parts) ++ f p ∷ []) is
      ∙ sym (map-append f (take k parts) (get_or parts k part ∷ []))
      ∙ ap (map f) (sym (take_more parts k part within))

-- ---- constraints

abbrev costly : Constraint → Bool
costly c = nat_lt 0 c.penalty

pub paid_of-append : (xs ys : List Constraint) → paid_of (xs ++ ys) ≡ paid_of xs ++ paid_of ys
paid_of-append xs ys =
    ap (filter costly) (filter-append (λ (c : Constraint). not c.hard) xs ys)
    ∙ filter-append costly (soft_of xs) (soft_of ys)

pub groups_of-append : (n : ℕ) (xs ys : List Constraint)
    → groups_of n (xs ++ ys) ≡ groups_of n xs ++ groups_of n ys
groups_of-append n xs ys =
    let groups : Constraint → List Group = λ c. map (group_of n c.penalty) (parts_of n c.class) in
    ap (flat_map groups) (paid_of-append xs ys) ∙ flat_map-append groups (paid_of xs) (paid_of ys)

pub paid_of-one : (c : Constraint) → (not c.hard && nat_lt 0 c.penalty) ≡ true → paid_of (c ∷ []) ≡ c ∷ []
paid_of-one c paid =
    let both = and_parts (not c.hard) (nat_lt 0 c.penalty) paid in
    ap (λ (b : Bool). filter costly (cond b (c ∷ []) [])) both.0 ∙ ap (λ (b : Bool). cond b (c ∷ []) []) both.1

pub paid_of-none : (c : Constraint) → (not c.hard && nat_lt 0 c.penalty) ≡ false → paid_of (c ∷ []) ≡ []
paid_of-none c free = by (not c.hard) free where
  by : (soft : Bool) → (soft && nat_lt 0 c.penalty) ≡ false → filter costly (cond soft (c ∷ []) []) ≡ []
  by true free = ap (λ (b : Bool). cond b (c ∷ []) []) free
  by false free = refl

pub groups_of-one : (n : ℕ) (c : Constraint) → (not c.hard && nat_lt 0 c.penalty) ≡ true
    → groups_of n (c ∷ []) ≡ map (group_of n c.penalty) (parts_of n c.class)
groups_of-one n c paid =
    let groups : Constraint → List Group = λ c. map (group_of n c.penalty) (parts_of n c.class) in
    ap (flat_map groups) (paid_of-one c paid) ∙ append-nil (groups c)

pub groups_of-none : (n : ℕ) (c : Constraint) → (not c.hard && nat_lt 0 c.penalty) ≡ false → groups_of n (c ∷ []) ≡ []
groups_of-none n c free =
    ap (flat_map (λ c. map (group_of n c.penalty) (parts_of n c.class))) (paid_of-none c free)

module _ (n : ℕ) (constraints : List Constraint) (k : ℕ) (c : Constraint) (within : k < length constraints)
    (is : c ≡ get_or constraints k c) where
  pub constraints-split : groups_of n constraints
      ≡ groups_of n (take k constraints) ++ (groups_of n (c ∷ []) ++ groups_of n (drop (k + 1) constraints))
  constraints-split =
      ap (groups_of n) (split_at constraints k c within)
      ∙ groups_of-append n (take k constraints) (get_or constraints k c ∷ drop (k + 1) constraints)
      ∙ ap (λ (gs : List Group). groups_of n (take k constraints) ++ gs)
      (groups_of-append n (get_or constraints k c ∷ []) (drop (k + 1) constraints)
      ∙ ap (λ (x : Constraint). groups_of n (x ∷ []) ++ groups_of n (drop (k + 1) constraints)) (sym is))

  pub constraints-more : groups_of n (take k constraints) ++ groups_of n (c ∷ [])
      ≡ groups_of n (take (k + 1) constraints)
  constraints-more =
      ap (λ (x : Constraint). groups_of n (take k constraints) ++ groups_of n (x ∷ [])) is
      ∙ sym (groups_of-append n (take k constraints) (get_or constraints k c ∷ []))
      ∙ ap (groups_of n) (sym (take_more constraints k c within))
