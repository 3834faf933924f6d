-- Sets of keys, by their marks.
use Rattle.std.proofs.Common.{◌≡◌, ℕ, ◌+◌, ◌<◌, ◌≤◌, Bool, true, false, ◌||◌, inl, inr, List, [], ◌∷◌, ◌++◌, length, get_or, set, drop, replicate, refl, ap, subst, sym, ◌∙◌, arith, eqb}
use Rattle.std.proofs.lemmas.Bool.{cases_eq, cases_lt, cases_Bool, eq-eqb, eqb-true, false≢true, ne_eqb, or_cases, or_left, or_right}
use Rattle.std.proofs.lemmas.Bool.Decides.{nat_tests}
use Rattle.std.proofs.lemmas.List.{drop_more, drop_all, get_or-set_other, get_or-set_same, get_or-replicate, get_or_past, length-set, length_push, length-replicate}
use Rattle.std.proofs.lemmas.Map.Keys.{IsDistinct-push}
use Rattle.std.proofs.lemmas.Map.Steps.{length-le_from_distinct_below}
use Rattle.std.specs.Cmp.{IsEquivalence}
use Rattle.std.specs.List.{IsDistinct}
use Rattle.rule_core.specs.Keys.{KeyList}
use Rattle.descent.specs.KeySet.{AreMarked, is_in}

distinct-nil : (eq : ℕ → ℕ → Bool) → IsDistinct eq []
unfolding IsDistinct
distinct-nil eq = tt

-- equality of numbers is an equivalence
pub eqb-laws : IsEquivalence eqb
eqb-laws = record {
  refl = λ x. eq-eqb x x refl;
  symm = λ x y. grind (arith, nat_tests);
  congr = λ x y z e. ap (λ (w : ℕ). eqb w z) (eqb-true x y e);
}

pub or_assoc : (a b c : Bool) → (a || (b || c)) ≡ ((a || b) || c)
or_assoc true b c = refl
or_assoc false b c = refl

pub or_false : (a : Bool) → (a || false) ≡ a
or_false true = refl
or_false false = refl

pub is_in-append : (xs ys : List ℕ) (k : ℕ) → is_in (xs ++ ys) k ≡ (is_in xs k || is_in ys k)
is_in-append [] ys k = refl
is_in-append (x ∷ xs) ys k = ap (λ (b : Bool). eqb k x || b) (is_in-append xs ys k) ∙ or_assoc (eqb k x) (is_in xs k) (is_in ys k)

-- a list of one key
pub is_in_one : (key k : ℕ) → is_in (key ∷ []) k ≡ true → k ≡ key
is_in_one key k h = eqb-true k key (sym (or_false (eqb k key)) ∙ h)

pub one_has : (key k : ℕ) → k ≡ key → is_in (key ∷ []) k ≡ true
one_has key k same = or_left (eqb k key) false (eq-eqb k key same)

pub one_lacks : (key k : ℕ) → (k ≡ key → ⊥) → is_in (key ∷ []) k ≡ false
one_lacks key k other = or_false (eqb k key) ∙ ne_eqb k key other

-- the keys are below the number of marks
pub below_room : (keys : KeyList) (marks : List Bool) → AreMarked keys marks → (k : ℕ) → is_in keys.list k ≡ true → k < length marks
below_room keys marks are k h = elim (cases_lt k (length marks)) as (λ _. k < length marks) [
  | inl within ↦ within
  | inr past ↦ absurd (false≢true (sym (get_or_past marks k false past) ∙ are.marked k ∙ h))
]

pushed_below : (keys : KeyList) (marks : List Bool) (key : ℕ) → AreMarked keys marks → key < keys.room → (k : ℕ) → is_in (keys.list ++ key ∷ []) k ≡ true → k < keys.room
pushed_below keys marks key are within k h = elim (or_cases (is_in keys.list k) (is_in (key ∷ []) k) (sym (is_in-append keys.list (key ∷ []) k) ∙ h)) as (λ _. k < keys.room) [
  | inl old ↦ omega (arith, below_room keys marks are k old, are.room)
  | inr last ↦ omega (arith, is_in_one key k last)
]

-- there is room for a key that isn't in the set
pub room_left : (keys : KeyList) (marks : List Bool) (key : ℕ) → AreMarked keys marks → key < keys.room → is_in keys.list key ≡ false → length keys.list < keys.room
room_left keys marks key are within new =
    let bound : length (keys.list ++ key ∷ []) ≤ keys.room = length-le_from_distinct_below (keys.list ++ key ∷ []) keys.room (IsDistinct-push eqb-laws keys.list key are.distinct new) (pushed_below keys marks key are within) in
    omega (arith, bound, length_push keys.list key)

marked_one : (keys : KeyList) (marks : List Bool) (key : ℕ) → AreMarked keys marks → key < length marks → (k : ℕ) → get_or (set marks key true) k false ≡ is_in (keys.list ++ key ∷ []) k
marked_one keys marks key are within k = elim (cases_eq k key) as (λ _. get_or (set marks key true) k false ≡ is_in (keys.list ++ key ∷ []) k) [
  | inl same ↦ ap (λ (i : ℕ). get_or (set marks key true) i false) same ∙ get_or-set_same marks key true false within ∙ sym (is_in-append keys.list (key ∷ []) k ∙ or_right (is_in keys.list k) (is_in (key ∷ []) k) (one_has key k same))
  | inr other ↦ get_or-set_other marks key k true false other ∙ are.marked k ∙ sym (is_in-append keys.list (key ∷ []) k ∙ ap (λ (b : Bool). is_in keys.list k || b) (one_lacks key k other) ∙ or_false (is_in keys.list k))
]

-- one key more, with its mark
pub AreMarked-add : (keys : KeyList) (marks : List Bool) (key : ℕ) (after : KeyList) → AreMarked keys marks → key < keys.room → is_in keys.list key ≡ false → after.list ≡ keys.list ++ key ∷ [] → after.room ≡ keys.room → AreMarked after (set marks key true)
AreMarked-add keys marks key after are within new list room = record {
  room = room ∙ are.room ∙ sym (length-set marks key true);
  distinct = rw list (IsDistinct-push eqb-laws keys.list key are.distinct new);
  marked = λ k. marked_one keys marks key are (omega (arith, within, are.room)) k ∙ ap (λ (l : List ℕ). is_in l k) (sym list);
}

-- no keys, and no mark
pub AreMarked-none : (keys : KeyList) (marks : List Bool) → keys.list ≡ [] → keys.room ≡ length marks → ((k : ℕ) → get_or marks k false ≡ false) → AreMarked keys marks
AreMarked-none keys marks none room unmarked = record {
  room = room;
  distinct = subst (λ (l : List ℕ). IsDistinct eqb l) (sym none) (distinct-nil eqb);
  marked = λ k. unmarked k ∙ ap (λ (l : List ℕ). is_in l k) (sym none);
}

-- with one mark less, each key that is still marked is one of those left
pub left_more : (marks : List Bool) (keys : List ℕ) (place key : ℕ) → place < length keys → get_or keys place 0 ≡ key
    → key < length marks → ((k : ℕ) → get_or marks k false ≡ true → is_in (drop place keys) k ≡ true) → (k : ℕ)
    → get_or (set marks key false) k false ≡ true → is_in (drop (place + 1) keys) k ≡ true
left_more marks keys place key within at fits left k h = elim (cases_eq k key) as (λ _. is_in (drop (place + 1) keys) k ≡ true) [
  | inl same ↦ absurd (false≢true (sym (ap (λ (i : ℕ). get_or (set marks key false) i false) same ∙ get_or-set_same marks key false false fits) ∙ h))
  | inr other ↦
      let here : is_in (drop place keys) k ≡ true = left k (sym (get_or-set_other marks key k false false other) ∙ h) in
      let split : (eqb k (get_or keys place 0) || is_in (drop (place + 1) keys) k) ≡ true = sym (ap (λ (l : List ℕ). is_in l k) (drop_more keys place 0 within)) ∙ here in
      elim (or_cases (eqb k (get_or keys place 0)) (is_in (drop (place + 1) keys) k) split) as (λ _. is_in (drop (place + 1) keys) k ≡ true) [
        | inl first ↦ absurd (other (eqb-true k (get_or keys place 0) first ∙ at))
        | inr rest ↦ rest
      ]
]

-- with no key left, there is no mark
pub none_left : (marks : List Bool) (keys : List ℕ) (place : ℕ) → length keys ≤ place → ((k : ℕ) → get_or marks k false ≡ true → is_in (drop place keys) k ≡ true) → (k : ℕ) → get_or marks k false ≡ false
none_left marks keys place past left k = elim (cases_Bool (get_or marks k false)) as (λ _. get_or marks k false ≡ false) [
  | inl marked ↦ absurd (false≢true (ap (λ (l : List ℕ). is_in l k) (sym (drop_all place keys past)) ∙ left k marked))
  | inr unmarked ↦ unmarked
]

-- new marks
pub replicate_unmarked : (marks : List Bool) (room : ℕ) → marks ≡ replicate room false → (k : ℕ) → get_or marks k false ≡ false
replicate_unmarked marks room is k = elim (cases_lt k room) as (λ _. get_or marks k false ≡ false) [
  | inl within ↦ ap (λ (l : List Bool). get_or l k false) is ∙ get_or-replicate room k false false within
  | inr past ↦ get_or_past marks k false (omega (arith, past, ap length is, length-replicate room false))
]
