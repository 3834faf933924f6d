-- A set that is read item by item holds, in the end, those of all items that were read.
use Rattle.std.proofs.Common.{◌≡◌, Bool, true, false, ◌||◌, cond, List, [], ◌∷◌, ◌++◌, inl, inr, ◌⊎◌, refl, sym, ap, ◌∙◌, subst}
use Rattle.std.specs.Cmp.Derive.{both_true}
use Rattle.std.specs.List.{filter, list_all, list_any}
use Rattle.std.specs.Ordering.{is_lt}
use Rattle.std.specs.declared.cmp.Ordering.{Ordering}
use Rattle.league.specs.Sets.{ascends, with_item}
use Rattle.robinx.specs.Gathered.{with_items}

abbrev pub Every : {X : Type 0} → (X → Type 0) → List X → Type 0
Every P [] = Unit {0}
Every P (x ∷ xs) = P x × Every P xs

-- x is one of them
abbrev pub Among : {X : Type 0} → X → List X → Type 0
Among x [] = ⊥
Among x (y ∷ ys) = (x ≡ y) ⊎ Among x ys

pub Every-map : {X : Type 0} (P Q : X → Type 0) → ((x : X) → P x → Q x) → (xs : List X) → Every P xs → Every Q xs
Every-map P Q weaker [] h = tt
Every-map P Q weaker (x ∷ xs) h = (weaker x h.0, Every-map P Q weaker xs h.1)

pub Every-at : {X : Type 0} (P : X → Type 0) (x : X) (xs : List X) → Every P xs → Among x xs → P x
Every-at P x [] h there = absurd there
Every-at P x (y ∷ ys) h (inl here) = subst P (sym here) h.0
Every-at P x (y ∷ ys) h (inr later) = Every-at P x ys h.1 later

pub Every-append : {X : Type 0} (P : X → Type 0) (xs ys : List X) → Every P xs → Every P ys → Every P (xs ++ ys)
Every-append P [] ys first second = second
Every-append P (x ∷ xs) ys first second = (first.0, Every-append P xs ys first.1 second)

keep : {X : Type 0} (P : X → Type 0) (t : Bool) (x : X) (xs : List X) → P x → Every P xs → Every P (cond t (x ∷ xs) xs)
keep P true x xs here later = (here, later)
keep P false x xs here later = later

pub Every-filter : {X : Type 0} (P : X → Type 0) (p : X → Bool) (xs : List X) → Every P xs → Every P (filter p xs)
Every-filter P p [] h = tt
Every-filter P p (x ∷ xs) h = keep P (p x) x (filter p xs) h.0 (Every-filter P p xs h.1)

pub Among-left : {X : Type 0} (x : X) (xs ys : List X) → Among x xs → Among x (xs ++ ys)
Among-left x [] ys there = absurd there
Among-left x (y ∷ rest) ys (inl here) = inl here
Among-left x (y ∷ rest) ys (inr later) = inr (Among-left x rest ys later)

pub Among-right : {X : Type 0} (x : X) (xs ys : List X) → Among x ys → Among x (xs ++ ys)
Among-right x [] ys there = there
Among-right x (y ∷ rest) ys there = inr (Among-right x rest ys there)

filter-none : {X : Type 0} (p : X → Bool) (xs : List X) → Every (λ y. p y ≡ false) xs → filter p xs ≡ []
filter-none p [] h = refl
filter-none p (x ∷ xs) h = let here : p x ≡ false = h.0 in rw here (filter-none p xs h.1)

filter-all : {X : Type 0} (p : X → Bool) (xs : List X) → Every (λ y. p y ≡ true) xs → filter p xs ≡ xs
filter-all p [] h = refl
filter-all p (x ∷ xs) h = let here : p x ≡ true = h.0 in rw here (ap (λ ys. x ∷ ys) (filter-all p xs h.1))

filter-same : {X : Type 0} (p q : X → Bool) (xs : List X) → Every (λ y. p y ≡ q y) xs → filter p xs ≡ filter q xs
filter-same p q [] h = refl
filter-same p q (x ∷ xs) h =
    let here : p x ≡ q x = h.0 in
    ap (λ b. cond b (x ∷ filter p xs) (filter p xs)) here ∙ ap (λ ys. cond (q x) (x ∷ ys) ys) (filter-same p q xs h.1)

or_true : (b c : Bool) → c ≡ true → b || c ≡ true
or_true true c h = refl
or_true false c h = h

or_false : (b c : Bool) → c ≡ false → b || c ≡ b
or_false true c h = refl
or_false false c h = h

or_assoc : (a b c : Bool) → (a || b) || c ≡ a || (b || c)
or_assoc true b c = refl
or_assoc false b c = refl

pub every : {X : Type 0} (P : X → Type 0) → ((x : X) → P x) → (xs : List X) → Every P xs
every P all [] = tt
every P all (x ∷ xs) = (all x, every P all xs)

pub all_true : {X : Type 0} (q : X → Bool) (xs : List X) → Every (λ x. q x ≡ true) xs → list_all q xs ≡ true
all_true q [] h = refl
all_true q (x ∷ xs) h = let here : q x ≡ true = h.0 in rw here (all_true q xs h.1)

-- An order and a test of sameness that goes with it.
pub record IsOrder {X : Type 0} (cmp : X → X → Ordering) (same : X → X → Bool) : Type 0 where
  pub itself : (x : X) → is_lt (cmp x x) ≡ false
  pub behind : (x y : X) → is_lt (cmp x y) ≡ true → is_lt (cmp y x) ≡ false
  pub same_itself : (x : X) → same x x ≡ true
  pub differ : (x y : X) → is_lt (cmp x y) ≡ true → same x y ≡ false
  pub differ_behind : (x y : X) → is_lt (cmp x y) ≡ true → same y x ≡ false

module _ {X : Type 0} (cmp : X → X → Ordering) (same : X → X → Bool) (order : IsOrder cmp same) where
  -- each element comes before all later ones
  abbrev pub Rises : List X → Type 0
  Rises [] = Unit {0}
  Rises (x ∷ xs) = Every (λ y. is_lt (cmp x y) ≡ true) xs × Rises xs

  pub Rises-append : (xs ys : List X) → Rises xs → Rises ys → Every (λ x. Every (λ y. is_lt (cmp x y) ≡ true) ys) xs → Rises (xs ++ ys)
  Rises-append [] ys first second across = second
  Rises-append (x ∷ xs) ys first second across =
      (Every-append (λ y. is_lt (cmp x y) ≡ true) xs ys first.0 across.0, Rises-append xs ys first.1 second across.1)

  rises_kept : (t : Bool) (x : X) (xs : List X) → Every (λ y. is_lt (cmp x y) ≡ true) xs → Rises xs → Rises (cond t (x ∷ xs) xs)
  rises_kept true x xs above h = (above, h)
  rises_kept false x xs above h = h

  pub filter-rises : (p : X → Bool) (xs : List X) → Rises xs → Rises (filter p xs)
  filter-rises p [] h = tt
  filter-rises p (x ∷ xs) h =
      rises_kept (p x) x (filter p xs) (Every-filter (λ y. is_lt (cmp x y) ≡ true) p xs h.0) (filter-rises p xs h.1)

  -- what rises passes the test of ascending lists
  pub ascends-rises : (xs : List X) → Rises xs → ascends cmp xs ≡ true
  ascends-rises [] h = refl
  ascends-rises (x ∷ xs) h = both_true (all_true (λ y. is_lt (cmp x y)) xs h.0) (ascends-rises xs h.1)

  -- the first of all, whether it is there or not
  at_first : (p : X → Bool) (x : X) (xs : List X) (t : Bool) → p x ≡ t → Every (λ y. is_lt (cmp x y) ≡ true) xs
      → with_item cmp x (cond t (x ∷ filter p xs) (filter p xs)) ≡ x ∷ filter p xs
  at_first p x xs true is later =
      let kept : Every (λ y. is_lt (cmp x y) ≡ true) (filter p xs) = Every-filter (λ y. is_lt (cmp x y) ≡ true) p xs later in
      let low : filter (λ y. is_lt (cmp y x)) (filter p xs) ≡ [] = filter-none (λ y. is_lt (cmp y x)) (filter p xs) (Every-map (λ y. is_lt (cmp x y) ≡ true) (λ y. is_lt (cmp y x) ≡ false) (λ y h. order.behind x y h) (filter p xs) kept) in
      let high : filter (λ y. is_lt (cmp x y)) (filter p xs) ≡ filter p xs = filter-all (λ y. is_lt (cmp x y)) (filter p xs) kept in
      rw (order.itself x, low, high) refl
  at_first p x xs false is later =
      let kept : Every (λ y. is_lt (cmp x y) ≡ true) (filter p xs) = Every-filter (λ y. is_lt (cmp x y) ≡ true) p xs later in
      let low : filter (λ y. is_lt (cmp y x)) (filter p xs) ≡ [] = filter-none (λ y. is_lt (cmp y x)) (filter p xs) (Every-map (λ y. is_lt (cmp x y) ≡ true) (λ y. is_lt (cmp y x) ≡ false) (λ y h. order.behind x y h) (filter p xs) kept) in
      let high : filter (λ y. is_lt (cmp x y)) (filter p xs) ≡ filter p xs = filter-all (λ y. is_lt (cmp x y)) (filter p xs) kept in
      rw (low, high) refl

  -- an element before x stays where it is
  before : (x y : X) (ys : List X) (t : Bool) → is_lt (cmp y x) ≡ true → with_item cmp x (cond t (y ∷ ys) ys) ≡ cond t (y ∷ with_item cmp x ys) (with_item cmp x ys)
  before x y ys true less = rw (less, order.behind y x less) refl
  before x y ys false less = refl

  -- one more of a list in order
  pub with_item-filter : (p : X → Bool) (xs : List X) (x : X) → Rises xs → Among x xs → with_item cmp x (filter p xs) ≡ filter (λ y. p y || same x y) xs
  with_item-filter p [] x rises there = absurd there
  with_item-filter p (y ∷ ys) x rises (inl here) =
      let others : filter p ys ≡ filter (λ z. p z || same y z) ys =
      filter-same p (λ z. p z || same y z) ys (Every-map (λ z. is_lt (cmp y z) ≡ true) (λ z. p z ≡ p z || same y z) (λ z less. sym (or_false (p z) (same y z) (order.differ y z less))) ys rises.0) in
      let first : p y || same y y ≡ true = or_true (p y) (same y y) (order.same_itself y) in
      let there : with_item cmp y (filter p (y ∷ ys)) ≡ filter (λ z. p z || same y z) (y ∷ ys) =
      at_first p y ys (p y) refl rises.0 ∙ ap (λ (zs : List X). y ∷ zs) others ∙ sym (ap (λ (b : Bool). cond b (y ∷ filter (λ z. p z || same y z) ys) (filter (λ z. p z || same y z) ys)) first) in
      subst (λ (z : X). with_item cmp z (filter p (y ∷ ys)) ≡ filter (λ w. p w || same z w) (y ∷ ys)) (sym here) there
  with_item-filter p (y ∷ ys) x rises (inr later) =
      let less : is_lt (cmp y x) ≡ true = Every-at (λ z. is_lt (cmp y z) ≡ true) x ys rises.0 later in
      let others : with_item cmp x (filter p ys) ≡ filter (λ z. p z || same x z) ys = with_item-filter p ys x rises.1 later in
      let kept : p y || same x y ≡ p y = or_false (p y) (same x y) (order.differ_behind y x less) in
      before x y (filter p ys) (p y) less
      ∙ ap (λ (zs : List X). cond (p y) (y ∷ zs) zs) others
      ∙ sym (ap (λ (b : Bool). cond b (y ∷ filter (λ z. p z || same x z) ys) (filter (λ z. p z || same x z) ys)) kept)

  with_items-filter : (p : X → Bool) (xs : List X) (items : List X) → Rises xs → Every (λ x. Among x xs) items
      → with_items cmp (filter p xs) items ≡ filter (λ y. p y || list_any (λ x. same x y) items) xs
  with_items-filter p xs [] rises known =
      filter-same p (λ y. p y || false) xs (every (λ y. p y ≡ p y || false) (λ y. sym (or_false (p y) false refl)) xs)
  with_items-filter p xs (x ∷ items) rises known =
      ap (λ (set : List X). with_items cmp set items) (with_item-filter p xs x rises known.0)
      ∙ with_items-filter (λ y. p y || same x y) xs items rises known.1
      ∙ filter-same (λ y. (p y || same x y) || list_any (λ z. same z y) items) (λ y. p y || (same x y || list_any (λ z. same z y) items)) xs
      (every (λ y. (p y || same x y) || list_any (λ z. same z y) items ≡ p y || (same x y || list_any (λ z. same z y) items)) (λ y. or_assoc (p y) (same x y) (list_any (λ z. same z y) items)) xs)

  -- the set of some elements of a list in order
  pub with_items-all : (xs : List X) (items : List X) → Rises xs → Every (λ x. Among x xs) items
      → with_items cmp [] items ≡ filter (λ y. list_any (λ x. same x y) items) xs
  with_items-all xs items rises known =
      ap (λ (set : List X). with_items cmp set items) (sym (filter-none (λ y. false) xs (every (λ y. false ≡ false) (λ y. refl) xs)))
      ∙ with_items-filter (λ y. false) xs items rises known
