-- Changed games, counted.
use Rattle.std.proofs.Common.{◌≡◌, ◌≤◌, ℕ, ◌+◌, Bool, true, false, not, ◌&&◌, ◌||◌, ◌==◌, nat_lt}
use Rattle.std.proofs.Common.{List, [], ◌∷◌, ap, inl, inr, refl, subst, sym, ◌∙◌, arith}
use Rattle.std.specs.List.{All, count_by, list_any}
use Rattle.std.proofs.lemmas.Bool.Decides.{nat_tests}
use Rattle.std.proofs.lemmas.List.Elements.{All-cons, All-head, All-nil, All-tail, All-weaker}
use Rattle.std.proofs.lemmas.List.Sums.{sum_by-cons}
use Rattle.league.specs.Counts.{Counts, counts_of, is_game}
use Rattle.league.specs.declared.game.Game.{Game}
use Rattle.league.proofs.RangeLemmas.{one_if}
use Rattle.resume.specs.Kept.{is_played}
use Rattle.league.specs.Instance.{Instance}
use Rattle.resume.specs.Near.{IsAtMost, IsNearestAnswer, IsNoFarther, IsOpenNear, changed, is_changed, is_open}
use Rattle.resume.specs.declared.near.Neared.{Neared}
use Rattle.resume.specs.declared.resumed.Resumed.{Resumed}
use Rattle.resume.specs.declared.resumed.Resumed.TheVariants.{Schedule, Refuted, Spent}

-- a list counts one more for an element that passes, and else as much
count-here : {X : Type 0} (p : X → Bool) (x : X) (xs : List X) → p x ≡ true
    → count_by p (x ∷ xs) ≡ 1 + count_by p xs
count-here p x xs is =
    let total : count_by p (x ∷ xs) ≡ one_if (p x) + count_by p xs = sum_by-cons (λ y. one_if (p y)) x xs in
    let one : one_if (p x) ≡ 1 = rw is refl in
    omega (arith, total, one)

count-there : {X : Type 0} (p : X → Bool) (x : X) (xs : List X) → p x ≡ false
    → count_by p (x ∷ xs) ≡ count_by p xs
count-there p x xs is =
    let total : count_by p (x ∷ xs) ≡ one_if (p x) + count_by p xs = sum_by-cons (λ y. one_if (p y)) x xs in
    let none : one_if (p x) ≡ 0 = rw is refl in
    omega (arith, total, none)

above : (c d : ℕ) → c ≡ 1 + d → nat_lt 0 c ≡ true
above c d is = grind (arith, nat_tests)

-- some element passes a test exactly where more than none do
pub any-counted : {X : Type 0} (p : X → Bool) (xs : List X) → list_any p xs ≡ nat_lt 0 (count_by p xs)
any-counted p [] = refl
any-counted {X} p (x ∷ xs) = by (p x) refl (any-counted p xs) where
  by : (b : Bool) → p x ≡ b → list_any p xs ≡ nat_lt 0 (count_by p xs)
      → list_any p (x ∷ xs) ≡ nat_lt 0 (count_by p (x ∷ xs))
  by true is rest =
      let here : list_any p (x ∷ xs) ≡ true = ap (λ (b : Bool). b || list_any p xs) is in
      here ∙ sym (above (count_by p (x ∷ xs)) (count_by p xs) (count-here p x xs is))
  by false is rest =
      let later : list_any p (x ∷ xs) ≡ list_any p xs = ap (λ (b : Bool). b || list_any p xs) is in
      later ∙ rest ∙ sym (ap (λ (c : ℕ). nat_lt 0 c) (count-there p x xs is))

-- where no element passes, none is counted
pub none-counted : {X : Type 0} (p : X → Bool) (xs : List X) → All (λ x. p x ≡ false) xs → count_by p xs ≡ 0
none-counted p [] none = refl
none-counted p (x ∷ xs) none =
    count-there p x xs (All-head (λ y. p y ≡ false) x xs none)
    ∙ none-counted p xs (All-tail (λ y. p y ≡ false) x xs none)

either : (a b : Bool) → b ≡ true → (a || b) ≡ true
either true b is = refl
either false b is = is

-- each element of a list is found in it
pub all-found : {X : Type 0} (same : X → X → Bool) → ((x : X) → same x x ≡ true) → (xs : List X)
    → All (λ x. list_any (same x) xs ≡ true) xs
all-found same itself [] = All-nil (λ x. list_any (same x) [] ≡ true)
all-found same itself (x ∷ xs) =
    All-cons (λ y. list_any (same y) (x ∷ xs) ≡ true) x xs (ap (λ (b : Bool). b || list_any (same x) xs) (itself x))
    (All-weaker (λ y. list_any (same y) xs ≡ true) (λ y. list_any (same y) (x ∷ xs) ≡ true)
    (λ y found. either (same y x) (list_any (same y) xs) found) xs (all-found same itself xs))

-- ---- games

same_game : (h w t : ℕ) → ((h == h) && (w == w) && (t == t)) ≡ true
same_game h w t = grind (arith, nat_tests)

stays : (later : Bool) (here : Bool) → here ≡ true → (later && not here) ≡ false
stays true true is = refl
stays false true is = refl
stays later false is = absurd (let no : false ≡ true = is in cc)

-- where the same games take place, none is changed
pub none-changed : (k : ℕ) (old games : List Game) → counts_of games ≡ counts_of old → changed k old games ≡ 0
none-changed k old games same =
    none-counted (is_changed k (counts_of games)) old
    (All-weaker (λ g. list_any (is_game g.home.0 g.away.0 g.slot.0) old ≡ true)
    (λ g. is_changed k (counts_of games) g ≡ false)
    (λ g found. stays (is_open k g) (is_played (counts_of games) g.home.0 g.away.0 g.slot.0)
    (ap (λ (m : Counts). is_played m g.home.0 g.away.0 g.slot.0) same
    ∙ sym (any-counted (is_game g.home.0 g.away.0 g.slot.0) old) ∙ found))
    old (all-found (λ g. is_game g.home.0 g.away.0 g.slot.0) (λ g. same_game g.home.0 g.away.0 g.slot.0) old))

-- ---- which of two seasons is nearer

-- an answer is no farther than itself
pub no_farther-itself : (k : ℕ) (old : List Game) (answer : Resumed) → IsNoFarther k old answer answer
no_farther-itself k old (Schedule games objective) = inr (refl, omega arith)
no_farther-itself k old (Refuted log) = refl
no_farther-itself k old (Spent log) = refl

pub at-most : (after before cost first : ℕ)
    → (nat_lt after before || ((after == before) && nat_lt cost first)) ≡ true → IsAtMost after cost before first
at-most after before cost first some = by (nat_lt after before) refl some where
  by : (fewer : Bool) → nat_lt after before ≡ fewer → (fewer || ((after == before) && nat_lt cost first)) ≡ true
      → IsAtMost after cost before first
  by true is some = inl (grind (arith, nat_tests))
  by false is some = inr (grind (arith, nat_tests), grind (arith, nat_tests))

not-less : (same less : Bool) → same ≡ true → (same && less) ≡ false → less ≡ false
not-less true less is none = none
not-less false less is none = absurd (cc)

same-true : (a b : ℕ) → a ≡ b → (a == b) ≡ true
same-true a b is = grind (arith, nat_tests)

at-least : (a b : ℕ) → nat_lt a b ≡ false → b ≤ a
at-least a b is = grind (arith, nat_tests)

-- what doesn't change fewer, nor as many at a lower cost, is no nearer
pub not-nearer : (after before cost first : ℕ)
    → (nat_lt after before || ((after == before) && nat_lt cost first)) ≡ false → IsAtMost before first after cost
not-nearer after before cost first none = by (nat_lt after before) refl none where
  equal : before ≤ after → (more : Bool) → nat_lt before after ≡ more
      → ((after == before) && nat_lt cost first) ≡ false → IsAtMost before first after cost
  equal least true is none = inl (grind (arith, nat_tests))
  equal least false is none =
      let same : before ≡ after = omega (arith, least, at-least before after is) in
      inr (
        same,
        at-least cost first
            (not-less (after == before) (nat_lt cost first) (same-true after before (omega (arith, same))) none),
      )

  by : (fewer : Bool) → nat_lt after before ≡ fewer → (fewer || ((after == before) && nat_lt cost first)) ≡ false
      → IsAtMost before first after cost
  by true is none = absurd (cc)
  by false is none = equal (at-least after before is) (nat_lt before after) refl none

-- an answer without a season that is nearest isn't said to be settled, rightly
pub unsettled-open : {may_stop : Type 0} (league : Instance) (k : ℕ) (old : List Game) (answer : Resumed) (near : Neared)
    → near ≡ record { answer = answer; settled = false } → (IsNearestAnswer league k old answer → ⊥)
    → IsOpenNear league k old may_stop near
unsettled-open {may_stop} league k old answer near is none = λ said.
    inr (λ nearest. none (subst (λ (n : Neared). IsNearestAnswer league k old n.answer) is nearest))

at_most-further : (changes cost before first start price : ℕ) → IsAtMost before first start price
    → IsAtMost changes cost before first → IsAtMost changes cost start price
at_most-further changes cost before first start price (inl less) (inl fewer) = inl (omega (arith, less, fewer))
at_most-further changes cost before first start price (inl less) (inr same) = inl (omega (arith, less, same.0))
at_most-further changes cost before first start price (inr as_many) (inl fewer) =
    inl (omega (arith, as_many.0, fewer))
at_most-further changes cost before first start price (inr as_many) (inr same) =
    inr (omega (arith, as_many.0, same.0), omega (arith, as_many.1, same.1))

-- what is no farther than an answer that is no farther is no farther
pub no_farther-further : (k : ℕ) (old : List Game) (first mid last : Resumed) → IsNoFarther k old first mid
    → IsNoFarther k old mid last → IsNoFarther k old first last
no_farther-further k old (Schedule games cost) (Schedule mid price) (Schedule end objective) before after =
    at_most-further (changed k old end) objective (changed k old mid) price (changed k old games) cost before after
no_farther-further k old (Schedule games cost) (Schedule mid price) (Refuted log) before after = absurd after
no_farther-further k old (Schedule games cost) (Schedule mid price) (Spent log) before after = absurd after
no_farther-further k old (Schedule games cost) (Refuted log) last before after = absurd before
no_farther-further k old (Schedule games cost) (Spent log) last before after = absurd before
no_farther-further k old (Refuted first) mid last before after =
    subst (λ (answer : Resumed). IsNoFarther k old answer last) before after
no_farther-further k old (Spent first) (Schedule mid price) (Schedule end objective) before after = tt
no_farther-further k old (Spent first) (Schedule mid price) (Refuted log) before after = absurd after
no_farther-further k old (Spent first) (Schedule mid price) (Spent log) before after = absurd after
no_farther-further k old (Spent first) (Refuted log) last before after = absurd before
no_farther-further k old (Spent first) (Spent log) (Schedule end objective) before after = tt
no_farther-further k old (Spent first) (Spent log) (Refuted other) before after = absurd after
no_farther-further k old (Spent first) (Spent log) (Spent other) before after = after ∙ before
