-- What neighbouring games lack, over the slots one at a time.
use Rattle.std.proofs.Common.{◌≡◌, ℕ, ◌+◌, ◌-◌, ◌*◌, ◌<◌, ◌≤◌, zero, suc, List, [], ◌∷◌, ◌++◌, replicate, refl, arith, ap, sym, ◌∙◌, Option, Some, None, zero-add}
use Rattle.std.proofs.lemmas.List.{append-nil, append_assoc}
use Rattle.std.specs.Option.{IfSome, option_to_list}
use Rattle.std.specs.List.{flat_map, range_with_len}
use Rattle.league.specs.Bounds.{excess}
use Rattle.league.specs.Separation.{lacking, slots_between}

-- nothing lies between games in one slot
same_slot : (min s : ℕ) → excess min (slots_between s s) ≡ min
same_slot min s = omega arith

-- some games in one slot
pub lacking-replicate : (min s count : ℕ) → lacking min (replicate (suc count) s) ≡ count * min
lacking-replicate min s zero = omega arith
lacking-replicate min s (suc count) =
    let product : suc count * min ≡ count * min + min = grind arith in
    omega (arith, lacking-replicate min s count, same_slot min s)

-- one list, and then the other from the last of the first on
pub lacking-joined : (min : ℕ) (xs : List ℕ) (s : ℕ) (rest : List ℕ) → lacking min (xs ++ s ∷ rest) ≡ lacking min (xs ++ s ∷ []) + lacking min (s ∷ rest)
lacking-joined min [] s rest = sym (zero-add (lacking min (s ∷ rest)))
lacking-joined min (x ∷ []) s rest = omega arith
lacking-joined min (x ∷ y ∷ xs) s rest = omega (arith, lacking-joined min (y ∷ xs) s rest)

-- the last of some equal numbers
replicate-last : (s count : ℕ) (rest : List ℕ) → replicate (suc count) s ++ rest ≡ replicate count s ++ s ∷ rest
replicate-last s zero rest = refl
replicate-last s (suc count) rest = ap (λ (xs : List ℕ). s ∷ xs) (replicate-last s count rest)

-- the games of a slot, after those before it
pub lacking-slot : (min : ℕ) (xs : List ℕ) (s games : ℕ) (rest : List ℕ) → 0 < games → lacking min (xs ++ (replicate games s ++ rest)) ≡ lacking min (xs ++ replicate games s) + lacking min (s ∷ rest)
lacking-slot min xs s zero rest some = absurd (omega arith)
lacking-slot min xs s (suc count) rest some =
    let whole : xs ++ (replicate (suc count) s ++ rest) ≡ (xs ++ replicate count s) ++ s ∷ rest =
    ap (λ (ys : List ℕ). xs ++ ys) (replicate-last s count rest) ∙ sym (append_assoc xs (replicate count s) (s ∷ rest)) in
    let front : xs ++ replicate (suc count) s ≡ (xs ++ replicate count s) ++ s ∷ [] =
    ap (λ (ys : List ℕ). xs ++ ys) (sym (append-nil (replicate (suc count) s)) ∙ replicate-last s count []) ∙ sym (append_assoc xs (replicate count s) (s ∷ [])) in
    omega (arith, ap (lacking min) whole, ap (lacking min) front, lacking-joined min (xs ++ replicate count s) s rest)

-- what the games of a slot lack, where there is a game before, and where there is none
pub lacking_at-some : (min before s games : ℕ) → 0 < games → lacking min (before ∷ replicate games s) ≡ excess min (slots_between before s) + (games - 1) * min
lacking_at-some min before s zero some = absurd (omega arith)
lacking_at-some min before s (suc count) some =
    let less : suc count - 1 ≡ count = omega arith in
    omega (arith, lacking-replicate min s count, ap (λ (c : ℕ). c * min) less)

pub lacking_at-none : (min s games : ℕ) → 0 < games → lacking min (replicate games s) ≡ (games - 1) * min
lacking_at-none min s zero some = absurd (omega arith)
lacking_at-none min s (suc count) some =
    let less : suc count - 1 ≡ count = omega arith in
    omega (arith, lacking-replicate min s count, ap (λ (c : ℕ). c * min) less)

-- over the slots from one on, where count s games are in slot s
module _ (min : ℕ) (count : ℕ → ℕ) where
  abbrev pub from_slot : ℕ → ℕ → List ℕ
  from_slot s slots = flat_map (λ t. replicate (count t) t) (range_with_len s slots)

  one_slot : (s slots : ℕ) → s < slots → from_slot s (slots - s) ≡ replicate (count s) s ++ from_slot (s + 1) (slots - (s + 1))
  one_slot s slots inside =
      let size : slots - s ≡ suc (slots - (s + 1)) = omega arith in
      ap (λ (k : ℕ). from_slot s k) size

  -- with games in the slot, the last game is here
  pub slot_played : (s slots games total more whole : ℕ) (last here : Option ℕ) → s < slots → 0 < games
      → games ≡ count s → more ≡ lacking min (option_to_list last ++ replicate games s)
      → total + lacking min (option_to_list last ++ from_slot s (slots - s)) ≡ whole → here ≡ Some s
      → total + more + lacking min (option_to_list here ++ from_slot (s + 1) (slots - (s + 1))) ≡ whole
  slot_played s slots games total more whole last here inside some counted is so_far now =
      let rest : List ℕ = from_slot (s + 1) (slots - (s + 1)) in
      let split : option_to_list last ++ from_slot s (slots - s) ≡ option_to_list last ++ (replicate games s ++ rest) =
      ap (λ (xs : List ℕ). option_to_list last ++ xs) (one_slot s slots inside ∙ ap (λ (c : ℕ). replicate c s ++ rest) (sym counted)) in
      omega (arith, ap (lacking min) split, lacking-slot min (option_to_list last) s games rest some, ap (λ (o : Option ℕ). lacking min (option_to_list o ++ rest)) now)

  -- without, it is where it was
  pub slot_free : (s slots games total whole : ℕ) (last : Option ℕ) → s < slots → games ≤ 0 → games ≡ count s → total + lacking min (option_to_list last ++ from_slot s (slots - s)) ≡ whole → total + lacking min (option_to_list last ++ from_slot (s + 1) (slots - (s + 1))) ≡ whole
  slot_free s slots games total whole last inside none counted so_far =
      let empty : count s ≡ 0 = omega arith in
      let same : from_slot s (slots - s) ≡ from_slot (s + 1) (slots - (s + 1)) =
      one_slot s slots inside ∙ ap (λ (c : ℕ). replicate c s ++ from_slot (s + 1) (slots - (s + 1))) empty in
      omega (arith, ap (λ (xs : List ℕ). lacking min (option_to_list last ++ xs)) same)

-- a game before a slot is before the next one
pub before_next : (last : Option ℕ) (s : ℕ) → IfSome last (λ before. before < s) → IfSome last (λ before. before < s + 1)
before_next (Some before) s h = omega arith
before_next None s h = h
