-- Each legal move undoes itself.
use Rattle.std.proofs.Common.{◌≡◌, ◌≢◌, ℕ, ◌+◌, ◌<◌, ◌≤◌, Bool, true, false, not, ◌&&◌, ◌||◌, nat_lt, if◌then◌else◌, ◌⊎◌, inl, inr, refl, arith, ap, subst, sym, ◌∙◌}
use Rattle.std.proofs.Math.Path.{fun_ext}
use Rattle.std.proofs.lemmas.Bool.{cases_eq, cases_Bool, not-true, or_cases}
use Rattle.std.proofs.lemmas.Bool.Decides.{nat_tests}
use Rattle.league.specs.Counts.{Counts, slot_count, teams_of}
use Rattle.league.specs.Sets.{is_in}
use Rattle.league.specs.Structure.{IsRoundRobin}
use Rattle.moves.specs.Moves.{IsInOwnRange, IsLegal, do_meet, exchange, follows, game, moved, slots_linked, teams_linked, turned, with_teams}
use Rattle.moves.specs.Parts.{IsClosedSlots, IsClosedTeams, slots_exchanged, teams_exchanged}
use Rattle.moves.specs.Undo.{IsUndone, LegalMovesUndo}
use Rattle.moves.specs.declared.swap.Swap.{Swap}
use Rattle.moves.specs.declared.swap.Swap.TheVariants.{HomeSwap, RoundSwap, TeamSwap, PartRoundSwap, PartTeamSwap}
use Rattle.moves.proofs.ClosureLaw.{closure-below, closure-closed, closure-least, closures-same}
use Rattle.moves.proofs.HomeLemmas.{are_two, either_order, venues_exchanged}
use Rattle.moves.proofs.LegalLemmas.{below_all, both_positive, part_round_swap-same, part_team_swap-same, times_of}
use Rattle.moves.proofs.PlayLemmas.{IsPlayed, busy, met, met-itself, played, slot}
use Rattle.moves.proofs.SlotLaw.{met-exchanged}
use Rattle.moves.proofs.SumLemmas.{OneIsOne, exchange-first, exchange-other, exchange-second}
use Rattle.moves.proofs.TeamLaw.{IsExchange, found, in_slots, in_slots-one, kept, kept-one, venues-same}
use Rattle.moves.proofs.WalkLemmas.{found_in}

-- what a change twice over gives
exchange-twice : (s t r : ℕ) → exchange s t (exchange s t r) ≡ r
exchange-twice s t r = elim (cases_eq r s) as (λ _. exchange s t (exchange s t r) ≡ r) [
  | inl is_s ↦ exchange-second s t (exchange s t r) (exchange-first s t r is_s) ∙ sym is_s
  | inr not_s ↦ elim (cases_eq r t) as (λ _. exchange s t (exchange s t r) ≡ r) [
    | inl is_t ↦ exchange-first s t (exchange s t r) (exchange-second s t r is_t) ∙ sym is_t
    | inr not_t ↦ ap (exchange s t) (exchange-other s t r not_s not_t) ∙ exchange-other s t r not_s not_t
  ]
]

twice_turned : (p q : Bool) (x y : ℕ) → p ≡ q → (if p then (if q then x else y) else (if p then y else x)) ≡ x
twice_turned true true x y e = refl
twice_turned true false x y e = absurd (cc)
twice_turned false q x y e = refl

twice_same : (p : Bool) (x y u z : ℕ) → x ≡ z → (if p then (if p then x else y) else (if p then u else z)) ≡ z
twice_same true x y u z e = e
twice_same false x y u z e = refl

venues-twice : (i j : ℕ) (m : Counts) (a b r : ℕ) → venues_exchanged i j (venues_exchanged i j m) a b r ≡ m a b r
venues-twice i j m a b r = twice_turned (are_two i j a b) (are_two i j b a) (m a b r) (m b a r) (either_order i j a b)

slots-twice : (set : ℕ → Bool) (s t : ℕ) (m : Counts) (a b r : ℕ) → slots_exchanged set s t (slots_exchanged set s t m) a b r ≡ m a b r
slots-twice set s t m a b r =
    let f : ℕ → ℕ = m a b in
    twice_same (set a) (f (exchange s t (exchange s t r))) (f (exchange s t r)) (f (exchange s t r)) (f r) (ap f (exchange-twice s t r))

teams-twice : (set : ℕ → Bool) (i j : ℕ) (m : Counts) (a b r : ℕ) → teams_exchanged set i j (teams_exchanged set i j m) a b r ≡ m a b r
teams-twice set i j m a b r =
    let c : ℕ = exchange i j a in
    let d : ℕ = exchange i j b in
    let back : m (exchange i j c) (exchange i j d) r ≡ m a b r =
    ap (λ (a : ℕ). m a (exchange i j d) r) (exchange-twice i j a) ∙ ap (λ (b : ℕ). m a b r) (exchange-twice i j b) in
    twice_same (set r) (m (exchange i j c) (exchange i j d) r) (m c d r) (m c d r) (m a b r) back

-- i and j meet where they met
sum_either : (p : Bool) (x y z w : ℕ) → x + z ≡ y + w → (if p then x else y) + (if p then z else w) ≡ y + w
sum_either true x y z w e = e
sum_either false x y z w e = refl

other_sum : (x y : ℕ) → y + x ≡ x + y
other_sum x y = omega arith

meets_as_before : (set : ℕ → Bool) (i j : ℕ) (m : Counts) (r : ℕ) → do_meet (teams_exchanged set i j m) i j r ≡ do_meet m i j r
meets_as_before set i j m r =
    let c : ℕ = exchange i j i in
    let d : ℕ = exchange i j j in
    let same : met m c d r ≡ met m i j r =
    ap (λ (c : ℕ). met m c d r) (exchange-first i j i refl) ∙ ap (λ (d : ℕ). met m j d r) (exchange-second i j j refl) ∙ other_sum (m i j r) (m j i r) in
    ap (λ (x : ℕ). nat_lt 0 x) (sum_either (set r) (m c d r) (m i j r) (m d c r) (m j i r) same)

-- where a move leads back, it is legal on what it led to
undone : (n : ℕ) (phased : Bool) (m after : Counts) (step : Swap) → after ≡ moved n m step → IsRoundRobin n phased m → IsInOwnRange after step → ((a b r : ℕ) → moved n after step a b r ≡ m a b r) → IsUndone n phased m step
undone n phased m after step whole is own back =
    let again : moved n after step ≡ m = fun_ext (λ a. fun_ext (λ b. fun_ext (λ r. back a b r))) in
    let legal : IsLegal n phased after step = record { own = own; round_robin = subst (IsRoundRobin n phased) (sym again) is } in
    record {
      legal = subst (λ (after : Counts). IsLegal n phased after step) whole legal;
      back = λ a b r. subst (λ (after : Counts). moved n after step a b r ≡ m a b r) whole (back a b r);
    }

home_swap-moved : (n : ℕ) (m : Counts) (i j a b r : ℕ) → venues_exchanged i j m a b r ≡ moved n m (HomeSwap (record { 0 = i }) (record { 0 = j })) a b r
home_swap-moved n m i j a b r = sym (times_of m (are_two i j a b) (turned (game a b r)) (game a b r))

home_swap-undone : (n : ℕ) (phased : Bool) (m : Counts) (i j : ℕ) → IsRoundRobin n phased m → i < j → IsUndone n phased m (HomeSwap (record { 0 = i }) (record { 0 = j }))
home_swap-undone n phased m i j is lt =
    undone n phased m (venues_exchanged i j m) (HomeSwap (record { 0 = i }) (record { 0 = j }))
    (fun_ext (λ a. fun_ext (λ b. fun_ext (λ r. home_swap-moved n m i j a b r)))) is lt
    (λ a b r. sym (home_swap-moved n (venues_exchanged i j m) i j a b r) ∙ venues-twice i j m a b r)

round_swap-undone : (n : ℕ) (phased : Bool) (m : Counts) (s t : ℕ) → IsRoundRobin n phased m → s < t → IsUndone n phased m (RoundSwap (record { 0 = s }) (record { 0 = t }))
round_swap-undone n phased m s t is lt =
    undone n phased m (λ a b r. m a b (exchange s t r)) (RoundSwap (record { 0 = s }) (record { 0 = t })) refl is lt
    (λ a b r. ap (m a b) (exchange-twice s t r))

if_true : (b : Bool) (x y : ℕ) → b ≡ true → (if b then x else y) ≡ x
if_true true x y is = refl
if_true false x y is = absurd (cc)

if_false : (b : Bool) (x y : ℕ) → b ≡ false → (if b then x else y) ≡ y
if_false true x y fails = absurd (cc)
if_false false x y fails = refl

if_not : (b : Bool) (x y : ℕ) → (if not b then x else y) ≡ (if b then y else x)
if_not true x y = refl
if_not false x y = refl

abbrev apart_in : ℕ → ℕ → Counts → ℕ → Bool
apart_in i j m r = not (do_meet m i j r)

team_swap-moved : (n : ℕ) (m : Counts) (i j a b r : ℕ) → teams_exchanged (apart_in i j m) i j m a b r ≡ moved n m (TeamSwap (record { 0 = i }) (record { 0 = j })) a b r
team_swap-moved n m i j a b r =
    if_not (do_meet m i j r) (m (exchange i j a) (exchange i j b) r) (m a b r)
    ∙ sym (times_of m (do_meet m i j r) (game a b r) (with_teams i j (game a b r)))

team_swap-undone : (n : ℕ) (phased : Bool) (m : Counts) (i j : ℕ) → IsRoundRobin n phased m → i < j → IsUndone n phased m (TeamSwap (record { 0 = i }) (record { 0 = j }))
team_swap-undone n phased m i j is lt =
    let set : ℕ → Bool = apart_in i j m in
    let after : Counts = teams_exchanged set i j m in
    undone n phased m after (TeamSwap (record { 0 = i }) (record { 0 = j }))
    (fun_ext (λ a. fun_ext (λ b. fun_ext (λ r. team_swap-moved n m i j a b r)))) is lt
    (λ a b r.
    sym (team_swap-moved n after i j a b r)
    ∙ ap (λ (v : Bool). if not v then after (exchange i j a) (exchange i j b) r else after a b r) (meets_as_before set i j m r)
    ∙ teams-twice set i j m a b r)

-- the teams of a part round swap are the same after it
either_slot : (x y : ℕ) → (nat_lt 0 x || nat_lt 0 y) ≡ true → (nat_lt 0 y || nat_lt 0 x) ≡ true
either_slot x y is = grind (arith, nat_tests)

linked_after : (n : ℕ) (m : Counts) (set : ℕ → Bool) (s t a b : ℕ) → IsClosedTeams n m s t set → a < n → b < n → set a ≡ true → (do_meet (slots_exchanged set s t m) a b s || do_meet (slots_exchanged set s t m) a b t) ≡ (do_meet m a b t || do_meet m a b s)
linked_after n m set s t a b closed lt_a lt_b in_set =
    let after : Counts = slots_exchanged set s t m in
    let at : (r : ℕ) → met after a b r ≡ met m a b (exchange s t r) = λ r.
    met-exchanged n m set s t a b r closed lt_a lt_b ∙ if_true (set a) (met m a b (exchange s t r)) (met m a b r) in_set in
    let in_s : met after a b s ≡ met m a b t = at s ∙ ap (λ (r : ℕ). met m a b r) (exchange-first s t s refl) in
    let in_t : met after a b t ≡ met m a b s = at t ∙ ap (λ (r : ℕ). met m a b r) (exchange-second s t t refl) in
    ap (λ (x : ℕ). nat_lt 0 x || nat_lt 0 (met after a b t)) in_s ∙ ap (λ (y : ℕ). nat_lt 0 (met m a b t) || nat_lt 0 y) in_t

teams-same : (n : ℕ) (m : Counts) (i s t : ℕ) → i < n → (a : ℕ) → is_in a (teams_linked n m i s t) ≡ is_in a (teams_linked n (slots_exchanged (λ a. is_in a (teams_linked n m i s t)) s t m) i s t)
teams-same n m i s t lt =
    let set : ℕ → Bool = λ a. is_in a (teams_linked n m i s t) in
    let after : Counts = slots_exchanged set s t m in
    let next : ℕ → ℕ → Bool = λ a b. do_meet m a b s || do_meet m a b t in
    let other : ℕ → ℕ → Bool = λ a b. do_meet after a b s || do_meet after a b t in
    let closed : IsClosedTeams n m s t set = λ a b lt_b in_set leads. closure-closed next n i lt a b lt_b in_set leads in
    closures-same next other n i lt
    (λ a b lt_b in_set leads.
    let lt_a : a < n = closure-below next n i a lt in_set in
    closed a b lt_b in_set (either_slot (met m a b t) (met m a b s) (sym (linked_after n m set s t a b closed lt_a lt_b in_set) ∙ leads)))
    (λ a b lt_b in_other in_set leads.
    let lt_a : a < n = closure-below next n i a lt in_set in
    closure-closed other n i lt a b lt_b in_other (linked_after n m set s t a b closed lt_a lt_b in_set ∙ either_slot (met m a b s) (met m a b t) leads))

part_round_swap-undone : (n : ℕ) (phased : Bool) (m : Counts) (i s t : ℕ) → IsRoundRobin n phased m → i < n → s < t → IsUndone n phased m (PartRoundSwap (record { 0 = i }) (record { 0 = s }) (record { 0 = t }))
part_round_swap-undone n phased m i s t is lt_i lt =
    let set : ℕ → Bool = λ a. is_in a (teams_linked n m i s t) in
    let after : Counts = slots_exchanged set s t m in
    undone n phased m after (PartRoundSwap (record { 0 = i }) (record { 0 = s }) (record { 0 = t }))
    (fun_ext (λ a. fun_ext (λ b. fun_ext (λ r. part_round_swap-same n m i s t set (λ _. refl) a b r)))) is lt
    (λ a b r. sym (part_round_swap-same n after i s t set (teams-same n m i s t lt_i) a b r) ∙ slots-twice set s t m a b r)

-- whom i meets in one slot, j meets at the same venue in another
two_positive : (x y : ℕ) → (nat_lt 0 x && nat_lt 0 y) ≡ true → (1 ≤ x) × (1 ≤ y)
two_positive x y is = (grind (arith, nat_tests), grind (arith, nat_tests))

which_venue : (x y z w : ℕ) → ((nat_lt 0 x && nat_lt 0 y) || (nat_lt 0 z && nat_lt 0 w)) ≡ true → ((1 ≤ x) × (1 ≤ y)) ⊎ ((1 ≤ z) × (1 ≤ w))
which_venue x y z w is = elim (or_cases (nat_lt 0 x && nat_lt 0 y) (nat_lt 0 z && nat_lt 0 w) is) as (λ _. ((1 ≤ x) × (1 ≤ y)) ⊎ ((1 ≤ z) × (1 ≤ w))) [
  | inl here ↦ inl (two_positive x y here)
  | inr there ↦ inr (two_positive z w there)
]

at_home : (x y z w : ℕ) → 1 ≤ x → 1 ≤ y → ((nat_lt 0 x && nat_lt 0 y) || (nat_lt 0 z && nat_lt 0 w)) ≡ true
at_home x y z w a b = grind (arith, nat_tests)

away : (x y z w : ℕ) → 1 ≤ z → 1 ≤ w → ((nat_lt 0 x && nat_lt 0 y) || (nat_lt 0 z && nat_lt 0 w)) ≡ true
away x y z w a b = grind (arith, nat_tests)

-- the team k that i meets in slot r, and j in slot q at the same venue
record Common (n : ℕ) (m : Counts) (i j r q : ℕ) : Type 0 where
  pub k : ℕ
  pub below : k < n
  pub not_i : k ≢ i
  pub not_j : k ≢ j
  pub venue : ((1 ≤ m i k r) × (1 ≤ m j k q)) ⊎ ((1 ≤ m k i r) × (1 ≤ m k j q))

common : (n : ℕ) (phased : Bool) (m : Counts) (i j r q : ℕ) → IsPlayed n phased m → i < n → j < n → r < slot_count n → q < slot_count n → follows n m i j r q ≡ true → Common n m i j r q
common n phased m i j r q is lt_i lt_j lt_r lt_q leads =
    let f = found_in (λ k. (nat_lt 0 (m i k r) && nat_lt 0 (m j k q)) || (nat_lt 0 (m k i r) && nat_lt 0 (m k j q))) (teams_of n) leads in
    let some : (1 ≤ met m i f.at r) × (1 ≤ met m j f.at q) = both_positive (m i f.at r) (m j f.at q) (m f.at i r) (m f.at j q) f.passes in
    record {
      k = f.at;
      below = below_all n f.at f.among;
      not_i = λ e. let none : met m i f.at r ≡ met m i i r = ap (λ (k : ℕ). met m i k r) e in omega (arith, none, some.0, met-itself n phased m i r is lt_i lt_r);
      not_j = λ e. let none : met m j f.at q ≡ met m j j q = ap (λ (k : ℕ). met m j k q) e in omega (arith, none, some.1, met-itself n phased m j q is lt_j lt_q);
      venue = which_venue (m i f.at r) (m j f.at q) (m f.at i r) (m f.at j q) f.passes;
    }

follows-of : (n : ℕ) (m : Counts) (i j r q k : ℕ) → k < n → ((1 ≤ m i k r) × (1 ≤ m j k q)) ⊎ ((1 ≤ m k i r) × (1 ≤ m k j q)) → follows n m i j r q ≡ true
follows-of n m i j r q k lt (inl here) =
    found (λ k. (nat_lt 0 (m i k r) && nat_lt 0 (m j k q)) || (nat_lt 0 (m k i r) && nat_lt 0 (m k j q))) n k lt (at_home (m i k r) (m j k q) (m k i r) (m k j q) here.0 here.1)
follows-of n m i j r q k lt (inr there) =
    found (λ k. (nat_lt 0 (m i k r) && nat_lt 0 (m j k q)) || (nat_lt 0 (m k i r) && nat_lt 0 (m k j q))) n k lt (away (m i k r) (m j k q) (m k i r) (m k j q) there.0 there.1)

-- the only slot in which two teams meet at a venue
only_slot : (f : ℕ → ℕ) (k x : ℕ) (one : OneIsOne f k) → x < k → 1 ≤ f x → x ≡ one.at
only_slot f k x one lt some = elim (cases_eq x one.at) as (λ _. x ≡ one.at) [
  | inl same ↦ same
  | inr other ↦ let none : f x ≡ 0 = one.others x lt other in absurd (omega arith)
]

one_meeting : (n : ℕ) (phased : Bool) (m : Counts) (a b r q : ℕ) → IsPlayed n phased m → a < n → b < n → a ≢ b → r < slot_count n → q < slot_count n → 1 ≤ m a b r → 1 ≤ m a b q → r ≡ q
one_meeting n phased m a b r q is lt_a lt_b ne lt_r lt_q in_r in_q =
    let one : OneIsOne (λ s. m a b s) (slot_count n) = slot n phased m a b is lt_a lt_b ne in
    only_slot (λ s. m a b s) (slot_count n) r one lt_r in_r ∙ sym (only_slot (λ s. m a b s) (slot_count n) q one lt_q in_q)

-- i's slot is in a set where j's is, at the same venue
same_mark : (n : ℕ) (phased : Bool) (m : Counts) (set : ℕ → Bool) (a b c d r q : ℕ) → IsPlayed n phased m → a < n → b < n → c < n → d < n → a ≢ b → c ≢ d → r < slot_count n → q < slot_count n → in_slots n m set a b ≡ in_slots n m set c d → 1 ≤ m a b r → 1 ≤ m c d q → set q ≡ true → set r ≡ true
same_mark n phased m set a b c d r q is lt_a lt_b lt_c lt_d ne other lt_r lt_q same in_r in_q marked =
    let mine : OneIsOne (λ s. m a b s) (slot_count n) = slot n phased m a b is lt_a lt_b ne in
    let its : OneIsOne (λ s. m c d s) (slot_count n) = slot n phased m c d is lt_c lt_d other in
    let at_r : r ≡ mine.at = only_slot (λ s. m a b s) (slot_count n) r mine lt_r in_r in
    let at_q : q ≡ its.at = only_slot (λ s. m c d s) (slot_count n) q its lt_q in_q in
    let there : set its.at ≡ true = ap set (sym at_q) ∙ marked in
    let one : kept (set mine.at) 1 ≡ 1 =
    sym (in_slots-one n m set a b mine) ∙ same ∙ in_slots-one n m set c d its ∙ ap (λ (v : Bool). kept v 1) there in
    ap set at_r ∙ (kept-one (set mine.at) 1 one).0

-- a set that is closed under following is closed the other way round
closed_back : (n : ℕ) (phased : Bool) (m : Counts) (i j : ℕ) (set : ℕ → Bool) (r q : ℕ) → IsExchange n phased m i j set → r < slot_count n → q < slot_count n → follows n m i j r q ≡ true → set q ≡ true → set r ≡ true
closed_back n phased m i j set r q e lt_r lt_q leads marked =
    let lt_i : i < n = omega (arith, e.before, e.last) in
    let c : Common n m i j r q = common n phased m i j r q e.played lt_i e.last lt_r lt_q leads in
    let same = venues-same n phased m i j set c.k e c.below c.not_i c.not_j in
    elim c.venue as (λ _. set r ≡ true) [
      | inl here ↦
          same_mark n phased m set i c.k j c.k r q e.played lt_i c.below e.last c.below (λ h. c.not_i (sym h)) (λ h. c.not_j (sym h)) lt_r lt_q same.0 here.0 here.1 marked
      | inr there ↦
          same_mark n phased m set c.k i c.k j r q e.played c.below lt_i c.below e.last c.not_i c.not_j lt_r lt_q same.1 there.0 there.1 marked
    ]

-- the slots of a part team swap are closed, and i and j meet in none of them
no_game : (x y : ℕ) → x + y ≡ 0 → nat_lt 0 (y + x) ≡ false
no_game x y none = grind (arith, nat_tests)

follows-apart : (n : ℕ) (phased : Bool) (m : Counts) (i j r q : ℕ) → IsPlayed n phased m → i < n → j < n → r < slot_count n → q < slot_count n → follows n m i j r q ≡ true → do_meet m i j q ≡ false
follows-apart n phased m i j r q is lt_i lt_j lt_r lt_q leads =
    let c : Common n m i j r q = common n phased m i j r q is lt_i lt_j lt_r lt_q leads in
    let some : 1 ≤ met m j c.k q = elim c.venue as (λ _. 1 ≤ met m j c.k q) [
      | inl here ↦ omega (arith, here.1)
      | inr there ↦ omega (arith, there.1)
    ] in
    no_game (m j i q) (m i j q) (busy n phased m j c.k i q is lt_j c.below lt_i lt_q c.not_i some)

two_true : (x y : Bool) → (x && y) ≡ true → (x ≡ true) × (y ≡ true)
two_true true true is = (refl, refl)
two_true true false is = absurd (cc)
two_true false y is = absurd (cc)

is_below : (a k : ℕ) → nat_lt a k ≡ true → a < k
is_below a k is = grind (arith, nat_tests)

below_is : (a k : ℕ) → a < k → nat_lt a k ≡ true
below_is a k lt = grind (arith, nat_tests)

both_pass : (x y : Bool) → x ≡ true → y ≡ true → (x && y) ≡ true
both_pass true true p q = refl
both_pass true false p q = q
both_pass false y p q = p

linked-closed : (n : ℕ) (phased : Bool) (m : Counts) (i j s : ℕ) → IsPlayed n phased m → i < n → j < n → s < slot_count n → do_meet m i j s ≡ false → IsClosedSlots n m i j (λ r. is_in r (slots_linked n m i j s))
linked-closed n phased m i j s is lt_i lt_j lt_s apart =
    let k : ℕ = slot_count n in
    let fits : ℕ → Bool = λ r. nat_lt r k && not (do_meet m i j r) in
    let start : fits s ≡ true = both_pass (nat_lt s k) (not (do_meet m i j s)) (below_is s k lt_s) (ap not apart) in
    let leads_on : (r q : ℕ) → q < k → fits r ≡ true → follows n m i j r q ≡ true → fits q ≡ true = λ r q lt_q here leads.
    let lt_r : r < k = is_below r k (two_true (nat_lt r k) (not (do_meet m i j r)) here).0 in
    both_pass (nat_lt q k) (not (do_meet m i j q)) (below_is q k lt_q) (ap not (follows-apart n phased m i j r q is lt_i lt_j lt_r lt_q leads)) in
    record {
      closed = λ r q lt_q in_set leads. closure-closed (follows n m i j) k s lt_s r q lt_q in_set leads;
      apart = λ r lt_r in_set.
          not-true (do_meet m i j r)
          (two_true (nat_lt r k) (not (do_meet m i j r)) (closure-least (follows n m i j) k s fits start leads_on r in_set)).1;
    }

-- the games of i and of j with a third team, in a slot in which they are exchanged, and in another
traded : (set : ℕ → Bool) (i j : ℕ) (m : Counts) (x y c d r : ℕ) → set r ≡ true → exchange i j x ≡ c → exchange i j y ≡ d → teams_exchanged set i j m x y r ≡ m c d r
traded set i j m x y c d r in_set p q =
    if_true (set r) (m (exchange i j x) (exchange i j y) r) (m x y r) in_set
    ∙ ap (λ (c : ℕ). m c (exchange i j y) r) p ∙ ap (λ (d : ℕ). m c d r) q

kept_game : (set : ℕ → Bool) (i j : ℕ) (m : Counts) (x y r : ℕ) → set r ≡ false → teams_exchanged set i j m x y r ≡ m x y r
kept_game set i j m x y r out = if_false (set r) (m (exchange i j x) (exchange i j y) r) (m x y r) out

slots-same : (n : ℕ) (phased : Bool) (m : Counts) (i j s : ℕ) → IsPlayed n phased m
    → IsPlayed n phased (teams_exchanged (λ r. is_in r (slots_linked n m i j s)) i j m) → i < j → j < n
    → s < slot_count n → do_meet m i j s ≡ false → (r : ℕ) → is_in r (slots_linked n m i j s)
    ≡ is_in r (slots_linked n (teams_exchanged (λ r. is_in r (slots_linked n m i j s)) i j m) i j s)
slots-same n phased m i j s is after_is lt last lt_s apart =
    let set : ℕ → Bool = λ r. is_in r (slots_linked n m i j s) in
    let after : Counts = teams_exchanged set i j m in
    let lt_i : i < n = omega (arith, lt, last) in
    let closed : IsClosedSlots n m i j set = linked-closed n phased m i j s is lt_i last lt_s apart in
    let below : (r : ℕ) → set r ≡ true → r < slot_count n = λ r in_set. closure-below (follows n m i j) (slot_count n) s r lt_s in_set in
    let again : IsExchange n phased after i j (λ r. is_in r (slots_linked n after i j s)) = record {
      played = after_is;
      before = lt;
      last = last;
      slots = linked-closed n phased after i j s after_is lt_i last lt_s (meets_as_before set i j m s ∙ apart);
    } in
    closures-same (follows n m i j) (follows n after i j) (slot_count n) s lt_s
    (λ r q lt_q in_set leads.
    let lt_r : r < slot_count n = below r in_set in
    let c : Common n after i j r q = common n phased after i j r q after_is lt_i last lt_r lt_q leads in
    elim (cases_Bool (set q)) as (λ _. set q ≡ true) [
      | inl marked ↦ marked
      | inr out ↦
          let same : r ≡ q = elim c.venue as (λ _. r ≡ q) [
            | inl here ↦
                let mine : after i c.k r ≡ m j c.k r = traded set i j m i c.k j c.k r in_set (exchange-first i j i refl) (exchange-other i j c.k c.not_i c.not_j) in
                let its : after j c.k q ≡ m j c.k q = kept_game set i j m j c.k q out in
                one_meeting n phased m j c.k r q is last c.below (λ h. c.not_j (sym h)) lt_r lt_q (omega (arith, mine, here.0)) (omega (arith, its, here.1))
            | inr there ↦
                let mine : after c.k i r ≡ m c.k j r = traded set i j m c.k i c.k j r in_set (exchange-other i j c.k c.not_i c.not_j) (exchange-first i j i refl) in
                let its : after c.k j q ≡ m c.k j q = kept_game set i j m c.k j q out in
                one_meeting n phased m c.k j r q is c.below last c.not_j lt_r lt_q (omega (arith, mine, there.0)) (omega (arith, its, there.1))
          ] in
          ap set (sym same) ∙ in_set
    ])
    (λ r q lt_q in_after in_set leads.
    let lt_r : r < slot_count n = below r in_set in
    let marked : set q ≡ true = closed.closed r q lt_q in_set leads in
    let c : Common n m i j r q = common n phased m i j r q is lt_i last lt_r lt_q leads in
    let first : exchange i j i ≡ j = exchange-first i j i refl in
    let second : exchange i j j ≡ i = exchange-second i j j refl in
    let other : exchange i j c.k ≡ c.k = exchange-other i j c.k c.not_i c.not_j in
    let turned_round : ((1 ≤ after i c.k q) × (1 ≤ after j c.k r)) ⊎ ((1 ≤ after c.k i q) × (1 ≤ after c.k j r)) =
    elim c.venue as (λ _. ((1 ≤ after i c.k q) × (1 ≤ after j c.k r)) ⊎ ((1 ≤ after c.k i q) × (1 ≤ after c.k j r))) [
      | inl here ↦
          let mine : after i c.k q ≡ m j c.k q = traded set i j m i c.k j c.k q marked first other in
          let its : after j c.k r ≡ m i c.k r = traded set i j m j c.k i c.k r in_set second other in
          inl (omega (arith, mine, here.1), omega (arith, its, here.0))
      | inr there ↦
          let mine : after c.k i q ≡ m c.k j q = traded set i j m c.k i c.k j q marked other first in
          let its : after c.k j r ≡ m c.k i r = traded set i j m c.k j c.k i r in_set other second in
          inr (omega (arith, mine, there.1), omega (arith, its, there.0))
    ] in
    closed_back n phased after i j (λ r. is_in r (slots_linked n after i j s)) q r again lt_q lt_r (follows-of n after i j q r c.k c.below turned_round) in_after)

part_team_swap-undone : (n : ℕ) (phased : Bool) (m : Counts) (i j s : ℕ) → IsRoundRobin n phased m
    → IsRoundRobin n phased (moved n m (PartTeamSwap (record { 0 = i }) (record { 0 = j }) (record { 0 = s }))) → i < j
    → j < n → s < slot_count n → do_meet m i j s ≡ false
    → IsUndone n phased m (PartTeamSwap (record { 0 = i }) (record { 0 = j }) (record { 0 = s }))
part_team_swap-undone n phased m i j s is legal lt last lt_s apart =
    let set : ℕ → Bool = λ r. is_in r (slots_linked n m i j s) in
    let after : Counts = teams_exchanged set i j m in
    let whole : after ≡ moved n m (PartTeamSwap (record { 0 = i }) (record { 0 = j }) (record { 0 = s })) =
    fun_ext (λ a. fun_ext (λ b. fun_ext (λ r. part_team_swap-same n m i j s set (λ _. refl) a b r))) in
    let after_is : IsPlayed n phased after = played n phased after (subst (IsRoundRobin n phased) (sym whole) legal) in
    undone n phased m after (PartTeamSwap (record { 0 = i }) (record { 0 = j }) (record { 0 = s })) whole is
    (lt, meets_as_before set i j m s ∙ apart)
    (λ a b r. sym (part_team_swap-same n after i j s set (slots-same n phased m i j s (played n phased m is) after_is lt last lt_s apart) a b r) ∙ teams-twice set i j m a b r)

pub legal_moves-undo : LegalMovesUndo
legal_moves-undo n phased m (HomeSwap i j) is of legal = home_swap-undone n phased m i.0 j.0 is legal.own
legal_moves-undo n phased m (RoundSwap s t) is of legal = round_swap-undone n phased m s.0 t.0 is legal.own
legal_moves-undo n phased m (TeamSwap i j) is of legal = team_swap-undone n phased m i.0 j.0 is legal.own
legal_moves-undo n phased m (PartRoundSwap i s t) is of legal = part_round_swap-undone n phased m i.0 s.0 t.0 is of.0 legal.own
legal_moves-undo n phased m (PartTeamSwap i j s) is of legal =
    part_team_swap-undone n phased m i.0 j.0 s.0 is legal.round_robin legal.own.0 of.1 of.2 legal.own.1
