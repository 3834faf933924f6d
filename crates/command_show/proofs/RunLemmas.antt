-- The longest run, as a loop counts it from the front.
use Rattle.std.proofs.Common.{◌≡◌, ℕ, ◌+◌, ◌<◌, ◌≤◌, max, Bool, true, false, cond, List, [], ◌∷◌, refl, ap, ◌∙◌, arith, inl, inr}
use Rattle.std.specs.Prelude.{◌==◌}
use Rattle.std.specs.declared.cmp.Ordering.TheVariants.{Less, Equal, Greater}
use Rattle.std.specs.Ordering.{is_lt, nat_cmp, ord_max}
use Rattle.std.proofs.lemmas.Bool.{cases_lt, le-ltb, lt-ltb}
use Rattle.std.specs.List.{prefix_len}
use Rattle.command_show.specs.Tallies.{longest_run}
use Rattle.command_show.proofs.RangeLemmas.{from_on, from_on-cons}

-- where the first of two numbers isn't larger, the second is taken
second_is : (t : Bool) (a b : ℕ) → cond (is_lt (cond t Equal Greater)) a b ≡ b
second_is true a b = refl
second_is false a b = refl

-- the larger of two numbers, as the code takes it
pub ord_max_is : (a b : ℕ) → ord_max nat_cmp a b ≡ max a b
ord_max_is a b =
    elim (cases_lt b a) [
      | inl h ↦
          let first : a ≡ max a b = omega arith in
          ap (λ (t : Bool). cond (is_lt (cond t Less (cond (b == a) Equal Greater))) a b) (lt-ltb b a h) ∙ first
      | inr h ↦
          let second : b ≡ max a b = omega arith in
          ap (λ (t : Bool). cond (is_lt (cond t Less (cond (b == a) Equal Greater))) a b) (le-ltb b a h) ∙ second_is (b == a) a b ∙ second
    ]

-- the run at the front is no longer than the longest
prefix_within : (test : ℕ → Bool) (slots : List ℕ) → prefix_len test slots ≤ longest_run test slots
prefix_within test [] = omega arith
prefix_within test (s ∷ slots) = omega arith

-- How far a count has come: the run that goes on, the longest so far, and the slots that are left.
pub record IsCounted (test : ℕ → Bool) (n run longest slot whole : ℕ) : Type 0 where
  pub whole_is : whole ≡ max longest (max (run + prefix_len test (from_on slot n)) (longest_run test (from_on slot n)))
  pub within : run ≤ longest
  pub few : longest ≤ slot

-- one slot more that passes, and one that doesn't
pub counted_more : (test : ℕ → Bool) (n run longest slot whole next_run next_longest : ℕ) → slot < n → test slot ≡ true → next_run ≡ run + 1 → next_longest ≡ max next_run longest → IsCounted test n run longest slot whole → IsCounted test n next_run next_longest (slot + 1) whole
counted_more test n run longest slot whole next_run next_longest h passes run_is longest_so_far so_far =
    let rest = from_on (slot + 1) n in
    let front : prefix_len test (from_on slot n) ≡ 1 + prefix_len test rest =
    ap (prefix_len test) (from_on-cons slot n h) ∙ ap (λ b. cond b (1 + prefix_len test rest) 0) passes in
    let longest_is : longest_run test (from_on slot n) ≡ max (1 + prefix_len test rest) (longest_run test rest) =
    ap (longest_run test) (from_on-cons slot n h) ∙ ap (λ b. max (cond b (1 + prefix_len test rest) 0) (longest_run test rest)) passes in
    let is = so_far.whole_is in
    let below = so_far.within in
    let few = so_far.few in
    record { whole_is = omega (arith, front, longest_is, is); within = omega arith; few = omega (arith, below, few) }

pub counted_cut : (test : ℕ → Bool) (n run longest slot whole next_run next_longest : ℕ) → slot < n → test slot ≡ false → next_run ≡ 0 → next_longest ≡ max next_run longest → IsCounted test n run longest slot whole → IsCounted test n next_run next_longest (slot + 1) whole
counted_cut test n run longest slot whole next_run next_longest h fails run_is longest_so_far so_far =
    let rest = from_on (slot + 1) n in
    let front : prefix_len test (from_on slot n) ≡ 0 =
    ap (prefix_len test) (from_on-cons slot n h) ∙ ap (λ b. cond b (1 + prefix_len test rest) 0) fails in
    let longest_is : longest_run test (from_on slot n) ≡ max 0 (longest_run test rest) =
    ap (longest_run test) (from_on-cons slot n h) ∙ ap (λ b. max (cond b (1 + prefix_len test rest) 0) (longest_run test rest)) fails in
    let within = prefix_within test rest in
    let is = so_far.whole_is in
    let below = so_far.within in
    let few = so_far.few in
    record { whole_is = omega (arith, front, longest_is, is, within, below); within = omega arith; few = omega (arith, few) }
