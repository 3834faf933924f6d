-- Limits that are kept: where nothing may stop a run, and where it is known beforehand at which turn it ends.
use Rattle.std.proofs.Common.{◌≡◌, ◌<◌, ◌≤◌, ◌+◌, ℕ, Bool, true, false, min, Option, Some, None, inl, inr}
use Rattle.std.proofs.Common.{arith, ap, sym, ◌∙◌}
use Rattle.std.specs.Prelude.{IfSome}
use Rattle.std.proofs.lemmas.Bool.{cases_lt}
use Rattle.robin_watch.specs.Limits.{EndsAt, IsKeptTo, lower_limit}

-- where nothing may stop a run, the limit that it kept to is the one that was set
pub kept-unstopped : (limit : Option ℕ) (may_stop : Type 0) (kept : Option ℕ) → (may_stop → ⊥)
    → IsKeptTo limit may_stop kept → kept ≡ limit
kept-unstopped limit may_stop kept never (inl same) = same
kept-unstopped limit may_stop kept never (inr lower) = absurd (never lower.0)

-- at no turn before this one does the watch end a run
abbrev pub IsPassed : (ℕ → Option Bool) → ℕ → Type 0
IsPassed stops_at turns = (n : ℕ) → n < turns → stops_at n ≡ Some true → ⊥

pub passed-more : (stops_at : ℕ → Option Bool) (turns more : ℕ) → more ≡ turns + 1 → IsPassed stops_at turns
    → (stops_at turns ≡ Some true → ⊥) → IsPassed stops_at more
passed-more stops_at turns more next passed here n below stops = elim (cases_lt n turns) [
  | inl earlier ↦ passed n earlier stops
  | inr last ↦
      let same : n ≡ turns = omega (arith, next, below, last) in here (ap stops_at (sym same) ∙ stops)
]

-- what is passed isn't behind the turn at which the watch ends the run
passed-within : (stops_at : ℕ → Option Bool) (first turns : ℕ) → EndsAt stops_at (Some first)
    → IsPassed stops_at turns → turns ≤ first
passed-within stops_at first turns ends passed = elim (cases_lt first turns) [
  | inl behind ↦ absurd (passed first behind ends.0)
  | inr within ↦ within
]

-- what is passed is within both limits
pub within-lower : (stops_at : ℕ → Option Bool) (limit first : Option ℕ) (turns : ℕ) → EndsAt stops_at first
    → IsPassed stops_at turns → IfSome limit (λ most. turns ≤ most)
    → IfSome (lower_limit limit first) (λ most. turns ≤ most)
within-lower stops_at None None turns ends passed within = tt
within-lower stops_at None (Some first) turns ends passed within = passed-within stops_at first turns ends passed
within-lower stops_at (Some most) None turns ends passed within = within
within-lower stops_at (Some most) (Some first) turns ends passed within =
    omega (arith, within, passed-within stops_at first turns ends passed)

-- a limit that is reached, and that is the one that was set where the watch goes on, is the lower of both
pub reached-lower : (stops_at : ℕ → Option Bool) (limit first kept : Option ℕ) (turns : ℕ) → EndsAt stops_at first
    → IsPassed stops_at turns → IfSome limit (λ most. turns ≤ most) → kept ≡ Some turns
    → (stops_at turns ≡ Some false → kept ≡ limit) → lower_limit limit first ≡ Some turns
reached-lower stops_at None None kept turns ends passed within reached same =
    sym (same (ends turns)) ∙ reached
reached-lower stops_at (Some most) None kept turns ends passed within reached same =
    sym (same (ends turns)) ∙ reached
reached-lower stops_at None (Some first) kept turns ends passed within reached same = elim (cases_lt turns first) [
  | inl before ↦ let none : None ≡ Some turns = sym (same (ends.1 turns before)) ∙ reached in cc
  | inr last ↦ let is : first ≡ turns = omega (arith, last, passed-within stops_at first turns ends passed) in
      ap (λ (n : ℕ). Some n) is
]
reached-lower stops_at (Some most) (Some first) kept turns ends passed within reached same =
    elim (cases_lt turns first) [
      | inl before ↦
          let set : Some most ≡ Some turns = sym (same (ends.1 turns before)) ∙ reached in
          let is : most ≡ turns = cc in
          let least : min most first ≡ turns = omega (arith, is, before) in ap (λ (n : ℕ). Some n) least
      | inr last ↦
          let least : min most first ≡ turns =
          omega (arith, within, last, passed-within stops_at first turns ends passed) in
          ap (λ (n : ℕ). Some n) least
    ]
