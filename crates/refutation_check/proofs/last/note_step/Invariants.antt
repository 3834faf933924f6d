use Rattle.std.proofs.Common.{◌≡◌, ◌⊎◌, ℕ, ◌+◌, ◌<◌, get_or, length, take}
use Rattle.refutation_check.specs.Forgotten.{Lacks, names_at}
use Rattle.refutation_check.proofs.last.note_step.Given as goal

abbrev pub invariant-loop-place : goal.invariant-loop-place
invariant-loop-place l = record {
  even : length l.last ≡ length l.fn.last;
  kept : (p : ℕ) → (get_or l.last p 0 ≡ get_or l.fn.last p 0) ⊎ (get_or l.last p 0 ≡ l.k);
  noted : (p : ℕ) → p < length l.last → get_or l.last p 0 < l.k
      → Lacks (l.before + p + 1) (take l.place (names_at l.log l.k));
}
