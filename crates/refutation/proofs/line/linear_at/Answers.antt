use Rattle.std.proofs.Common.{refl, sym, ap, ◌∙◌}
use Rattle.std.proofs.lemmas.Bool.{false≢true}
use Rattle.refutation.specs.Lines.{are_pairs}
use Rattle.refutation.proofs.LineLemmas.{linear-done, linear-number, linear-unpaired}
use Rattle.refutation.proofs.line.linear_at.Goals as goal
use Rattle.refutation.proofs.line.linear_at.Goals.{then-small_numbers, else-small_numbers}

pub returns-then-not-is_paired : goal.returns-then-not-is_paired
returns-then-not-is_paired c =
    linear-unpaired _ _ c.in-Some.left _ _ (rw c.in-Some.is at c.in_ok-small_numbers.ensures) c.in_ok-divisor.divisor
    c.in_ok-divisor.ensures c.requires.numbers
    (ap are_pairs (sym c.deref.ensures.value) ∙ sym c.is_paired.ensures ∙ c.if-not-is_paired.true)

pub returns-then-not-divisor : goal.returns-then-not-divisor
returns-then-not-divisor c =
    linear-number _ _ c.in-Some.left _ _ (rw c.in-Some.is at c.in_ok-small_numbers.ensures) c.in_ok-divisor.divisor
    c.in_ok-divisor.ensures c.requires.numbers
    (ap are_pairs (sym c.deref.ensures.value) ∙ sym c.is_paired.ensures ∙ c.if-not-is_paired.false)
    (elim c.if-small_numbers.branch [
      | then-small_numbers w ↦ rw w.if-small_numbers.true (sym w.value-is ∙ c.if-not-divisor.true)
      | else-small_numbers w ↦ rw w.if-small_numbers.false refl
    ])

pub returns : goal.returns
returns c =
    linear-done _ _ c.in-Some.left _ _ (rw c.in-Some.is at c.in_ok-small_numbers.ensures) c.in_ok-divisor.divisor
    c.pair_up.new.parts.items c.in_ok-divisor.ensures c.requires.numbers
    (ap are_pairs (sym c.deref.ensures.value) ∙ sym c.is_paired.ensures ∙ c.if-not-is_paired.false)
    (elim c.if-small_numbers.branch [
      | then-small_numbers w ↦ w.if-small_numbers.true
      | else-small_numbers w ↦ absurd
          (false≢true (sym w.if-small_numbers.false ∙ (sym w.value-is ∙ c.if-not-divisor.false)))
    ])
    (elim c.if-small_numbers.branch [
      | then-small_numbers w ↦ sym w.value-is ∙ c.if-not-divisor.false
      | else-small_numbers w ↦ absurd
          (false≢true (sym w.if-small_numbers.false ∙ (sym w.value-is ∙ c.if-not-divisor.false)))
    ])
    (c.in_ok-pair_up.ensures ∙ rw (c.requires.parts, c.deref-2.ensures.value) refl)
