use Rattle.std.proofs.Common.{◌+◌, ◌<◌, ℕ, List, get_or, inl, inr, arith, subst, ◌∙◌}
use Rattle.std.proofs.lemmas.List.{take_all}
use Rattle.refutation_check.specs.Forgotten.{Lacks, names_at}
use Rattle.refutation_check.proofs.LastLemmas.{lacks-more}
use Rattle.refutation_check.proofs.last.note_step.Goals as goal

pub loop-place-preserved : goal.loop-place-preserved
loop-place-preserved c = record {
  even = c.note.ensures.length ∙ c.loop-place.invariant.even;
  kept = λ p. elim (c.note.ensures.kept p) [
    | inl same ↦ elim (c.loop-place.invariant.kept p) [
      | inl before ↦ inl (same ∙ before)
      | inr here ↦ inr (same ∙ here)
    ]
    | inr here ↦ inr here
  ];
  noted = λ p within less.
      let before : get_or c.loop-place.last p 0 < c.args.k = elim (c.note.ensures.kept p) [
        | inl same ↦ omega (arith, less, same)
        | inr here ↦ absurd (omega (arith, less, here))
      ] in
      lacks-more (c.args.before + p + 1) (names_at c.args.log.now c.args.k) c.loop-place.place c.name_at.result
      c.name_at.ensures (c.loop-place.invariant.noted p (omega (arith, within, c.note.ensures.length)) before)
      (λ is. absurd (omega (arith, less, c.note.ensures.noted p within is)));
}

pub returns-clause-noted : goal.returns-clause-noted
returns-clause-noted c = λ p within less.
    subst (λ (numbers : List ℕ). Lacks (c.args.before + p + 1) numbers)
    (take_all c.loop-place.place (names_at c.args.log.now c.args.k) (omega (arith, c.name_count-place-end.ensures, c.loop-place-test.false)))
    (c.loop-place.invariant.noted p within less)
