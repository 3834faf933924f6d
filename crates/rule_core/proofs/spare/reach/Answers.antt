use Rattle.std.proofs.Common.{ℕ, List, length, get_or, arith, ap, ◌∙◌, ◌∷◌, []}
use Rattle.std.proofs.lemmas.List.{length-append}
use Rattle.rule_core.proofs.SpareLemmas.{zero_more}
use Rattle.rule_core.proofs.spare.reach.Goals as goal

pub zeros-preserved : goal.zeros-preserved
zeros-preserved c = record {
  same = λ k.
      ap (λ (xs : List ℕ). get_or xs k 0) c.push_reserved.ensures.items
      ∙ zero_more c.zeros.spare.items k
      ∙ c.zeros.invariant.same k;
  long = omega (
    arith,
    ap (λ (xs : List ℕ). length xs) c.push_reserved.ensures.items,
    length-append c.zeros.spare.items (0 ∷ []),
    c.zeros.invariant.long,
  );
  short = λ k old end. omega (arith, end, c.zeros-test.true);
  room = omega (arith, c.push_reserved.ensures.capacity, c.zeros.invariant.room);
}
