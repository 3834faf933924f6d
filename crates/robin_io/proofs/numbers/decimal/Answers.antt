use Rattle.std.proofs.Common.{sym, arith, refl}
use Rattle.std.proofs.lemmas.Bool.{eqb-true}
use Rattle.robin_io.proofs.NumberLemmas.{reads-decimal, Some-from_SomeIff}
use Rattle.robin_io.proofs.numbers.decimal.Goals as goal
use Rattle.robin_io.proofs.numbers.decimal.Goals.{then-is_empty-via-then-is_empty, then-is_empty-via-else-is_empty+then-not-has_digits_alone}

pub returns-then-is_empty-clause-written : goal.returns-then-is_empty-clause-written
returns-then-is_empty-clause-written c = λ n small is.
    let reads = reads-decimal n c.args.bytes.now small is in
    elim c.then-is_empty.branch [
      | then-is_empty-via-then-is_empty w ↦ absurd (omega (arith, reads.0, eqb-true _ _ (sym w.if-is_empty.ensures)))
      | then-is_empty-via-else-is_empty+then-not-has_digits_alone w ↦ cc (reads.1, w.if-not-has_digits_alone.ensures)
    ]

pub returns-clause-written : goal.returns-clause-written
returns-clause-written c = λ n small is.
    let reads = reads-decimal n c.args.bytes.now small is in
    let value = Some-from_SomeIff _ _ _ c.value_of.ensures (rw reads.2 small) in
    rw (c.ok_or.ensures.value, value, reads.2) refl
