use Rattle.std.proofs.Common.{rules, length, length-drop, arith, ap, refl}
use Rattle.std.proofs.Math.Seq.{take-add}
use Rattle.std.proofs.lemmas.List.{take_rest}
use Rattle.std.proofs.KnownBytes.{Appends-trans}
use Rattle.robin_io.proofs.sink.put_all.Goals as goal

pub loop-done-preserved : goal.loop-done-preserved
loop-done-preserved g c =
    let put = rw take_rest at c.in_ok-done.ensures.bytes in
    record {
      within = search rules;
      written = rw take-add (Appends-trans _ _ _ _ _ c.loop-done.invariant.written put);
      later = search rules;
      calls = omega (arith, c.in_ok-done.ensures.calls, c.in_ok-done.ensures.some, length-drop c.loop-done.done c.args.bytes.now, c.loop-done-test.true, c.loop-done.invariant.calls);
      untouched = λ none. absurd (omega (arith, c.in_ok-done.ensures.some, length-drop c.loop-done.done c.args.bytes.now, c.loop-done-test.true, none));
    }

pub returns-clause-nothing : goal.returns-clause-nothing
returns-clause-nothing g c = λ none. (refl, c.loop-done.invariant.untouched (omega (arith, c.loop-done.invariant.within, ap length none)))
