use Rattle.std.proofs.Common.{◌≡◌, ◌^◌, ◌<◌, arith, ap, ◌∙◌}
use Rattle.std.specs.Prelude.{vec_items}
use Rattle.bounds.proofs.TextLemmas.{reads_back-none, reads_back-some, text-line, text-pieces}
use Rattle.bounds.proofs.text.certificate_text.Goals as goal
use Rattle.bounds.proofs.text.certificate_text.Goals.{then-bound-gt0+in_ok-log_text+in_ok-extend_from_slice}
use Rattle.bounds.proofs.text.certificate_text.Goals.{else-bound-gt0}

pub returns-clause-reads_back : goal.returns-clause-reads_back
returns-clause-reads_back c = λ short nothing.
    let small : c.args.bound < 2 ^ 64 = omega arith in
    elim c.if-bound-gt0.branch [
      | then-bound-gt0+in_ok-log_text+in_ok-extend_from_slice w ↦
          reads_back-some c.args.bound w.in_ok-log_text.field-0.items c.if-bound-gt0.text.items c.args.log.now small
          w.if-bound-gt0.true
          (text-pieces c.args.bound c.new-text.result.items c.put_bound.new.text.items w.in_ok-log_text.field-0.items
          w.deref.result.now c.if-bound-gt0.text.items c.new-text.ensures.items c.in_ok-put_bound.ensures
          w.deref.ensures.value (ap vec_items w.text-is ∙ w.in_ok-extend_from_slice.ensures.items))
          (w.in_ok-log_text.ensures.reads_back short)
      | else-bound-gt0 w ↦
          let none : c.args.bound ≡ 0 = omega arith in
          reads_back-none c.args.bound c.if-bound-gt0.text.items c.args.log.now none
          (ap vec_items w.text-is
          ∙ text-line c.args.bound c.new-text.result.items c.put_bound.new.text.items c.new-text.ensures.items
          c.in_ok-put_bound.ensures) (nothing none)
    ]
