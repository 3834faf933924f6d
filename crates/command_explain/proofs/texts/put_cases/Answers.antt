use Rattle.command_explain.proofs.TextLemmas.{cases-more, logs-more}
use Rattle.command_explain.proofs.texts.put_cases.Goals as goal

pub loop-k-preserved : goal.loop-k-preserved
loop-k-preserved c = record {
  written = cases-more c.args.members.now c.args.cases.now c.loop-k.k c.get.result c.get-in-loop-k.result.now
      c.args.text.now.items c.loop-k.text.items c.put_case.new.text.items c.get.ensures c.get-in-loop-k.ensures
      c.in_ok-put_case.ensures.written c.loop-k.invariant.written;
  reads_back = λ j d below.
      logs-more c.args.cases.now c.loop-k.k c.get-in-loop-k.result.now j d c.get-in-loop-k.ensures
      c.in_ok-put_case.ensures.reads_back c.loop-k.invariant.reads_back below;
}
