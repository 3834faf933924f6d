use Rattle.std.proofs.Common.{length, ap, ◌∙◌}
use Rattle.command_show.proofs.TextLemmas.{labels-count}
use Rattle.command_show.proofs.asked.numbers_reply.Goals as goal

pub demands_text-requires : goal.demands_text-requires
demands_text-requires c =
    ap length (c.deref.ensures.value ∙ c.in_ok-labels.ensures) ∙ labels-count c.n.result c.args.names.now ∙ c.n.ensures.n
