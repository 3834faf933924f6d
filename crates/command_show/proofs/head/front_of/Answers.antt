use Rattle.std.proofs.lemmas.Iterator.{YieldsList-from_chars, YieldsList-from_take, text_from_collect}
use Rattle.command_show.proofs.head.front_of.Goals as goal

pub returns : goal.returns
returns c =
    text_from_collect c.collect.result c.collect.ensures.ran
    (YieldsList-from_take c.args.most (YieldsList-from_chars c.args.text.now c.utf8.text (cc)) (cc))
