use Rattle.std.proofs.Common.{arith, ◌∙◌}
use Rattle.rule_core.proofs.SpareLemmas.{read_inside, read_past}
use Rattle.rule_core.proofs.spare.copies.Goals as goal

pub returns-then-place-len-clause-count : goal.returns-then-place-len-clause-count
returns-then-place-len-clause-count c =
    c.from.ensures ∙ read_inside c.args.spare.now.items c.args.game c.requires.home c.requires.away
    c.place_of-place.result c.index.result.now c.place_of-place.ensures (omega arith) c.index.ensures

pub returns-else-place-len-clause-count : goal.returns-else-place-len-clause-count
returns-else-place-len-clause-count c =
    read_past c.args.spare.now.items c.args.game c.requires.home c.requires.away c.place_of-place.result
    c.place_of-place.ensures (omega arith)
