use Rattle.std.proofs.Common.{◌+◌, refl, ◌∙◌}
use Rattle.encoding.proofs.NumberLemmas.{run_ascends, run_is}
use Rattle.encoding.proofs.season.Season.run.Goals as goal

pub returns-clause-slots : goal.returns-clause-slots
returns-clause-slots c =
    c.part.ensures ∙ run_is c.args.self.now c.args.first (c.args.first + c.args.count) c.args.count c.slots.result.now
    c.slots.ensures.slots refl c.requires

pub returns-clause-ascend : goal.returns-clause-ascend
returns-clause-ascend c =
    run_ascends c.args.self.now c.args.first c.args.count c.part.result.now
    (c.part.ensures ∙ run_is c.args.self.now c.args.first (c.args.first + c.args.count) c.args.count
    c.slots.result.now c.slots.ensures.slots refl c.requires)
    c.requires
