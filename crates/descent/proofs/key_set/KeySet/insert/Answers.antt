use Rattle.std.proofs.Common.{sym, ◌∙◌}
use Rattle.descent.proofs.TouchedLemmas.{added-old, added-one}
use Rattle.descent.proofs.key_set.KeySet.insert.Goals as goal

pub returns-then-has : goal.returns-then-has
returns-then-has c = added-old c.args.key c.args.self.now (sym c.has.ensures ∙ c.if-has.true)

pub returns : goal.returns
returns c = added-one c.args.key c.args.self.now c.add.new.self c.add.ensures
