use Rattle.std.proofs.Common.{◌∙◌}
use Rattle.rule_core.proofs.KeyListLemmas.{has_key}
use Rattle.rule_core.proofs.listed.Listed.has.Goals as goal

pub returns : goal.returns
returns c = c.is_some.ensures ∙ has_key c.args.self.now c.args.number c.key.result c.key.ensures.key
