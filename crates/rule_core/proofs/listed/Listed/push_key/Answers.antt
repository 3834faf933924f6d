use Rattle.std.proofs.Common.{◌∙◌, ap}
use Rattle.rule_core.specs.Keys.{with_keys}
use Rattle.rule_core.proofs.KeyListLemmas.{key_is}
use Rattle.rule_core.proofs.listed.Listed.push_key.Goals as goal

pub returns : goal.returns
returns c = c.push_some.ensures ∙ ap (with_keys c.args.keys.now) (key_is c.args.self.now c.args.number c.key.result c.key.ensures.ascending c.key.ensures.key)
