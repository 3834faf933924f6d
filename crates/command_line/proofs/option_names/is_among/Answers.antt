use Rattle.std.proofs.Common.{◌∙◌, ap, is_some}
use Rattle.command_line.proofs.OptionLemmas.{role_among-named}
use Rattle.command_line.proofs.option_names.is_among.Goals as goal

pub returns : goal.returns
returns c = c.is_some.ensures ∙ ap is_some c.role_among.ensures ∙ role_among-named c.args.allowed c.args.word.now
