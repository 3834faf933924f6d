use Rattle.std.proofs.Common.{rules}
use Rattle.command_show.proofs.stages.names_in.Goals as goal

pub returns-in_ok-malformed-in-Err-Form-clause-says : goal.returns-in_ok-malformed-in-Err-Form-clause-says
returns-in_ok-malformed-in-Err-Form-clause-says c = ((c.in-Err-Form.fault.kind, c.in-Err-Form.fault.line), search rules, search rules)
