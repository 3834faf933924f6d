use Rattle.std.proofs.Common.{rules}
use Rattle.answers.proofs.stages.league_in.Goals as goal

pub returns-in_ok-malformed-in-Err-Form : goal.returns-in_ok-malformed-in-Err-Form
returns-in_ok-malformed-in-Err-Form c = ((c.in-Err-Form.fault.kind, c.in-Err-Form.fault.line), search rules, search rules)
