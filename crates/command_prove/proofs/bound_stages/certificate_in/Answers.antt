use Rattle.std.proofs.Common.{rules}
use Rattle.command_prove.proofs.bound_stages.certificate_in.Goals as goal

pub returns-in_ok-log_refused-in-Err-Form : goal.returns-in_ok-log_refused-in-Err-Form
returns-in_ok-log_refused-in-Err-Form c = ((c.in-Err-Form.kind, c.in-Err-Form.line), search rules, search rules)
