use Rattle.std.proofs.Common.{rules}
use Rattle.command_rows.proofs.values_stages.values_in.Goals as goal

pub returns-in_ok-values_refused-in-Err-Form : goal.returns-in_ok-values_refused-in-Err-Form
returns-in_ok-values_refused-in-Err-Form c = (c.in-Err-Form.line, search rules, search rules)
