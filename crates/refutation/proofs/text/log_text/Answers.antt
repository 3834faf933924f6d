use Rattle.std.proofs.Common.{ap, ◌∙◌}
use Rattle.refutation.specs.Logs.{log_of}
use Rattle.refutation.proofs.LogTexts.{log_of-log_text, log_text-pieces}
use Rattle.refutation.proofs.text.log_text.Goals as goal

pub returns-clause-reads_back : goal.returns-clause-reads_back
returns-clause-reads_back c = λ short.
    let text = log_text-pieces c.version_of-version.result c.args.log.now c.new-text.result.items
    c.put_heading.new.text.items c.put_steps.new.text.items c.extend_from_slice.new.self.items
    c.version_of-version.ensures c.new-text.ensures.items c.in_ok-put_heading.ensures c.in_ok-put_steps.ensures.ok
    c.in_ok-extend_from_slice.ensures.items in
    ap log_of text ∙ log_of-log_text c.args.log.now c.in_ok-put_steps.ensures.numbers c.requires short
