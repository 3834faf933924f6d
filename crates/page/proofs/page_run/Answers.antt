use Rattle.page.proofs.PromiseLemmas.{promises}
use Rattle.page.proofs.page_run.Goals as goal

pub returns : goal.returns
returns c = record {
  answered = c.run_lines.ensures;
  promises = promises c.args.words.now c.args.files.now c.run_lines.result c.run_lines.new.lengths.text c.run_lines.new.room c.run_lines.ensures;
}
