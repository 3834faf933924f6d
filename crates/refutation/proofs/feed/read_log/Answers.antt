use Rattle.refutation.proofs.CutLemmas.{whole-log}
use Rattle.refutation.proofs.ReadTexts.{log_of-text}
use Rattle.refutation.proofs.feed.read_log.Goals as goal

pub returns-clause-one_text : goal.returns-clause-one_text
returns-clause-one_text c =
    let read = rw (c.new-reader.ensures, c.new-steps.ensures) at c.in_ok-feed.ensures.read in
    log_of-text c.args.bytes.now _ (whole-log c.args.bytes.now _ _ read c.in_ok-finish.ensures)
