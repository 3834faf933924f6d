use Rattle.std.proofs.Common.{map, string_bytes}
use Rattle.page.specs.ShelfFields.{files_of, taken_of}
use Rattle.page.specs.SinkFields.{faults_of, text_of}
use Rattle.page.proofs.RunLemmas.{ran}
use Rattle.page.proofs.run_words.Goals as goal

pub returns : goal.returns
returns c = record {
  ended = c.run-ended.result;
  text = c.text.result.now;
  faults = c.faults.result;
  ran = ran (map string_bytes c.args.words.now) c.args.files.now
      (files_of c.new-shelf.result) (taken_of c.new-shelf.result) (taken_of c.run-ended.new.shelf)
      (text_of c.new-out.result) (text_of c.run-ended.new.out) (faults_of c.new-out.result) (faults_of c.run-ended.new.out)
      c.run-ended.result c.new-shelf.ensures.files c.new-shelf.ensures.taken c.new-out.ensures.text c.new-out.ensures.faults
      (record {
        answered = c.run-ended.ensures.answer;
        ends = c.run-ended.ensures.ends;
        commands = c.run-ended.ensures.commands;
        memory = c.run-ended.ensures.memory;
      }) c.text.result.now c.faults.result c.text.ensures c.faults.ensures;
  shown = c.show.ensures;
}
