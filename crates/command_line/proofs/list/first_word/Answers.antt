use Rattle.std.proofs.Common.{rules}
use Rattle.std.proofs.lemmas.List.{take_rest}
use Rattle.command_line.proofs.ListLemmas.{words-alone, words-cut}
use Rattle.command_line.proofs.list.first_word.Goals as goal

pub returns-in-None-clause-words : goal.returns-in-None-clause-words
returns-in-None-clause-words c = words-alone c.args.list.now (search rules)

pub returns-in-Some-clause-words : goal.returns-in-Some-clause-words
returns-in-Some-clause-words c =
    let list = c.args.list.now in
    let found = words-cut list c.in-Some.end (search rules) (search rules) (search rules) in
    rw (found, take_rest)
