use Rattle.resume.proofs.near.nearer_answer.Goals as goal

pub descended-requires-clause-answer : goal.descended-requires-clause-answer
descended-requires-clause-answer g c =
    let first = c.requires.first in
    (first.0, c.in_ok-answer.ensures.answer first.0 first.1)

pub returns-clause-answer : goal.returns-clause-answer
returns-clause-answer g c = λ conflicts first.
    c.descended.ensures.answer conflicts (c.in_ok-answer.ensures.answer conflicts first)
