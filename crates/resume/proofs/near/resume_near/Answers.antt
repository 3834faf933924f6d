use Rattle.resume.proofs.near.resume_near.Goals as goal

pub nearer_answer-requires-clause-first : goal.nearer_answer-requires-clause-first
nearer_answer-requires-clause-first g c =
    let by = c.in_ok-first.ensures.answer in (by.0, by.2)

pub returns-clause-answer : goal.returns-clause-answer
returns-clause-answer g c =
    let by = c.in_ok-first.ensures.answer in
    (by.0, by.1, c.in_ok-near.ensures.answer by.0 by.2)
