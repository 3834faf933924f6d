use Rattle.resume.proofs.bettered.resume_lowered.Goals as goal

pub returns-clause-answer : goal.returns-clause-answer
returns-clause-answer g c = (
  c.in_ok-resumed.ensures.answer.0,
  c.in_ok-resumed.ensures.answer.1,
  c.in_ok-answer.ensures.answer c.in_ok-resumed.ensures.answer.0 c.in_ok-resumed.ensures.answer.2,
)

pub bettered-requires-clause-answer : goal.bettered-requires-clause-answer
bettered-requires-clause-answer g c = (c.in_ok-resumed.ensures.answer.0, c.in_ok-resumed.ensures.answer.2)
