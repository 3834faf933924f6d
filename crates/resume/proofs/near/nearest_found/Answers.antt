use Rattle.resume.proofs.near.nearest_found.Goals as goal

pub returns-then-is_over_now-2-clause-answer : goal.returns-then-is_over_now-2-clause-answer
returns-then-is_over_now-2-clause-answer g c conflicts first =
    c.nearer-answer.ensures.answer c.args.season.league.now conflicts first c.in_ok-repaired.ensures

pub returns-clause-answer : goal.returns-clause-answer
returns-clause-answer g c conflicts first =
    c.nearer.ensures.answer c.args.season.league.now conflicts
    (c.nearer-answer.ensures.answer c.args.season.league.now conflicts first c.in_ok-repaired.ensures)
    c.in_ok-near.ensures
