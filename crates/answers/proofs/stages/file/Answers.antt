use Rattle.std.proofs.Common.{inl, inr}
use Rattle.answers.proofs.stages.file.Goals as goal

pub returns-in_ok-unreadable-in-Err-Failed-clause-stage : goal.returns-in_ok-unreadable-in-Err-Failed-clause-stage
returns-in_ok-unreadable-in-Err-Failed-clause-stage g c =
    inr (c.in-Err-Failed.ensures.failed (cc (c.in-Err-Failed.field-0-is)), c.in_ok-unreadable-in-Err-Failed.ensures)

pub returns-in_ok-past_limit-in-Err-TooLong-clause-stage : goal.returns-in_ok-past_limit-in-Err-TooLong-clause-stage
returns-in_ok-past_limit-in-Err-TooLong-clause-stage g c =
    let long = c.in-Err-TooLong.ensures.too_long c.in-Err-TooLong.field-0-0 (cc (c.in-Err-TooLong.field-0-is)) in
    inl (long.1, long.2, c.in_ok-past_limit-in-Err-TooLong.ensures)
