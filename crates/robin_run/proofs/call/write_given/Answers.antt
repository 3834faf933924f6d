use Rattle.robin_run.proofs.call.write_given.Goals as goal

pub returns-in-Ok-Rows-clause-folded : goal.returns-in-Ok-Rows-clause-folded
returns-in-Ok-Rows-clause-folded g c =
    rw c.in-Ok-Rows.is (rw c.in-Ok-Rows.field-0-is c.write_rows_told.ensures.written)

pub returns-in-Ok-Rows-clause-calls : goal.returns-in-Ok-Rows-clause-calls
returns-in-Ok-Rows-clause-calls g c =
    rw c.in-Ok-Rows.is (rw c.in-Ok-Rows.field-0-is c.write_rows_told.ensures.calls)
