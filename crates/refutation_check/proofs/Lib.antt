-- How the proof goes. The idea: take values that satisfy all rows. They satisfy the row of each step that follows, one
-- after another, and no values satisfy the empty clause.
-- In order: values agree with a partial assignment if they give each set variable the same value (`Agree`). A row's
-- weight under them is at most its reach (`weight-reach`), so they satisfy no row in conflict (`conflict_refutes`).
-- What a satisfied row forces is true under them (`forced_holds`), so they agree on (`Agree-with_forced`). Now say that
-- the values make a clause false. Then they agree with its negation (`Agree-denied`), and on from hint to hint, but not
-- at the conflict where the replay ends (`replay_refutes`). So a clause that follows has a true literal
-- (`true_literal`), and its row holds (`clause_holds`). A linear step holds as its rows are added (`parts_met`),
-- cancelled and divided (`divided_holds`): `linear_holds`. `judged_holds` joins both kinds of steps, `steps_refute`
-- goes through the log, and `accepted_logs_refute` is the law.
-- The checker is proved beside this, and says for each step what the definitions say: `deny` by `opposed_next`,
-- `came_next` and `fresh_next`, the replay by `forced_next`, a step by `judged_next`, and a whole log by
-- `steps_give_verdict`.
-- The difficulty lies in `ClauseLemmas`: the checker never looks back in a clause. The value that the literals before
-- have left says whether a literal, or its negation, came before (`true_came`, `false_came`, `free_came`). Between two
-- steps the checker has to be clean again: it frees just the variables that it listed (`all_freed`).

-- What values satisfy that agree with a partial assignment:
pub mod AgreeLemmas
-- A sum's row holds where the rows hold that it adds:
pub mod SumLemmas
-- An accepted log refutes the rows:
pub mod SoundLemmas
-- The literals of a clause, one after another:
pub mod ClauseLemmas
-- Variables that are freed:
pub mod UndoLemmas
-- Steps that are judged one after another:
pub mod VerdictLemmas
-- The rows that numbers name, and the variables of a step's row:
pub mod KeptLemmas
-- What a step changes, and how steps end:
pub mod StateLemmas
-- Hints, one after another:
pub mod ReplayLemmas
-- How many bytes steps take:
pub mod RoomLemmas
-- A step depends on the rows that it names alone:
pub mod ForgetLemmas
-- States with rows let go:
pub mod LeanLemmas
-- The last step that names a row:
pub mod LastLemmas
-- A step whose row is let go:
pub mod GoneLemmas
