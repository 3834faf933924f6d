-- Worked answers, so that a wrong definition of what `check` may answer does not check.
use Rattle.std.proofs.Common.{◌≡◌, ℕ, ◌≤◌, ◌∙◌, true, if◌then◌else◌, List, [], ◌∷◌, Option, Some, None, Result, Ok, Err, codes, ap, arith, refl, subst, length}
use Rattle.std.specs.Prelude.{bytes_eq}
use Rattle.std.specs.Fmt.{digits}
use Rattle.answers.specs.Stages.{NoneFails}
use Rattle.robin_io.specs.Outside.{Store}
use Rattle.robinx.specs.Pieces.{pieces, pieces_from}
use Rattle.robinx.specs.Tags.{attributes_at}
use Rattle.league.specs.Instance.{Instance}
use Rattle.league.specs.declared.class.Class.TheVariants.{Ca1}
use Rattle.league.specs.declared.class.Side.TheVariants.{H}
use Rattle.robinx.specs.InstanceFile.{instance_of}
use Rattle.robinx.specs.Walk.{walk}
use Rattle.answers.specs.Reply.{Answer, log_malformed, read_fault, too_large, too_long}
use Rattle.answers.specs.declared.status.Status.TheVariants.{Yes, No, File, ReadFault}
use Rattle.encoding.specs.Encoding.{encoding_size, rows_of}
use Rattle.encoding.specs.Variables.{var_count}
use Rattle.refutation.specs.Steps.{Step}
use Rattle.refutation.specs.Steps.Step.{Clause}
use Rattle.refutation.specs.Logs as logs
use Rattle.refutation.specs.Logs.{lines_from, log_of}
use Rattle.refutation.specs.Verdict.{verdict_of}
use Rattle.refutation.specs.declared.fault.LogKind.TheVariants.{BadLine}
use Rattle.refutation.specs.declared.verdict.Cause.TheVariants.{UnknownRow, UnknownVariable, NoConflict, NoEmptyClause, TooWide}
use Rattle.refutation.specs.declared.verdict.Verdict.TheVariants.{Accepted, Rejected}
use Rattle.command_check.specs.Check.{IsVerdict, IsWellFormedLog, cause_word, checked, most_log_bytes, says_log, verdict_answer}
use Rattle.command_check.proofs.AnswerLemmas.{checked-at_log, checked-well_formed}
use Rattle.encoding.specs.Limit.{most_terms}

-- ---- texts

pub cause_word-all : (cause_word UnknownRow ≡ codes "UnknownRow") × (cause_word UnknownVariable ≡ codes "UnknownVariable") × (cause_word NoConflict ≡ codes "NoConflict") × (cause_word NoEmptyClause ≡ codes "NoEmptyClause") × (cause_word TooWide ≡ codes "TooWide")
cause_word-all = (refl, refl, refl, refl, refl)

pub too_large-some : too_large 49177440 ≡ record { status = File; text = codes "refused rows TooLarge terms 49177440\n" }
unfolding digits
too_large-some = refl

pub too_long-log : too_long (codes "log") most_log_bytes ≡ record { status = File; text = codes "refused log TooLong limit 268435456\n" }
unfolding digits
too_long-log = refl

pub read_fault-log : read_fault (codes "log") ≡ record { status = ReadFault; text = codes "read fault log\n" }
read_fault-log = refl

-- an accepted log's number of steps, and a rejected log's step, whatever their number
pub verdict_answer-some : (verdict_answer 12 Accepted ≡ record { status = Yes; text = codes "accepted steps 12\n" }) × (verdict_answer 12 (Rejected 3 UnknownRow) ≡ record { status = No; text = codes "rejected step 3 cause UnknownRow\n" }) × (verdict_answer 0 (Rejected 0 NoEmptyClause) ≡ record { status = No; text = codes "rejected step 0 cause NoEmptyClause\n" })
unfolding digits
verdict_answer-some = (refl, refl, refl)

-- ---- a league of two teams, neither of which may be at home in slot 0

abbrev pub league_file : List ℕ
league_file = codes "<Instance><Structure><Format><numberRoundRobin>2</numberRoundRobin><compactness>C</compactness><gameMode>P</gameMode></Format></Structure><Resources><Teams><team id=\"0\"/><team id=\"1\"/></Teams><Slots><slot id=\"0\"/><slot id=\"1\"/></Slots></Resources><Constraints><CapacityConstraints><CA1 teams=\"0;1\" max=\"0\" mode=\"H\" slots=\"0\" type=\"HARD\" penalty=\"1\"/></CapacityConstraints></Constraints></Instance>"

abbrev pub homeless : Instance
homeless = record { n = 2; phased = true; constraints = record { hard = true; penalty = 1; class = Ca1 (0 ∷ 1 ∷ []) 0 0 H (0 ∷ []) } ∷ [] }

says_league : instance_of (pieces league_file) ≡ Ok homeless
unfolding attributes_at pieces_from walk
says_league = refl

-- the league has 8 variables, 32 rows and few terms: rows 31 and 32 are the constraint's, and row 23 wants a team at
-- home in slot 0
vars-is : var_count homeless ≡ 8
vars-is = refl

rows-number : length (rows_of homeless) ≡ 32
rows-number = refl

-- a log that is accepted, and one whose first step has no conflict and whose third line is malformed
abbrev pub good_log : List ℕ
good_log = codes "refutation 1\n0 31 32 23 0\nend\n"

abbrev pub bad_log : List ℕ
bad_log = codes "refutation 1\n0 23 0\n0 23\n"

abbrev pub good_steps : List Step
good_steps = Clause [] (31 ∷ 32 ∷ 23 ∷ []) ∷ []

good-log : log_of good_log ≡ Ok good_steps
unfolding lines_from
good-log = refl

bad-log : log_of bad_log ≡ Err (BadLine, 3)
unfolding lines_from
bad-log = refl

good-verdict : verdict_of (rows_of homeless) (var_count homeless) good_steps ≡ Accepted
good-verdict = refl

abbrev pub contents : List ℕ → Option (List ℕ)
contents name =
    if bytes_eq name (codes "league") then Some league_file
    else if bytes_eq name (codes "good") then Some good_log
    else if bytes_eq name (codes "bad") then Some bad_log
    else None

abbrev pub never : ℕ → Type 0
never n = ⊥

abbrev pub nowhere : List ℕ → Type 0
nowhere name = ⊥

abbrev pub store : Store
store = record { contents = contents; took_more = never; failed = nowhere }

nothing_fails : NoneFails store (codes "league" ∷ codes "good" ∷ [])
nothing_fails = λ place name within fails. fails

size-is : encoding_size homeless ≡ 62
size-is = refl

small : encoding_size homeless ≤ most_terms
small = omega (arith, size-is)

good-formed : IsWellFormedLog store (codes "league") (codes "good") homeless good_steps
good-formed = record {
  first = league_file;
  second = good_log;
  first_known = refl;
  second_known = refl;
  first_within = omega arith;
  second_within = omega arith;
  says_league = says_league;
  small = small;
  says_steps = good-log;
}

accepted-one : verdict_answer 1 Accepted ≡ record { status = Yes; text = codes "accepted steps 1\n" }
unfolding digits
accepted-one = refl

-- where nothing fails, this is the one answer to `check league good`
pub checked-good : (answer : Answer) → checked store None (codes "league") (codes "good") answer → answer ≡ record { status = Yes; text = codes "accepted steps 1\n" }
checked-good answer given =
    (checked-well_formed store None (codes "league") (codes "good") homeless good_steps answer good-formed nothing_fails given).verdict ∙ ap (verdict_answer 1) good-verdict ∙ accepted-one

-- where nothing fails, the one answer to `check league bad`: the fault of form, though a step before it is rejected
pub checked-bad : (answer : Answer) → checked store None (codes "league") (codes "bad") answer → answer ≡ log_malformed BadLine 3
checked-bad answer given =
    let told = checked-at_log store None (codes "league") (codes "bad") league_file bad_log homeless answer refl refl (omega arith) (omega arith) says_league small (λ h. h) (λ h. h) given in
    subst (λ (said : Result (List Step) logs.Fault). says_log said (IsVerdict homeless (rows_of homeless) None) answer) bad-log told
