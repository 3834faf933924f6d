-- Worked answers, so that a wrong definition of what `resume` and `audit` may answer does not check.
use Rattle.std.proofs.Common.{◌≡◌, ℕ, ◌≤◌, ◌∙◌, true, if◌then◌else◌, List, [], ◌∷◌, ◌++◌, length, Option, Some, None, Ok}
use Rattle.std.proofs.Common.{codes, ap, arith, inl, inr, refl}
use Rattle.std.specs.Prelude.{bytes_eq}
use Rattle.std.specs.Fmt.{digits}
use Rattle.robin_io.specs.Outside.{Store}
use Rattle.league.specs.Counts.{counts_of}
use Rattle.league.specs.Instance.{Instance}
use Rattle.robinx.specs.Pieces.{pieces, pieces_from}
use Rattle.robinx.specs.Tags.{attributes_at}
use Rattle.robinx.specs.InstanceFile.{instance_of}
use Rattle.robinx.specs.SolutionFile.{solution_of}
use Rattle.robinx.specs.Walk.{walk}
use Rattle.robinx.specs.declared.instance.TheConstants.{INSTANCE_LIMIT}
use Rattle.answers.specs.Reply.{Answer}
use Rattle.answers.specs.Stages.{NoneFails, Outcome}
use Rattle.answers.specs.declared.status.Status.TheVariants.{Yes, No, File}
use Rattle.answers.proofs.StageLemmas.{takes-known, says-known}
use Rattle.encoding.specs.Variables.{var_count}
use Rattle.refutation.specs.Logs.{lines_from, log_of}
use Rattle.refutation.specs.Steps.{Step}
use Rattle.refutation.specs.Steps.Step.{Clause}
use Rattle.refutation.specs.Verdict.{verdict_of}
use Rattle.refutation.specs.declared.verdict.Cause.TheVariants.{UnknownRow}
use Rattle.refutation.specs.declared.verdict.Verdict.TheVariants.{Accepted, Rejected}
use Rattle.command_check.specs.Check.{verdict_answer}
use Rattle.resume.specs.Kept.{resume_rows, resume_size}
use Rattle.resume.specs.Resumable.{NoneResumes}
use Rattle.command_resume.specs.Audited.{IsVerdict, IsWellFormedAudit, audited}
use Rattle.command_resume.specs.Resumed.{IsFoundBy, resumed}
use Rattle.command_resume.specs.Seasons.{has_size, has_slots, slot_refused}
use Rattle.command_resume.specs.declared.season.Season.{Season}
use Rattle.command_resume.proofs.AnswerLemmas.{audited-well_formed}
use Rattle.command_resume.proofs.StageLemmas.{after_first, after_league, after_size}
use Rattle.encoding.specs.Limit.{most_terms}

pub slot_refused-some : slot_refused 7 ≡ record { status = File; text = codes "refused slot 7\n" }
unfolding digits
slot_refused-some = refl

-- ---- two teams, two slots, no constraint

abbrev league_file : List ℕ
league_file =
    codes "<Instance><Structure><Format><numberRoundRobin>2</numberRoundRobin><compactness>C</compactness>"
    ++ (codes "<gameMode>P</gameMode></Format></Structure><Resources><Teams><team id=\"0\"/><team id=\"1\"/></Teams>"
    ++ codes "<Slots><slot id=\"0\"/><slot id=\"1\"/></Slots></Resources><Constraints></Constraints></Instance>")

abbrev league : Instance
league = record { n = 2; phased = true; constraints = [] }

says_league : instance_of (pieces league_file) ≡ Ok league
unfolding attributes_at pieces_from walk
says_league = refl

-- no game was played
abbrev no_games : List ℕ
no_games = codes "<Solution><Games></Games></Solution>"

says_none : solution_of 2 (pieces no_games) ≡ Ok []
unfolding attributes_at pieces_from walk
says_none = refl

-- rows 31 and 32 say that neither game of slot 0 was played, and row 5 wants one of them
abbrev log : List ℕ
log = codes "refutation 1\n0 31 32 5 0\nend\n"

abbrev steps : List Step
steps = Clause [] (31 ∷ 32 ∷ 5 ∷ []) ∷ []

says_steps : log_of log ≡ Ok steps
unfolding lines_from
says_steps = refl

rows-number : length (resume_rows league (counts_of []) 1) ≡ 32
rows-number = refl

abbrev contents : List ℕ → Option (List ℕ)
contents name =
    if bytes_eq name (codes "league") then Some league_file
    else if bytes_eq name (codes "played") then Some no_games
    else if bytes_eq name (codes "log") then Some log
    else None

abbrev never : ℕ → Type 0
never n = ⊥

abbrev nowhere : List ℕ → Type 0
nowhere name = ⊥

abbrev store : Store
store = record { contents = contents; took_more = never; failed = nowhere }

nothing_fails : (names : List (List ℕ)) → NoneFails store names
nothing_fails names = λ place name within fails. fails

-- ---- more slots than the season has: that is the answer, whatever the solution file is

too_long : (answer : Answer) (rest : Outcome) → has_slots league 3 (λ slots. rest) answer → answer ≡ slot_refused 3
too_long answer rest (inl h) = let within : 3 ≤ 2 = h.0 in absurd (omega arith)
too_long answer rest (inr h) = h.1

pub resumed-three : (solution : List ℕ) (limits : Option ℕ → Type 0) (answer : Answer)
    → resumed store (codes "league") solution 3 limits answer
    → answer ≡ record { status = File; text = codes "refused slot 3\n" }
unfolding digits
resumed-three solution limits answer given =
    let next : Season → Outcome = λ season. IsFoundBy season.league season.played 3 limits in
    too_long answer
    (has_size league 3 (λ size. after_size store solution (length league_file) 3 next league))
    (says-known (codes "instance") (instance_of (pieces league_file)) league
    (after_league store solution (length league_file) 3 next) answer says_league
    (takes-known (codes "instance") (contents (codes "league")) INSTANCE_LIMIT ⊥ ⊥
    (after_first store solution 3 next) answer league_file refl (omega arith) (λ h. h) given))

-- ---- slot 0 was played, without a game: no schedule keeps that, and the log shows it

sizes : resume_size league 1 ≡ 62
sizes = refl

formed : (k : ℕ) → k ≤ 1 → resume_size league k ≤ most_terms
    → IsWellFormedAudit store (codes "league") (codes "played") k (codes "log") league [] steps
formed k within small = record {
  season = record {
    say = record {
      first = league_file;
      second = no_games;
      first_known = refl;
      second_known = refl;
      says_league = says_league;
      says_played = says_none;
    };
    first_within = omega arith;
    second_within = omega arith;
    slots = omega (arith, within);
    small = small;
  };
  third = log;
  known = refl;
  within = omega arith;
  says_steps = says_steps;
}

verdict-one : verdict_of (resume_rows league (counts_of []) 1) (var_count league) steps ≡ Accepted
verdict-one = refl

accepted-one : verdict_answer 1 Accepted ≡ record { status = Yes; text = codes "accepted steps 1\n" }
unfolding digits
accepted-one = refl

small-one : resume_size league 1 ≤ most_terms
small-one = omega (arith, sizes)

pub audited-one : (answer : Answer)
    → audited store None (codes "league") (codes "played") 1 (codes "log") answer
    → (answer ≡ record { status = Yes; text = codes "accepted steps 1\n" }) × NoneResumes league (counts_of []) 1
audited-one answer given =
    let verdict : IsVerdict league [] 1 None steps answer =
    audited-well_formed store None (codes "league") (codes "played") 1 (codes "log") league [] steps answer
    (formed 1 (omega arith) small-one) (nothing_fails (codes "league" ∷ codes "played" ∷ codes "log" ∷ [])) given in
    let is : answer ≡ record { status = Yes; text = codes "accepted steps 1\n" } =
    verdict.verdict ∙ ap (verdict_answer 1) verdict-one ∙ accepted-one in
    (is, verdict.none (ap (λ (a : Answer). a.status) is))

-- where no slot was played, there are no such rows

verdict-none : verdict_of (resume_rows league (counts_of []) 0) (var_count league) steps ≡ Rejected 1 UnknownRow
verdict-none = refl

rejected-one : verdict_answer 1 (Rejected 1 UnknownRow)
    ≡ record { status = No; text = codes "rejected step 1 cause UnknownRow\n" }
unfolding digits
rejected-one = refl

sizes-none : resume_size league 0 ≡ 60
sizes-none = refl

small-none : resume_size league 0 ≤ most_terms
small-none = omega (arith, sizes-none)

pub audited-none : (answer : Answer)
    → audited store None (codes "league") (codes "played") 0 (codes "log") answer
    → answer ≡ record { status = No; text = codes "rejected step 1 cause UnknownRow\n" }
audited-none answer given =
    let verdict : IsVerdict league [] 0 None steps answer =
    audited-well_formed store None (codes "league") (codes "played") 0 (codes "log") league [] steps answer
    (formed 0 (omega arith) small-none) (nothing_fails (codes "league" ∷ codes "played" ∷ codes "log" ∷ [])) given in
    verdict.verdict ∙ ap (verdict_answer 1) verdict-none ∙ rejected-one
