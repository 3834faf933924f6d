-- What `prove` answers of seasons of two teams, over the leagues of LeastExamples: a report, a certificate, a better
-- season, and a log that is spent, each with its text.
use Rattle.std.proofs.Common.{lit<, [], Bool, false, get_or, if◌then◌else◌, List, suc, true, zero, ℕ, ◌++◌, ◌+◌, ◌<◌, ◌∷◌, ◌≡◌, ◌≤◌}
use Rattle.std.proofs.Common.{length, Option}
use Rattle.std.proofs.Common.{drop, Some, None, Ok, codes, bytes_eq, ap, arith, inl, inr, refl, sym, ◌∙◌}
use Rattle.std.specs.Fmt.{digits}
use Rattle.answers.specs.Stages.{NoneFails}
use Rattle.example_runs.proofs.Runs.{ended_with, store_of}
use Rattle.robin_run.specs.Run.{Writes}
use Rattle.league.specs.Accepted.{IsAccepted, objective}
use Rattle.league.specs.Counts.{counts_of}
use Rattle.league.specs.Instance.{Instance}
use Rattle.league.specs.declared.game.Game.{Game}
use Rattle.league.proofs.DoubleFour.{game}
use Rattle.robinx.specs.Pieces.{pieces, pieces_from}
use Rattle.robinx.specs.Tags.{attributes_at}
use Rattle.robinx.specs.InstanceFile.{instance_of}
use Rattle.robinx.specs.SolutionFile.{solution_of}
use Rattle.robinx.specs.Texts.{solution_text}
use Rattle.robinx.specs.Walk.{walk}
use Rattle.answers.specs.Reply.{Answer}
use Rattle.answers.specs.declared.status.Status.{Status}
use Rattle.answers.specs.declared.status.Status.TheVariants.{Yes, No, Spent, Better}
use Rattle.command_check.specs.Report.{report_text}
use Rattle.command_check.specs.Validate.{IsWellFormedPair}
use Rattle.refutation.specs.Logs.{lines_from, log_of}
use Rattle.refutation.specs.Steps.{Step}
use Rattle.refutation.specs.declared.verdict.Verdict.TheVariants.{Accepted}
use Rattle.bound_rows.specs.BoundRows.{bound_size}
use Rattle.bounds.specs.Certificates.{certificate_of, certificate_text}
use Rattle.bounds.specs.declared.certificate.Certificate.{Certificate}
use Rattle.command_prove.specs.Bound.{bound_verdict}
use Rattle.bounds.specs.Proofs as bounds
use Rattle.bounds.specs.declared.proved.Proved.TheVariants as proofs
use Rattle.command_prove.proofs.ProveAnswers.{shown-refused}
use Rattle.command_prove.specs.Prove.{IsCertified, IsShown, IsBettered, IsLeast, IsLeastByFloor, IsRejected, IsSpentBelow}
use Rattle.command_prove.specs.Prove.{IsWellFormedCase, spent_text}
use Rattle.example_runs.proofs.LeastExamples.{away-one, away-zero, away_first, even-accepted, even_soon, least-four}
use Rattle.example_runs.proofs.LeastExamples.{log, lower_bound, one-fit, one-in_order, one_first}
use Rattle.example_runs.proofs.BetterExamples.{better-one}
use Rattle.example_runs.proofs.LeastExamples.{one_step}
use Rattle.example_runs.proofs.LeastExamples.{zero_first}
use Rattle.example_runs.proofs.BetterExamples.{settled-four, spent-at_zero, spent-four}
use Rattle.encoding.specs.Limit.{most_terms}

-- ---- the three answers of the search that is behind `prove`

pub proofs-three : bounds.IsProved even_soon (counts_of zero_first) (Some 1) ⊥ (proofs.Least 4 log)
    × bounds.IsProved away_first (counts_of zero_first) None ⊥ (proofs.Better one_first 0)
    × bounds.IsProved even_soon (counts_of zero_first) (Some 0) ⊥ (proofs.Spent [])
proofs-three = (least-four, better-one, spent-four)

-- ---- team 0 is at home twice: they meet there twice and elsewhere never

abbrev pub twice : List Game
twice = game 0 1 0 ∷ game 0 1 1 ∷ []

is_above : (k : ℕ) → k + 1 ≡ 0 → ⊥
is_above k h = omega arith

pub refused : IsAccepted even_soon (counts_of twice) → ⊥
refused h = is_above 1 h.round_robin.pairs

false_true : false ≡ true → ⊥
false_true is = cc

-- one of them has had a home game more behind slot 0
abbrev pub report : Answer
report = record {
  status = No;
  text = codes "teams 2\nslots 2\nmode NULL\ngames 2\nstructure pairs 2 cells 0 phases 0\n"
      ++ codes "constraint 1 FA2 SOFT penalty 4 sum 1 entries 1\ninfeasibility 0\nobjective 4\nfeasible no\n";
}

report-twice : report.text ≡ report_text even_soon twice false
unfolding digits
report-twice = refl

pub rejected-twice : IsRejected even_soon twice report
rejected-twice = record {
  judgement = record {
    feasible = false;
    accepted = (λ yes. absurd (false_true yes), λ accepted. absurd (refused accepted));
    status = refl;
    text = report-twice;
  };
  status = refl;
}

-- an accepted season isn't rejected
rejects : (feasible : Bool) → (if feasible then Yes else No) ≡ No → feasible ≡ true → ⊥
rejects true is fits = cc
rejects false is fits = cc

pub rejected-accepted : (answer : Answer) → IsRejected even_soon zero_first answer → ⊥
rejected-accepted answer is =
    rejects is.judgement.feasible (sym is.judgement.status ∙ is.status) (is.judgement.accepted.1 even-accepted)

-- ---- a least objective: its certificate

abbrev pub certificate_file : List ℕ
certificate_file = codes "bound 4\nrefutation 1\n-5 0 31 29 22 0\n0 32 31 30 21 0\nend\n"

abbrev pub certificate : Certificate
certificate = record { bound = 4; log = log }

pub certificate-written : certificate_file ≡ certificate_text 4 log
unfolding digits
certificate-written = refl

pub certificate-read : certificate_of certificate_file ≡ Ok certificate
unfolding lines_from
certificate-read = refl

pub certificate-proves : bound_verdict even_soon 4 log ≡ Accepted
certificate-proves = refl

abbrev pub certified : Answer
certified = record { status = Yes; text = certificate_file }

-- a budget of 1 is enough, whose log has one step more
pub least-one : IsLeast even_soon (Some 1) zero_first certified
least-one = record {
  steps = log;
  accepted = even-accepted;
  least = lower_bound;
  proves = certificate-proves;
  within = λ some. omega arith;
  status = refl;
  text = certificate-written;
  reads_back = λ short. certificate-read;
}

-- at a budget of 0 there is no certificate at all: no log of one step proves it
pub least-budget : (answer : Answer) → IsLeast even_soon (Some 0) zero_first answer → ⊥
least-budget answer is = one_step is.steps (is.within (omega arith)) is.proves

-- another bound is no answer: its digit stands at place 6
abbrev misstated : Answer
misstated = record { status = Yes; text = codes "bound 5\nrefutation 1\n-5 0 31 29 22 0\n0 32 31 30 21 0\nend\n" }

stated-four : (steps : List Step) → get_or (certificate_text 4 steps) 6 0 ≡ 52
unfolding digits
stated-four steps = refl

five_four : (digit : ℕ) → digit ≡ 53 → digit ≡ 52 → ⊥
five_four digit five four = omega (arith, five, four)

pub least-misstated : (conflicts : Option ℕ) → IsLeast even_soon conflicts zero_first misstated → ⊥
least-misstated conflicts is =
    five_four 53 refl (ap (λ (text : List ℕ). get_or text 6 0) is.text ∙ stated-four is.steps)

-- an answer of another status is none, nor is one of a schedule that isn't accepted
pub spent_yes : Spent ≡ Yes → ⊥
spent_yes is = cc

pub least-status : (conflicts : Option ℕ) (text : List ℕ)
    → IsLeast even_soon conflicts zero_first (record { status = Spent; text = text }) → ⊥
least-status conflicts text is = spent_yes is.status

pub least-twice : (conflicts : Option ℕ) (answer : Answer) → IsLeast even_soon conflicts twice answer → ⊥
least-twice conflicts answer is = refused is.accepted

-- a season that isn't least is no answer
none_below : (n : ℕ) → n ≡ 3 → n ≤ 0 → ⊥
none_below n three none = omega (arith, three, none)

pub least-dear : (conflicts : Option ℕ) (answer : Answer) → IsLeast away_first conflicts zero_first answer → ⊥
least-dear conflicts answer is = none_below 3 refl (is.least (counts_of one_first) away-one)

-- ---- a least objective by a floor: the same certificate where a budget of 0 is spent

certified-four : IsCertified even_soon 4 log
certified-four = record {
  least = lower_bound;
  proves = certificate-proves;
  reads_back = ap certificate_of (sym certificate-written) ∙ certificate-read;
}

pub by_floor-none : IsLeastByFloor even_soon (Some 0) zero_first certified
by_floor-none = record {
  steps = [];
  floor = log;
  accepted = even-accepted;
  some = omega arith;
  budget = refl;
  spent = spent-at_zero.spent;
  few = spent-at_zero.few;
  certified = certified-four;
  status = refl;
  text = certificate-written;
}

-- a budget that is spent is one that was set
pub no_budget : (steps : List Step) → ◌≡◌ {A = Option ℕ} None (Some (length steps)) → ⊥
no_budget steps is = cc

pub by_floor-never : (league : Instance) (games : List Game) (answer : Answer)
    → IsLeastByFloor league None games answer → ⊥
by_floor-never league games answer is = no_budget is.steps is.budget

pub by_floor-dear : (conflicts : Option ℕ) (answer : Answer) → IsLeastByFloor away_first conflicts zero_first answer → ⊥
by_floor-dear conflicts answer is = none_below 3 refl (is.certified.least (counts_of one_first) away-one)

-- ---- a better season, with what it costs

abbrev pub better_file : List ℕ
better_file = codes "<?xml version=\"1.0\" encoding=\"UTF-8\"?>\n<Solution>\n<MetaData>\n"
    ++ codes "<ObjectiveValue infeasibility=\"0\" objective=\"0\"/>\n</MetaData>\n<Games>\n"
    ++ codes "<ScheduledMatch home=\"1\" away=\"0\" slot=\"0\"/>\n"
    ++ codes "<ScheduledMatch home=\"0\" away=\"1\" slot=\"1\"/>\n</Games>\n</Solution>\n"

pub better-written : better_file ≡ solution_text one_first (Some (0, 0))
unfolding digits
better-written = refl

pub better-read : solution_of 2 (pieces better_file) ≡ Ok one_first
unfolding attributes_at pieces_from walk
better-read = refl

abbrev pub bettered : Answer
bettered = record { status = Better; text = better_file }

unfoldable pub bettered-zero : IsBettered away_first zero_first bettered
bettered-zero = record {
  better = one_first;
  accepted = away-zero;
  better_accepted = away-one;
  fit = one-fit;
  in_order = one-in_order;
  lower = let less : 0 < 3 = lit< tt in less;
  status = refl;
  text = better-written;
  reads_back = better-read;
}

pub nothing_below : (n : ℕ) → n < 0 → ⊥
nothing_below n less = omega (arith, less)

pub bettered-none : (answer : Answer) → IsBettered away_first one_first answer → ⊥
bettered-none answer is = nothing_below (objective away_first (counts_of is.better)) is.lower

-- a file is written
no_byte : (b : ℕ) (rest : List ℕ) → [] ≡ b ∷ rest → ⊥
no_byte b rest is = cc

pub bettered-nothing : IsBettered away_first zero_first (record { status = Better; text = [] }) → ⊥
bettered-nothing is =
    no_byte 60 (drop 1 (solution_text is.better (Some (0, objective away_first (counts_of is.better))))) is.text

-- ---- a log that is spent: at a budget of 0 it has no step

abbrev pub spent : Answer
spent = record { status = Spent; text = codes "objective 4\nbound 0\nrefutation 1\nend\n" }

pub spent-read : log_of (codes "refutation 1\nend\n") ≡ Ok []
unfolding lines_from
spent-read = refl

-- that no schedule costs less than 0 needs no log
pub floor-none : IsCertified even_soon 0 []
unfolding digits
floor-none = record { least = λ m accepted. omega arith; proves = refl; reads_back = refl }

pub spent-none : IsSpentBelow even_soon (Some 0) ⊥ zero_first spent
unfolding digits
spent-none = record {
  steps = [];
  bound = 0;
  floor = [];
  accepted = even-accepted;
  some = omega arith;
  settled = inr settled-four;
  budget = refl;
  spent = spent-at_zero.spent;
  few = spent-at_zero.few;
  below = omega arith;
  certified = floor-none;
  status = refl;
  text = refl;
  reads_back = λ short. spent-read;
}

-- with a floor that is the objective, whose digit stands at place 18, the budget isn't called spent
spent-place : (bound : ℕ) (floor steps : List Step) → bound < 4 → get_or (spent_text 4 bound floor steps) 18 0 ≡ 48 + bound
unfolding digits
spent-place zero floor steps below = refl
spent-place (suc zero) floor steps below = refl
spent-place (suc (suc zero)) floor steps below = refl
spent-place (suc (suc (suc zero))) floor steps below = refl
spent-place (suc (suc (suc (suc bound)))) floor steps below = absurd (omega (arith, below))

four_at : (bound at : ℕ) → at ≡ 52 → at ≡ 48 + bound → bound < 4 → ⊥
four_at bound at four is below = omega (arith, four, is, below)

pub spent-least : (conflicts : Option ℕ) (may_stop : Type 0) (rest : List ℕ)
    → IsSpentBelow even_soon conflicts may_stop zero_first
    (record { status = Spent; text = codes "objective 4\nbound 4" ++ rest }) → ⊥
spent-least conflicts may_stop rest is =
    four_at is.bound 52 refl
    (ap (λ (text : List ℕ). get_or text 18 0) is.text ∙ spent-place is.bound is.floor is.steps is.below) is.below

pub spent-never : (league : Instance) (may_stop : Type 0) (games : List Game) (answer : Answer)
    → IsSpentBelow league None may_stop games answer → ⊥
spent-never league may_stop games answer is = no_budget is.steps is.budget

-- ---- a run over two files, which writes the certificate behind what was there

abbrev pub league_file : List ℕ
league_file = codes "<Instance><Structure><Format><numberRoundRobin>2</numberRoundRobin><compactness>C</compactness>"
    ++ codes "<gameMode>NULL</gameMode></Format></Structure><Resources><Teams><team id=\"0\"/><team id=\"1\"/>"
    ++ codes "</Teams><Slots><slot id=\"0\"/><slot id=\"1\"/></Slots></Resources><Constraints>"
    ++ codes "<FairnessConstraints>"
    ++ codes "<FA2 teams=\"0;1\" intp=\"0\" mode=\"H\" slots=\"0\" type=\"SOFT\" penalty=\"4\"/>"
    ++ codes "</FairnessConstraints></Constraints></Instance>"

abbrev pub season_file : List ℕ
season_file = codes "<Solution><Games><ScheduledMatch home=\"0\" away=\"1\" slot=\"0\"/>"
    ++ codes "<ScheduledMatch home=\"1\" away=\"0\" slot=\"1\"/></Games></Solution>"

abbrev contents : List ℕ → Option (List ℕ)
contents name =
    if bytes_eq name (codes "even") then Some league_file
    else if bytes_eq name (codes "zero") then Some season_file
    else None

-- the store fails at another file alone
abbrev fails : List ℕ → Type 0
fails name = name ≡ codes "gone"

even_gone : codes "even" ≡ codes "gone" → ⊥
even_gone is = omega (arith, ap (λ (name : List ℕ). get_or name 0 0) is)

zero_gone : codes "zero" ≡ codes "gone" → ⊥
zero_gone is = omega (arith, ap (λ (name : List ℕ). get_or name 0 0) is)

pub says-league : instance_of (pieces league_file) ≡ Ok even_soon
unfolding attributes_at pieces_from walk
says-league = refl

pub says-season : solution_of 2 (pieces season_file) ≡ Ok zero_first
unfolding attributes_at pieces_from walk
says-season = refl

-- 56 terms of the season, three of each softened row, and one of the objective's
pub size-even : bound_size even_soon ≡ 56 + 6 + 1
size-even = refl

pub small-even : bound_size even_soon ≤ most_terms
small-even = omega (arith, size-even)

pub pair-even : IsWellFormedPair (store_of contents fails) (codes "even") (codes "zero") even_soon zero_first
pair-even = record {
  first = league_file;
  second = season_file;
  first_known = refl;
  second_known = refl;
  first_within = omega arith;
  second_within = omega arith;
  says_league = says-league;
  says_games = says-season;
}

pub case-even : IsWellFormedCase (store_of contents fails) (codes "even") (codes "zero") even_soon zero_first
case-even = record { pair = pair-even; small = small-even }

-- where the store failed at a file there is none
pub works-even : NoneFails (store_of contents fails) (codes "even" ∷ codes "zero" ∷ [])
works-even zero d within = even_gone
works-even (suc zero) d within = zero_gone
works-even (suc (suc k)) d within = absurd (omega arith)

pub case-gone : NoneFails (store_of contents fails) (codes "gone" ∷ []) → ⊥
case-gone works = works 0 [] (lit< tt) refl

pub proved-even : Writes (ended_with Yes (Some (codes "> ")) (Some (codes "> " ++ certificate_file))) (IsShown even_soon (Some 1) ⊥ zero_first)
proved-even = record { answer = certified; of_kind = inr (inl least-one); ended = refl; written = refl }

pub proved-floor : Writes (ended_with Yes (Some []) (Some certificate_file)) (IsShown even_soon (Some 0) ⊥ zero_first)
proved-floor = record { answer = certified; of_kind = inr (inr (inl by_floor-none)); ended = refl; written = refl }

pub proved-rejected : Writes (ended_with No (Some []) (Some report.text)) (IsShown even_soon None ⊥ twice)
proved-rejected = record { answer = report; of_kind = inl rejected-twice; ended = refl; written = refl }

pub proved-better : Writes (ended_with Better (Some []) (Some better_file)) (IsShown away_first None ⊥ zero_first)
proved-better = record { answer = bettered; of_kind = inr (inr (inr (inl bettered-zero))); ended = refl; written = refl }

pub proved-spent : Writes (ended_with Spent (Some []) (Some (codes "objective 4\nbound 0\nrefutation 1\nend\n")))
    (IsShown even_soon (Some 0) ⊥ zero_first)
proved-spent = record { answer = spent; of_kind = inr (inr (inr (inr spent-none))); ended = refl; written = refl }

-- a schedule that isn't accepted is told so
pub proved-twice : (conflicts : Option ℕ) (may_stop : Type 0) (old new : Option (List ℕ))
    → Writes (ended_with Yes old new) (IsShown even_soon conflicts may_stop twice) → ⊥
proved-twice conflicts may_stop old new is =
    no_yes (sym (is.ended ∙ shown-refused even_soon conflicts twice is.answer refused is.of_kind))
  where
    no_yes : No ≡ Yes → ⊥
    no_yes same = cc

-- known bytes stay known
pub proved-unknown : (league : Instance) (conflicts : Option ℕ) (may_stop : Type 0) (games : List Game) (ended : Status)
    (old : List ℕ) → Writes (ended_with ended (Some old) None) (IsShown league conflicts may_stop games) → ⊥
proved-unknown league conflicts may_stop games ended old is = is.written
