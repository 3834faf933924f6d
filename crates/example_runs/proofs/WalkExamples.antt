-- What a walk gives of two teams, bounds on sums, rules and their prices, climbs, and what `check` answers. x(0,1,s) is
-- 1 + s, x(1,0,s) 3 + s. `home` begins with team 1 at home, and `out` with team 0.
use Rattle.std.proofs.Common.{lit<, lit≤, ◌≡◌, ℕ, ◌-◌, ◌*◌, ◌^◌, ◌≤◌, true, false, if◌then◌else◌}
use Rattle.std.proofs.Common.{List, [], ◌∷◌, Option, Some, None, Ok, codes, bytes_eq, ap, sym, refl, inl}
use Rattle.std.proofs.Common.{arith, IsTrue}
use Rattle.std.proofs.lemmas.List.{append-nil}
use Rattle.std.specs.Fmt.{digits}
use Rattle.std.specs.Ordering.{is_le}
use Rattle.example_runs.proofs.Runs.{ended_with, store_of}
use Rattle.robin_run.specs.Run.{Writes}
use Rattle.league.specs.Order.{game_cmp}
use Rattle.league.specs.Counts.{Counts, counts_of}
use Rattle.league.specs.Deviation.{entry_of}
use Rattle.league.specs.Instance.{Instance}
use Rattle.league.specs.declared.class.Class.{Class}
use Rattle.league.specs.declared.class.Class.TheVariants.{Ca1}
use Rattle.league.specs.declared.class.Constraint.{Constraint}
use Rattle.league.specs.declared.class.Side.TheVariants.{A}
use Rattle.league.proofs.DoubleFour.{game}
use Rattle.encoding.specs.Encoding.{encoding_size, rows_of}
use Rattle.rows.specs.Rows.{Row}
use Rattle.rule_core.specs.Ready.{entry_count}
use Rattle.rule_core.specs.Rule.{IsRuleOf}
use Rattle.rule_core.specs.Touched.{is_watched, most_touched, touched_keys}
use Rattle.rule_core.specs.declared.rule.Entries.{Ghosts}
use Rattle.descent.specs.League.{IsWeightedOf}
use Rattle.descent.specs.Tallies.{IsAtMost, IsWithin}
use Rattle.descent.specs.declared.weigh.Sums.{Sums}
use Rattle.descent.specs.declared.weighted.Weighted.{Weighted}
use Rattle.moves.specs.Neighbours.{home_swap}
use Rattle.descent.specs.Score.{IsNoWorse}
use Rattle.descent.specs.Trail.{IsClimb, IsTrail}
use Rattle.descent.specs.declared.score.Score.{Score}
use Rattle.walk.specs.Walked.{IsSeasonOf, league_score}
use Rattle.walk.specs.declared.best.Best.{Best}
use Rattle.robinx.specs.Pieces.{pieces, pieces_from}
use Rattle.robinx.specs.Tags.{attributes_at}
use Rattle.robinx.specs.InstanceFile.{instance_of}
use Rattle.robinx.specs.Walk.{walk}
use Rattle.robinx.specs.declared.instance.TheConstants.{INSTANCE_LIMIT}
use Rattle.answers.specs.Reply.{Answer}
use Rattle.answers.specs.Stages.{IsFile}
use Rattle.answers.specs.declared.status.Status.TheVariants.{Yes, No}
use Rattle.refutation.specs.Logs.{lines_from, log_of}
use Rattle.refutation.specs.Steps.{Step}
use Rattle.refutation.specs.Steps.Step.{Clause}
use Rattle.refutation.specs.declared.verdict.Cause.TheVariants.{NoConflict}
use Rattle.refutation.specs.declared.verdict.Verdict.TheVariants.{Accepted, Rejected}
use Rattle.command_check.specs.Check.{IsVerdict, IsWellFormedLog, LacksRoom, checked, most_log_bytes}
use Rattle.command_check.specs.Check.{verdict_answer}
use Rattle.example_runs.proofs.SolveExamples.{accepted_home, false_true, fits_home, home, ordered_home}
use Rattle.example_runs.proofs.DescentExamples.{lowers-home}
use Rattle.example_runs.proofs.SolveExamples.{out, soft, text, two_with, wishful}
use Rattle.example_runs.proofs.DescentExamples.{swapped_home, swapped_out}
use Rattle.example_runs.proofs.ConflictExamples.{alone, apart, none-apart}
use Rattle.encoding.specs.Limit.{most_terms}

-- ---- what a walk gives: team 0 isn't to be away in slot 0 (hard, at no cost), nor team 1 in slot 1 (soft, at 6)

abbrev free : Constraint
free = record { hard = true; penalty = 0; class = Ca1 (0 ∷ []) 0 0 A (0 ∷ []) }

abbrev demanding : Instance
demanding = two_with (free ∷ soft 6 (Ca1 (1 ∷ []) 0 0 A (1 ∷ [])) ∷ [])

-- `home` breaks both: that the first costs nothing counts 1
abbrev best : Best
best = record { games = home; score = record { infeasibility = 1; objective = 6 } }

pub season-home : IsSeasonOf demanding best
season-home = record {
  fit = fits_home;
  in_order = ordered_home;
  round_robin = record { pairs = refl; cells = refl; phases = refl };
  score = refl;
}

no_infeasibility : ◌≡◌ {A = ℕ} 0 1 → ⊥
no_infeasibility is = omega (arith, is)

abbrev cheaper : Best
cheaper = record { games = home; score = record { infeasibility = 0; objective = 6 } }

pub season-cheaper : IsSeasonOf demanding cheaper → ⊥
season-cheaper is = no_infeasibility (ap (λ (score : Score). score.infeasibility) is.score)

-- two games of the same meeting are no season: it takes place twice, and the other never
two_left : ◌≡◌ {A = ℕ} 2 0 → ⊥
two_left is = omega (arith, is)

pub season-repeated : (score : Score)
    → IsSeasonOf demanding (record { games = game 0 1 0 ∷ game 0 1 1 ∷ []; score = score }) → ⊥
season-repeated score is = two_left is.round_robin.pairs

-- a walk gives no games out of order
not_first : IsTrue (is_le (game_cmp (game 0 1 1) (game 1 0 0))) → ⊥
not_first is = cc

pub season-late_first : (score : Score)
    → IsSeasonOf demanding (record { games = game 0 1 1 ∷ game 1 0 0 ∷ []; score = score }) → ⊥
season-late_first score is = not_first (is.in_order 0 1 (game 0 1 1) (lit< tt) (lit< tt))

-- ---- bounds: the greatest number of 128 bits bounds nothing, and the one before it does

pub at_most-six : IsAtMost 6 5 × IsAtMost 6 6
at_most-six = (λ below. lit≤ tt, λ below. lit≤ tt)

past_six : 7 ≤ 6 → ⊥
past_six is = omega (arith, is)

pub at_most-seven : IsAtMost 6 7 → ⊥
at_most-seven is = past_six (is (lit< tt))

pub at_most-greatest : (number : ℕ) → IsAtMost (2 ^ 128 - 1) number × IsAtMost (2 ^ 128) number
at_most-greatest number = (λ below. absurd (omega (arith, below)), λ below. absurd (omega (arith, below)))

pub at_most-before : IsAtMost (2 ^ 128 - 2) (2 ^ 128 - 2)
at_most-before below = lit≤ tt

past_before : 340282366920938463463374607431768211455 ≤ 340282366920938463463374607431768211454 → ⊥
past_before is = omega (arith, is)

pub at_most-past : IsAtMost (2 ^ 128 - 2) (2 ^ 128 - 1) → ⊥
at_most-past is = past_before (is (lit< tt))

-- ---- rules: rule r has r times the games of team 0 at home to team 1 in slot k as its entry k

abbrev visits : Ghosts ℕ
visits = record {
  team_count = λ r. 2;
  term_count = λ r. 2;
  reach_of = λ r. 1;
  entry = λ r k m. r * m 0 1 k;
  touches = λ r g. g.slot.0 ∷ [];
  watched = λ r t. true;
}

-- 3 + 0 for 2 each, and 1 + 0 for 4
abbrev weights : List (Weighted ℕ)
weights = record { rule = 3; hard = true; penalty = 2 } ∷ record { rule = 1; hard = false; penalty = 4 } ∷ []

abbrev most : ℕ → ℕ → Sums
most a b = record { infeasibility = a; objective = b }

pub within-both : IsWithin visits (most 6 4) (counts_of out) weights
within-both = record { infeasibility = λ below. lit≤ tt; objective = λ below. lit≤ tt }

pub within-one : IsWithin visits (most 6 (2 ^ 128 - 1)) (counts_of out) weights
within-one = record { infeasibility = λ below. lit≤ tt; objective = λ below. absurd (omega (arith, below)) }

six_five : 6 ≤ 5 → ⊥
six_five is = omega (arith, is)

four_three : 4 ≤ 3 → ⊥
four_three is = omega (arith, is)

pub within-less : (IsWithin visits (most 5 4) (counts_of out) weights → ⊥)
    × (IsWithin visits (most 6 3) (counts_of out) weights → ⊥)
within-less = (λ is. six_five (is.infeasibility (lit< tt)), λ is. four_three (is.objective (lit< tt)))

-- classes that are their own rules, in a league of two teams
abbrev itself : Ghosts Class
itself = record {
  team_count = λ class. 2;
  term_count = entry_count;
  reach_of = most_touched;
  entry = λ class k m. entry_of 2 m class k;
  touches = touched_keys;
  watched = is_watched;
}

rule_free : IsRuleOf itself 2 free.class free.class
rule_free = record {
  teams = refl;
  terms = λ m. refl;
  short = lit≤ tt;
  entries = λ k m. refl;
  reach = refl;
  touches = λ g. refl;
  watched = λ t. refl;
}

-- where a unit of a hard constraint costs at least 2, the free one costs 2
pub weighted-free : IsWeightedOf itself 2 2 free (record { rule = free.class; hard = true; penalty = 2 })
weighted-free = record { rule = rule_free; hard = refl; penalty = refl }

no_price : ◌≡◌ {A = ℕ} 0 2 → ⊥
no_price is = omega (arith, is)

pub weighted-unpaid : IsWeightedOf itself 2 2 free (record { rule = free.class; hard = true; penalty = 0 }) → ⊥
weighted-unpaid is = no_price is.penalty

-- a rule of two teams isn't that of one
two_entries : ◌≡◌ {A = ℕ} 2 1 → ⊥
two_entries is = omega (arith, is)

abbrev of_both : ℕ → Weighted Class
of_both penalty = record { rule = Ca1 (0 ∷ 1 ∷ []) 0 0 A (0 ∷ []); hard = true; penalty = penalty }

pub weighted-other : (penalty : ℕ) → IsWeightedOf itself 2 2 free (of_both penalty) → ⊥
weighted-other penalty is = two_entries (is.rule.terms (counts_of home))

-- ---- climbs: team 0 had better not be away in slot 0, at 5; the home swap lowers that, and back it raises it

pub trail-home : IsTrail 2 false (league_score wishful) (counts_of home) (home_swap (0, 1) ∷ []) (counts_of out)
trail-home = (lowers-home, swapped_home)

pub climb-out : IsClimb 2 false (league_score wishful) (counts_of out) (home_swap (0, 1) ∷ []) (counts_of home)
climb-out = (
  record { own = lit< tt; round_robin = record { pairs = refl; cells = refl; phases = refl } },
  refl,
  swapped_out,
)

-- the other way it is no climb, and where it rises no trail
pub climb-home : (last : Counts)
    → IsClimb 2 false (league_score wishful) (counts_of home) (home_swap (0, 1) ∷ []) last → ⊥
climb-home last is = false_true is.1

pub trail-out : (last : Counts)
    → IsTrail 2 false (league_score wishful) (counts_of out) (home_swap (0, 1) ∷ []) last → ⊥
trail-out last is = false_true is.0.lower

abbrev score : ℕ → ℕ → Score
score a b = record { infeasibility = a; objective = b }

true_false : true ≡ false → ⊥
true_false is = cc

pub no_worse-some : IsNoWorse (score 0 90) (score 1 0) × IsNoWorse (score 3 7) (score 3 8)
no_worse-some = (refl, refl)

pub no_worse-wrong : (IsNoWorse (score 1 0) (score 0 90) → ⊥) × (IsNoWorse (score 3 8) (score 3 7) → ⊥)
no_worse-wrong = (λ is. true_false is, λ is. true_false is)

-- ---- `check`: a slot between the two games of two teams, and the log of two steps that refutes it

abbrev league_file : List ℕ
league_file = text (
    "<Instance>"
    ∷ "<Structure>"
    ∷ "<Format><numberRoundRobin>2</numberRoundRobin><compactness>C</compactness><gameMode>NULL</gameMode></Format>"
    ∷ "</Structure>"
    ∷ "<Resources>"
    ∷ "<Teams><team id=\"0\"/><team id=\"1\"/></Teams>"
    ∷ "<Slots><slot id=\"0\"/><slot id=\"1\"/></Slots>"
    ∷ "</Resources>"
    ∷ "<Constraints>"
    ∷ "<SeparationConstraints>"
    ∷ "<SE1 teams=\"0;1\" min=\"1\" mode1=\"SLOTS\" type=\"HARD\" penalty=\"1\"/>"
    ∷ "</SeparationConstraints>"
    ∷ "</Constraints>"
    ∷ "</Instance>"
    ∷ []
    )

abbrev log_file : List ℕ
log_file = codes "refutation 1\n-1 0 29 3 0\n0 30 1 29 3 0\nend\n"

says_league : instance_of (pieces league_file) ≡ Ok apart
unfolding attributes_at pieces_from walk
says_league = refl

says_steps : log_of log_file ≡ Ok alone
unfolding lines_from
says_steps = refl

abbrev contents : List ℕ → Option (List ℕ)
contents name =
    if bytes_eq name (codes "apart") then Some league_file
    else if bytes_eq name (codes "log") then Some log_file
    else None

abbrev nowhere : List ℕ → Type 0
nowhere name = ⊥

-- four terms more than the 56 of the season
sizes : encoding_size apart ≡ 60
sizes = refl

small : encoding_size apart ≤ most_terms
small = omega (arith, sizes)

pub formed-apart : IsWellFormedLog (store_of contents nowhere) (codes "apart") (codes "log") apart alone
formed-apart = record {
  first = league_file;
  second = log_file;
  first_known = refl;
  second_known = refl;
  first_within = omega arith;
  second_within = omega arith;
  says_league = says_league;
  small = small;
  says_steps = says_steps;
}

-- a log whose bytes aren't known isn't well-formed
none_some : (bytes : List ℕ) → ◌≡◌ {A = Option (List ℕ)} None (Some bytes) → ⊥
none_some bytes is = cc

pub formed-unknown : (steps : List Step)
    → IsWellFormedLog (store_of contents nowhere) (codes "apart") (codes "logs") apart steps → ⊥
formed-unknown steps is = none_some is.second is.second_known

abbrev accepted_reply : Answer
accepted_reply = record { status = Yes; text = codes "accepted steps 2\n" }

accepted_is : accepted_reply ≡ verdict_answer 2 Accepted
unfolding digits
accepted_is = refl

-- the steps, a clause of one literal and the empty clause, take 72 and 64 bytes
pub verdict-apart : IsVerdict apart (rows_of apart) (Some 136) alone accepted_reply
verdict-apart = record { verdict = accepted_is; within = refl; refuted = λ yes. none-apart }

-- where there is room for a byte less, no verdict is said
pub verdict-tight : (answer : Answer) → IsVerdict apart (rows_of apart) (Some 135) alone answer → ⊥
verdict-tight answer is = let within : false ≡ true = is.within in cc

-- the last step without the first: rows 1, 29 and 3 force nothing
abbrev rejected_reply : Answer
rejected_reply = record { status = No; text = codes "rejected step 1 cause NoConflict\n" }

rejected_is : rejected_reply ≡ verdict_answer 1 (Rejected 1 NoConflict)
unfolding digits
rejected_is = refl

no_yes : No ≡ Yes → ⊥
no_yes is = cc

pub verdict-last : IsVerdict apart (rows_of apart) None (Clause [] (1 ∷ 29 ∷ 3 ∷ []) ∷ []) rejected_reply
verdict-last = record { verdict = rejected_is; within = refl; refuted = λ yes. absurd (no_yes yes) }

-- over rows of a league that accepts a season nothing is answered by yes
pub verdict-wishful : (rows : List Row) (room : Option ℕ) (steps : List Step) (answer : Answer) → answer.status ≡ Yes
    → IsVerdict wishful rows room steps answer → ⊥
verdict-wishful rows room steps answer ended is = is.refuted ended home accepted_home

pub checked-apart : Writes (ended_with Yes (Some []) (Some (codes "accepted steps 2\n"))) (IsVerdict apart (rows_of apart) (Some 136) alone)
checked-apart = record { answer = accepted_reply; of_kind = verdict-apart; ended = refl; written = refl }

pub checked-wishful : (room : Option ℕ) (steps : List Step) (old new : Option (List ℕ)) → Writes (ended_with Yes old new) (IsVerdict wishful (rows_of wishful) room steps) → ⊥
checked-wishful room steps old new is =
    verdict-wishful (rows_of wishful) room steps is.answer (sym is.ended) is.of_kind

-- the stages of `check` may give that answer
abbrev never : ℕ → Type 0
never n = ⊥

file_league : IsFile (contents (codes "apart")) INSTANCE_LIMIT league_file
file_league = record { same = refl; within = omega arith }

file_log : IsFile (contents (codes "log")) most_log_bytes log_file
file_log = record { same = refl; within = omega arith }

pub checked-stages : checked (store_of contents nowhere) (Some 136) (codes "apart") (codes "log") accepted_reply
unfolding attributes_at pieces_from walk lines_from
checked-stages = inl (league_file, file_league, inl (small, inl (log_file, file_log, verdict-apart)))

-- where there is room for a byte less, both steps pass it
pub lacks-apart : LacksRoom (store_of contents nowhere) (Some 135) (codes "apart") (codes "log")
unfolding attributes_at pieces_from walk lines_from
lacks-apart = record {
  first = league_file;
  first_file = file_league;
  league = apart;
  says_league = says_league;
  passes = record { front = log_file; begins = ([], sym (append-nil log_file)); passes = (2, lit≤ tt, refl) };
}
