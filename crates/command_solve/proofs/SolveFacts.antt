-- Worked answers, so that a wrong definition of what `solve` may answer does not check.
use Rattle.std.proofs.Common.{◌≡◌, ℕ, ◌≤◌, ◌∙◌, true, false, if◌then◌else◌, List, [], ◌∷◌, ◌++◌, Option, Some, None, Ok, Err, codes, IsTrue, zero, suc, inl, inr, arith, refl, sym}
use Rattle.std.specs.Prelude.{bytes_eq}
use Rattle.std.specs.Fmt.{digits}
use Rattle.std.specs.List.{All}
use Rattle.answers.specs.Stages.{NoneFails}
use Rattle.robin_io.specs.Outside.{Store}
use Rattle.robinx.specs.Pieces.{pieces, pieces_from}
use Rattle.robinx.specs.Tags.{attributes_at}
use Rattle.robin_watch.proofs.LimitLemmas.{kept-unstopped}
use Rattle.robin_watch.specs.declared.budgets.Budgets.{Budgets}
use Rattle.league.specs.Accepted.{IsAccepted}
use Rattle.league.specs.Counts.{counts_of}
use Rattle.league.specs.Instance.{Instance, IsInstance, IsTeamCount, class_fits}
use Rattle.league.specs.declared.class.Constraint.{Constraint}
use Rattle.league.specs.declared.game.Game.{Game}
use Rattle.circle_method.specs.Circle.{double_games}
use Rattle.circle_method.proofs.RoundRobinLemmas.{IsRoundRobin-double_games}
use Rattle.robinx.specs.InstanceFile.{instance_of}
use Rattle.robinx.specs.SolutionFile.{solution_of}
use Rattle.robinx.specs.Texts.{solution_text}
use Rattle.robinx.specs.Walk.{walk}
use Rattle.robinx.specs.declared.tag_fault.FormKind.TheVariants.{Truncated}
use Rattle.answers.specs.Reply.{Answer}
use Rattle.answers.specs.declared.status.Status.TheVariants.{Yes, Refuted, Spent}
use Rattle.encoding.specs.Encoding.{encoding_size, rows_of}
use Rattle.encoding.specs.Variables.{var_count}
use Rattle.refutation.specs.Texts.{log_text}
use Rattle.refutation.specs.Verdict.{verdict_of}
use Rattle.refutation.specs.declared.verdict.Verdict.TheVariants.{Accepted}
use Rattle.decoding.specs.Excluded.{NoneAccepted}
use Rattle.decoding.proofs.SeasonLemmas.{accepted_logs_exclude}
use Rattle.command_check.proofs.CheckFacts.{good_steps, homeless, league_file, never, nowhere}
use Rattle.moves.specs.declared.swap.Swap.TheVariants.{HomeSwap, RoundSwap, TeamSwap, PartRoundSwap, PartTeamSwap}
use Rattle.descent.specs.Descended.{Descended}
use Rattle.command_solve.specs.Solve.{IsFoundBy, IsWellFormedInstance, descent_text, move_line, solved}
use Rattle.command_solve.proofs.SolveAnswers.{solved-well_formed}
use Rattle.encoding.specs.Limit.{most_terms}

-- a league of two teams without constraints
abbrev pub plain_file : List ℕ
plain_file = codes "<Instance><Structure><Format><numberRoundRobin>2</numberRoundRobin><compactness>C</compactness><gameMode>P</gameMode></Format></Structure><Resources><Teams><team id=\"0\"/><team id=\"1\"/></Teams><Slots><slot id=\"0\"/><slot id=\"1\"/></Slots></Resources><Constraints></Constraints></Instance>"

abbrev pub plain : Instance
plain = record { n = 2; phased = true; constraints = [] }

abbrev pub contents : List ℕ → Option (List ℕ)
contents name =
    if bytes_eq name (codes "homeless") then Some league_file
    else if bytes_eq name (codes "plain") then Some plain_file
    else None

two : IsTeamCount 2
two = record { even = refl; at_least = omega arith; at_most = omega arith }

-- ---- neither team may be at home in slot 0: there is no schedule

says-homeless : instance_of (pieces league_file) ≡ Ok homeless
unfolding attributes_at pieces_from walk
says-homeless = refl

size-homeless : encoding_size homeless ≡ 62
size-homeless = refl

small-homeless : encoding_size homeless ≤ most_terms
small-homeless = omega (arith, size-homeless)

abbrev store : Store
store = record { contents = contents; took_more = never; failed = nowhere }

nothing_fails : (names : List (List ℕ)) → NoneFails store names
nothing_fails names = λ place name within fails. fails

homeless-formed : IsWellFormedInstance store (codes "homeless") homeless
homeless-formed = record { bytes = league_file; known = refl; within = omega arith; says_league = says-homeless; small = small-homeless }

homeless-verdict : verdict_of (rows_of homeless) (var_count homeless) good_steps ≡ Accepted
homeless-verdict = refl

homeless-fits : All (λ (c : Constraint). IsTrue (class_fits 2 c.class)) homeless.constraints
homeless-fits zero d h = refl
homeless-fits (suc k) d h = absurd (omega arith)

homeless-instance : IsInstance homeless
homeless-instance = record { teams = two; few = omega arith; fit = homeless-fits }

none : NoneAccepted homeless
none = accepted_logs_exclude homeless good_steps homeless-instance homeless-verdict

-- whatever the budget, and stopped or not, no schedule is the answer to `solve homeless`
pub solve-no_schedule : (budgets : Budgets) (may_stop : Type 0) (answer : Answer) → solved store (codes "homeless") budgets may_stop answer → answer.status ≡ Yes → ⊥
solve-no_schedule budgets may_stop answer given ended =
    let told : IsFoundBy homeless budgets may_stop (rows_of homeless) answer = solved-well_formed store (codes "homeless") budgets may_stop homeless answer homeless-formed (nothing_fails (codes "homeless" ∷ [])) given in
    elim told.is_found.found [
      | inl schedule ↦ none schedule.games schedule.accepted
      | inr (inl refuted) ↦ let same : Refuted ≡ Yes = sym refuted.status ∙ ended in cc
      | inr (inr spent) ↦ let same : Spent ≡ Yes = sym spent.status ∙ ended in cc
    ]

abbrev unlimited : Budgets
unlimited = record { conflicts = None; moves = 0; tries = 1; patterns = 0; seed = 0 }

-- without a budget, and where nothing may stop it, `solve homeless` refutes the league
pub solve-refuted : (answer : Answer) → solved store (codes "homeless") unlimited ⊥ answer → answer.status ≡ Refuted
solve-refuted answer given =
    let told : IsFoundBy homeless unlimited ⊥ (rows_of homeless) answer = solved-well_formed store (codes "homeless") unlimited ⊥ homeless answer homeless-formed (nothing_fails (codes "homeless" ∷ [])) given in
    elim told.is_found.found [
      | inl schedule ↦ absurd (none schedule.games schedule.accepted)
      | inr (inl refuted) ↦ refuted.status
      | inr (inr spent) ↦
          let same = sym (kept-unstopped None ⊥ told.kept.conflicts (λ never. never) told.are_kept.conflicts)
          ∙ spent.budget in absurd (cc)
    ]

-- ---- any schedule will do

says-plain : instance_of (pieces plain_file) ≡ Ok plain
unfolding attributes_at pieces_from walk
says-plain = refl

size-plain : encoding_size plain ≡ 60
size-plain = refl

small-plain : encoding_size plain ≤ most_terms
small-plain = omega (arith, size-plain)

plain-formed : IsWellFormedInstance store (codes "plain") plain
plain-formed = record { bytes = plain_file; known = refl; within = omega arith; says_league = says-plain; small = small-plain }

circle-accepted : IsAccepted plain (counts_of (double_games 2))
circle-accepted = record { round_robin = IsRoundRobin-double_games 2 two; hard = λ k d h. absurd (omega arith) }

-- whatever the budget, and stopped or not, a schedule is the answer to `solve plain`, since its league accepts that of the circle method
pub solve-circle : (budgets : Budgets) (may_stop : Type 0) (answer : Answer) → solved store (codes "plain") budgets may_stop answer → answer.status ≡ Yes
solve-circle budgets may_stop answer given = (solved-well_formed store (codes "plain") budgets may_stop plain answer plain-formed (nothing_fails (codes "plain" ∷ [])) given).is_found.circle circle-accepted

-- ---- texts

-- a log of no step, which is spent at 0
pub log_text-none : log_text [] ≡ codes "refutation 1\nend\n"
log_text-none = refl

-- a descent of two moves that isn't settled, and one of none that is
abbrev step : Descended
step = record { first = []; trail = HomeSwap (record { 0 = 0 }) (record { 0 = 13 }) ∷ PartTeamSwap (record { 0 = 1 }) (record { 0 = 2 }) (record { 0 = 30 }) ∷ []; settled = false }

pub descent_text-two : descent_text 7 step ≡ codes "<!-- descent first=7 moves=2 settled=no -->\n<!-- move HomeSwap 0 13 -->\n<!-- move PartTeamSwap 1 2 30 -->\n"
unfolding digits
descent_text-two = refl

pub descent_text-none : descent_text 0 (record { first = []; trail = []; settled = true }) ≡ codes "<!-- descent first=0 moves=0 settled=yes -->\n"
unfolding digits
descent_text-none = refl

pub move_line-each : (move_line (RoundSwap (record { 0 = 2 }) (record { 0 = 3 })) ≡ codes
    "<!-- move RoundSwap 2 3 -->\n")
    × (move_line (TeamSwap (record { 0 = 1 }) (record { 0 = 2 })) ≡ codes "<!-- move TeamSwap 1 2 -->\n") × (move_line
    (PartRoundSwap (record { 0 = 0 }) (record { 0 = 1 }) (record { 0 = 4 })) ≡ codes
    "<!-- move PartRoundSwap 0 1 4 -->\n")
unfolding digits
move_line-each = (refl, refl, refl)

-- ---- what is written is read

abbrev game : ℕ → ℕ → ℕ → Game
game i j s = record { home = record { 0 = i }; away = record { 0 = j }; slot = record { 0 = s } }

abbrev season : List Game
season = game 0 1 0 ∷ game 1 0 1 ∷ []

-- a season of two teams says its two games, with the three comments of a descent behind it too; where one of these
-- doesn't end, it is told with its line: the text of the season has 10 lines
pub reads_back-two :
    (solution_of 2 (pieces (solution_text season (Some (0, 7)) ++ descent_text 7 step)) ≡ Ok season)
    × (solution_of 2 (pieces (solution_text season (Some (0, 7)) ++ codes "<!-- descent first=7 --\n"))
    ≡ Err (Truncated, 11))
unfolding attributes_at pieces_from walk digits
reads_back-two = (refl, refl)
