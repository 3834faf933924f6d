-- Two teams in no phases, of which team 1 had better not be at home in slot 0, at 4; and what was played of their
-- season of two slots. x(0,1,s) is 1 + s, and x(1,0,s) 3 + s. `home` begins with team 1 at home, and `out` with team 0.
use Rattle.clause_search.proofs.SearchLemmas.{AreNews-none}
use Rattle.std.proofs.Common.{lit<, lit≤, ◌≡◌, ℕ, ◌+◌, ◌<◌, ◌≤◌, ◌==◌, ◌∙◌, Bool, true, false, ◌&&◌, nat_lt, cond, if◌then◌else◌}
use Rattle.std.proofs.Common.{List, [], ◌∷◌, ◌++◌, length, drop, Option, Some, None, Result, Ok, codes, bytes_eq}
use Rattle.std.proofs.Common.{length-append, ap, sym, refl, arith, IsTrue, ◌^◌}
use Rattle.std.proofs.Math.Path.{fun_ext}
use Rattle.std.proofs.lemmas.Bool.Decides.{nat_tests}
use Rattle.std.proofs.lemmas.List.Elements.{All-from_recursion, All-nil}
use Rattle.std.specs.List.{AllPairs}
use Rattle.std.specs.Prelude.{◌≢◌}
use Rattle.answers.specs.Stages.{NoneFails}
use Rattle.example_runs.proofs.Runs.{store_of}
use Rattle.league.specs.Accepted.{IsAccepted}
use Rattle.league.specs.Counts.{Counts, counts_of}
use Rattle.league.specs.Instance.{Instance, IsInstance, class_fits}
use Rattle.league.specs.declared.class.Class.TheVariants.{Ca1}
use Rattle.league.specs.declared.class.Constraint.{Constraint}
use Rattle.league.specs.declared.class.Side.TheVariants.{H}
use Rattle.league.specs.declared.game.Game.{Game}
use Rattle.league.proofs.AcceptedLemmas.{MeetsHard-from_sum}
use Rattle.league.proofs.DoubleFour.{game}
use Rattle.rows.specs.Cardinality.{at_least}
use Rattle.rows.specs.Literals.{Literal, yes}
use Rattle.robinx.specs.Pieces.{pieces, pieces_from}
use Rattle.robinx.specs.Tags.{attributes_at}
use Rattle.robinx.specs.InstanceFile.{instance_of}
use Rattle.robinx.specs.SolutionFile.{solution_of}
use Rattle.robinx.specs.Walk.{Fault, walk}
use Rattle.refutation.specs.Steps.{Step}
use Rattle.refutation.specs.Steps.Step.{Clause}
use Rattle.refutation.specs.declared.verdict.Cause.TheVariants.{UnknownRow}
use Rattle.refutation.specs.declared.verdict.Verdict.TheVariants.{Accepted, Rejected}
use Rattle.clause_search.specs.News.{IsTidy}
use Rattle.resume.specs.Kept.{Keeps, resume_rows, resume_size}
use Rattle.resume.specs.Resumable.{NoneResumes}
use Rattle.resume.proofs.Faithful.{accepted_logs_exclude}
use Rattle.resume.specs.Answers.{IsPlan, IsResumedSeason, RefutesResuming}
use Rattle.resume.specs.declared.resumed.Resumed.TheVariants as resumed
use Rattle.command_resume.specs.Seasons.{IsWellFormedSeason, SaySeason}
use Rattle.example_runs.proofs.SolveExamples.{fits_home, fits_out, home, ordered_home, ordered_out, out, soft}
use Rattle.example_runs.proofs.SolveExamples.{text, two_with}
use Rattle.encoding.specs.Limit.{most_terms}

abbrev pub league : Instance
league = two_with (soft 4 (Ca1 (1 ∷ []) 0 0 H (0 ∷ [])) ∷ [])

pub accepted_home : IsAccepted league (counts_of home)
accepted_home = record {
  round_robin = record { pairs = refl; cells = refl; phases = refl };
  hard = MeetsHard-from_sum league (counts_of home) refl;
}

accepted_out : IsAccepted league (counts_of out)
accepted_out = record {
  round_robin = record { pairs = refl; cells = refl; phases = refl };
  hard = MeetsHard-from_sum league (counts_of out) refl;
}

-- ---- slot 0 was played, with team 1 at home: `home` keeps that, at 4

abbrev pub first : List Game
first = game 1 0 0 ∷ []

-- the other game of `home` isn't in slot 0
later_game : (i j s : ℕ) → s < 1 → ((0 == i) && (1 == j) && (1 == s)) ≡ false
later_game i j s within = grind (arith, nat_tests)

no_more : (x y : Bool) → y ≡ false → nat_lt 0 (0 + cond x 1 0 + cond y 1 0) ≡ nat_lt 0 (0 + cond x 1 0)
no_more true true is = absurd (cc)
no_more true false is = refl
no_more false true is = absurd (cc)
no_more false false is = refl

keeps_first : Keeps (counts_of first) 1 (counts_of home)
keeps_first i j s within =
    no_more ((1 == i) && (0 == j) && (0 == s)) ((0 == i) && (1 == j) && (1 == s)) (later_game i j s within)

pub season-home : IsResumedSeason league first 1 home 4
season-home = record {
  resumes = record { accepted = accepted_home; keeps = keeps_first };
  fit = fits_home;
  in_order = ordered_home;
  cost = refl;
}

true_false : true ≡ false → ⊥
true_false is = cc

-- the season that keeps what was played isn't free
free_four : ◌≡◌ {A = ℕ} 0 4 → ⊥
free_four is = omega (arith, is)

pub season-cheap : IsResumedSeason league first 1 home 0 → ⊥
season-cheap is = free_four is.cost

-- `out` doesn't, though it costs nothing
pub season-out : IsResumedSeason league first 1 out 0 → ⊥
season-out is = true_false (is.resumes.keeps 0 1 0 (lit< tt))

-- where no slot was played it does
pub season-free : IsResumedSeason league first 0 out 0
season-free = record {
  resumes = record { accepted = accepted_out; keeps = λ i j s within. absurd (omega (arith, within)) };
  fit = fits_out;
  in_order = ordered_out;
  cost = refl;
}

-- ---- both games were played in slot 0: rows 29 and 30 ask for them, and row 6 allows team 0 one

abbrev pub crowded : List Game
crowded = game 0 1 0 ∷ game 1 0 0 ∷ []

pub rows-crowded : drop 28 (resume_rows league (counts_of crowded) 1)
    ≡ at_least 1 (yes 1 ∷ []) ∷ at_least 1 (yes 3 ∷ []) ∷ []
rows-crowded = refl

abbrev pub log : List Step
log = Clause [] (29 ∷ 30 ∷ 6 ∷ []) ∷ []

league_instance : IsInstance league
league_instance = record {
  teams = record { even = refl; at_least = omega arith; at_most = omega arith };
  few = omega arith;
  fit = All-from_recursion (λ (c : Constraint). IsTrue (class_fits 2 c.class)) league.constraints (refl, tt);
}

pub none_crowded : NoneResumes league (counts_of crowded) 1
none_crowded = accepted_logs_exclude league crowded 1 log league_instance (lit≤ tt) refl

no_pairs : AllPairs (λ (l m : Literal). l.var ≢ m.var) []
no_pairs i j d before inside = absurd (omega (arith, inside))

tidy_step : IsTidy 8 (Clause [] (29 ∷ 30 ∷ 6 ∷ []))
tidy_step = record {
  variables = no_pairs;
  from_one = All-nil (λ (l : Literal). 1 ≤ l.var);
  known = All-nil (λ (l : Literal). l.var ≤ 8);
  few = lit≤ tt;
  named = All-from_recursion (λ (hint : ℕ). 1 ≤ hint) (29 ∷ 30 ∷ 6 ∷ [])
      (omega arith, (omega arith, (omega arith, tt)));
  small = All-from_recursion (λ (hint : ℕ). hint < 2 ^ 64) (29 ∷ 30 ∷ 6 ∷ [])
      (lit< tt, (lit< tt, (lit< tt, tt)));
}

-- the empty clause alone, before which no clause was learnt
pub refutes-crowded : RefutesResuming league crowded 1 (Some 0) log
refutes-crowded = record {
  refutes = record {
    accepted = refl;
    before = [];
    hints = 29 ∷ 30 ∷ 6 ∷ [];
    last = refl;
    news = AreNews-none _ _;
    within = lit≤ tt;
    tidy = All-from_recursion (IsTidy 8) log (tidy_step, tt);
  };
  none = none_crowded;
}

-- where no slot was played there are no such rows
accepted_unknown : Rejected 1 UnknownRow ≡ Accepted → ⊥
accepted_unknown is = cc

pub refutes-free : (limit : Option ℕ) → RefutesResuming league crowded 0 limit log → ⊥
refutes-free limit is = accepted_unknown is.refutes.accepted

-- with the limit 0 no log of two steps is an answer
too_long : (before : List Step) (last : Step) (steps : List Step) → length steps ≡ 2 → steps ≡ before ++ last ∷ []
    → length before ≤ 0 → ⊥
too_long before last steps two is few = omega (arith, two, ap length is, length-append before (last ∷ []), few)

pub refutes-later : (played : List Game) (k : ℕ) (one other : Step)
    → RefutesResuming league played k (Some 0) (one ∷ other ∷ []) → ⊥
refutes-later played k one other is =
    too_long is.refutes.before (Clause [] is.refutes.hints) (one ∷ other ∷ []) refl is.refutes.last is.refutes.within

-- ---- an old plan of both slots, in whatever order it is listed

abbrev pub whole : List Game
whole = game 0 1 1 ∷ game 1 0 0 ∷ []

either_order : (x y : Bool) → 0 + cond x 1 0 + cond y 1 0 ≡ 0 + cond y 1 0 + cond x 1 0
either_order true true = refl
either_order true false = refl
either_order false true = refl
either_order false false = refl

pub same_whole : counts_of home ≡ counts_of whole
same_whole =
    fun_ext (λ i. fun_ext (λ j. fun_ext (λ s.
    either_order ((1 == i) && (0 == j) && (0 == s)) ((0 == i) && (1 == j) && (1 == s)))))

pub plan-home : IsPlan whole (resumed.Schedule home 4)
plan-home = same_whole

pub none_one : ◌≡◌ {A = ℕ} 0 1 → ⊥
none_one is = omega (arith, is)

pub plan-out : IsPlan whole (resumed.Schedule out 0) → ⊥
plan-out is = none_one (ap (λ (m : Counts). m 1 0 0) is)

-- a log is no plan
pub plan-log : IsPlan crowded (resumed.Refuted log) → ⊥
plan-log is = is

-- ---- the files of the league, of its first game, and of two games in slot 0 and the log

abbrev pub league_file : List ℕ
league_file = text (
    "<Instance>"
    ∷ "<Structure>"
    ∷ "<Format><numberRoundRobin>2</numberRoundRobin><compactness>C</compactness><gameMode>NULL</gameMode></Format>"
    ∷ "</Structure>"
    ∷ "<Resources>"
    ∷ "<Teams><team id=\"0\"/><team id=\"1\"/></Teams>"
    ∷ "<Slots><slot id=\"0\"/><slot id=\"1\"/></Slots>"
    ∷ "</Resources>"
    ∷ "<Constraints>"
    ∷ "<CapacityConstraints>"
    ∷ "<CA1 teams=\"1\" max=\"0\" mode=\"H\" slots=\"0\" type=\"SOFT\" penalty=\"4\"/>"
    ∷ "</CapacityConstraints>"
    ∷ "</Constraints>"
    ∷ "</Instance>"
    ∷ []
    )

abbrev pub played_file : List ℕ
played_file = text (
    "<Solution>"
    ∷ "<Games>"
    ∷ "<ScheduledMatch slot=\"0\" away=\"0\" home=\"1\"/>"
    ∷ "</Games>"
    ∷ "</Solution>"
    ∷ []
    )

abbrev pub crowded_file : List ℕ
crowded_file = text (
    "<Solution>"
    ∷ "<Games>"
    ∷ "<ScheduledMatch home=\"0\" away=\"1\" slot=\"0\"/>"
    ∷ "<ScheduledMatch home=\"1\" away=\"0\" slot=\"0\"/>"
    ∷ "</Games>"
    ∷ "</Solution>"
    ∷ []
    )

abbrev pub log_file : List ℕ
log_file = codes "refutation 1\n0 29 30 6 0\nend\n"

pub says_league : instance_of (pieces league_file) ≡ Ok league
unfolding attributes_at pieces_from walk
says_league = refl

pub says_played : solution_of 2 (pieces played_file) ≡ Ok first
unfolding attributes_at pieces_from walk
says_played = refl

abbrev pub contents : List ℕ → Option (List ℕ)
contents name =
    if bytes_eq name (codes "league") then Some league_file
    else if bytes_eq name (codes "played") then Some played_file
    else if bytes_eq name (codes "crowded") then Some crowded_file
    else if bytes_eq name (codes "log") then Some log_file
    else None

abbrev pub nowhere : List ℕ → Type 0
nowhere name = ⊥

pub say-first : SaySeason (store_of contents nowhere) (codes "league") (codes "played") league first
say-first = record {
  first = league_file;
  second = played_file;
  first_known = refl;
  second_known = refl;
  says_league = says_league;
  says_played = says_played;
}

-- a file whose bytes aren't known says nothing
none_some : (bytes : List ℕ) → ◌≡◌ {A = Option (List ℕ)} None (Some bytes) → ⊥
none_some bytes is = cc

pub say-unknown : (played : List Game) → SaySeason (store_of contents nowhere) (codes "league") (codes "later") league played → ⊥
say-unknown played is = none_some is.second is.second_known

-- the file whose bytes are known says that a game was played
some_same : (a b : List ℕ) → Some a ≡ Some b → a ≡ b
some_same a b is = cc

said_none : ◌≡◌ {A = Result (List Game) Fault} (Ok first) (Ok []) → ⊥
said_none is = cc

pub say-nothing : SaySeason (store_of contents nowhere) (codes "league") (codes "played") league [] → ⊥
say-nothing is =
    let read : played_file ≡ is.second = some_same played_file is.second is.second_known in
    said_none (sym says_played ∙ ap (λ (bytes : List ℕ). solution_of 2 (pieces bytes)) read ∙ is.says_played)

-- two terms more than the 56 of the season
sizes : resume_size league 1 ≡ 58
sizes = refl

pub small : resume_size league 1 ≤ most_terms
small = omega (arith, sizes)

pub formed-first : IsWellFormedSeason (store_of contents nowhere) (codes "league") (codes "played") 1 league first
formed-first = record {
  say = record {
    first = league_file;
    second = played_file;
    first_known = refl;
    second_known = refl;
    says_league = says_league;
    says_played = says_played;
  };
  first_within = omega arith;
  second_within = omega arith;
  slots = lit≤ tt;
  small = small;
}

-- the season has two slots, and not three
three_slots : 3 ≤ 2 → ⊥
three_slots slots = omega (arith, slots)

pub formed-three : IsWellFormedSeason (store_of contents nowhere) (codes "league") (codes "played") 3 league first → ⊥
formed-three is = three_slots is.slots

-- a store that fails at the second file
abbrev at_played : List ℕ → Type 0
at_played name = name ≡ codes "played"

pub played-failed : NoneFails (store_of contents at_played) (codes "league" ∷ codes "played" ∷ []) → ⊥
played-failed works = works 1 [] (lit< tt) refl
