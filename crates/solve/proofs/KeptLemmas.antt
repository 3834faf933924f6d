-- The budgets to which a run kept.
use Rattle.std.proofs.Common.{◌≡◌, ℕ, ◌≤◌, ◌⊎◌, Bool, true, false, nat_lt, if◌then◌else◌, List, Option, None, Some}
use Rattle.std.proofs.Common.{Result, Ok, Err, inl, inr, refl, arith, ap, subst, sym, ◌∙◌}
use Rattle.std.specs.Prelude.{IfOk, IfSome}
use Rattle.robin_watch.specs.declared.budgets.Budgets.{Budgets}
use Rattle.robin_watch.specs.Limits.{IsKeptTo}
use Rattle.robin_watch.proofs.LimitLemmas.{kept-unstopped}
use Rattle.league.specs.Instance.{Instance}
use Rattle.league.specs.declared.game.Game.{Game}
use Rattle.descent.specs.Descended.{Descended}
use Rattle.league_search.specs.declared.found.PatternFound.{PatternFound}
use Rattle.solve.specs.Chosen as chosen
use Rattle.solve.specs.Kept.{AreKeptTo}
use Rattle.solve.specs.Solutions.{IsDescent, IsSchedule, IsSolution, IsSolutionBy, IsSomeSolution, LeavesOpen}
use Rattle.solve.specs.Tried.{IsSeason, IsSeasonBy, IsTried, IsTriedBy}
use Rattle.solve.specs.declared.lower.Season.{Season}
use Rattle.solve.specs.declared.solved.Solved.{Solved}
use Rattle.solve.specs.declared.solved.Solved.TheVariants as answers
use Rattle.solve.specs.declared.tries.Tried.{Tried}
use Rattle.solve.specs.declared.tries.Tried.TheVariants as tries

-- ---- moves

-- a number of moves that a descent may say it kept to
pub record KeptMoves (moves : ℕ) (may_stop : Type 0) (settled : Bool) (made : ℕ) : Type 0 where
  pub kept : ℕ
  pub is_kept : IsKeptTo (Some moves) may_stop (Some kept)
  pub few : made ≤ kept
  pub spent : settled ≡ false → made ≡ kept

none-both : true ≡ false → ⊥
none-both is = cc

pub kept-moves : (moves : ℕ) (may_stop : Type 0) (settled : Bool) (made : ℕ) → made ≤ moves
    → (settled ≡ false → IsKeptTo (Some moves) may_stop (Some made)) → KeptMoves moves may_stop settled made
kept-moves moves may_stop true made few stopped = record {
  kept = moves;
  is_kept = inl refl;
  few = few;
  spent = λ open_yet. absurd (none-both open_yet);
}
kept-moves moves may_stop false made few stopped = record {
  kept = made;
  is_kept = stopped refl;
  few = omega arith;
  spent = λ open_yet. refl;
}

-- ---- budgets

-- those that were set
pub as-set : (budgets : Budgets) (may_stop : Type 0) → AreKeptTo budgets may_stop budgets
as-set budgets may_stop = record {
  conflicts = inl refl;
  patterns = inl refl;
  moves = inl refl;
  tries = refl;
  seed = refl;
}

-- with a lower number of clauses of the search
pub with-conflicts : (budgets : Budgets) (may_stop : Type 0) (conflicts : Option ℕ)
    → IsKeptTo budgets.conflicts may_stop conflicts
    → AreKeptTo budgets may_stop (record budgets { conflicts = conflicts })
with-conflicts budgets may_stop conflicts is = record {
  conflicts = is;
  patterns = inl refl;
  moves = inl refl;
  tries = refl;
  seed = refl;
}

-- with a lower number of clauses of the search for patterns
pub with-patterns : (budgets : Budgets) (may_stop : Type 0) (kept : Budgets) (patterns : ℕ)
    → AreKeptTo budgets may_stop kept → IsKeptTo (Some budgets.patterns) may_stop (Some patterns)
    → AreKeptTo budgets may_stop (record kept { patterns = patterns })
with-patterns budgets may_stop kept patterns are is = record {
  conflicts = are.conflicts;
  patterns = is;
  moves = are.moves;
  tries = are.tries;
  seed = are.seed;
}

-- with a lower number of moves
pub with-moves : (budgets : Budgets) (may_stop : Type 0) (kept : Budgets) (moves : ℕ)
    → AreKeptTo budgets may_stop kept → IsKeptTo (Some budgets.moves) may_stop (Some moves)
    → AreKeptTo budgets may_stop (record kept { moves = moves })
with-moves budgets may_stop kept moves are is = record {
  conflicts = are.conflicts;
  patterns = are.patterns;
  moves = is;
  tries = are.tries;
  seed = are.seed;
}

some-same : (a b : ℕ) → Some a ≡ Some b → a ≡ b
some-same a b is = cc

same-budgets : (a b : Budgets) → a.conflicts ≡ b.conflicts → a.moves ≡ b.moves → a.tries ≡ b.tries
    → a.patterns ≡ b.patterns → a.seed ≡ b.seed → a ≡ b
same-budgets a b conflicts moves tries patterns seed =
    ap (λ (c : Option ℕ). record a { conflicts = c }) conflicts
    ∙ ap (λ (m : ℕ). record b { moves = m; tries = a.tries; patterns = a.patterns; seed = a.seed }) moves
    ∙ ap (λ (t : ℕ). record b { tries = t; patterns = a.patterns; seed = a.seed }) tries
    ∙ ap (λ (p : ℕ). record b { patterns = p; seed = a.seed }) patterns
    ∙ ap (λ (s : ℕ). record b { seed = s }) seed

-- where nothing may stop the run
budgets-unstopped : (budgets : Budgets) (may_stop : Type 0) (kept : Budgets) → (may_stop → ⊥)
    → AreKeptTo budgets may_stop kept → kept ≡ budgets
budgets-unstopped budgets may_stop kept never are =
    same-budgets kept budgets (kept-unstopped budgets.conflicts may_stop kept.conflicts never are.conflicts)
    (some-same kept.moves budgets.moves
    (kept-unstopped (Some budgets.moves) may_stop (Some kept.moves) never are.moves))
    are.tries
    (some-same kept.patterns budgets.patterns
    (kept-unstopped (Some budgets.patterns) may_stop (Some kept.patterns) never are.patterns))
    are.seed

lowers-wider : {P : Type 0} (may_stop other : Type 0) → (may_stop → other) → may_stop ⊎ P → other ⊎ P
lowers-wider {P} may_stop other wider (inl may) = inl (wider may)
lowers-wider {P} may_stop other wider (inr lowers) = inr lowers

-- what a descent says, where it may be stopped in more cases
descent-wider : (league : Instance) (moves : ℕ) (may_stop other : Type 0) (games : List Game) (descent : Descended)
    → (may_stop → other) → IsDescent league moves may_stop games descent → IsDescent league moves other games descent
descent-wider league moves may_stop other games descent wider is = record {
  first = is.first;
  fit = is.fit;
  in_order = is.in_order;
  trail = is.trail;
  few = is.few;
  settled = is.settled;
  spent = is.spent;
  costly = is.costly;
  lowers = λ open_yet. lowers-wider may_stop other wider (is.lowers open_yet);
}

schedule-wider : (league : Instance) (moves : ℕ) (may_stop other : Type 0) (games : List Game) (cost : ℕ)
    (descent : Descended) → (may_stop → other) → IsSchedule league moves may_stop games cost descent
    → IsSchedule league moves other games cost descent
schedule-wider league moves may_stop other games cost descent wider is = record {
  accepted = is.accepted;
  fit = is.fit;
  in_order = is.in_order;
  cost = is.cost;
  descends = descent-wider league moves may_stop other games descent wider is.descends;
}

solution-wider : (league : Instance) (budgets : Budgets) (may_stop other : Type 0) (answer : Solved)
    → (may_stop → other) → IsSolution league budgets may_stop answer → IsSolution league budgets other answer
solution-wider league budgets may_stop other (answers.Schedule games objective descent) wider is =
    schedule-wider league budgets.moves may_stop other games objective descent wider is
solution-wider league budgets may_stop other (answers.Refuted log) wider is = is
solution-wider league budgets may_stop other (answers.Spent log patterns) wider is = is

-- what an answer says, whatever the budgets
pub some-solution : (league : Instance) (budgets : Budgets) (may_stop : Type 0) (answer : Solved)
    → IsSolutionBy league budgets may_stop answer → IsSomeSolution league answer
some-solution league budgets may_stop answer is =
    (is.kept, solution-wider league is.kept may_stop (Unit {0}) answer (λ may. tt) is.solution)

-- where nothing may stop the run, an answer is one within the budgets that were set
pub answer-unstopped : (league : Instance) (budgets : Budgets) (may_stop : Type 0) (answer : Solved) → (may_stop → ⊥)
    → IsSolutionBy league budgets may_stop answer → IsSolution league budgets ⊥ answer
answer-unstopped league budgets may_stop answer never is =
    subst (λ (b : Budgets). IsSolution league b ⊥ answer)
    (budgets-unstopped budgets may_stop is.kept never is.are_kept)
    (solution-wider league is.kept may_stop ⊥ answer never is.solution)

pub season-unstopped : {E : Type 0} (league : Instance) (moves : ℕ) (may_stop : Type 0) (result : Result Season E)
    → (may_stop → ⊥) → IfOk result (IsSeasonBy league moves may_stop)
    → IfOk result (λ season. IsSchedule league moves ⊥ season.schedule season.objective season.descent)
season-unstopped {E} league moves may_stop (Ok season) never is =
    subst (λ (m : ℕ). IsSeason league m ⊥ season)
    (some-same is.kept moves (kept-unstopped (Some moves) may_stop (Some is.kept) never is.is_kept))
    (schedule-wider league is.kept may_stop ⊥ season.schedule season.objective season.descent never is.is_season)
season-unstopped {E} league moves may_stop (Err error) never is = tt

-- ---- tries

-- a schedule that is found
pub tried-season : (league : Instance) (budgets : Budgets) (may_stop : Type 0) (season : Season)
    → IsSeasonBy league budgets.moves may_stop season → IsTriedBy league budgets may_stop (tries.Found season)
tried-season league budgets may_stop season is = record {
  kept = record budgets { moves = is.kept };
  are_kept = with-moves budgets may_stop budgets is.kept (as-set budgets may_stop) is.is_kept;
  is_tried = is.is_season;
}

-- the budget of patterns is none of a try's
pub tried-patterns : (league : Instance) (kept : Budgets) (may_stop : Type 0) (patterns : ℕ) (tried : Tried)
    → IsTried league kept may_stop tried → IsTried league (record kept { patterns = patterns }) may_stop tried
tried-patterns league kept may_stop patterns (tries.Found season) is = is
tried-patterns league kept may_stop patterns (tries.Refuted log) is = is
tried-patterns league kept may_stop patterns (tries.Spent log) is = is

tried-seeded : (league : Instance) (kept : Budgets) (may_stop : Type 0) (seed : ℕ) (tried : Tried)
    → IsTried league kept may_stop tried → IsTried league (record kept { seed = seed }) may_stop tried
tried-seeded league kept may_stop seed (tries.Found season) is = is
tried-seeded league kept may_stop seed (tries.Refuted log) is = is
tried-seeded league kept may_stop seed (tries.Spent log) is = is

-- nor is the seed
pub tried-seed : {E : Type 0} (league : Instance) (budgets : Budgets) (may_stop : Type 0) (seed : ℕ)
    (result : Result Tried E) → IfOk result (IsTriedBy league (record budgets { seed = seed }) may_stop)
    → IfOk result (IsTriedBy league budgets may_stop)
tried-seed {E} league budgets may_stop seed (Ok tried) is = record {
  kept = record is.kept { seed = budgets.seed };
  are_kept = record {
    conflicts = is.are_kept.conflicts;
    patterns = is.are_kept.patterns;
    moves = is.are_kept.moves;
    tries = is.are_kept.tries;
    seed = refl;
  };
  is_tried = tried-seeded league is.kept may_stop budgets.seed tried is.is_tried;
}
tried-seed {E} league budgets may_stop seed (Err error) is = tt

-- the lesser one of two schedules is one of them
lesser-one : (b : Bool) (best later : Season)
    → ((if b then later else best) ≡ best) ⊎ ((if b then later else best) ≡ later)
lesser-one true best later = inr refl
lesser-one false best later = inl refl

either-season : (league : Instance) (moves more : ℕ) (may_stop : Type 0) (best later kept : Season)
    → (kept ≡ best) ⊎ (kept ≡ later) → IsSeason league moves may_stop best → IsSeason league more may_stop later
    → IsSeason league moves may_stop kept ⊎ IsSeason league more may_stop kept
either-season league moves more may_stop best later kept (inl same) first second =
    inl (subst (λ (s : Season). IsSeason league moves may_stop s) (sym same) first)
either-season league moves more may_stop best later kept (inr same) first second =
    inr (subst (λ (s : Season). IsSeason league more may_stop s) (sym same) second)

-- the better one of a schedule and of what a later try comes to
better_season-is : (league : Instance) (moves : ℕ) (budgets : Budgets) (may_stop : Type 0) (best : Season)
    (later : Tried) → IsSeason league moves may_stop best → IsTried league budgets may_stop later
    → IsSeason league moves may_stop (chosen.better_season best later)
    ⊎ IsSeason league budgets.moves may_stop (chosen.better_season best later)
better_season-is league moves budgets may_stop best (tries.Found later) first second =
    either-season league moves budgets.moves may_stop best later (chosen.lesser best later)
    (lesser-one (nat_lt later.objective best.objective) best later) first second
better_season-is league moves budgets may_stop best (tries.Refuted log) first second = inl first
better_season-is league moves budgets may_stop best (tries.Spent log) first second = inl first

-- what a search comes to, or the schedule of a walk
with_walked-is : (league : Instance) (budgets : Budgets) (moves : ℕ) (may_stop : Type 0) (found : Tried)
    (walked : Season) → IsTried league budgets may_stop found → IsSeason league moves may_stop walked
    → IsTried league budgets may_stop (chosen.with_walked found (Some walked))
    ⊎ IsTried league (record budgets { moves = moves }) may_stop (chosen.with_walked found (Some walked))
with_walked-is league budgets moves may_stop found walked first second =
    elim (better_season-is league moves budgets may_stop walked found second first) [
      | inl season ↦ inr season
      | inr season ↦ inl season
    ]

either-tried : (league : Instance) (budgets : Budgets) (may_stop : Type 0) (kept : Budgets) (moves : ℕ)
    (result : Tried) → AreKeptTo budgets may_stop kept → IsKeptTo (Some budgets.moves) may_stop (Some moves)
    → IsTried league kept may_stop result ⊎ IsTried league (record kept { moves = moves }) may_stop result
    → IsTriedBy league budgets may_stop result
either-tried league budgets may_stop kept moves result are is (inl tried) =
    record { kept = kept; are_kept = are; is_tried = tried }
either-tried league budgets may_stop kept moves result are is (inr tried) = record {
  kept = record kept { moves = moves };
  are_kept = with-moves budgets may_stop kept moves are is;
  is_tried = tried;
}

better-walked : (league : Instance) (budgets : Budgets) (may_stop : Type 0) (found : Tried) (walked : Option Season)
    → IsTriedBy league budgets may_stop found → IfSome walked (IsSeasonBy league budgets.moves may_stop)
    → IsTriedBy league budgets may_stop (chosen.with_walked found walked)
better-walked league budgets may_stop found None is season = is
better-walked league budgets may_stop found (Some walked) is season =
    either-tried league budgets may_stop is.kept season.kept (chosen.with_walked found (Some walked)) is.are_kept
    season.is_kept
    (with_walked-is league is.kept season.kept may_stop found walked is.is_tried season.is_season)

-- the better one of a try and of a walk
pub walked-by : (league : Instance) (budgets : Budgets) (may_stop : Type 0) (found : Tried) (walked : Option Season)
    (result : Tried) → IsTriedBy league budgets may_stop found
    → IfSome walked (IsSeasonBy league budgets.moves may_stop) → result ≡ chosen.with_walked found walked
    → IsTriedBy league budgets may_stop result
walked-by league budgets may_stop found walked result is season kept =
    subst (λ (t : Tried). IsTriedBy league budgets may_stop t) (sym kept)
    (better-walked league budgets may_stop found walked is season)

-- ---- answers

-- what a try comes to, as the answer
pub tried-answer : (league : Instance) (budgets : Budgets) (may_stop : Type 0) (tried : Tried) (patterns : PatternFound)
    (result : Solved) → result ≡ chosen.solved_by tried patterns → IsTried league budgets may_stop tried
    → LeavesOpen league budgets.patterns patterns → IsSolution league budgets may_stop result
tried-answer league budgets may_stop (tries.Found season) patterns result same is open_yet =
    subst (λ (s : Solved). IsSolution league budgets may_stop s) (sym same) is
tried-answer league budgets may_stop (tries.Refuted log) patterns result same is open_yet =
    subst (λ (s : Solved). IsSolution league budgets may_stop s) (sym same) is.refutes
tried-answer league budgets may_stop (tries.Spent log) patterns result same is open_yet =
    subst (λ (s : Solved). IsSolution league budgets may_stop s) (sym same) (is, open_yet)

-- The better one of an answer and of a later try is one of the earlier budgets, or of those of the later try with the
-- earlier ones of patterns.
better-is : (league : Instance) (earlier kept : Budgets) (may_stop : Type 0) (best : Solved) (later : Tried)
    → IsSolution league earlier may_stop best → IsTried league kept may_stop later
    → IsSolution league earlier may_stop (chosen.better best later)
    ⊎ IsSolution league (record kept { patterns = earlier.patterns }) may_stop (chosen.better best later)
better-is league earlier kept may_stop (answers.Schedule games objective descent) later first second =
    better_season-is league earlier.moves kept may_stop
    (record { schedule = games; objective = objective; descent = descent }) later first second
better-is league earlier kept may_stop (answers.Refuted log) later first second = inl first
better-is league earlier kept may_stop (answers.Spent log patterns) later first second =
    inr (tried-answer league (record kept { patterns = earlier.patterns }) may_stop later patterns
    (chosen.solved_by later patterns) refl
    (tried-patterns league kept may_stop earlier.patterns later second) first.1)

either-solution : (league : Instance) (budgets : Budgets) (may_stop : Type 0) (earlier kept : Budgets)
    (result : Solved) → AreKeptTo budgets may_stop earlier → AreKeptTo budgets may_stop kept
    → IsSolution league earlier may_stop result
    ⊎ IsSolution league (record kept { patterns = earlier.patterns }) may_stop result
    → IsSolutionBy league budgets may_stop result
either-solution league budgets may_stop earlier kept result first later (inl solution) =
    record { kept = earlier; are_kept = first; solution = solution }
either-solution league budgets may_stop earlier kept result first later (inr solution) = record {
  kept = record kept { patterns = earlier.patterns };
  are_kept = with-patterns budgets may_stop kept earlier.patterns later first.patterns;
  solution = solution;
}

-- the better one of an answer and of a later try
pub better-by : (league : Instance) (budgets : Budgets) (may_stop : Type 0) (best result : Solved) (later : Tried)
    → IsSolutionBy league budgets may_stop best → IsTriedBy league budgets may_stop later
    → result ≡ chosen.better best later → IsSolutionBy league budgets may_stop result
better-by league budgets may_stop best result later first is same =
    subst (λ (s : Solved). IsSolutionBy league budgets may_stop s) (sym same)
    (either-solution league budgets may_stop first.kept is.kept (chosen.better best later) first.are_kept is.are_kept
    (better-is league first.kept is.kept may_stop best later first.solution is.is_tried))

-- a schedule as the answer
pub solved-season : (league : Instance) (budgets : Budgets) (may_stop : Type 0) (season : Season) (result : Solved)
    → IsSeasonBy league budgets.moves may_stop season → result ≡ chosen.schedule_found season
    → IsSolutionBy league budgets may_stop result
solved-season league budgets may_stop season result is same = record {
  kept = record budgets { moves = is.kept };
  are_kept = with-moves budgets may_stop budgets is.kept (as-set budgets may_stop) is.is_kept;
  solution = subst (λ (s : Solved). IsSolution league (record budgets { moves = is.kept }) may_stop s) (sym same)
      is.is_season;
}

-- a refutation is one whatever the budgets
pub solved-refuted : (league : Instance) (budgets : Budgets) (may_stop : Type 0) (result : Solved)
    → IsSolution league budgets may_stop result → IsSolutionBy league budgets may_stop result
solved-refuted league budgets may_stop result is =
    record { kept = budgets; are_kept = as-set budgets may_stop; solution = is }

-- the better one of an answer and of a later walk
pub later-by : (league : Instance) (budgets : Budgets) (may_stop : Type 0) (best result : Solved)
    (walked : Option Season) → IsSolutionBy league budgets may_stop best
    → IfSome walked (IsSeasonBy league budgets.moves may_stop) → result ≡ chosen.with_later best walked
    → IsSolutionBy league budgets may_stop result
later-by league budgets may_stop best result None first none same =
    subst (λ (s : Solved). IsSolutionBy league budgets may_stop s) (sym same) first
later-by league budgets may_stop best result (Some season) first is same =
    better-by league budgets may_stop best result (tries.Found season) first
    (tried-season league budgets may_stop season is) same
