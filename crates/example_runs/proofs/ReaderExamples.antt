-- What readers of words and of files answer, what is found of a league, and the rows that are kept of two teams.
use Rattle.std.proofs.Common.{lit<, lit≤, ◌≡◌, ℕ, ◌^◌, ◌<◌, ◌≤◌, false, List, [], ◌∷◌, get_or, length, replicate, drop}
use Rattle.std.proofs.Common.{Some, None, Result, Ok, Err, IsTrue, codes, ap, refl, arith}
use Rattle.std.specs.List.{All}
use Rattle.std.proofs.lemmas.List.Elements.{All-from_recursion}
use Rattle.league.specs.Instance.{Instance, IsInstance, class_fits}
use Rattle.league.specs.declared.class.Class.TheVariants.{Ca1}
use Rattle.league.specs.declared.class.Constraint.{Constraint}
use Rattle.league.specs.declared.class.Side.TheVariants.{A}
use Rattle.league.proofs.DoubleFour.{game}
use Rattle.robin_watch.specs.declared.budgets.Budgets.{Budgets}
use Rattle.command_line.specs.Words.{HasTeams}
use Rattle.command_line.specs.Words.Command.{Check, Circle, Make, Trial}
use Rattle.robinx.specs.Next.{GivesNext}
use Rattle.robinx.specs.Pieces.{Ends, Faulty, Found, Last, Piece, Pieces, fault_after, none_but, onto}
use Rattle.robinx.specs.Pieces.{piece_at, pieces, pieces_from}
use Rattle.robinx.specs.SeenPieces.{Finds, Gives, Stops}
use Rattle.robinx.specs.Tags.{attributes_at}
use Rattle.robinx.specs.declared.tag_fault.FormKind.{FormKind}
use Rattle.robinx.specs.declared.tag_fault.FormKind.TheVariants.{BadAttribute, BadTag, MissingElement, Truncated}
use Rattle.robinx.specs.declared.tag_fault.Stop.TheVariants as stops
use Rattle.robinx.specs.declared.tag_fault.TagFault.TheVariants as tags
use Rattle.robinx.specs.declared.tag.Tag.{Tag}
use Rattle.robinx.specs.declared.tag.TagKind.{TagKind}
use Rattle.robinx.specs.declared.tag.TagKind.TheVariants.{End, Start, Text}
use Rattle.robinx.specs.Walk.{Fault}
use Rattle.robinx.specs.Answers.{Changes, Says, Walks}
use Rattle.robinx.specs.declared.fault.ReadFault.{ReadFault}
use Rattle.robinx.specs.declared.fault.ReadFault.TheVariants as faults
use Rattle.rows.specs.Cardinality.{at_least}
use Rattle.rows.specs.Literals.{no, yes}
use Rattle.rows.specs.Rows.{Row}
use Rattle.encoding.specs.Encoding.{rows_of}
use Rattle.bound_rows.specs.BoundRows.{bound_rows}
use Rattle.bound_rows.specs.Bounded.{IsCounted, IsSystem}
use Rattle.resume.specs.Systems.{PartlyPlayed, rows_for}
use Rattle.resume.specs.Systems as resumed
use Rattle.descent.specs.Descended.{Descended}
use Rattle.league_search.specs.declared.found.PatternFound.TheVariants as patterns
use Rattle.solve.specs.Solutions.{HasSchedule, IsRefuted}
use Rattle.solve.specs.declared.solved.Solved.TheVariants.{Refuted, Schedule, Spent}

-- ---- commands: 2 to 40 teams, an even number of them, where the command names one

abbrev budgets : Budgets
budgets = record { conflicts = None; moves = 3; tries = 1; patterns = 0; seed = 5 }

pub has_teams : HasTeams (Circle 6) × HasTeams (Make 40 7) × HasTeams (Trial 2 3 budgets)
    × HasTeams (Check (codes "a") (codes "b"))
has_teams = (
  record { even = refl; at_least = lit≤ tt; at_most = lit≤ tt },
  record { even = refl; at_least = lit≤ tt; at_most = lit≤ tt },
  record { even = refl; at_least = lit≤ tt; at_most = lit≤ tt },
  tt,
)

pub has_none : (HasTeams (Circle 5) → ⊥) × (HasTeams (Circle 0) → ⊥) × (HasTeams (Make 42 6) → ⊥)
    × (HasTeams (Trial 3 6 budgets) → ⊥)
has_none = (
  λ has. let odd : ◌≡◌ {A = ℕ} 1 0 = has.even in omega (arith, odd),
  λ has. omega (arith, has.at_least),
  λ has. omega (arith, has.at_most),
  λ has. let odd : ◌≡◌ {A = ℕ} 1 0 = has.even in omega (arith, odd),
)

-- ---- what stands at a place of line 7: a comment is passed over, a text goes up to the next `<`, an end tag up to its
-- `>`, and `<!b` is a fault

abbrev piece : TagKind → List ℕ → List ℕ → ℕ → Piece
piece kind name text line = record { kind = kind; name = name; attributes = []; text = text; line = line }

abbrev passed : Found
passed = Ok (None, codes "<a/>")

abbrev texted : Found
texted = Ok (Some (piece Text [] (codes " c ") 7), codes "<a/>")

abbrev ended : Found
ended = Ok (Some (piece End (codes "a") [] 7), codes "d")

abbrev faulty : Found
faulty = Err BadTag

pub found : (piece_at 7 (codes "<!--b--><a/>") ≡ passed) × (piece_at 7 (codes " c <a/>") ≡ texted)
    × (piece_at 7 (codes "</a >d") ≡ ended) × (piece_at 7 (codes "<!b") ≡ faulty)
unfolding attributes_at
found = (refl, refl, refl, refl)

-- ---- the next of the pieces that are left

abbrev end_tag : Piece
end_tag = piece End (codes "a") [] 1

abbrev behind : Pieces
behind = onto (piece Text [] (codes "b") 1) (none_but (Ends 1))

abbrev left : Pieces
left = onto end_tag behind

pub left-is : pieces (codes "</a>b") ≡ left
unfolding attributes_at pieces_from
left-is = refl

-- the first is given, and taken off, wherever it lies in memory
abbrev given : ℕ → ℕ × ℕ → Tag
given line place = record {
  kind = End;
  name = record { ref_ptr = place; now = codes "a" };
  attrs = [];
  text = record { ref_ptr = place; now = [] };
  line = line;
}

pub gives-tag : (place : ℕ × ℕ) → GivesNext left (Ok (Some (given 1 place))) behind
gives-tag place = refl

-- with its own line
abbrev first_line : List Piece → ℕ
first_line [] = 0
first_line (piece ∷ others) = piece.line

pub gives-other_line : (place : ℕ × ℕ) → GivesNext left (Ok (Some (given 2 place))) behind → ⊥
gives-other_line place gives =
    let lines : ◌≡◌ {A = ℕ} 1 2 = ap (λ (p : Pieces). first_line p.items) gives in
    omega (arith, lines)

-- not without being taken off, nor where nothing is left
pub gives-kept : (tag : Tag) → (GivesNext left (Ok (Some tag)) left → ⊥)
    × (GivesNext (none_but (Ends 1)) (Ok (Some tag)) (none_but (Ends 1)) → ⊥)
gives-kept tag = (
  λ gives. omega (arith, ap (λ (p : Pieces). length p.items) gives),
  λ gives. omega (arith, ap (λ (p : Pieces). length p.items) gives),
)

-- at the end none is, and nothing changes
pub gives-none : GivesNext (none_but (Ends 3)) (Ok None) (none_but (Ends 3))
gives-none = (refl, (3, refl))

faulty_ends : (line : ℕ) → Faulty BadTag 2 ≡ Ends line → ⊥
faulty_ends line is = cc

-- pieces that are left aren't passed over, nor is a fault
pub gives-none_yet : (GivesNext left (Ok None) left → ⊥)
    × (GivesNext (fault_after 0 BadTag 2) (Ok None) (fault_after 0 BadTag 2) → ⊥)
gives-none_yet = (
  λ gives. omega (arith, ap (λ (p : Pieces). length p.items) gives.1.1),
  λ gives. faulty_ends gives.1.0 (ap (λ (p : Pieces). p.last) gives.1.1),
)

-- a fault with its kind and line, behind one whole attribute
pub gives-fault : GivesNext (fault_after 1 BadAttribute 4) (Err (tags.Form BadAttribute 4))
    (fault_after 1 BadAttribute 4)
gives-fault = (refl, refl)

abbrev line_in : Last → ℕ
line_in (Ends line) = line
line_in (Faulty kind line) = line

-- of another line it isn't, and what stands before it comes first
pub gives-no_fault : (GivesNext (fault_after 1 BadAttribute 4) (Err (tags.Form BadAttribute 5))
    (fault_after 1 BadAttribute 4) → ⊥)
    × (GivesNext (onto end_tag (fault_after 0 BadTag 1)) (Err (tags.Form BadTag 1))
    (onto end_tag (fault_after 0 BadTag 1)) → ⊥)
gives-no_fault = (
  λ gives. let lines : ◌≡◌ {A = ℕ} 4 5 = ap (λ (p : Pieces). line_in p.last) gives.1 in omega (arith, lines),
  λ gives. omega (arith, ap (λ (p : Pieces). length p.items) gives.1),
)

-- memory runs out at a ninth attribute, of a tag or before a fault, and not at an eighth
abbrev start : ℕ → Pieces
start attributes = onto (record {
  kind = Start;
  name = codes "a";
  attributes = replicate attributes (record { name = codes "b"; value = [] });
  text = [];
  line = 1;
}) behind

pub gives-memory : GivesNext (start 9) (Err tags.Mem) (start 9)
    × GivesNext (fault_after 9 BadTag 1) (Err tags.Mem) (fault_after 9 BadTag 1)
    × (GivesNext (start 8) (Err tags.Mem) (start 8) → ⊥) × (GivesNext (start 9) (Err tags.Mem) behind → ⊥)
gives-memory = (
  (refl, lit< tt),
  (refl, lit< tt),
  λ gives. omega (arith, gives.1),
  λ gives. omega (arith, ap (λ (p : Pieces). length p.items) gives.0),
)

-- ---- what functions answer of what is read: here how long a text is

abbrev size : List ℕ → ℕ
size text = length text

ok_err : {X E : Type 0} {x : X} {e : E} → ◌≡◌ {A = Result X E} (Ok x) (Err e) → ⊥
ok_err is = cc

err_ok : {X E : Type 0} {x : X} {e : E} → ◌≡◌ {A = Result X E} (Err e) (Ok x) → ⊥
err_ok is = cc

other_kind : ◌≡◌ {A = Result ℕ FormKind} (Err Truncated) (Err BadTag) → ⊥
other_kind is = cc

abbrev number_in : {E : Type 0} → Result ℕ E → ℕ
number_in (Ok n) = n
number_in (Err e) = 0

pub finds : Finds size (Ok (codes "ab")) (Ok 2) × Finds size (Err BadTag) (Err BadTag)
finds = (refl, refl)

pub finds_not : (Finds size (Ok (codes "ab")) (Ok 3) → ⊥) × (Finds size (Ok (codes "ab")) (Err BadTag) → ⊥)
    × (Finds size (Err BadTag) (Ok 2) → ⊥) × (Finds size (Err BadTag) (Err Truncated) → ⊥)
finds_not = (
  λ finds. let same : ◌≡◌ {A = ℕ} 3 2 = ap number_in finds in omega (arith, same),
  λ finds. err_ok finds,
  λ finds. ok_err finds,
  λ finds. other_kind finds,
)

-- want of memory stops whatever is read, a fault where it is read alone
pub stops_at : Stops {Y = ℕ} (stops.Form BadTag) (Err BadTag) × Stops {Y = ℕ} stops.Mem (Err BadTag)
    × Stops {Y = ℕ} stops.Mem (Ok 2)
stops_at = (refl, tt, tt)

pub stops_not : (Stops {Y = ℕ} (stops.Form BadTag) (Ok 2) → ⊥) × (Stops {Y = ℕ} (stops.Form BadTag) (Err Truncated) → ⊥)
stops_not = (λ stops. ok_err stops, λ stops. other_kind stops)

pub gives : Gives size (Ok (codes "ab")) (Ok 2) × Gives size (Err (stops.Form BadTag)) (Err BadTag)
    × Gives size (Err stops.Mem) (Ok 2)
gives = (refl, refl, tt)

pub gives_not : (Gives size (Ok (codes "ab")) (Ok 3) → ⊥) × (Gives size (Ok []) (Err BadTag) → ⊥)
    × (Gives size (Err (stops.Form BadTag)) (Ok 2) → ⊥) × (Gives size (Err (stops.Form BadTag)) (Err Truncated) → ⊥)
gives_not = (
  λ gives. let same : ◌≡◌ {A = ℕ} 3 2 = ap number_in gives in omega (arith, same),
  λ gives. err_ok gives,
  λ gives. ok_err gives,
  λ gives. other_kind gives,
)

-- ---- what a file says: a number, or that an element is missing, on line 3

abbrev missing : ℕ → ReadFault
missing line = faults.Form (record { kind = MissingElement; line = line })

abbrev said : Result ℕ Fault
said = Err (MissingElement, 3)

abbrev line_of : Result ℕ Fault → ℕ
line_of (Ok n) = 0
line_of (Err fault) = fault.1

pub says : Says {A = ℕ} (Ok 6) (Ok 6) × Says said (Err (missing 3)) × Says said (Err faults.Mem)
    × Says {A = ℕ} (Ok 6) (Err faults.Mem)
says = (refl, refl, tt, tt)

pub says_not : (Says {A = ℕ} (Ok 6) (Ok 5) → ⊥) × (Says said (Err (missing 4)) → ⊥) × (Says said (Ok 0) → ⊥)
    × (Says {A = ℕ} (Ok 6) (Err (missing 3)) → ⊥)
says_not = (
  λ says. let same : ◌≡◌ {A = ℕ} 6 5 = ap number_in says in omega (arith, same),
  λ says. let same : ◌≡◌ {A = ℕ} 3 4 = ap line_of says in omega (arith, same),
  λ says. err_ok says,
  λ says. ok_err says,
)

-- a call that makes 6 of its value: 6 is its value then, and where it fails its value isn't told of
pub changes : Changes {A = ℕ} (Ok 6) (Ok tt) 6 × Changes {A = ℕ} (Err BadTag) (Err (stops.Form BadTag)) 0
    × Changes {A = ℕ} (Ok 6) (Err stops.Mem) 5
changes = (refl, refl, tt)

pub changes_not : (Changes {A = ℕ} (Ok 6) (Ok tt) 5 → ⊥) × (Changes {A = ℕ} (Err BadTag) (Ok tt) 6 → ⊥)
    × (Changes {A = ℕ} (Ok 6) (Err (stops.Form BadTag)) 6 → ⊥)
    × (Changes {A = ℕ} (Err Truncated) (Err (stops.Form BadTag)) 6 → ⊥)
changes_not = (
  λ changes. let same : ◌≡◌ {A = ℕ} 6 5 = ap number_in changes in omega (arith, same),
  λ changes. err_ok changes,
  λ changes. ok_err changes,
  λ changes. other_kind changes,
)

pub walks : Walks {A = ℕ} (Ok 6) (Ok tt) 6 × Walks said (Err (missing 3)) 0 × Walks {A = ℕ} (Ok 6) (Err faults.Mem) 5
walks = (refl, refl, tt)

pub walks_not : (Walks {A = ℕ} (Ok 6) (Ok tt) 5 → ⊥) × (Walks said (Ok tt) 6 → ⊥) × (Walks said (Err (missing 4)) 6 → ⊥)
    × (Walks {A = ℕ} (Ok 6) (Err (missing 3)) 6 → ⊥)
walks_not = (
  λ walks. let same : ◌≡◌ {A = ℕ} 6 5 = ap number_in walks in omega (arith, same),
  λ walks. err_ok walks,
  λ walks. let same : ◌≡◌ {A = ℕ} 3 4 = ap line_of walks in omega (arith, same),
  λ walks. ok_err walks,
)

-- ---- what is found of a league: each of the three answers is of its own kind

abbrev descended : Descended
descended = record { first = []; trail = []; settled = false }

pub kinds : HasSchedule (Schedule [] 0 descended) × IsRefuted (Refuted [])
kinds = (tt, tt)

pub other_kinds : (HasSchedule (Refuted []) → ⊥) × (HasSchedule (Spent [] (patterns.Patterns [])) → ⊥)
    × (IsRefuted (Schedule [] 0 descended) → ⊥) × (IsRefuted (Spent [] (patterns.Refuted [])) → ⊥)
other_kinds = (λ has. has, λ has. has, λ is. is, λ is. is)

-- ---- bound rows of two teams: team 0 isn't to be away in slot 0, at 4; where it is, 5 is false and 9 true

abbrev league : Instance
league = record {
  n = 2;
  phased = false;
  constraints = record { hard = false; penalty = 4; class = Ca1 (0 ∷ []) 0 0 A (0 ∷ []) } ∷ [];
}

-- of 4 at most 3 are to be paid, so that at least 1 is to be saved
pub rows-three : drop 28 (bound_rows league 3)
    ≡ at_least 1 (yes 5 ∷ yes 9 ∷ []) ∷ record { terms = record { coef = 4; lit = no 9 } ∷ []; degree = 1 } ∷ []
rows-three = refl

instance_of : (constraints : List Constraint) → length constraints ≤ 1
    → All (λ (c : Constraint). IsTrue (class_fits 2 c.class)) constraints
    → IsInstance (record { n = 2; phased = false; constraints = constraints })
instance_of constraints few fit = record {
  teams = record { even = refl; at_least = lit≤ tt; at_most = lit≤ tt };
  few = omega (arith, few);
  fit = fit;
}

is_instance : IsInstance league
is_instance =
    instance_of league.constraints (lit≤ tt)
    (All-from_recursion (λ (c : Constraint). IsTrue (class_fits 2 c.class)) league.constraints (refl, tt))

-- 56 terms of the season, two of the softened row, and one of the objective's
pub counted : IsCounted league 59
counted = record {
  instance = is_instance;
  count = refl;
  few = lit≤ tt;
  penalties = All-from_recursion (λ (c : Constraint). c.penalty < 2 ^ 32) league.constraints (lit< tt, tt);
}

-- the season's terms alone aren't all, nor are those without the objective row's; and three teams have no season
pub not_counted : (IsCounted league 56 → ⊥) × (IsCounted league 58 → ⊥)
    × ((terms : ℕ) → IsCounted (record { n = 3; phased = false; constraints = [] }) terms → ⊥)
not_counted = (
  λ is. let terms : ◌≡◌ {A = ℕ} 56 59 = is.count in omega (arith, terms),
  λ is. let terms : ◌≡◌ {A = ℕ} 58 59 = is.count in omega (arith, terms),
  λ terms is. let odd : ◌≡◌ {A = ℕ} 1 0 = is.instance.teams.even in omega (arith, odd),
)

pub system : IsSystem league 3 (bound_rows league 3) 9
system = record {
  instance = is_instance;
  size = lit≤ tt;
  rows_are = refl;
  vars_are = refl;
  few = lit≤ tt;
}

-- the rows of another bound, of which nothing is to be saved, aren't its rows, nor are those of the season alone; 8
-- variables are too few; and three teams have no season
pub no_system : (IsSystem league 3 (bound_rows league 4) 9 → ⊥) × (IsSystem league 3 (rows_of league) 9 → ⊥)
    × (IsSystem league 3 (bound_rows league 3) 8 → ⊥)
    × ((rows : List Row) (vars : ℕ) → IsSystem (record { n = 3; phased = false; constraints = [] }) 3 rows vars → ⊥)
no_system = (
  λ is. let degrees : ◌≡◌ {A = ℕ} 0 1 = ap (λ (rows : List Row). (get_or rows 29 (at_least 9 [])).degree) is.rows_are in
      omega (arith, degrees),
  λ is. let lengths : ◌≡◌ {A = ℕ} 28 30 = ap (λ (rows : List Row). length rows) is.rows_are in
      omega (arith, lengths),
  λ is. let vars : ◌≡◌ {A = ℕ} 8 9 = is.vars_are in omega (arith, vars),
  λ rows vars is. let odd : ◌≡◌ {A = ℕ} 1 0 = is.instance.teams.even in omega (arith, odd),
)

-- ---- the rows of a season whose slot 0 is played: 1 was at home to 0, so that 1 is false and 3 true

abbrev season : ℕ → PartlyPlayed
season k = record {
  league = record { n = 2; phased = false; constraints = [] };
  played = game 1 0 0 ∷ [];
  k = k;
}

pub rows-played : drop 28 (rows_for (season 1)) ≡ at_least 1 (no 1 ∷ []) ∷ at_least 1 (yes 3 ∷ []) ∷ []
rows-played = refl

pub resumed-system : resumed.IsSystem (season 1) (rows_for (season 1)) 8
resumed-system = record {
  instance = instance_of [] (lit≤ tt) (λ k d within. absurd (omega (arith, within)));
  within = lit≤ tt;
  rows_are = refl;
  vars_are = refl;
  few = lit≤ tt;
}

-- the rows without those of slot 0 aren't its rows; a variable more isn't its number; and there is no third slot
pub resumed-none : (resumed.IsSystem (season 1) (rows_of (season 1).league) 8 → ⊥)
    × (resumed.IsSystem (season 1) (rows_for (season 1)) 9 → ⊥)
    × ((rows : List Row) (vars : ℕ) → resumed.IsSystem (season 3) rows vars → ⊥)
resumed-none = (
  λ is. let lengths : ◌≡◌ {A = ℕ} 28 30 = ap (λ (rows : List Row). length rows) is.rows_are in
      omega (arith, lengths),
  λ is. let vars : ◌≡◌ {A = ℕ} 9 8 = is.vars_are in omega (arith, vars),
  λ rows vars is. omega (arith, is.within),
)
