-- What one turn of a search does to its trail and its log.
use Rattle.std.specs.Prelude.{◌≡◌, ◌≢◌, ℕ, ◌^◌, ◌<◌, ◌≤◌, Bool, true, List, [], ◌∷◌, ◌++◌, length, map, Option, Some, IfSome, Ok}
use Rattle.std.specs.Prelude.{◌⊎◌}
use Rattle.rows.specs.Cardinality.{at_least}
use Rattle.rows.specs.Literals.{Literal}
use Rattle.rows.specs.Partials.{IsQuiet, IsQuietRow, as_value}
use Rattle.rows.specs.Rows.{Row, SatisfiesAll}
use Rattle.rows.specs.Values.{assigned}
use Rattle.rows.specs.declared.partial.Value.{Value}
use Rattle.rows.specs.declared.partial.Value.TheVariants.{Free}
use Rattle.propagate.specs.Trails.{EachEntry, IsQuietBelow, SeenTrail, is_decision, level_of, values_of}
use Rattle.propagate.specs.declared.entry.Entry.{Entry}
use Rattle.refutation.specs.Steps.{Step}
use Rattle.refutation.specs.Steps.Step.{Clause}
use Rattle.refutation.specs.Following.{clause_row, judged}
use Rattle.std.specs.List.{All}
use Rattle.clause_search.specs.Kept.{IsPart, few_variables, least_room, named, steps_at}
use Rattle.clause_search.specs.News.{IsNews, IsTidy, row_of}
use Rattle.clause_search.specs.declared.turn.Turn.{Turn}
use Rattle.clause_search.specs.declared.turn.Turn.TheVariants.{Again, Satisfied, Refuted, Spent}

-- a literal was decided
pub record IsDecided (old new : SeenTrail) : Type 0 where
  pub vars : new.vars ≡ old.vars
  pub rows : new.rows ≡ old.rows
  pub longer : length old.entries < length new.entries
  pub within : length new.entries ≤ new.vars
  pub quiet : IsQuietBelow new.rows new.entries

-- A step came behind the rows, and with the log's numbers into the log. It is news over the trail's rows.
pub record Learns (given : ℕ) (kept : List ℕ) (old new : SeenTrail) (steps more : List Step) : Type 0 where
  pub clause : List Literal
  pub hints : List ℕ
  pub log : more ≡ steps ++ Clause clause (map (named given kept) hints) ∷ []
  pub is_news : IsNews old.rows old.rows old.vars (Clause clause hints)
  pub tidy : IsTidy old.vars (Clause clause hints)
  pub small : All (λ hint. hint < 2 ^ 64) (map (named given kept) hints)
  pub vars : new.vars ≡ old.vars
  pub rows : new.rows ≡ old.rows ++ clause_row clause ∷ []
  pub quiet : IsQuietBelow new.rows new.entries

-- before each decision of the levels up to this one the row is quiet
abbrev pub IsQuietRowUpTo : ℕ → Row → List Entry → Type 0
IsQuietRowUpTo level row entries =
    EachEntry (λ before e. is_decision e ≡ true → e.level ≤ level → IsQuietRow (values_of before) row) entries

-- a step that is news, and whose clause leaves the levels up to this one quiet
pub record IsLearnable (trail : SeenTrail) (clause : List Literal) (hints : List ℕ) (level : ℕ) : Type 0 where
  pub is_news : IsNews trail.rows trail.rows trail.vars (Clause clause hints)
  pub tidy : IsTidy trail.vars (Clause clause hints)
  pub within : level ≤ level_of trail.entries
  pub calm : IsQuietRowUpTo level (at_least 1 clause) trail.entries

-- the empty clause, which follows from the trail's rows, came with the log's numbers into the log
pub record Closes (given : ℕ) (kept : List ℕ) (trail : SeenTrail) (steps more : List Step) : Type 0 where
  pub hints : List ℕ
  pub log : more ≡ steps ++ Clause [] (map (named given kept) hints) ∷ []
  pub follows : judged trail.rows trail.vars (Clause [] hints) ≡ Ok (clause_row [])
  pub tidy : IsTidy trail.vars (Clause [] hints)
  pub small : All (λ hint. hint < 2 ^ 64) (map (named given kept) hints)

-- each of the first variables that has a value has this one
pub record IsFilled (values : ℕ → Value) (vars count : ℕ) (filled : List Bool) : Type 0 where
  pub length_is : length filled ≡ vars
  pub each : (v : ℕ) → 1 ≤ v → v ≤ count → values v ≢ Free → values v ≡ as_value (assigned filled v)

-- A log before a turn and after it, behind so many rows; and for both moments the places of the steps that are kept, and
-- how many may be.
pub record Turned : Type 0 where
  pub given : ℕ
  pub steps : List Step
  pub more : List Step
  pub kept : List ℕ
  pub now : List ℕ
  pub room : ℕ
  pub room_now : ℕ

-- nothing was learnt
pub record IsLeft (t : Turned) : Type 0 where
  pub log : t.more ≡ t.steps
  pub keeps : t.now ≡ t.kept
  pub room : t.room_now ≡ t.room

-- a step was learnt, and is kept
pub record HasLearnt (t : Turned) (old new : SeenTrail) (limit : Option ℕ) : Type 0 where
  pub within : IfSome limit (λ most. length t.steps < most)
  pub learns : Learns t.given t.kept old new t.steps t.more
  pub keeps : t.now ≡ t.kept ++ length t.steps ∷ []
  pub room : t.room_now ≡ t.room

-- what is known where a turn comes to this
abbrev pub IsTurn : Turned → SeenTrail → SeenTrail → Option ℕ → Turn → Type 0
IsTurn t old new limit Again = (IsLeft t × IsDecided old new) ⊎ HasLearnt t old new limit
IsTurn t old new limit (Satisfied filled) =
    (length filled ≡ old.vars) × SatisfiesAll (assigned filled) old.rows
IsTurn t old new limit Refuted = Closes t.given t.kept old t.steps t.more
IsTurn t old new limit Spent =
    (t.more ≡ t.steps) × (limit ≡ Some (length t.steps)) × (length t.steps < 2 ^ 64)
    × ((values : ℕ → Value) × IsQuiet values old.rows)

-- what is kept before some of it may be forgotten, and after that
pub record Lightened : Type 0 where
  pub trail : SeenTrail
  pub kept : List ℕ
  pub now : List ℕ
  pub room : ℕ
  pub room_now : ℕ

-- some steps were forgotten: of very many a part is left, and there is more room
pub record HasForgotten (rows : List Row) (steps : List Step) (l : Lightened) (new : SeenTrail) : Type 0 where
  pub many : few_variables < l.trail.vars
  pub long : least_room < length l.kept
  pub full : l.room < length l.kept
  pub part : IsPart l.now l.kept
  pub grown : l.room < l.room_now
  pub trail : new ≡ record { vars = l.trail.vars; rows = rows ++ map row_of (steps_at steps l.now); entries = [] }

-- nothing changed, or some steps were forgotten
abbrev pub IsLightened : List Row → List Step → Lightened → SeenTrail → Type 0
IsLightened rows steps l new =
    ((new ≡ l.trail) × (l.now ≡ l.kept) × (l.room_now ≡ l.room)) ⊎ HasForgotten rows steps l new
