-- A league that was read has teams: `Constraints` is read only behind `Resources`, whose End counts them.
use Rattle.std.proofs.Common.{◌≡◌, ℕ, ◌<◌, Bool, true, false, ◌&&◌, cond, List, [], ◌∷◌, ◌++◌, length, Option, Some, None, Ok, refl, sym, ap, subst, arith, inl, inr}
use Rattle.std.specs.Prelude.{◌⊎◌, nat_lt, bytes_eq, codes}
use Rattle.std.specs.List.{list_any, list_all}
use Rattle.std.proofs.lemmas.Bool.Decides.{nat_tests}
use Rattle.std.proofs.lemmas.List.Folds.{list_any-append}
use Rattle.std.proofs.lemmas.Slice.Eq.{bytes_eq-Decides}
use Rattle.robinx.specs.Fronts.{◌>>=◌, check, trimmed}
use Rattle.robinx.specs.Tags.{Attribute}
use Rattle.robinx.specs.Pieces.{Piece, Pieces}
use Rattle.robinx.specs.declared.tag_fault.FormKind.{FormKind}
use Rattle.robinx.specs.declared.tag_fault.FormKind.TheVariants.{BadNesting, MissingElement, TooMany, Truncated, WrongCounts}
use Rattle.robinx.specs.Elements.{element_name, inside, unlisted, repeated, once}
use Rattle.robinx.specs.Walk as walk
use Rattle.robinx.specs.Walk.{Open, Position, is_met, is_complete, row_of, begins_by, passed_over, with_seen}
use Rattle.robinx.specs.Classes.{constraint_of}
use Rattle.robinx.specs.Words.{game_mode}
use Rattle.robinx.specs.Values.{required, number, only}
use Rattle.robinx.specs.InstanceFile.{Draft, starts, ends, instance_meaning, nothing, double, is_season}
use Rattle.robinx.specs.declared.element.Element.{Element}
use Rattle.robinx.specs.declared.element.Element.TheVariants.{InstanceFile, Instance, NumberRoundRobin, Compactness, GameMode, Resources, Team, Slot, Constraints, Class}
use Rattle.robinx.specs.declared.element.Times.{Times}
use Rattle.robinx.specs.declared.element.Times.TheVariants.{Once, AtMostOnce, Any}
use Rattle.robinx.specs.declared.element.Row.{Row}
use Rattle.league.specs.declared.class.Constraint.{Constraint}
use Rattle.robinx.proofs.KeptLemmas.{ok_is, err_isnt, both_read, read_on_line, checked, closed_is, walk_kept}
use Rattle.robinx.proofs.DraftLemmas.{season_size}

-- ---- the count of teams stays, or is set where there are some

some_by : (teams slots : List ℕ) (n : ℕ) → length teams ≡ n → is_season teams slots ≡ true → 0 < n
some_by teams slots n is season =
    let size = season_size teams slots season in
    let two = size.at_least in
    omega arith

starts_some : (element : Element) (tag : List Attribute) (draft next : Draft) → starts element tag draft ≡ Ok next → 0 < draft.n → 0 < next.n
starts_some Team tag draft next h some =
    let read = both_read (required (codes "id") number tag) (λ id. Ok (record draft { teams = draft.teams ++ id ∷ [] })) next h in
    subst (λ (d : Draft). 0 < d.n) (ok_is _ next read.1.1) some
starts_some Slot tag draft next h some =
    let read = both_read (required (codes "id") number tag) (λ id. Ok (record draft { slots = draft.slots ++ id ∷ [] })) next h in
    subst (λ (d : Draft). 0 < d.n) (ok_is _ next read.1.1) some
starts_some Constraints tag draft next h some =
    let read = both_read (check (nat_lt 0 draft.n) MissingElement) (λ season. Ok draft) next h in
    subst (λ (d : Draft). 0 < d.n) (ok_is _ next read.1.1) some
starts_some (Class name) tag draft next h some =
    let more : Constraint → Draft = λ constraint. record draft { constraints = draft.constraints ++ constraint ∷ [] } in
    let few = both_read (check (nat_lt (length draft.constraints) 20000) TooMany) (λ few. constraint_of name draft.n tag >>= λ constraint. Ok (more constraint)) next h in
    let read = both_read (constraint_of name draft.n tag) (λ constraint. Ok (more constraint)) next few.1.1 in
    subst (λ (d : Draft). 0 < d.n) (ok_is _ next read.1.1) some
starts_some _ tag draft next h some = subst (λ (d : Draft). 0 < d.n) (ok_is draft next h) some

ends_some : (element : Element) (value : List ℕ) (draft next : Draft) → ends element value draft ≡ Ok next → 0 < draft.n → 0 < next.n
ends_some NumberRoundRobin value draft next h some =
    let read = both_read (double value) (λ rounds. Ok draft) next h in
    subst (λ (d : Draft). 0 < d.n) (ok_is _ next read.1.1) some
ends_some Compactness value draft next h some =
    let read = both_read (only (codes "C") value) (λ compact. Ok draft) next h in
    subst (λ (d : Draft). 0 < d.n) (ok_is _ next read.1.1) some
ends_some GameMode value draft next h some =
    let read = both_read (game_mode value) (λ phased. Ok (record draft { phased = phased })) next h in
    subst (λ (d : Draft). 0 < d.n) (ok_is _ next read.1.1) some
ends_some Resources value draft next h some =
    let read = both_read (check (is_season draft.teams draft.slots) WrongCounts) (λ season. Ok (record draft { n = length draft.teams })) next h in
    some_by draft.teams draft.slots next.n (ap (λ (d : Draft). d.n) (ok_is _ next read.1.1)) (checked (is_season draft.teams draft.slots) WrongCounts read.0 read.1.0)
ends_some _ value draft next h some = subst (λ (d : Draft). 0 < d.n) (ok_is draft next h) some

-- `Constraints` begins only where there are teams
constraints_some : (tag : List Attribute) (draft next : Draft) → starts Constraints tag draft ≡ Ok next → 0 < draft.n
constraints_some tag draft next h =
    let read = both_read (check (nat_lt 0 draft.n) MissingElement) (λ season. Ok draft) next h in
    let is = checked (nat_lt 0 draft.n) MissingElement read.0 read.1.0 in
    grind (arith, nat_tests)

-- ---- what may be open before that

-- whether an element of this name was read
abbrev pub is_known : List ℕ → List (List ℕ) → Bool
is_known name seen = list_any (bytes_eq name) seen

-- Before there are teams: outside of `Instance` none was read, and inside of it no `Constraints`. With what was seen in
-- the innermost element, and those around it.
abbrev pub IsEarly : Element → List (List ℕ) → List Open → Type 0
IsEarly element seen [] = (element ≡ InstanceFile) × (is_known (codes "Instance") seen ≡ false)
IsEarly element seen (around ∷ []) = (around.element ≡ InstanceFile) × (element ≡ Instance) × (is_known (codes "Constraints") seen ≡ false)
IsEarly element seen (around ∷ (next ∷ outer)) = IsEarly around.element around.seen (next ∷ outer)

-- there are teams, or it is early
abbrev pub HasTeams : Position Draft → Type 0
HasTeams at = (0 < at.read.n) ⊎ IsEarly at.inner.element at.inner.seen at.outer

-- ---- a Start

passed_none : (kind : Option FormKind) (row : Row) → passed_over kind ≡ Ok (Some row) → ⊥
passed_none None row h = absurd cc
passed_none (Some kind) row h = absurd cc

begun_row : (found : Option Row) (around : Open) (name : List ℕ) (row : Row) → begins_by found around name ≡ Ok (Some row) → found ≡ Some row
begun_row None around name row h = absurd (passed_none (unlisted around.element) row h)
begun_row (Some known) around name row h =
    let read = both_read (check (walk.may_come known.times (walk.is_seen around name)) (repeated around.element)) (λ new. Ok (Some known)) (Some row) h in
    ok_is (Some known) (Some row) read.1.1

-- in a file only `Instance` begins
root_row : (name : List ℕ) (row : Row) → row_of InstanceFile name ≡ Some row → row.element ≡ Instance
root_row name row h = by_test (bytes_eq (codes "Instance") name) h where
  by_test : (b : Bool) → cond b (Some (once Instance)) None ≡ Some row → row.element ≡ Instance
  by_test true is = let same : once Instance ≡ row = cc in ap (λ (r : Row). r.element) (sym same)
  by_test false is = absurd cc

-- what stays unknown where another name is noted
unknown_more : (times : Times) (name other : List ℕ) (seen : List (List ℕ)) → is_known other seen ≡ false → bytes_eq other name ≡ false → is_known other (with_seen times name seen) ≡ false
unknown_more Once name other seen unknown differs = rw (list_any-append (bytes_eq other) seen (name ∷ []), unknown, differs) refl
unknown_more AtMostOnce name other seen unknown differs = rw (list_any-append (bytes_eq other) seen (name ∷ []), unknown, differs) refl
unknown_more Any name other seen unknown differs = unknown

-- in `Instance` another element than `Constraints` begins, or there are teams
part_begun : (row : Row) (piece : Piece) (draft read : Draft) (seen : List (List ℕ)) → row_of Instance piece.name ≡ Some row → starts row.element piece.attributes draft ≡ Ok read → is_known (codes "Constraints") seen ≡ false
    → (0 < draft.n) ⊎ (is_known (codes "Constraints") (with_seen row.times piece.name seen) ≡ false)
part_begun row piece draft read seen is started unknown = by_name (bytes_eq (codes "Constraints") piece.name) refl where
  by_name : (b : Bool) → bytes_eq (codes "Constraints") piece.name ≡ b → (0 < draft.n) ⊎ (is_known (codes "Constraints") (with_seen row.times piece.name seen) ≡ false)
  by_name true same =
      let name_is : codes "Constraints" ≡ piece.name = (bytes_eq-Decides (codes "Constraints") piece.name).0 same in
      let row_is : Some (once Constraints) ≡ Some row = subst (λ (name : List ℕ). row_of Instance name ≡ Some row) (sym name_is) is in
      let this : once Constraints ≡ row = cc in
      inl (constraints_some piece.attributes draft read (subst (λ (r : Row). starts r.element piece.attributes draft ≡ Ok read) (sym this) started))
  by_name false differs = inr (unknown_more row.times piece.name (codes "Constraints") seen unknown differs)

begun_early : (outer : List Open) (inner : Open) (row : Row) (piece : Piece) (draft read : Draft) → row_of inner.element piece.name ≡ Some row → starts row.element piece.attributes draft ≡ Ok read
    → IsEarly inner.element inner.seen outer → (0 < draft.n) ⊎ IsEarly row.element [] (record inner { seen = with_seen row.times piece.name inner.seen } ∷ outer)
begun_early [] inner row piece draft read is started early =
    inr (early.0, root_row piece.name row (subst (λ (e : Element). row_of e piece.name ≡ Some row) early.0 is), refl)
begun_early (around ∷ []) inner row piece draft read is started early =
    elim (part_begun row piece draft read inner.seen (subst (λ (e : Element). row_of e piece.name ≡ Some row) early.1 is) started early.2) [
      | inl some ↦ inl some
      | inr unknown ↦ inr (early.0, early.1, unknown)
    ]
begun_early (around ∷ (next ∷ outer)) inner row piece draft read is started early = inr early

started_fits : (row : Option Row) (piece : Piece) (at next : Position Draft) → HasTeams at → begins_by (row_of at.inner.element piece.name) at.inner piece.name ≡ Ok row
    → walk.started instance_meaning row piece at ≡ Ok next → HasTeams next
started_fits None piece at next fits begins h = subst HasTeams (ok_is _ next h) fits
started_fits (Some row) piece at next fits begins h =
    let inside_of : Draft → Position Draft = λ read. record {
      inner = record { element = row.element; line = piece.line; seen = []; text = [] };
      outer = record at.inner { seen = with_seen row.times piece.name at.inner.seen } ∷ at.outer;
      passing = None;
      read = read;
    } in
    let read = both_read (starts row.element piece.attributes at.read) (λ read. Ok (inside_of read)) next h in
    let keeps : 0 < at.read.n → 0 < read.0.n = starts_some row.element piece.attributes at.read read.0 read.1.0 in
    let is = begun_row (row_of at.inner.element piece.name) at.inner piece.name row begins in
    subst HasTeams (ok_is (inside_of read.0) next read.1.1)
    (elim fits [
      | inl some ↦ inl (keeps some)
      | inr early ↦ elim (begun_early at.outer at.inner row piece at.read read.0 is read.1.0 early) [
        | inl some ↦ inl (keeps some)
        | inr early_within ↦ inr early_within
      ]
    ])

begun_fits : (piece : Piece) (at next : Position Draft) → HasTeams at → walk.begun instance_meaning piece at ≡ Ok next → HasTeams next
begun_fits piece at next fits h =
    let row = both_read (walk.begins at.inner piece.name) (λ row. walk.started instance_meaning row piece at) next h in
    started_fits row.0 piece at next fits row.1.0 row.1.1

-- ---- an End

last_fails : (a b c : Bool) → a && (b && (c && true)) ≡ true → c ≡ true
last_fails true true true h = refl
last_fails true true false h = absurd cc
last_fails true false c h = absurd cc
last_fails false b c h = absurd cc

first_holds : (a : Bool) → a && true ≡ true → a ≡ true
first_holds true h = refl
first_holds false h = absurd cc

differ : (a : Bool) → a ≡ true → a ≡ false → ⊥
differ a yes_it no_it = absurd cc

-- whether all that has to stand in an element is among these names
abbrev pub all_seen : Element → List (List ℕ) → Bool
all_seen element seen = list_all (λ row. is_met row.times (is_known (element_name row.element) seen)) (inside element)

instance_whole : (element : Element) (seen : List (List ℕ)) → element ≡ Instance → all_seen element seen ≡ true → is_known (codes "Constraints") seen ≡ true
instance_whole element seen is whole =
    last_fails (is_known (codes "Structure") seen) (is_known (codes "Resources") seen) (is_known (codes "Constraints") seen) (subst (λ (e : Element). all_seen e seen ≡ true) is whole)

file_whole : (element : Element) (seen : List (List ℕ)) → element ≡ InstanceFile → all_seen element seen ≡ true → is_known (codes "Instance") seen ≡ true
file_whole element seen is whole =
    first_holds (is_known (codes "Instance") seen) (subst (λ (e : Element). all_seen e seen ≡ true) is whole)

ended_early : (around : Open) (outer : List Open) (inner : Open) → all_seen inner.element inner.seen ≡ true → IsEarly inner.element inner.seen (around ∷ outer) → IsEarly around.element around.seen outer
ended_early around [] inner whole early = absurd (differ (is_known (codes "Constraints") inner.seen) (instance_whole inner.element inner.seen early.1 whole) early.2)
ended_early around (next ∷ outer) inner whole early = early

ended_fits : (outer : List Open) (piece : Piece) (at next : Position Draft) → (0 < at.read.n) ⊎ IsEarly at.inner.element at.inner.seen outer → walk.ended instance_meaning outer piece at ≡ Ok next → HasTeams next
ended_fits [] piece at next fits h = absurd (err_isnt (BadNesting, piece.line) next h)
ended_fits (around ∷ outer) piece at next fits h =
    let behind : Draft → Position Draft = λ read. record { inner = around; outer = outer; passing = None; read = read } in
    let read = both_read (walk.closed instance_meaning at.inner piece at.read) (λ read. Ok (behind read)) next h in
    let closed = closed_is instance_meaning at.inner piece at.read read.0 read.1.0 in
    subst HasTeams (ok_is (behind read.0) next read.1.1)
    (elim fits [
      | inl some ↦ inl (ends_some at.inner.element (trimmed at.inner.text) at.read read.0 closed.1 some)
      | inr early ↦ inr (ended_early around outer at.inner closed.0 early)
    ])

-- ---- the file's end

end_some : (outer : List Open) (line : ℕ) (at : Position Draft) (read : Draft) → (0 < at.read.n) ⊎ IsEarly at.inner.element at.inner.seen outer → walk.at_file_end outer line at ≡ Ok read → 0 < read.n
end_some [] line at read fits h =
    let whole = both_read (check (is_complete at.inner) Truncated) (λ complete. Ok at.read) read (read_on_line line (check (is_complete at.inner) Truncated >>= λ complete. Ok at.read) read h) in
    let seen : is_complete at.inner ≡ true = checked (is_complete at.inner) Truncated whole.0 whole.1.0 in
    elim fits [
      | inl some ↦ subst (λ (d : Draft). 0 < d.n) (ok_is at.read read whole.1.1) some
      | inr early ↦ absurd (differ (is_known (codes "Instance") at.inner.seen) (file_whole at.inner.element at.inner.seen early.0 seen) early.1)
    ]
end_some (around ∷ outer) line at read fits h = absurd (err_isnt (Truncated, line) read h)

-- a league that was read has teams
pub teams_read : (found : Pieces) (read : Draft) → walk.reading instance_meaning InstanceFile nothing found ≡ Ok read → 0 < read.n
teams_read found read h =
    let start : Position Draft = record { inner = record { element = InstanceFile; line = 0; seen = []; text = [] }; outer = []; passing = None; read = nothing } in
    let end = walk_kept instance_meaning HasTeams (λ at name fits. fits) (λ at text fits. fits) begun_fits (λ piece at next fits. ended_fits at.outer piece at next fits)
    found.items found.last start read (inr (refl, refl)) h in
    end_some end.1.0.outer end.0 end.1.0 read end.1.1.0 end.1.1.1
