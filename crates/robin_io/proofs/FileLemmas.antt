-- Look-ups in the table of a store's files.
use Rattle.std.proofs.Common.{◌≡◌, ◌≢◌, ℕ, ◌+◌, ◌-◌, ◌<◌, ◌≤◌, min, suc, zero, Bool, true, false, cond, if◌then◌else◌}
use Rattle.std.proofs.Common.{ltb, List, [], ◌∷◌, ◌++◌, map, length, get_or, set, Option, Some, None, ◌⊎◌, inl, inr}
use Rattle.std.proofs.Common.{refl, sym, ap, ◌∙◌, arith, position, find, slice_get, option_map, option_and_then}
use Rattle.std.proofs.Common.{is_some, IsSome, IsSomeAnd, IsNone, MatchOption, take, drop, ◌^◌, bytes_eq, string_bytes}
use Rattle.std.proofs.Common.{Vec, length-drop}
use Rattle.std.specs.Prelude.{⊤}
use Rattle.std.specs.List.{position_or_len}
use Rattle.std.specs.Option.{option_map_or}
use Rattle.std.specs.declared.alloc.Global.{Global}
use Rattle.std.proofs.lemmas.Option.{cond_some, slice_get_cases, slice_get_past, slice_get-map, get_or_from_slice_get}
use Rattle.std.proofs.Math.Seq.{map-set_same}
use Rattle.std.proofs.lemmas.List.Folds.{find_at}
use Rattle.std.proofs.lemmas.List.Quantifiers.{position-Some}
use Rattle.std.proofs.lemmas.Slice.Eq.{bytes_eq-Decides}
use borrow.Author.Tests.{ltb-true, ltb-false}
use Rattle.std.proofs.lemmas.List.{take-append-drop, drop-drop, drop_all}
use Rattle.std.specs.Io.KnownBytes.{Keeps, Consumes, IsAtEnd}
use Rattle.robin_io.specs.Counts.{raised}
use Rattle.robin_io.specs.ShelfView.{FileView, ShelfView, file_in, contents_in, faults_in}
use Rattle.robin_io.specs.Faults.{CountsFault}
use Rattle.robin_io.specs.Files.{file_view, Puts}
use Rattle.robin_io.specs.declared.mem_shelf.MemFile.{MemFile}
use Rattle.robin_io.specs.declared.mem_shelf.Place.{Place}

-- ---- the first element that passes

found_by : {X : Type 0} (p : X → Bool) (xs : List X) (i : ℕ) → position p xs ≡ Some i → find p xs ≡ slice_get xs i → i < length xs
    → ((x : X) × (i < length xs) × (slice_get xs i ≡ Some x) × (get_or xs i x ≡ x)) ⊎ ((length xs ≤ i) × (slice_get xs i ≡ None))
    → (x : X) × (slice_get xs i ≡ Some x) × (find p xs ≡ Some x) × (p x ≡ true)
found_by p xs i at first within (inl w) =
    (w.0, w.2, first ∙ w.2, sym (ap p w.3) ∙ (position-Some p xs i w.0 at).1)
found_by p xs i at first within (inr past) = absurd (omega (arith, past.0, within))

-- the place of the first element that passes holds what `find` gives
pub found : {X : Type 0} (p : X → Bool) (xs : List X) (i : ℕ) → position p xs ≡ Some i
    → (x : X) × (slice_get xs i ≡ Some x) × (find p xs ≡ Some x) × (p x ≡ true)
found p xs i at =
    let first = cond_some (ltb (position_or_len p xs) (length xs)) (position_or_len p xs) i at in
    let within : position_or_len p xs < length xs = ltb-true _ _ first.0 in
    found_by p xs i at (find_at p xs ∙ ap (slice_get xs) first.1) (omega (arith, first.1)) (slice_get_cases xs i).1

cond_none : {X : Type 0} (b : Bool) (x : X) → cond b (Some x) None ≡ None → b ≡ false
cond_none true x e = cc
cond_none false x e = refl

-- where there is no place, nothing passes
pub missing : {X : Type 0} (p : X → Bool) (xs : List X) → position p xs ≡ None → find p xs ≡ None
missing p xs none =
    let past : length xs ≤ position_or_len p xs = ltb-false _ _ (cond_none (ltb (position_or_len p xs) (length xs)) _ none) in
    find_at p xs ∙ slice_get_past xs _ past

-- a look-up in a table that shows another
pub find-map : {X Y : Type 0} (f : X → Y) (p : Y → Bool) (xs : List X) → find p (map f xs) ≡ option_map f (find (λ x. p (f x)) xs)
find-map f p [] = refl
find-map f p (x ∷ xs) =
    elim (p (f x)) as (λ b. cond b (Some (f x)) (find p (map f xs)) ≡ option_map f (cond b (Some x) (find (λ z. p (f z)) xs))) [
      | true ↦ refl
      | false ↦ find-map f p xs
    ]

-- ---- the file of a name

apart : (a b : List ℕ) → a ≢ b → bytes_eq a b ≡ false
apart a b ne =
    elim (bytes_eq a b) as (λ v. (v ≡ true → a ≡ b) → v ≡ false) [
      | true ↦ λ same. absurd (ne (same refl))
      | false ↦ λ same. refl
    ] (bytes_eq-Decides a b).0

abbrev pub is_named : List ℕ → MemFile → Bool
is_named name f = bytes_eq (string_bytes f.name) name

-- what stands at the place of a name
pub file_at : (files : List MemFile) (name : List ℕ) (i : ℕ) → position (is_named name) files ≡ Some i
    → (f : MemFile) × (slice_get files i ≡ Some f) × (string_bytes f.name ≡ name) × (file_in (map file_view files) name ≡ Some (file_view f))
file_at files name i at =
    let w = found (is_named name) files i at in
    (w.0, w.1, (bytes_eq-Decides _ name).0 w.3, find-map file_view (λ f. bytes_eq f.name name) files ∙ ap (option_map file_view) w.2)

pub no_file : (files : List MemFile) (name : List ℕ) → position (is_named name) files ≡ None → file_in (map file_view files) name ≡ None
no_file files name none =
    find-map file_view (λ f. bytes_eq f.name name) files ∙ ap (option_map file_view) (missing (is_named name) files none)

-- what is left of a file that was just started is the whole of it
pub left_at_front : (files : List MemFile) (name : List ℕ) (i : ℕ) → position (is_named name) files ≡ Some i
    → Keeps (contents_in (map file_view files) name) (option_map (λ f. drop 0 f.bytes.items) (slice_get files i))
left_at_front files name i at = let w = file_at files name i at in rw (w.3, w.1) refl

file_by : (file : Option MemFile) (P : MemFile → Type 0) → IsSomeAnd file P → (f : MemFile) × (file ≡ Some f)
file_by None P h = absurd h
file_by (Some f) P h = (f, refl)

-- what is read at the started place is its file
pub started_file : (files : List MemFile) (started : Option Place) (p : Place) (f : MemFile) → MatchOption started ⊤ (λ q. IsSomeAnd (slice_get files q.file) (λ g. q.at ≤ length g.bytes.items)) → started ≡ Some p
    → f ≡ get_or files p.file f → slice_get files p.file ≡ Some f
started_file files started p f within is read =
    let here = rw is at within in
    let w = file_by (slice_get files p.file) (λ g. p.at ≤ length g.bytes.items) here in
    w.1 ∙ ap Some (sym (get_or_from_slice_get files p.file w.0 f w.1) ∙ sym read)

-- what is copied of a started file is taken off what is left of it
pub Consumes-copied : (file : Option MemFile) (at count : ℕ) (f : MemFile) (bytes room : List ℕ) → file ≡ Some f → bytes ≡ f.bytes.items → take count room ≡ take count (drop at bytes)
    → Consumes (option_map (λ g. drop at g.bytes.items) file) (option_map (λ g. drop (at + count) g.bytes.items) file) (take count room)
Consumes-copied file at count f bytes room is read copied =
    let rest = drop at f.bytes.items in
    rw (is, copied, read) (sym (take-append-drop count rest) ∙ ap (λ more. take count rest ++ more) (drop-drop count at f.bytes.items))

-- as much is copied as is left and fits
pub IsSomeAnd-copied : (file : Option MemFile) (at count : ℕ) (f : MemFile) (bytes room : List ℕ) → file ≡ Some f → bytes ≡ f.bytes.items → count ≡ min (length room) (length bytes - at)
    → IsSomeAnd (option_map (λ g. drop at g.bytes.items) file) (λ left. count ≡ min (length room) (length left))
IsSomeAnd-copied file at count f bytes room is read least =
    rw (is, length-drop at f.bytes.items, ← read) least

-- where nothing is copied into some room, nothing is left
pub IsAtEnd-copied : (file : Option MemFile) (at count : ℕ) (f : MemFile) (bytes room : List ℕ) → file ≡ Some f → bytes ≡ f.bytes.items → count ≡ min (length room) (length bytes - at)
    → count ≡ 0 → 0 < length room → IsAtEnd (option_map (λ g. drop (at + count) g.bytes.items) file)
IsAtEnd-copied file at count f bytes room is read least none some =
    rw is (drop_all (at + count) f.bytes.items (omega (arith, ap length read)))

pub name_at : (files : List MemFile) (name : List ℕ) (i : ℕ) → position (is_named name) files ≡ Some i
    → option_map (λ f. string_bytes f.name) (slice_get files i) ≡ Some name
name_at files name i at = let w = file_at files name i at in rw w.1 (ap Some w.2)

pub is_told : (files : List MemFile) (name : List ℕ) (i : ℕ) → position (is_named name) files ≡ Some i
    → IsNone (contents_in (map file_view files) name) → ⊥
is_told files name i at none = let w = file_at files name i at in let absent = rw w.3 at none in cc

pub not_told : (files : List MemFile) (name : List ℕ) → position (is_named name) files ≡ None → IsNone (contents_in (map file_view files) name)
not_told files name none = rw (no_file files name none) refl

told_by : (name : List ℕ) (f : MemFile) (fs : List MemFile) (k : ℕ) → option_map (λ g. string_bytes g.name) (slice_get (f ∷ fs) k) ≡ Some name
    → ((j : ℕ) → option_map (λ g. string_bytes g.name) (slice_get fs j) ≡ Some name → is_some (contents_in (map file_view fs) name) ≡ true)
    → (b : Bool) → bytes_eq (string_bytes f.name) name ≡ b → is_some (option_map (λ g. g.bytes) (cond b (Some (file_view f)) (file_in (map file_view fs) name))) ≡ true
told_by name f fs k at more true e = refl
told_by name f fs zero at more false e =
    let same : string_bytes f.name ≡ name = cc in
    let yes = (bytes_eq-Decides (string_bytes f.name) name).1 same in cc
told_by name f fs (suc k) at more false e = more k at

-- a name that stands at some place has contents
pub told_at : (files : List MemFile) (name : List ℕ) (k : ℕ) → option_map (λ f. string_bytes f.name) (slice_get files k) ≡ Some name
    → is_some (contents_in (map file_view files) name) ≡ true
told_at [] name k at = cc
told_at (f ∷ fs) name k at = told_by name f fs k at (λ j here. told_at fs name j here) (bytes_eq (string_bytes f.name) name) refl

-- the name of the started file has contents
pub told_started : (files : List MemFile) (started : Option Place) (name : List ℕ) → option_and_then (λ p. option_map (λ f. string_bytes f.name) (slice_get files p.file)) started ≡ Some name
    → is_some (contents_in (map file_view files) name) ≡ true
told_started files None name at = cc
told_started files (Some p) name at = told_at files name p.file at

-- ---- a fault at a name

faults_or-le : (file : Option FileView) (before now : ℕ) → before ≤ now
    → option_map_or (λ f. f.faults) file before ≤ option_map_or (λ f. f.faults) file now
faults_or-le None before now le = le
faults_or-le (Some f) before now le = omega arith

abbrev pub raised_file : FileView → FileView
raised_file f = record f { faults = raised f.faults 1 }

-- the files after a fault at the first file of this name
abbrev pub with_fault : List ℕ → List FileView → List FileView
with_fault name [] = []
with_fault name (f ∷ fs) = if bytes_eq f.name name then raised_file f ∷ fs else f ∷ with_fault name fs

own_by : (name : List ℕ) (f : FileView) (fs : List FileView) → file_in (with_fault name fs) name ≡ option_map raised_file (file_in fs name)
    → (b : Bool) → bytes_eq f.name name ≡ b
    → file_in (cond b (raised_file f ∷ fs) (f ∷ with_fault name fs)) name ≡ option_map raised_file (cond b (Some f) (file_in fs name))
own_by name f fs more true e = rw e refl
own_by name f fs more false e = rw e more

-- the file of the name has the fault
own_fault : (name : List ℕ) (files : List FileView) → file_in (with_fault name files) name ≡ option_map raised_file (file_in files name)
own_fault name [] = refl
own_fault name (f ∷ fs) = own_by name f fs (own_fault name fs) (bytes_eq f.name name) refl

apart_by : (name : List ℕ) (f : FileView) (fs : List FileView) (n : List ℕ) → n ≢ name → file_in (with_fault name fs) n ≡ file_in fs n
    → (b : Bool) → bytes_eq f.name name ≡ b
    → file_in (cond b (raised_file f ∷ fs) (f ∷ with_fault name fs)) n ≡ file_in (f ∷ fs) n
apart_by name f fs n other more true e =
    let named : f.name ≡ name = (bytes_eq-Decides f.name name).0 e in
    let here : bytes_eq f.name n ≡ false = apart f.name n (λ same. other (sym same ∙ named)) in
    rw here refl
apart_by name f fs n other more false e =
    elim (bytes_eq f.name n) as (λ v. cond v (Some f) (file_in (with_fault name fs) n) ≡ cond v (Some f) (file_in fs n)) [
      | true ↦ refl
      | false ↦ more
    ]

-- no other file has it
others_apart : (name : List ℕ) (files : List FileView) (n : List ℕ) → n ≢ name → file_in (with_fault name files) n ≡ file_in files n
others_apart name [] n other = refl
others_apart name (f ∷ fs) n other = apart_by name f fs n other (others_apart name fs n other) (bytes_eq f.name name) refl

contents_by : (name : List ℕ) (f : FileView) (fs : List FileView) (n : List ℕ) → contents_in (with_fault name fs) n ≡ contents_in fs n
    → (b : Bool) → contents_in (cond b (raised_file f ∷ fs) (f ∷ with_fault name fs)) n ≡ contents_in (f ∷ fs) n
contents_by name f fs n more true =
    elim (bytes_eq f.name n) as (λ v. option_map (λ g. g.bytes) (cond v (Some (raised_file f)) (file_in fs n)) ≡ option_map (λ g. g.bytes) (cond v (Some f) (file_in fs n))) [
      | true ↦ refl
      | false ↦ refl
    ]
contents_by name f fs n more false =
    elim (bytes_eq f.name n) as (λ v. option_map (λ g. g.bytes) (cond v (Some f) (file_in (with_fault name fs) n)) ≡ option_map (λ g. g.bytes) (cond v (Some f) (file_in fs n))) [
      | true ↦ refl
      | false ↦ more
    ]

-- a fault changes no contents
pub contents-with_fault : (name : List ℕ) (files : List FileView) (n : List ℕ) → contents_in (with_fault name files) n ≡ contents_in files n
contents-with_fault name [] n = refl
contents-with_fault name (f ∷ fs) n = contents_by name f fs n (contents-with_fault name fs n) (bytes_eq f.name name)

later_by : (name : List ℕ) (f : FileView) (fs : List FileView) (count : ℕ) (n : List ℕ)
    → (faults_in fs count name < 2 ^ 64 → faults_in fs count n ≤ faults_in (with_fault name fs) count n)
    → (b : Bool) → option_map_or (λ g. g.faults) (cond b (Some f) (file_in fs name)) count < 2 ^ 64
    → faults_in (f ∷ fs) count n ≤ faults_in (cond b (raised_file f ∷ fs) (f ∷ with_fault name fs)) count n
later_by name f fs count n more true small =
    elim (bytes_eq f.name n) as (λ v. option_map_or (λ g. g.faults) (cond v (Some f) (file_in fs n)) count ≤ option_map_or (λ g. g.faults) (cond v (Some (raised_file f)) (file_in fs n)) count) [
      | true ↦ omega arith
      | false ↦ omega arith
    ]
later_by name f fs count n more false small =
    elim (bytes_eq f.name n) as (λ v. option_map_or (λ g. g.faults) (cond v (Some f) (file_in fs n)) count ≤ option_map_or (λ g. g.faults) (cond v (Some f) (file_in (with_fault name fs) n)) count) [
      | true ↦ omega arith
      | false ↦ more small
    ]

-- a fault lowers no count
pub later-with_fault : (name : List ℕ) (files : List FileView) (count : ℕ) (n : List ℕ) → faults_in files count name < 2 ^ 64
    → faults_in files count n ≤ faults_in (with_fault name files) count n
later-with_fault name [] count n small = omega arith
later-with_fault name (f ∷ fs) count n small = later_by name f fs count n (later-with_fault name fs count n) (bytes_eq f.name name) small

fault_is : (name : List ℕ) (files : List MemFile) (i : ℕ) (f : MemFile) (count : ℕ) → count ≡ raised f.faults 1 → slice_get files i ≡ Some f → is_named name f ≡ true
    → ((k : ℕ) → k < i → is_named name (get_or files k f) ≡ false)
    → map file_view (set files i (record f { faults = count })) ≡ with_fault name (map file_view files)
fault_is name [] i f count rose at named before = cc
fault_is name (g ∷ gs) zero f count rose at named before =
    let same : g ≡ f = cc in rw (same, rose) (rw named refl)
fault_is name (g ∷ gs) (suc i) f count rose at named before =
    let passed : is_named name g ≡ false = before 0 (omega arith) in
    rw passed (ap (λ rest. file_view g ∷ rest) (fault_is name gs i f count rose at named (λ k below. before (suc k) (omega arith))))

-- a count written at the place of the name
pub fault_at : (name : List ℕ) (files : List MemFile) (i : ℕ) (f : MemFile) (count : ℕ) → position (is_named name) files ≡ Some i → f ≡ get_or files i f → count ≡ raised f.faults 1
    → (file_in (map file_view files) name ≡ Some (file_view f)) × (map file_view (set files i (record f { faults = count })) ≡ with_fault name (map file_view files))
fault_at name files i f count at read rose =
    let w = found (is_named name) files i at in
    let same : w.0 ≡ f = sym (get_or_from_slice_get files i w.0 f w.1) ∙ sym read in
    let is : slice_get files i ≡ Some f = w.1 ∙ ap Some same in
    let named : is_named name f ≡ true = rw same at w.3 in
    (find-map file_view (λ f. bytes_eq f.name name) files ∙ ap (option_map file_view) (w.2 ∙ ap Some same), fault_is name files i f count rose is named (position-Some (is_named name) files i f at).2)

-- what a count has no part in stays at each place
pub kept_at : {X : Type 0} (show : MemFile → X) (files : List MemFile) (i : ℕ) (f g : MemFile) (k : ℕ) → f ≡ get_or files i f → show g ≡ show f
    → option_map show (slice_get (set files i g) k) ≡ option_map show (slice_get files k)
kept_at show files i f g k read same =
    let kept : map show (set files i g) ≡ map show files = map-set_same show files i g f (same ∙ ap show read) in
    sym (slice_get-map show (set files i g) k) ∙ ap (λ xs. slice_get xs k) kept ∙ slice_get-map show files k

-- what a count has no part in stays in what is shown of the started file
pub started_kept : (files : List MemFile) (i : ℕ) (f : MemFile) (count : ℕ) (started : Option Place) → f ≡ get_or files i f
    → (option_and_then (λ p. option_map (λ h. string_bytes h.name) (slice_get (set files i (record f { faults = count })) p.file)) started ≡ option_and_then (λ p. option_map (λ h. string_bytes h.name) (slice_get files p.file)) started)
    × (option_and_then (λ p. option_map (λ h. drop p.at h.bytes.items) (slice_get (set files i (record f { faults = count })) p.file)) started ≡ option_and_then (λ p. option_map (λ h. drop p.at h.bytes.items) (slice_get files p.file)) started)
started_kept files i f count None read = (refl, refl)
started_kept files i f count (Some p) read =
    (kept_at (λ h. string_bytes h.name) files i f (record f { faults = count }) p.file read refl, kept_at (λ h. drop p.at h.bytes.items) files i f (record f { faults = count }) p.file read refl)

-- a fault at a name with a file
pub CountsFault-file : (name : List ℕ) (old new : ShelfView) (f : FileView) → file_in old.files name ≡ Some f → new.files ≡ with_fault name old.files → new.other_faults ≡ old.other_faults
    → CountsFault name old new
CountsFault-file name old new f at put same = record {
  risen = rw (put, own_fault name old.files, at) refl;
  other_files = λ n other told. rw (put, others_apart name old.files n other, same) refl;
  other_faults = rw at same;
}

faults_or-told : (file : Option FileView) (before now : ℕ) → IsSome (option_map (λ f. f.bytes) file)
    → option_map_or (λ f. f.faults) file now ≡ option_map_or (λ f. f.faults) file before
faults_or-told None before now told = cc
faults_or-told (Some f) before now told = refl

-- a fault at a name without a file
pub CountsFault-others : (name : List ℕ) (old new : ShelfView) → file_in old.files name ≡ None → new.files ≡ old.files → new.other_faults ≡ raised old.other_faults 1
    → CountsFault name old new
CountsFault-others name old new none same rose = record {
  risen = rw (same, none) rose;
  other_files = λ n other told. rw same (faults_or-told (file_in old.files n) old.other_faults new.other_faults told);
  other_faults = rw none rose;
}

-- ---- other contents at a name

-- the files with other contents at this name, where a new file has the count
abbrev pub with_contents : ℕ → List ℕ → List ℕ → List FileView → List FileView
with_contents count name bytes [] = record { name = name; bytes = bytes; faults = count } ∷ []
with_contents count name bytes (f ∷ fs) = if bytes_eq f.name name then record f { bytes = bytes } ∷ fs else f ∷ with_contents count name bytes fs

added_by : (count : ℕ) (name bytes : List ℕ) (f : FileView) (fs : List FileView) → contents_in (with_contents count name bytes fs) name ≡ Some bytes
    → (b : Bool) → bytes_eq f.name name ≡ b
    → contents_in (cond b (record f { bytes = bytes } ∷ fs) (f ∷ with_contents count name bytes fs)) name ≡ Some bytes
added_by count name bytes f fs more true e = rw e refl
added_by count name bytes f fs more false e = rw e more

added : (count : ℕ) (name bytes : List ℕ) (files : List FileView) → contents_in (with_contents count name bytes files) name ≡ Some bytes
added count name bytes [] = let same : bytes_eq name name ≡ true = (bytes_eq-Decides name name).1 refl in rw same refl
added count name bytes (f ∷ fs) = added_by count name bytes f fs (added count name bytes fs) (bytes_eq f.name name) refl

others_by : (count : ℕ) (name bytes : List ℕ) (f : FileView) (fs : List FileView) (n : List ℕ) → n ≢ name
    → contents_in (with_contents count name bytes fs) n ≡ contents_in fs n
    → (b : Bool) → bytes_eq f.name name ≡ b
    → contents_in (cond b (record f { bytes = bytes } ∷ fs) (f ∷ with_contents count name bytes fs)) n ≡ contents_in (f ∷ fs) n
others_by count name bytes f fs n other more true e =
    let named : f.name ≡ name = (bytes_eq-Decides f.name name).0 e in
    let here : bytes_eq f.name n ≡ false = apart f.name n (λ same. other (sym same ∙ named)) in
    rw here refl
others_by count name bytes f fs n other more false e =
    elim (bytes_eq f.name n) as (λ v. option_map (λ g. g.bytes) (cond v (Some f) (file_in (with_contents count name bytes fs) n)) ≡ option_map (λ g. g.bytes) (cond v (Some f) (file_in fs n))) [
      | true ↦ refl
      | false ↦ more
    ]

others : (count : ℕ) (name bytes : List ℕ) (files : List FileView) (n : List ℕ) → n ≢ name → contents_in (with_contents count name bytes files) n ≡ contents_in files n
others count name bytes [] n other =
    let here : bytes_eq name n ≡ false = apart name n (λ same. other (sym same)) in rw here refl
others count name bytes (f ∷ fs) n other =
    others_by count name bytes f fs n other (others count name bytes fs n other) (bytes_eq f.name name) refl

faults_by : (count : ℕ) (name bytes : List ℕ) (f : FileView) (fs : List FileView) (n : List ℕ)
    → faults_in (with_contents count name bytes fs) count n ≡ faults_in fs count n
    → (b : Bool)
    → faults_in (cond b (record f { bytes = bytes } ∷ fs) (f ∷ with_contents count name bytes fs)) count n ≡ faults_in (f ∷ fs) count n
faults_by count name bytes f fs n more true =
    elim (bytes_eq f.name n) as (λ v. option_map_or (λ g. g.faults) (cond v (Some (record f { bytes = bytes })) (file_in fs n)) count ≡ option_map_or (λ g. g.faults) (cond v (Some f) (file_in fs n)) count) [
      | true ↦ refl
      | false ↦ refl
    ]
faults_by count name bytes f fs n more false =
    elim (bytes_eq f.name n) as (λ v. option_map_or (λ g. g.faults) (cond v (Some f) (file_in (with_contents count name bytes fs) n)) count ≡ option_map_or (λ g. g.faults) (cond v (Some f) (file_in fs n)) count) [
      | true ↦ refl
      | false ↦ more
    ]

-- a new file has the count that its name had
faults : (count : ℕ) (name bytes : List ℕ) (files : List FileView) (n : List ℕ) → faults_in (with_contents count name bytes files) count n ≡ faults_in files count n
faults count name bytes [] n =
    let file : FileView = record { name = name; bytes = bytes; faults = count } in
    elim (bytes_eq name n) as (λ v. option_map_or (λ g. g.faults) (cond v (Some file) None) count ≡ count) [
      | true ↦ refl
      | false ↦ refl
    ]
faults count name bytes (f ∷ fs) n =
    faults_by count name bytes f fs n (faults count name bytes fs n) (bytes_eq f.name name)

Puts-with_contents : (count : ℕ) (name bytes : List ℕ) (files : List FileView) → Puts count name bytes files (with_contents count name bytes files)
Puts-with_contents count name bytes files = record {
  added = added count name bytes files;
  others = others count name bytes files;
  faults = faults count name bytes files;
}

set_is : (count : ℕ) (name : List ℕ) (files : List MemFile) (i : ℕ) (f : MemFile) (bytes : Vec ℕ Global) → slice_get files i ≡ Some f → is_named name f ≡ true
    → ((k : ℕ) → k < i → is_named name (get_or files k f) ≡ false)
    → map file_view (set files i (record f { bytes = bytes })) ≡ with_contents count name bytes.items (map file_view files)
set_is count name [] i f bytes at named before = cc
set_is count name (g ∷ gs) zero f bytes at named before =
    let same : g ≡ f = cc in rw same (rw named refl)
set_is count name (g ∷ gs) (suc i) f bytes at named before =
    let passed : is_named name g ≡ false = before 0 (omega arith) in
    rw passed (ap (λ rest. file_view g ∷ rest) (set_is count name gs i f bytes at named (λ k below. before (suc k) (omega arith))))

-- other bytes at the place of the name
pub Puts-set : (count : ℕ) (name : List ℕ) (files : List MemFile) (i : ℕ) (f : MemFile) (bytes : Vec ℕ Global) → position (is_named name) files ≡ Some i → f ≡ get_or files i f
    → Puts count name bytes.items (map file_view files) (map file_view (set files i (record f { bytes = bytes })))
Puts-set count name files i f bytes at read =
    let w = found (is_named name) files i at in
    let same : w.0 ≡ f = sym (get_or_from_slice_get files i w.0 f w.1) ∙ sym read in
    let is : slice_get files i ≡ Some f = w.1 ∙ ap Some same in
    let named : is_named name f ≡ true = rw same at w.3 in
    rw (set_is count name files i f bytes is named (position-Some (is_named name) files i f at).2) (Puts-with_contents count name bytes.items (map file_view files))

cond_none_both : {X : Type 0} (b : Bool) (x : X) (r : Option X) → cond b (Some x) r ≡ None → (b ≡ false) × (r ≡ None)
cond_none_both true x r e = cc
cond_none_both false x r e = (refl, e)

push_is : (name : List ℕ) (files : List MemFile) (f : MemFile) → string_bytes f.name ≡ name → find (is_named name) files ≡ None
    → map file_view (files ++ f ∷ []) ≡ with_contents f.faults name f.bytes.items (map file_view files)
push_is name [] f named none = rw named refl
push_is name (g ∷ gs) f named none =
    let both = cond_none_both (is_named name g) g (find (is_named name) gs) none in
    rw both.0 (ap (λ rest. file_view g ∷ rest) (push_is name gs f named both.1))

-- a new file
pub Puts-push : (name : List ℕ) (files : List MemFile) (f : MemFile) → string_bytes f.name ≡ name → position (is_named name) files ≡ None
    → Puts f.faults name f.bytes.items (map file_view files) (map file_view (files ++ f ∷ []))
Puts-push name files f named none =
    rw (push_is name files f named (missing (is_named name) files none)) (Puts-with_contents f.faults name f.bytes.items (map file_view files))
