-- The parts of a count's log, one after another, and how long its lines are.
use Rattle.std.proofs.Common.{◌≡◌, ℕ, zero, suc, ◌+◌, ◌*◌, ◌^◌, ◌<◌, ◌≤◌, Bool, true, false, not, nat_lt, cond, List}
use Rattle.std.proofs.Common.{[], ◌∷◌, ◌++◌}
use Rattle.std.proofs.Common.{length, get_or, take, map, decimal, Option, Some, refl, arith, ap, sym, subst, ◌∙◌}
use Rattle.std.proofs.Common.{length-append}
use Rattle.std.specs.Prelude.{Contains, codes}
use Rattle.std.specs.List.{All, filter, flat_map, range_with_len, sum_by}
use Rattle.std.proofs.lemmas.Fmt.{length-decimal-le}
use Rattle.std.proofs.lemmas.List.{append-nil, append_assoc, get_or_read, length-map, map-append, take_more}
use Rattle.std.proofs.lemmas.List.Concat.{length-flat_map}
use Rattle.std.proofs.lemmas.List.Elements.{All-cons, All-nil, All-push, All-tail, All-weaker, filter-append}
use Rattle.std.proofs.lemmas.List.Sums.{sum_by-le}
use Rattle.std.proofs.lemmas.Option.{slice_get_within}
use Rattle.std.proofs.lemmas.Bool.{le-ltb, lt-ltb}
use Rattle.league.specs.Instance.{Instance}
use Rattle.rows.specs.Cardinality.{at_least}
use Rattle.rows.specs.Literals.{Literal}
use Rattle.rows.specs.Rows.{Row}
use Rattle.rows.specs.Sums.{literal}
use Rattle.encoding.specs.Encoding.{rows_of}
use Rattle.encoding.specs.RowRanges.{rows_of_constraint}
use Rattle.encoding.specs.Variables.{h_var}
use Rattle.encoding.proofs.NumberLemmas.{numbers-more}
use Rattle.refutation.specs.Following.{row_numbered}
use Rattle.refutation.specs.Logs.{most_bytes}
use Rattle.refutation.specs.Steps.{NamesRows, Step}
use Rattle.refutation.specs.Steps.Step.{Clause, Linear}
use Rattle.refutation.specs.Texts.{linear_text, number_text, part_text, step_text}
use Rattle.refutation.specs.Writable.{HasShortLines}
use Rattle.refutation.specs.declared.step.Part.{Part}
use Rattle.refutation.specs.declared.version.Version.TheVariants.{Two}
use Rattle.venue_counts.specs.CountLogs.{AddsUp, AreNamed, slot_row, team_row}
use Rattle.venue_counts.specs.Groups.{IsGroup, MakesNeed}
use Rattle.venue_counts.specs.Needs.{counts_home, need_of}
use Rattle.venue_counts.specs.declared.group.Group.{Group}
use Rattle.venue_counts.specs.declared.limit.Limit.{Limit}
use Rattle.venue_counts.proofs.RowLemmas.{team_row-of}

-- ---- one part more

abbrev part : ℕ → Part
part number = record { factor = 1; row = number }

pub named-none : (rows : List Row) → AreNamed rows [] []
named-none rows = record { numbers = refl; once = All-nil (λ (p : Part). p.factor ≡ 1) }

pub named-more : (rows : List Row) (parts : List Part) (named : List Row) (number : ℕ) (row : Row)
    → AreNamed rows parts named → row_numbered rows number ≡ Some row
    → AreNamed rows (parts ++ part number ∷ []) (named ++ row ∷ [])
named-more rows parts named number row are is =
    let number_of : Part → Option Row = λ p. row_numbered rows p.row in
    let some : Row → Option Row = λ r. Some r in
    record {
      numbers = map-append number_of parts (part number ∷ [])
          ∙ ap (λ (os : List (Option Row)). os ++ number_of (part number) ∷ []) are.numbers
          ∙ ap (λ (o : Option Row). map some named ++ o ∷ []) is
          ∙ sym (map-append some named (row ∷ []));
      once = All-push (λ (p : Part). p.factor ≡ 1) parts (part number) are.once refl;
    }

-- the row of one slot more
pub named-slot : (rows : List Row) (f : ℕ → Row) (parts : List Part) (slots : List ℕ) (k number : ℕ)
    → AreNamed rows parts (map f (take k slots)) → k < length slots
    → row_numbered rows number ≡ Some (f (get_or slots k 0))
    → AreNamed rows (parts ++ part number ∷ []) (map f (take (k + 1) slots))
named-slot rows f parts slots k number are there is =
    let more : map f (take (k + 1) slots) ≡ map f (take k slots) ++ f (get_or slots k 0) ∷ [] =
    ap (map f) (take_more slots k 0 there) ∙ map-append f (take k slots) (get_or slots k 0 ∷ []) in
    subst (λ (named : List Row). AreNamed rows (parts ++ part number ∷ []) named) (sym more)
    (named-more rows parts (map f (take k slots)) number (f (get_or slots k 0)) are is)

-- the row of one team more, if it needs one
abbrev pub needing : (ℕ → Row) → (ℕ → ℕ) → ℕ → List Row
needing f need count = map f (filter (λ i. nat_lt 0 (need i)) (range_with_len 0 count))

filter-one : (passes : Bool) (k : ℕ) (f : ℕ → Row) → map f (cond passes (k ∷ []) []) ≡ cond passes (f k ∷ []) []
filter-one true k f = refl
filter-one false k f = refl

needing-more : (f : ℕ → Row) (need : ℕ → ℕ) (k : ℕ)
    → needing f need (k + 1) ≡ needing f need k ++ cond (nat_lt 0 (need k)) (f k ∷ []) []
needing-more f need k =
    let test : ℕ → Bool = λ i. nat_lt 0 (need i) in
    ap (λ (xs : List ℕ). map f (filter test xs)) (numbers-more k)
    ∙ ap (map f) (filter-append test (range_with_len 0 k) (k ∷ []))
    ∙ map-append f (filter test (range_with_len 0 k)) (cond (test k) (k ∷ []) [])
    ∙ ap (λ (more : List Row). needing f need k ++ more) (filter-one (test k) k f)

pub named-team : (rows front : List Row) (f : ℕ → Row) (need : ℕ → ℕ) (parts : List Part) (k number : ℕ)
    → AreNamed rows parts (front ++ needing f need k) → nat_lt 0 (need k) ≡ true
    → row_numbered rows number ≡ Some (f k)
    → AreNamed rows (parts ++ part number ∷ []) (front ++ needing f need (k + 1))
named-team rows front f need parts k number are some is =
    let more : front ++ needing f need (k + 1) ≡ (front ++ needing f need k) ++ f k ∷ [] =
    ap (λ (rest : List Row). front ++ rest)
    (needing-more f need k ∙ ap (λ (b : Bool). needing f need k ++ cond b (f k ∷ []) []) some)
    ∙ sym (append_assoc front (needing f need k) (f k ∷ [])) in
    subst (λ (named : List Row). AreNamed rows (parts ++ part number ∷ []) named) (sym more)
    (named-more rows parts (front ++ needing f need k) number (f k) are is)

pub named-same : (rows front : List Row) (f : ℕ → Row) (need : ℕ → ℕ) (parts : List Part) (k : ℕ)
    → AreNamed rows parts (front ++ needing f need k) → nat_lt 0 (need k) ≡ false
    → AreNamed rows parts (front ++ needing f need (k + 1))
named-same rows front f need parts k are none =
    let same : needing f need (k + 1) ≡ needing f need k =
    needing-more f need k ∙ ap (λ (b : Bool). needing f need k ++ cond b (f k ∷ []) []) none
    ∙ append-nil (needing f need k) in
    subst (λ (rest : List Row). AreNamed rows parts (front ++ rest)) (sym same) are

-- ---- the teams of a group

module _ (limit : Limit) (league : Instance) (g : Group) (is : IsGroup limit league.n league.constraints g) where
  -- what the teams of the group need
  abbrev pub needed : ℕ → ℕ
  needed = need_of limit league.constraints g.side g.slots.now

  -- the rows of its slots, and of its first teams
  abbrev pub named_to : ℕ → List Row
  named_to k =
      map (slot_row league.n (counts_home limit g.side)) g.slots.now
      ++ needing (team_row league.n (counts_home limit g.side) g.slots.now needed) needed k

  need-read : (i place need : ℕ) → i < league.n → place ≡ i → need ≡ get_or g.needs.items place need → need ≡ needed i
  need-read i place need below at read =
      get_or_read g.needs.items place need (omega (arith, below, at, is.count)) read 0
      ∙ ap (λ (k : ℕ). get_or g.needs.items k 0) at ∙ is.needs i below

  -- what it reads of a team that needs games
  pub need-some : (i place need : ℕ) → i < league.n → place ≡ i → need ≡ get_or g.needs.items place need → 0 < need
      → 0 < get_or g.needs.items i 0
  need-some i place need below at read some = omega (arith, need-read i place need below at read, is.needs i below, some)

  -- the constraint by which it needs them
  pub need-made : (i place cause : ℕ) → i < league.n → place ≡ i → cause ≡ get_or g.causes.items place cause
      → 0 < get_or g.needs.items i 0 → MakesNeed limit league.constraints g.side g.slots.now i (needed i) cause
  need-made i place cause below at read some =
      let known : cause ≡ get_or g.causes.items i 0 =
      get_or_read g.causes.items place cause (omega (arith, below, at, is.places)) read 0
      ∙ ap (λ (k : ℕ). get_or g.causes.items k 0) at in
      subst (λ (k : ℕ). MakesNeed limit league.constraints g.side g.slots.now i (needed i) k) (sym known)
      (subst (λ (k : ℕ). MakesNeed limit league.constraints g.side g.slots.now i k (get_or g.causes.items i 0))
      (is.needs i below) (is.causes i below some))

  -- the row of a team from its literals
  pub team_row-as : (i place need degree : ℕ) (home : Bool) (items shown : List Literal) → i < league.n → place ≡ i
      → need ≡ get_or g.needs.items place need → degree ≡ need → home ≡ counts_home limit g.side → shown ≡ items
      → items ≡ map (λ s. literal (h_var league.n i s) (not home)) g.slots.now
      → at_least degree shown ≡ team_row league.n (counts_home limit g.side) g.slots.now needed i
  team_row-as i place need degree home items shown below at read count counts same are =
      ap (at_least degree) (same ∙ are)
      ∙ ap (λ (b : Bool). at_least degree (map (λ s. literal (h_var league.n i s) (not b)) g.slots.now)) counts
      ∙ ap (λ (d : ℕ). at_least d (map (λ s. literal (h_var league.n i s) (not (counts_home limit g.side))) g.slots.now))
      (count ∙ need-read i place need below at read)

  -- it is among the rows of that constraint
  pub team-there : (i place cause : ℕ) → i < league.n → place ≡ i → cause ≡ get_or g.causes.items place cause
      → 0 < get_or g.needs.items i 0
      → Contains (rows_of_constraint league cause)
      (team_row league.n (counts_home limit g.side) g.slots.now needed i)
  team-there i place cause below at read some =
      team_row-of limit league g.side g.slots.now i (needed i) cause is.one
      (omega (arith, some, is.needs i below)) (need-made i place cause below at read some)

  pub team-named : (parts pushed : List Part) (i place need number : ℕ) → i < league.n → place ≡ i
      → need ≡ get_or g.needs.items place need → 0 < need
      → row_numbered (rows_of league) number
      ≡ Some (team_row league.n (counts_home limit g.side) g.slots.now needed i)
      → pushed ≡ parts ++ part number ∷ [] → AreNamed (rows_of league) parts (named_to i)
      → AreNamed (rows_of league) pushed (named_to (i + 1))
  team-named parts pushed i place need number below at read some found more are =
      let known : need ≡ needed i = need-read i place need below at read in
      subst (λ (ps : List Part). AreNamed (rows_of league) ps (named_to (i + 1))) (sym more)
      (named-team (rows_of league) (map (slot_row league.n (counts_home limit g.side)) g.slots.now)
      (team_row league.n (counts_home limit g.side) g.slots.now needed) needed parts i number are
      (lt-ltb 0 (needed i) (omega (arith, some, known))) found)

  pub team-passed : (parts same : List Part) (i place need : ℕ) → i < league.n → place ≡ i
      → need ≡ get_or g.needs.items place need → need ≤ 0 → same ≡ parts
      → AreNamed (rows_of league) parts (named_to i) → AreNamed (rows_of league) same (named_to (i + 1))
  team-passed parts same i place need below at read none is_same are =
      let known : need ≡ needed i = need-read i place need below at read in
      subst (λ (ps : List Part). AreNamed (rows_of league) ps (named_to (i + 1))) (sym is_same)
      (named-same (rows_of league) (map (slot_row league.n (counts_home limit g.side)) g.slots.now)
      (team_row league.n (counts_home limit g.side) g.slots.now needed) needed parts i are
      (le-ltb 0 (needed i) (omega (arith, none, known))))

-- ---- the numbers of named rows

number_within : (rows : List Row) (number : ℕ) (row : Row) → row_numbered rows number ≡ Some row
    → (1 ≤ number) × (number ≤ length rows)
number_within rows zero row is = absurd (cc)
number_within rows (suc k) row is =
    let below : k < length rows = slice_get_within rows k row is in
    (omega arith, omega (arith, below))

pub parts-within : (rows : List Row) (parts : List Part) (named : List Row) → AreNamed rows parts named
    → All (λ p. (1 ≤ p.row) × (p.row ≤ length rows)) parts
parts-within rows [] named are = All-nil (λ (p : Part). (1 ≤ p.row) × (p.row ≤ length rows))
parts-within rows (p ∷ parts) [] are = let e = are.numbers in absurd (cc)
parts-within rows (p ∷ parts) (row ∷ named) are =
    let numbers = are.numbers in
    let here : row_numbered rows p.row ≡ Some row = cc in
    let later : map (λ (q : Part). row_numbered rows q.row) parts ≡ map (λ (r : Row). Some r) named = cc in
    All-cons (λ (q : Part). (1 ≤ q.row) × (q.row ≤ length rows)) p parts (number_within rows p.row row here)
    (parts-within rows parts named
    (record { numbers = later; once = All-tail (λ (q : Part). q.factor ≡ 1) p parts are.once }))

parts-count : (rows : List Row) (parts : List Part) (named : List Row) → AreNamed rows parts named
    → length parts ≡ length named
parts-count rows parts named are =
    sym (length-map parts (λ (p : Part). row_numbered rows p.row))
    ∙ ap (λ (os : List (Option Row)). length os) are.numbers
    ∙ length-map named (λ (r : Row). Some r)

pub names-rows : (rows named : List Row) (log : List Step) → AddsUp rows named log → All NamesRows log
names-rows rows named log is =
    subst (λ (steps : List Step). All NamesRows steps) (sym is.steps)
    (All-cons NamesRows (Linear is.parts 1) (Clause [] ((length rows + 1) ∷ []) ∷ [])
    (All-weaker (λ (p : Part). (1 ≤ p.row) × (p.row ≤ length rows)) (λ p. 1 ≤ p.row) (λ p within. within.0) is.parts
    (parts-within rows is.parts named is.are_named))
    (All-cons NamesRows (Clause [] ((length rows + 1) ∷ [])) []
    (All-cons (λ hint. 1 ≤ hint) (length rows + 1) [] (omega arith) (All-nil (λ hint. 1 ≤ hint)))
    (All-nil NamesRows)))

-- ---- lines

number_short : (n : ℕ) → n < 2 ^ 64 → length (number_text n) ≤ 21
number_short n small =
    omega
    (arith, length-append (decimal n) (codes " "), length-decimal-le 20 n (omega arith) (omega (arith, small)) small)

part_short : (p : Part) → p.factor ≡ 1 → p.row < 2 ^ 64 → length (part_text p) ≤ 42
part_short p once small =
    omega (
      arith,
      length-append (number_text p.factor) (number_text p.row),
      number_short p.factor (omega (arith, once)),
      number_short p.row small,
    )

linear_short : (rows : List Row) (parts : List Part) (named : List Row) → AreNamed rows parts named
    → length rows < 2 ^ 32 → length named ≤ 1000 → length (step_text Two (Linear parts 1)) ≤ most_bytes
linear_short rows parts named are few short =
    let within = parts-within rows parts named are in
    let texts : sum_by (λ p. length (part_text p)) parts ≤ length parts * 42 =
    sum_by-le (λ p. length (part_text p)) 42 parts
    (λ k d inside.
    part_short (get_or parts k d) (are.once k d inside) (omega (arith, (within k d inside).1, few))) in
    omega (
      arith,
      length-append (codes "l ") (linear_text parts 1),
      length-append (flat_map part_text parts) (codes "0 " ++ decimal 1),
      length-append (codes "0 ") (decimal 1),
      length-flat_map part_text parts,
      length-decimal-le 20 1 (omega arith) (omega arith) (omega arith),
      texts,
      parts-count rows parts named are,
      short,
    )

clause_short : (rows : List Row) → length rows < 2 ^ 32
    → length (step_text Two (Clause [] ((length rows + 1) ∷ []))) ≤ most_bytes
clause_short rows few =
    let hints : List ℕ = (length rows + 1) ∷ [] in
    omega (
      arith,
      length-append (flat_map number_text hints) (codes "0"),
      length-flat_map number_text hints,
      number_short (length rows + 1) (omega (arith, few)),
    )

pub short-lines : (rows named : List Row) (log : List Step) → AddsUp rows named log → length rows < 2 ^ 32
    → length named ≤ 1000 → HasShortLines log
short-lines rows named log is few short =
    subst (λ (steps : List Step). HasShortLines steps) (sym is.steps)
    (All-cons (λ (step : Step). length (step_text Two step) ≤ most_bytes) (Linear is.parts 1)
    (Clause [] ((length rows + 1) ∷ []) ∷ []) (linear_short rows is.parts named is.are_named few short)
    (All-cons (λ (step : Step). length (step_text Two step) ≤ most_bytes) (Clause [] ((length rows + 1) ∷ [])) []
    (clause_short rows few) (All-nil (λ (step : Step). length (step_text Two step) ≤ most_bytes))))

-- two steps over parts that name these rows
pub adds-up-as : (rows shown : List Row) (parts seen : List Part) (named : List Row) (log : List Step) → shown ≡ rows
    → seen ≡ parts → AreNamed rows parts named
    → log ≡ Linear seen 1 ∷ Clause [] ((length shown + 1) ∷ []) ∷ [] → AddsUp rows named log
adds-up-as rows shown parts seen named log same are_those are steps = record {
  parts = parts;
  are_named = are;
  steps = steps
      ∙ ap (λ (ps : List Part). Linear ps 1 ∷ Clause [] ((length shown + 1) ∷ []) ∷ []) are_those
      ∙ ap (λ (rs : List Row). Linear parts 1 ∷ Clause [] ((length rs + 1) ∷ []) ∷ []) same;
}
