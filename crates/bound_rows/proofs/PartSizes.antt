-- How many terms all parts of a class have, those of SE1 left out.
use Rattle.std.proofs.Common.{◌≡◌, ℕ, ◌+◌, ◌-◌, ◌*◌, ◌<◌, max, true, List, [], ◌∷◌, ◌++◌, length, get_or, map, take}
use Rattle.std.proofs.Common.{refl, sym, ap, ◌∙◌, arith}
use Rattle.std.proofs.lemmas.List.{append-nil, length-map, take_more}
use Rattle.std.proofs.lemmas.List.Sums.{sum_by-append}
use Rattle.std.specs.List.{filter, flat_map, fold, range_with_len, sum_by}
use Rattle.league.specs.Bounds.{largest}
use Rattle.league.specs.Capacity.{is_between, windows_of}
use Rattle.league.specs.Counts.{slot_count}
use Rattle.league.specs.Meetings.{meetings_of, pairs_of}
use Rattle.league.specs.Names.{name_of}
use Rattle.league.specs.Shapes.{has_bounds}
use Rattle.league.specs.declared.class.Class.{Class}
use Rattle.league.specs.declared.class.Class.TheVariants.{Ca1, Ca2, Ca3, Ca4, Ga1, Br1, Br2, Fa2, Se1}
use Rattle.league.specs.declared.class.ClassName.TheVariants as name
use Rattle.league.specs.declared.class.Side.{Side}
use Rattle.league.specs.declared.class.Span.{Span}
use Rattle.league.specs.declared.class.Span.TheVariants.{Global, Every}
use Rattle.league.proofs.SumLemmas.{sum_by-flat_map, sum_by-map, sum_by-same}
use Rattle.rows.specs.Literals.{Literal}
use Rattle.rows.specs.Rows.{Row}
use Rattle.encoding.specs.Keys.{Bounded, key_of, places_of, rows_of_subject, subjects_of}
use Rattle.encoding.specs.Lists.{away_breaks_at, breaks_in, games_in, home_breaks_at, meetings_in_order}
use Rattle.encoding.specs.Lists.{slots_up_to, venues_in}
use Rattle.encoding.specs.declared.subjects.Subject.{Subject}
use Rattle.encoding.specs.declared.subjects.Subject.TheVariants.{Whole, Team, Pair}
use Rattle.encoding.proofs.KeyLaws.{class_rows-keys}
use Rattle.encoding.proofs.AlikeKeys.{measured, places_alike}
use Rattle.encoding.proofs.ClassSizeLemmas.{length-lead}
use Rattle.encoding.proofs.SizeLemmas.{sum_by-constant}
use Rattle.bound_rows.specs.Parts.{ca3_parts, parts_of}
use Rattle.bound_rows.specs.Sizes.{between_size, between_units, bounds_size, group_size, key_rows_size, key_size}
use Rattle.bound_rows.specs.Sizes.{key_units, part_size, parts_size, shared_size, shared_units, subject_size}
use Rattle.bound_rows.specs.Sizes.{subjects_size, units_size}
use Rattle.bound_rows.proofs.GroupSizes.{group_size-shared, listed_size-between, listed_size-most}

-- parts that all have as many terms
alike : {K : Type 0} (n c : ℕ) (part : K → Class) → ((k : K) → part_size n (part k) ≡ c) → (keys : List K)
    → parts_size n (map part keys) ≡ length keys * c
alike n c part same keys =
    sum_by-map (part_size n) part keys
    ∙ sum_by-same (λ k. part_size n (part k)) (λ k. c) same keys
    ∙ sum_by-constant c keys

-- ---- classes that count games or breaks

-- a sum to which the next term comes
pub sum_by-more : {X : Type 0} (f : X → ℕ) (xs : List X) (k : ℕ) (x : X) (total more : ℕ) → k < length xs
    → total ≡ sum_by f (take k xs) → x ≡ get_or xs k x → more ≡ f x → total + more ≡ sum_by f (take (k + 1) xs)
sum_by-more f xs k x total more there so_far is more_is =
    omega (
      arith,
      so_far,
      more_is,
      ap (sum_by f) (take_more xs k x there),
      sum_by-append f (take k xs) (get_or xs k x ∷ []),
      ap f is,
    )

-- the keys of a subject are alike at all places
pub subject_size-places : (n : ℕ) (class : Class) (subject : Subject) (first : ℕ) → has_bounds class ≡ true
    → subject_size n class subject ≡ length (places_of n class) * key_size (key_of n class subject first)
subject_size-places n class subject first bounds =
    let size : ℕ → ℕ = λ place. key_size (key_of n class subject place) in
    sum_by-same size (λ place. size first)
    (λ place. places_alike between_size n class subject place first bounds) (places_of n class)
    ∙ sum_by-constant (size first) (places_of n class)

-- at one place
once : (f : ℕ → ℕ) → f 0 ≡ sum_by f (0 ∷ [])
once f = omega arith

-- of all together
alone : (f : Subject → ℕ) → f Whole ≡ sum_by f (Whole ∷ [])
alone f = omega arith

-- a part for each subject
by_subject : {K : Type 0} (n : ℕ) (class : Class) (part : K → Class) (subject : K → Subject)
    → ((k : K) → part_size n (part k) ≡ subject_size n class (subject k)) → (keys : List K)
    → parts_size n (map part keys) ≡ sum_by (subject_size n class) (map subject keys)
by_subject n class part subject same keys =
    sum_by-map (part_size n) part keys
    ∙ sum_by-same (λ k. part_size n (part k)) (λ k. subject_size n class (subject k)) same keys
    ∙ sym (sum_by-map (subject_size n class) subject keys)

ca1-parts_size : (n : ℕ) (teams : List ℕ) (min max : ℕ) (side : Side) (slots : List ℕ)
    → parts_size n (parts_of n (Ca1 teams min max side slots)) ≡ subjects_size n (Ca1 teams min max side slots)
ca1-parts_size n teams min max side slots =
    let class : Class = Ca1 teams min max side slots in
    by_subject n class (λ i. Ca1 (i ∷ []) min max side slots) Team
    (λ i. listed_size-between min max (venues_in side n i slots) ∙ once (λ place. key_size (key_of n class (Team i) place)))
    teams

ca2-parts_size : (n : ℕ) (teams1 teams2 : List ℕ) (min max : ℕ) (side : Side) (slots : List ℕ)
    → parts_size n (parts_of n (Ca2 teams1 teams2 min max side slots))
    ≡ subjects_size n (Ca2 teams1 teams2 min max side slots)
ca2-parts_size n teams1 teams2 min max side slots =
    let class : Class = Ca2 teams1 teams2 min max side slots in
    by_subject n class (λ i. Ca2 (i ∷ []) teams2 min max side slots) Team
    (λ i. listed_size-between min max (games_in n (meetings_in_order side i teams2) slots)
    ∙ once (λ place. key_size (key_of n class (Team i) place))) teams1

-- a part for each window
ca3-subject_size : (n : ℕ) (teams1 teams2 : List ℕ) (min max intp : ℕ) (side : Side) (i : ℕ)
    → parts_size n (ca3_parts n teams2 min max intp side i)
    ≡ subject_size n (Ca3 teams1 teams2 min max intp side) (Team i)
ca3-subject_size n teams1 teams2 min max intp side i =
    let class : Class = Ca3 teams1 teams2 min max intp side in
    let part : List ℕ → Class = Ca2 (i ∷ []) teams2 min max side in
    let window : ℕ → List ℕ = λ first. range_with_len first intp in
    let firsts : List ℕ = range_with_len 0 (slot_count n + 1 - intp) in
    sum_by-map (part_size n) part (windows_of n intp)
    ∙ sum_by-map (λ slots. part_size n (part slots)) window firsts
    ∙ sum_by-same (λ first. part_size n (part (window first))) (λ place. key_size (key_of n class (Team i) place))
    (λ first. listed_size-between min max (games_in n (meetings_in_order side i teams2) (window first))) firsts

ca3-parts_size : (n : ℕ) (teams1 teams2 : List ℕ) (min max intp : ℕ) (side : Side)
    → parts_size n (parts_of n (Ca3 teams1 teams2 min max intp side))
    ≡ subjects_size n (Ca3 teams1 teams2 min max intp side)
ca3-parts_size n teams1 teams2 min max intp side =
    let class : Class = Ca3 teams1 teams2 min max intp side in
    sum_by-flat_map (part_size n) (ca3_parts n teams2 min max intp side) teams1
    ∙ sum_by-same (λ i. parts_size n (ca3_parts n teams2 min max intp side i)) (λ i. subject_size n class (Team i))
    (ca3-subject_size n teams1 teams2 min max intp side) teams1
    ∙ sym (sum_by-map (subject_size n class) Team teams1)

-- all slots together, or each
ca4-part_size : (n : ℕ) (teams1 teams2 : List ℕ) (min max : ℕ) (side : Side) (slots : List ℕ)
    → part_size n (Ca4 teams1 teams2 min max side Global slots)
    ≡ between_size min max (length (games_in n (filter (is_between side teams1 teams2) (meetings_of n)) slots))
ca4-part_size n teams1 teams2 min max side slots =
    listed_size-between min max (games_in n (filter (is_between side teams1 teams2) (meetings_of n)) slots)

ca4-parts_size : (n : ℕ) (teams1 teams2 : List ℕ) (min max : ℕ) (side : Side) (span : Span) (slots : List ℕ)
    → parts_size n (parts_of n (Ca4 teams1 teams2 min max side span slots))
    ≡ subjects_size n (Ca4 teams1 teams2 min max side span slots)
ca4-parts_size n teams1 teams2 min max side Global slots =
    let class : Class = Ca4 teams1 teams2 min max side Global slots in
    by_subject n class (λ (one : Unit {0}). class) (λ one. Whole)
    (λ one. ca4-part_size n teams1 teams2 min max side slots
    ∙ once (λ place. key_size (key_of n class Whole place))) (tt ∷ [])
ca4-parts_size n teams1 teams2 min max side Every slots =
    let class : Class = Ca4 teams1 teams2 min max side Every slots in
    let part : List ℕ → Class = Ca4 teams1 teams2 min max side Global in
    sum_by-map (part_size n) part (map (λ s. s ∷ []) slots)
    ∙ sum_by-map (λ (some : List ℕ). part_size n (part some)) (λ s. s ∷ []) slots
    ∙ sum_by-same (λ s. part_size n (part (s ∷ []))) (λ place. key_size (key_of n class Whole place))
    (λ s. ca4-part_size n teams1 teams2 min max side (s ∷ [])) slots
    ∙ alone (subject_size n class)

ga1-parts_size : (n : ℕ) (meetings : List (ℕ × ℕ)) (min max : ℕ) (slots : List ℕ)
    → parts_size n (parts_of n (Ga1 meetings min max slots)) ≡ subjects_size n (Ga1 meetings min max slots)
ga1-parts_size n meetings min max slots =
    let class : Class = Ga1 meetings min max slots in
    by_subject n class (λ (one : Unit {0}). class) (λ one. Whole)
    (λ one. listed_size-between min max (games_in n meetings slots)
    ∙ once (λ place. key_size (key_of n class Whole place))) (tt ∷ [])

br1-parts_size : (n : ℕ) (teams : List ℕ) (intp : ℕ) (side : Side) (slots : List ℕ)
    → parts_size n (parts_of n (Br1 teams intp side slots)) ≡ subjects_size n (Br1 teams intp side slots)
br1-parts_size n teams intp side slots =
    let class : Class = Br1 teams intp side slots in
    by_subject n class (λ i. Br1 (i ∷ []) intp side slots) Team
    (λ i. listed_size-most intp (breaks_in side n i slots) ∙ once (λ place. key_size (key_of n class (Team i) place)))
    teams

br2-parts_size : (n : ℕ) (teams : List ℕ) (intp : ℕ) (slots : List ℕ)
    → parts_size n (parts_of n (Br2 teams intp slots)) ≡ subjects_size n (Br2 teams intp slots)
br2-parts_size n teams intp slots =
    let class : Class = Br2 teams intp slots in
    let home : List Literal = flat_map (λ i. home_breaks_at n i slots) teams in
    let away : List Literal = flat_map (λ i. away_breaks_at n i slots) teams in
    by_subject n class (λ (one : Unit {0}). class) (λ one. Whole)
    (λ one. listed_size-most intp (home ++ away) ∙ once (λ place. key_size (key_of n class Whole place))) (tt ∷ [])

pub parts_size-counted : (n : ℕ) (class : Class) → has_bounds class ≡ true
    → parts_size n (parts_of n class) ≡ subjects_size n class
parts_size-counted n (Ca1 teams min max side slots) bounds = ca1-parts_size n teams min max side slots
parts_size-counted n (Ca2 teams1 teams2 min max side slots) bounds =
    ca2-parts_size n teams1 teams2 min max side slots
parts_size-counted n (Ca3 teams1 teams2 min max intp side) bounds = ca3-parts_size n teams1 teams2 min max intp side
parts_size-counted n (Ca4 teams1 teams2 min max side span slots) bounds =
    ca4-parts_size n teams1 teams2 min max side span slots
parts_size-counted n (Ga1 meetings min max slots) bounds = ga1-parts_size n meetings min max slots
parts_size-counted n (Br1 teams intp side slots) bounds = br1-parts_size n teams intp side slots
parts_size-counted n (Br2 teams intp slots) bounds = br2-parts_size n teams intp slots
parts_size-counted n (Fa2 teams intp slots) bounds = absurd (cc)
parts_size-counted n (Se1 teams min) bounds = absurd (cc)

-- ---- fairness

-- any two teams have as many literals at a slot as teams 0 and 1
fa2-alike : (size : ℕ → ℕ → ℕ → ℕ) (n : ℕ) (teams : List ℕ) (intp : ℕ) (slots : List ℕ) (i j s : ℕ)
    → measured size (key_of n (Fa2 teams intp slots) (Pair i j) s)
    ≡ measured size (key_of n (Fa2 teams intp slots) (Pair 0 1) s)
fa2-alike size n teams intp slots i j s =
    ap (size (s + 1 - intp) (s + 1 + intp))
    (sym (length-lead n i j (slots_up_to s)) ∙ length-lead n 0 1 (slots_up_to s))

largest-same : (f g : ℕ → ℕ) → ((x : ℕ) → f x ≡ g x) → (a : ℕ) (xs : List ℕ)
    → fold (λ b x. max b (f x)) a xs ≡ fold (λ b x. max b (g x)) a xs
largest-same f g same a [] = refl
largest-same f g same a (x ∷ xs) =
    ap (λ (y : ℕ). fold (λ b z. max b (f z)) (max a y) xs) (same x) ∙ largest-same f g same (max a (g x)) xs

fa2-shared_size : (n : ℕ) (teams : List ℕ) (intp : ℕ) (slots : List ℕ) (i j : ℕ)
    → shared_size n (Fa2 teams intp slots) (Pair i j) ≡ shared_size n (Fa2 teams intp slots) (Pair 0 1)
fa2-shared_size n teams intp slots i j =
    let key : ℕ → ℕ → ℕ → Bounded = λ i j place. key_of n (Fa2 teams intp slots) (Pair i j) place in
    let size : ℕ → ℕ → ℕ → ℕ = λ u i j. sum_by (λ place. key_rows_size u (key i j place)) slots in
    let units : ℕ = shared_units n (Fa2 teams intp slots) (Pair 0 1) in
    ap (λ (u : ℕ). size u i j + units_size u)
    (largest-same (λ place. key_units (key i j place)) (λ place. key_units (key 0 1 place))
    (fa2-alike between_units n teams intp slots i j) 0 slots)
    ∙ ap (λ (k : ℕ). k + units_size units)
    (sum_by-same (λ place. key_rows_size units (key i j place)) (λ place. key_rows_size units (key 0 1 place))
    (fa2-alike (bounds_size units) n teams intp slots i j) slots)

fa2-part_size : (n : ℕ) (teams : List ℕ) (intp : ℕ) (slots : List ℕ) (p : ℕ × ℕ)
    → part_size n (Fa2 (p.0 ∷ p.1 ∷ []) intp slots) ≡ shared_size n (Fa2 teams intp slots) (Pair 0 1)
fa2-part_size n teams intp slots p =
    let part : Class = Fa2 (p.0 ∷ p.1 ∷ []) intp slots in
    ap (λ (rows : List Row). group_size (largest (λ row. row.degree) rows) rows)
    (class_rows-keys n part ∙ append-nil (rows_of_subject n part (Pair p.0 p.1)))
    ∙ group_size-shared n part (Pair p.0 p.1)
    ∙ fa2-shared_size n teams intp slots p.0 p.1

pub parts_size-fa2 : (n : ℕ) (class : Class) → name_of class ≡ name.Fa2
    → parts_size n (parts_of n class) ≡ length (subjects_of class) * shared_size n class (Pair 0 1)
parts_size-fa2 n (Fa2 teams intp slots) is =
    let each : ℕ = shared_size n (Fa2 teams intp slots) (Pair 0 1) in
    alike n each (λ p. Fa2 (p.0 ∷ p.1 ∷ []) intp slots) (fa2-part_size n teams intp slots) (pairs_of teams)
    ∙ ap (λ (k : ℕ). k * each) (sym (length-map {B = Subject} (pairs_of teams) (λ p. Pair p.0 p.1)))
parts_size-fa2 n (Ca1 teams min max side slots) is = absurd (cc)
parts_size-fa2 n (Ca2 teams1 teams2 min max side slots) is = absurd (cc)
parts_size-fa2 n (Ca3 teams1 teams2 min max intp side) is = absurd (cc)
parts_size-fa2 n (Ca4 teams1 teams2 min max side span slots) is = absurd (cc)
parts_size-fa2 n (Ga1 meetings min max slots) is = absurd (cc)
parts_size-fa2 n (Br1 teams intp side slots) is = absurd (cc)
parts_size-fa2 n (Br2 teams intp slots) is = absurd (cc)
parts_size-fa2 n (Se1 teams min) is = absurd (cc)
