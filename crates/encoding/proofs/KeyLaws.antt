-- The rows of a class are those of its subjects, place by place.
use Rattle.std.proofs.Common.{◌≡◌, ℕ, ◌+◌, ◌-◌, ◌*◌, List, [], ◌∷◌, ◌++◌, length, length-append, map, refl, ap, sym, ◌∙◌, arith}
use Rattle.std.proofs.lemmas.List.{append-nil, length-map}
use Rattle.std.proofs.lemmas.List.Elements.{filter-append}
use Rattle.std.proofs.lemmas.List.Folds.{flat_map-map}
use Rattle.std.proofs.lemmas.List.FromFn.{length-range_with_len}
use Rattle.std.specs.List.{filter, flat_map, range_with_len}
use Rattle.league.specs.Capacity.{meetings_with, windows_of}
use Rattle.league.specs.Counts.{slot_count}
use Rattle.league.specs.Meetings.{pairs_of}
use Rattle.league.specs.declared.class.Class.{Class}
use Rattle.league.specs.declared.class.Class.TheVariants.{Ca1, Ca2, Ca3, Ca4, Ga1, Br1, Br2, Fa2, Se1}
use Rattle.league.specs.declared.class.Side.{Side}
use Rattle.league.specs.declared.class.Side.TheVariants.{Both}
use Rattle.league.specs.declared.class.Span.TheVariants.{Global, Every}
use Rattle.league.proofs.ListLemmas.{flat_map-same}
use Rattle.rows.specs.Cardinality.{at_least, at_most}
use Rattle.rows.specs.Literals.{Literal, negate, no, yes}
use Rattle.rows.specs.Rows.{Row}
use Rattle.encoding.specs.Demands.{br1_rows, br2_rows, ca1_rows, ca2_rows, ca3_rows, ca4_rows, fa2_rows, fa2_rows_at}
use Rattle.encoding.specs.Demands.{ga1_rows, se1_rows, separation_windows}
use Rattle.encoding.specs.Encoding.{class_rows, demands}
use Rattle.encoding.specs.Keys.{key_of, rows_by_subject, rows_of_key, rows_of_subject, separation}
use Rattle.encoding.specs.Lists.{at_home_in, away_in, games_in, slots_up_to}
use Rattle.encoding.specs.Variables.{h_var}
use Rattle.encoding.specs.declared.subjects.Subject.{Subject}
use Rattle.encoding.specs.declared.subjects.Subject.TheVariants.{Whole, Team, Pair}
use Rattle.encoding.proofs.KeyRowLemmas.{filter-flat_map, key_rows, one_key_rows}

-- the entries of a class, each of a subject of its own
by_subject : {K : Type 0} (n : ℕ) (class : Class) (rows : K → List Row) (subject : K → Subject)
    → ((k : K) → filter demands (rows k) ≡ rows_of_subject n class (subject k)) → (keys : List K)
    → filter demands (flat_map (λ rows. rows) (map rows keys))
    ≡ flat_map (rows_of_subject n class) (map subject keys)
by_subject n class rows subject same keys =
    key_rows rows keys
    ∙ flat_map-same (λ k. filter demands (rows k)) (λ k. rows_of_subject n class (subject k)) same keys
    ∙ sym (flat_map-map (rows_of_subject n class) subject keys)

-- at one place
once : (rows : List Row) → filter demands rows ≡ filter demands rows ++ []
once rows = sym (append-nil (filter demands rows))

-- one entry, of all together
alone : (rows : List Row) → filter demands (flat_map (λ rows. rows) (rows ∷ [])) ≡ (filter demands rows ++ []) ++ []
alone rows = one_key_rows rows ∙ once rows ∙ sym (append-nil (filter demands rows ++ []))

-- rows that are mapped, one by one
filter-map : {X : Type 0} (f : X → Row) (xs : List X)
    → filter demands (map f xs) ≡ flat_map (λ x. filter demands (f x ∷ [])) xs
filter-map f [] = refl
filter-map f (x ∷ xs) =
    filter-append demands (f x ∷ []) (map f xs) ∙ ap (λ ys. filter demands (f x ∷ []) ++ ys) (filter-map f xs)

-- CA3: window by window
windows : (n : ℕ) (teams1 teams2 : List ℕ) (min max intp : ℕ) (side : Side) (i : ℕ)
    → filter demands (ca3_rows n teams2 min max intp side i)
    ≡ rows_of_subject n (Ca3 teams1 teams2 min max intp side) (Team i)
windows n teams1 teams2 min max intp side i =
    filter-flat_map demands (λ window. ca2_rows n teams2 min max side window i) (windows_of n intp)
    ∙ flat_map-map (λ (window : List ℕ). filter demands (ca2_rows n teams2 min max side window i))
    (λ first. range_with_len first intp) (range_with_len 0 (slot_count n + 1 - intp))

-- CA4: slot by slot
slots_apart : (n : ℕ) (teams1 teams2 : List ℕ) (min max : ℕ) (side : Side) (slots : List ℕ)
    → class_rows n (Ca4 teams1 teams2 min max side Every slots)
    ≡ rows_by_subject n (Ca4 teams1 teams2 min max side Every slots)
slots_apart n teams1 teams2 min max side slots =
    key_rows (ca4_rows n teams1 teams2 min max side) (map (λ s. s ∷ []) slots)
    ∙ flat_map-map (λ (part : List ℕ). filter demands (ca4_rows n teams1 teams2 min max side part)) (λ s. s ∷ []) slots
    ∙ sym (append-nil (rows_of_subject n (Ca4 teams1 teams2 min max side Every slots) Whole))

-- FA2: a team is away as often as another one is at home, give or take so many, where it is at home and the other one
-- away
negate_lead : (n i j : ℕ) (xs ys : List ℕ)
    → map negate (away_in n i xs ++ at_home_in n j ys) ≡ at_home_in n i xs ++ away_in n j ys
negate_lead n i j [] [] = refl
negate_lead n i j [] (y ∷ ys) = ap (λ (ls : List Literal). no (h_var n j y) ∷ ls) (negate_lead n i j [] ys)
negate_lead n i j (x ∷ xs) ys = ap (λ (ls : List Literal). yes (h_var n i x) ∷ ls) (negate_lead n i j xs ys)

lead_literals : (n i j s : ℕ)
    → length (away_in n i (slots_up_to s) ++ at_home_in n j (slots_up_to s)) ≡ 2 * (s + 1)
lead_literals n i j s =
    omega (
      arith,
      length-append (away_in n i (slots_up_to s)) (at_home_in n j (slots_up_to s)),
      length-map (slots_up_to s) (λ t. no (h_var n i t)),
      length-map (slots_up_to s) (λ t. yes (h_var n j t)),
      length-range_with_len 0 (s + 1),
    )

lag_row : (n intp i j s : ℕ)
    → at_least (s + 1 - intp) (at_home_in n i (slots_up_to s) ++ away_in n j (slots_up_to s))
    ≡ at_most (s + 1 + intp) (away_in n i (slots_up_to s) ++ at_home_in n j (slots_up_to s))
lag_row n intp i j s =
    let lead : List Literal = away_in n i (slots_up_to s) ++ at_home_in n j (slots_up_to s) in
    let degree : s + 1 - intp ≡ length lead - (s + 1 + intp) = omega (arith, lead_literals n i j s) in
    ap (at_least (s + 1 - intp)) (sym (negate_lead n i j (slots_up_to s) (slots_up_to s)))
    ∙ ap (λ (d : ℕ). at_least d (map negate lead)) degree

leads : (n : ℕ) (teams : List ℕ) (intp : ℕ) (slots : List ℕ) (p : ℕ × ℕ)
    → filter demands (fa2_rows n intp slots p) ≡ rows_of_subject n (Fa2 teams intp slots) (Pair p.0 p.1)
leads n teams intp slots p =
    let lead : ℕ → List Literal = λ s. away_in n p.0 (slots_up_to s) ++ at_home_in n p.1 (slots_up_to s) in
    filter-flat_map demands (fa2_rows_at n intp p) slots
    ∙ flat_map-same (λ s. filter demands (fa2_rows_at n intp p s))
    (λ s. rows_of_key (key_of n (Fa2 teams intp slots) (Pair p.0 p.1) s))
    (λ s. ap (λ (row : Row). filter demands (at_least (s + 1 - intp) (lead s) ∷ row ∷ [])) (lag_row n intp p.0 p.1 s))
    slots

-- SE1: window by window
parted : (n : ℕ) (teams : List ℕ) (min : ℕ) (p : ℕ × ℕ)
    → filter demands (se1_rows n min p) ≡ rows_of_subject n (Se1 teams min) (Pair p.0 p.1)
parted n teams min p =
    let long : ℕ = separation n min in
    let row : List ℕ → Row = λ window. at_most 1 (games_in n (meetings_with Both p.0 (p.1 ∷ [])) window) in
    filter-map row (separation_windows n min)
    ∙ flat_map-map (λ (window : List ℕ). filter demands (row window ∷ [])) (λ first. range_with_len first long)
    (range_with_len 0 (slot_count n + 1 - long))

pub class_rows-keys : (n : ℕ) (class : Class) → class_rows n class ≡ rows_by_subject n class
class_rows-keys n (Ca1 teams min max side slots) =
    by_subject n (Ca1 teams min max side slots) (ca1_rows n min max side slots) Team
    (λ i. once (ca1_rows n min max side slots i)) teams
class_rows-keys n (Ca2 teams1 teams2 min max side slots) =
    by_subject n (Ca2 teams1 teams2 min max side slots) (ca2_rows n teams2 min max side slots) Team
    (λ i. once (ca2_rows n teams2 min max side slots i)) teams1
class_rows-keys n (Ca3 teams1 teams2 min max intp side) =
    by_subject n (Ca3 teams1 teams2 min max intp side) (ca3_rows n teams2 min max intp side) Team
    (windows n teams1 teams2 min max intp side) teams1
class_rows-keys n (Ca4 teams1 teams2 min max side Global slots) =
    alone (ca4_rows n teams1 teams2 min max side slots)
class_rows-keys n (Ca4 teams1 teams2 min max side Every slots) =
    slots_apart n teams1 teams2 min max side slots
class_rows-keys n (Ga1 meetings min max slots) = alone (ga1_rows n meetings min max slots)
class_rows-keys n (Br1 teams intp side slots) =
    by_subject n (Br1 teams intp side slots) (br1_rows n intp side slots) Team
    (λ i. once (br1_rows n intp side slots i)) teams
class_rows-keys n (Br2 teams intp slots) = alone (br2_rows n teams intp slots)
class_rows-keys n (Fa2 teams intp slots) =
    by_subject n (Fa2 teams intp slots) (fa2_rows n intp slots) (λ p. Pair p.0 p.1) (leads n teams intp slots)
    (pairs_of teams)
class_rows-keys n (Se1 teams min) =
    by_subject n (Se1 teams min) (se1_rows n min) (λ p. Pair p.0 p.1) (parted n teams min) (pairs_of teams)
