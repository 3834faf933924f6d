-- Keys of a class with as many literals, bounded by as much. Where games or breaks are counted, the keys of a subject are
-- alike at all places. Where two teams are compared, the keys of each two are those of teams 0 and 1.
use Rattle.std.proofs.Common.{◌≡◌, ℕ, ◌*◌, ◌<◌, true, false, List, [], ◌∷◌, get_or, length, map, refl, ap, sym, ◌∙◌, arith}
use Rattle.std.proofs.lemmas.List.{length-map}
use Rattle.std.proofs.lemmas.List.FromFn.{length-range_with_len}
use Rattle.std.specs.List.{All, filter, flat_map, range_with_len}
use Rattle.league.specs.Capacity.{is_between, meetings_with}
use Rattle.league.specs.Instance.{class_fits}
use Rattle.league.specs.Meetings.{meetings_of, pairs_of}
use Rattle.league.specs.Shapes.{has_bounds}
use Rattle.league.specs.declared.class.Class.{Class}
use Rattle.league.specs.declared.class.Class.TheVariants.{Ca1, Ca2, Ca3, Ca4, Ga1, Br1, Br2, Fa2, Se1}
use Rattle.league.specs.declared.class.Side.TheVariants.{Both}
use Rattle.league.specs.declared.class.Span.TheVariants.{Every}
use Rattle.league.proofs.SumLemmas.{sum_by-flat_map, sum_by-map, sum_by-same}
use Rattle.rows.specs.Rows.{Row, size_of}
use Rattle.encoding.specs.Encoding.{class_rows}
use Rattle.encoding.specs.Keys.{Bounded, key_of, places_of, rows_of_key, rows_of_subject, separation, subjects_of}
use Rattle.encoding.specs.Lists.{games_in, meetings_in_order}
use Rattle.encoding.specs.declared.subjects.Subject.{Subject}
use Rattle.encoding.specs.declared.subjects.Subject.TheVariants.{Whole, Team, Pair}
use Rattle.encoding.proofs.FewLemmas.{pairs_fit}
use Rattle.encoding.proofs.KeyLaws.{class_rows-keys}
use Rattle.encoding.specs.Terms.{between_terms}
use Rattle.encoding.proofs.ClassSizeLemmas.{fa2-pair, two_meetings}
use Rattle.encoding.proofs.SizeLemmas.{length-games_in, size_of-between, sum_by-constant, sum_by-same_at}

-- ---- at all places

-- what depends on a key's bounds and on the number of its literals alone
abbrev pub measured : (ℕ → ℕ → ℕ → ℕ) → Bounded → ℕ
measured size key = size key.low key.high (length key.literals)

-- as many games in as many slots
games_alike : (n : ℕ) (meetings : List (ℕ × ℕ)) (xs ys : List ℕ) → length xs ≡ length ys
    → length (games_in n meetings xs) ≡ length (games_in n meetings ys)
games_alike n meetings xs ys same =
    length-games_in n meetings xs ∙ ap (λ (k : ℕ). length meetings * k) same ∙ sym (length-games_in n meetings ys)

windows_alike : (p q long : ℕ) → length (range_with_len p long) ≡ length (range_with_len q long)
windows_alike p q long = length-range_with_len p long ∙ sym (length-range_with_len q long)

pub places_alike : (size : ℕ → ℕ → ℕ → ℕ) (n : ℕ) (class : Class) (subject : Subject) (p q : ℕ)
    → has_bounds class ≡ true
    → measured size (key_of n class subject p) ≡ measured size (key_of n class subject q)
places_alike size n (Ca3 teams1 teams2 min max intp side) (Team i) p q bounds =
    ap (size min max)
    (games_alike n (meetings_in_order side i teams2) (range_with_len p intp) (range_with_len q intp)
    (windows_alike p q intp))
places_alike size n (Ca4 teams1 teams2 min max side Every slots) Whole p q bounds =
    ap (size min max)
    (games_alike n (filter (is_between side teams1 teams2) (meetings_of n)) (p ∷ []) (q ∷ []) refl)
places_alike size n (Fa2 teams intp slots) subject p q bounds = absurd (cc)
places_alike size n (Se1 teams min) subject p q bounds = absurd (cc)
places_alike size n _ Whole p q bounds = refl
places_alike size n _ (Team i) p q bounds = refl
places_alike size n _ (Pair i j) p q bounds = refl

pub size_of-places : (n : ℕ) (class : Class) (subject : Subject) (first : ℕ) → has_bounds class ≡ true
    → size_of (rows_of_subject n class subject)
    ≡ length (places_of n class) * size_of (rows_of_key (key_of n class subject first))
size_of-places n class subject first bounds =
    let key : ℕ → Bounded = λ place. key_of n class subject place in
    let same : (place : ℕ) → size_of (rows_of_key (key place)) ≡ size_of (rows_of_key (key first)) = λ place.
    size_of-between (key place).low (key place).high (key place).literals
    ∙ places_alike between_terms n class subject place first bounds
    ∙ sym (size_of-between (key first).low (key first).high (key first).literals) in
    sum_by-flat_map (λ (r : Row). length r.terms) (λ place. rows_of_key (key place)) (places_of n class)
    ∙ sum_by-same (λ place. size_of (rows_of_key (key place))) (λ place. size_of (rows_of_key (key first))) same
    (places_of n class)
    ∙ sum_by-constant (size_of (rows_of_key (key first))) (places_of n class)

-- ---- of each two teams

-- an SE1: two games in each slot of a window
se1-window : (n : ℕ) (teams : List ℕ) (min i j place : ℕ) → i < j
    → size_of (rows_of_key (key_of n (Se1 teams min) (Pair i j) place)) ≡ between_terms 0 1 (2 * separation n min)
se1-window n teams min i j place order =
    let meetings : List (ℕ × ℕ) = meetings_with Both i (j ∷ []) in
    let window : List ℕ = range_with_len place (separation n min) in
    size_of-between 0 1 (games_in n meetings window)
    ∙ ap (between_terms 0 1)
    (length-games_in n meetings window
    ∙ ap (λ (k : ℕ). k * length window) (two_meetings i j order)
    ∙ ap (λ (k : ℕ). 2 * k) (length-range_with_len place (separation n min)))

se1-pair : (n : ℕ) (teams : List ℕ) (min i j : ℕ) → i < j
    → size_of (rows_of_subject n (Se1 teams min) (Pair i j)) ≡ size_of (rows_of_subject n (Se1 teams min) (Pair 0 1))
se1-pair n teams min i j order =
    let class : Class = Se1 teams min in
    let rows : Subject → ℕ → List Row = λ subject place. rows_of_key (key_of n class subject place) in
    sum_by-flat_map (λ (r : Row). length r.terms) (rows (Pair i j)) (places_of n class)
    ∙ sum_by-same (λ place. size_of (rows (Pair i j) place)) (λ place. size_of (rows (Pair 0 1) place))
    (λ place. se1-window n teams min i j place order ∙ sym (se1-window n teams min 0 1 place (omega arith)))
    (places_of n class)
    ∙ sym (sum_by-flat_map (λ (r : Row). length r.terms) (rows (Pair 0 1)) (places_of n class))

-- pairs whose rows have as many terms as those of teams 0 and 1
pairs_alike : (n : ℕ) (class : Class) (pairs : List (ℕ × ℕ))
    → All (λ p. size_of (rows_of_subject n class (Pair p.0 p.1)) ≡ size_of (rows_of_subject n class (Pair 0 1))) pairs
    → size_of (flat_map (rows_of_subject n class) (map (λ p. Pair p.0 p.1) pairs))
    ≡ length (map {B = Subject} (λ p. Pair p.0 p.1) pairs) * size_of (rows_of_subject n class (Pair 0 1))
pairs_alike n class pairs same =
    let rows : Subject → List Row = rows_of_subject n class in
    sum_by-flat_map (λ (r : Row). length r.terms) rows (map (λ p. Pair p.0 p.1) pairs)
    ∙ sum_by-map (λ s. size_of (rows s)) (λ p. Pair p.0 p.1) pairs
    ∙ sum_by-same_at (λ p. size_of (rows (Pair p.0 p.1))) (λ p. size_of (rows (Pair 0 1))) pairs same
    ∙ sum_by-constant (size_of (rows (Pair 0 1))) pairs
    ∙ ap (λ (k : ℕ). k * size_of (rows (Pair 0 1))) (sym (length-map {B = Subject} pairs (λ p. Pair p.0 p.1)))

pub size_of-pairs : (n : ℕ) (class : Class) → class_fits n class ≡ true → has_bounds class ≡ false
    → size_of (class_rows n class) ≡ length (subjects_of class) * size_of (rows_of_subject n class (Pair 0 1))
size_of-pairs n (Fa2 teams intp slots) fits pairs =
    ap size_of (class_rows-keys n (Fa2 teams intp slots))
    ∙ pairs_alike n (Fa2 teams intp slots) (pairs_of teams)
    (λ k d there. fa2-pair n teams intp slots (get_or (pairs_of teams) k d)
    ∙ sym (fa2-pair n teams intp slots (0, 1)))
size_of-pairs n (Se1 teams min) fits pairs =
    ap size_of (class_rows-keys n (Se1 teams min))
    ∙ pairs_alike n (Se1 teams min) (pairs_of teams)
    (λ k d there.
    let p : ℕ × ℕ = get_or (pairs_of teams) k d in
    se1-pair n teams min p.0 p.1 (pairs_fit n teams teams (pairs_of teams) fits refl refl k d there).order)
size_of-pairs n (Ca1 teams min max side slots) fits pairs = absurd (cc)
size_of-pairs n (Ca2 teams1 teams2 min max side slots) fits pairs = absurd (cc)
size_of-pairs n (Ca3 teams1 teams2 min max intp side) fits pairs = absurd (cc)
size_of-pairs n (Ca4 teams1 teams2 min max side span slots) fits pairs = absurd (cc)
size_of-pairs n (Ga1 meetings min max slots) fits pairs = absurd (cc)
size_of-pairs n (Br1 teams intp side slots) fits pairs = absurd (cc)
size_of-pairs n (Br2 teams intp slots) fits pairs = absurd (cc)
