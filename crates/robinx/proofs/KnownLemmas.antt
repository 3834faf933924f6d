-- The teams, the slots and the meetings of a league in order, and the sets that lists of them are read into.
use Rattle.std.proofs.Common.{◌≡◌, ◌≢◌, ℕ, zero, suc, ◌+◌, ◌<◌, ◌≤◌, Bool, true, false, not, ◌&&◌, cond, List, [], ◌∷◌, map, Ok, Err, inl, inr, refl, sym, ap, subst, arith}
use Rattle.std.specs.Prelude.{Result, nat_lt, ◌==◌, IfOk}
use Rattle.std.specs.Cmp.Derive.{both_true}
use Rattle.std.specs.List.{filter, flat_map, list_any, list_all, range_with_len}
use Rattle.std.specs.Ordering.{is_lt, nat_cmp}
use Rattle.std.proofs.Math.Nat.{eq-or-lt_of_le}
use Rattle.std.proofs.lemmas.Bool.Decides.{nat_tests}
use Rattle.league.specs.Sets.{ascends, is_in, pair_cmp}
use Rattle.league.specs.Counts.{teams_of, slot_count}
use Rattle.league.specs.Meetings.{others, meetings_of}
use Rattle.league.specs.Instance.{are_teams, are_slots, is_meeting, are_meetings}
use Rattle.robinx.specs.Fronts.{◌>>=◌}
use Rattle.robinx.specs.declared.tag_fault.FormKind.TheVariants.{UnknownTeam, UnknownSlot}
use Rattle.robinx.specs.Values.{Reading, team, slot, meeting, teams, slots, meetings, each, items_of}
use Rattle.robinx.specs.Gathered.{gathered}
use Rattle.robinx.specs.SeenPieces.{Gives}
use Rattle.robinx.specs.declared.tag_fault.Stop.{Stop}
use Rattle.robinx.proofs.SetLemmas.{Every, Among, Among-left, Among-right, Every-map, Every-append, Every-filter, every, all_true, IsOrder, Rises, Rises-append, filter-rises, ascends-rises, with_items-all}
use Rattle.robinx.proofs.ValueLemmas.{id_below, each-every, IsMeeting, meeting-is}

-- ---- the order of numbers and of pairs

abbrev same_number : ℕ → ℕ → Bool
same_number x y = x == y

abbrev same_pair : ℕ × ℕ → ℕ × ℕ → Bool
same_pair p q = p.0 == q.0 && p.1 == q.1

lt-itself : (x : ℕ) → is_lt (nat_cmp x x) ≡ false
lt-itself x = grind (arith, nat_tests)

lt-behind : (x y : ℕ) → is_lt (nat_cmp x y) ≡ true → is_lt (nat_cmp y x) ≡ false
lt-behind x y h = grind (arith, nat_tests)

pub lt-is : (x y : ℕ) → x < y → is_lt (nat_cmp x y) ≡ true
lt-is x y h = grind (arith, nat_tests)

number_order : IsOrder nat_cmp same_number
number_order = record {
  itself = lt-itself;
  behind = lt-behind;
  same_itself = λ x. grind (arith, nat_tests);
  differ = λ x y h. grind (arith, nat_tests);
  differ_behind = λ x y h. grind (arith, nat_tests);
}

pair-itself : (a b : ℕ) → is_lt (pair_cmp (a, b) (a, b)) ≡ false
pair-itself a b = grind (arith, nat_tests)

pair-behind : (a b c d : ℕ) → is_lt (pair_cmp (a, b) (c, d)) ≡ true → is_lt (pair_cmp (c, d) (a, b)) ≡ false
pair-behind a b c d h = grind (arith, nat_tests)

pair-same : (a b : ℕ) → same_pair (a, b) (a, b) ≡ true
pair-same a b = grind (arith, nat_tests)

pair-differ : (a b c d : ℕ) → is_lt (pair_cmp (a, b) (c, d)) ≡ true → same_pair (a, b) (c, d) ≡ false
pair-differ a b c d h = grind (arith, nat_tests)

pair-differ_behind : (a b c d : ℕ) → is_lt (pair_cmp (a, b) (c, d)) ≡ true → same_pair (c, d) (a, b) ≡ false
pair-differ_behind a b c d h = grind (arith, nat_tests)

pair_order : IsOrder pair_cmp same_pair
pair_order = record {
  itself = λ p. pair-itself p.0 p.1;
  behind = λ p q h. pair-behind p.0 p.1 q.0 q.1 h;
  same_itself = λ p. pair-same p.0 p.1;
  differ = λ p q h. pair-differ p.0 p.1 q.0 q.1 h;
  differ_behind = λ p q h. pair-differ_behind p.0 p.1 q.0 q.1 h;
}

pair-lt_first : (a b c d : ℕ) → is_lt (nat_cmp a c) ≡ true → is_lt (pair_cmp (a, b) (c, d)) ≡ true
pair-lt_first a b c d h = grind (arith, nat_tests)

pair-lt_second : (a b d : ℕ) → is_lt (nat_cmp b d) ≡ true → is_lt (pair_cmp (a, b) (a, d)) ≡ true
pair-lt_second a b d h = grind (arith, nat_tests)

-- ---- ranges

abbrev NumbersRise : List ℕ → Type 0
NumbersRise xs = Rises nat_cmp same_number number_order xs

abbrev PairsRise : List (ℕ × ℕ) → Type 0
PairsRise ps = Rises pair_cmp same_pair pair_order ps

range-above : (low a k : ℕ) → low < a → Every (λ y. is_lt (nat_cmp low y) ≡ true) (range_with_len a k)
range-above low a zero h = tt
range-above low a (suc k) h = (lt-is low a h, range-above low (a + 1) k (omega arith))

range-rises : (a k : ℕ) → NumbersRise (range_with_len a k)
range-rises a zero = tt
range-rises a (suc k) = (range-above a (a + 1) k (omega arith), range-rises (a + 1) k)

range-below : (limit a k : ℕ) → a + k ≤ limit → Every (λ y. y < limit) (range_with_len a k)
range-below limit a zero h = tt
range-below limit a (suc k) h = (omega arith, range-below limit (a + 1) k (omega arith))

range-among : (a k x : ℕ) → a ≤ x → x < a + k → Among x (range_with_len a k)
range-among a zero x low high = absurd (omega arith)
range-among a (suc k) x low high =
    elim (eq-or-lt_of_le low) [ inl here ↦ inl (sym here) | inr later ↦ inr (range-among (a + 1) k x (omega arith) (omega arith)) ]

teams-rise : (n : ℕ) → NumbersRise (teams_of n)
teams-rise n = range-rises 0 n

among_below : (n x : ℕ) → x < n → Among x (range_with_len 0 n)
among_below n x h = range-among 0 n x (omega arith) (omega arith)

-- ---- meetings

among_kept : {X : Type 0} (t : Bool) (x y : X) (ys : List X) → Among x ys → Among x (cond t (y ∷ ys) ys)
among_kept true x y ys there = inr there
among_kept false x y ys there = there

Among-filter : {X : Type 0} (p : X → Bool) (x : X) (xs : List X) → Among x xs → p x ≡ true → Among x (filter p xs)
Among-filter p x [] there h = absurd there
Among-filter {X} p x (y ∷ ys) (inl here) h =
    let passes : p y ≡ true = subst (λ (z : X). p z ≡ true) here h in
    rw passes (inl here)
Among-filter p x (y ∷ ys) (inr later) h = among_kept (p y) x y (filter p ys) (Among-filter p x ys later h)

row-among : (i j : ℕ) (js : List ℕ) → Among j js → Among {X = ℕ × ℕ} (i, j) (map (λ k. (i, k)) js)
row-among i j [] there = absurd there
row-among i j (k ∷ js) (inl here) = inl (ap (λ (x : ℕ). (i, x)) here)
row-among i j (k ∷ js) (inr later) = inr (row-among i j js later)

flat-among : (f : ℕ → List (ℕ × ℕ)) (i : ℕ) (p : ℕ × ℕ) (is : List ℕ) → Among i is → Among p (f i) → Among p (flat_map f is)
flat-among f i p [] there h = absurd there
flat-among f i p (k ∷ is) (inl here) h = Among-left p (f k) (flat_map f is) (subst (λ (x : ℕ). Among p (f x)) here h)
flat-among f i p (k ∷ is) (inr later) h = Among-right p (f k) (flat_map f is) (flat-among f i p is later h)

flat-every : (P : ℕ × ℕ → Type 0) (f : ℕ → List (ℕ × ℕ)) (is : List ℕ) → Every (λ i. Every P (f i)) is → Every P (flat_map f is)
flat-every P f [] h = tt
flat-every P f (i ∷ is) h = Every-append P (f i) (flat_map f is) h.0 (flat-every P f is h.1)

row-every : (P : ℕ × ℕ → Type 0) (i : ℕ) (js : List ℕ) → Every (λ j. P (i, j)) js → Every P (map (λ j. (i, j)) js)
row-every P i [] h = tt
row-every P i (j ∷ js) h = (h.0, row-every P i js h.1)

row-rises : (i : ℕ) (js : List ℕ) → NumbersRise js → PairsRise (map (λ j. (i, j)) js)
row-rises i [] h = tt
row-rises i (j ∷ js) h =
    (row-every (λ q. is_lt (pair_cmp (i, j) q) ≡ true) i js (Every-map (λ k. is_lt (nat_cmp j k) ≡ true) (λ k. is_lt (pair_cmp (i, j) (i, k)) ≡ true) (λ k less. pair-lt_second i j k less) js h.0), row-rises i js h.1)

module _ (n : ℕ) where
  abbrev row : ℕ → List (ℕ × ℕ)
  row i = map (λ j. (i, j)) (others i (teams_of n))

  rows-rise : (is : List ℕ) → NumbersRise is → PairsRise (flat_map row is)
  rows-rise [] h = tt
  rows-rise (i ∷ is) h =
      Rises-append pair_cmp same_pair pair_order (row i) (flat_map row is)
      (row-rises i (others i (teams_of n)) (filter-rises nat_cmp same_number number_order (λ j. not (j == i)) (teams_of n) (teams-rise n)))
      (rows-rise is h.1)
      (row-every (λ p. Every (λ q. is_lt (pair_cmp p q) ≡ true) (flat_map row is)) i (others i (teams_of n))
      (every (λ j. Every (λ q. is_lt (pair_cmp (i, j) q) ≡ true) (flat_map row is))
      (λ j. flat-every (λ q. is_lt (pair_cmp (i, j) q) ≡ true) row is
      (Every-map (λ k. is_lt (nat_cmp i k) ≡ true) (λ k. Every (λ q. is_lt (pair_cmp (i, j) q) ≡ true) (row k))
      (λ k less. row-every (λ q. is_lt (pair_cmp (i, j) q) ≡ true) k (others k (teams_of n)) (every (λ m. is_lt (pair_cmp (i, j) (k, m)) ≡ true) (λ m. pair-lt_first i j k m less) (others k (teams_of n))))
      is h.0))
      (others i (teams_of n))))

  meetings-rise : PairsRise (meetings_of n)
  meetings-rise = rows-rise (teams_of n) (teams-rise n)

  differ_test : (j i : ℕ) → i ≢ j → not (j == i) ≡ true
  differ_test j i h = grind (arith, nat_tests)

  meetings-among : (p : ℕ × ℕ) → IsMeeting n p → Among p (meetings_of n)
  meetings-among p h =
      flat-among row p.0 (p.0, p.1) (teams_of n) (among_below n p.0 h.home)
      (row-among p.0 p.1 (others p.0 (teams_of n)) (Among-filter (λ j. not (j == p.0)) p.1 (teams_of n) (among_below n p.1 h.away) (differ_test p.1 p.0 h.differ)))

-- ---- the sets

teams_by : (n : ℕ) (r : Reading (List ℕ)) → ((ids : List ℕ) → r ≡ Ok ids → Every (λ x. x < n) ids)
    → gathered nat_cmp [] r ≡ (r >>= λ ids. Ok (filter (λ i. is_in i ids) (range_with_len 0 n)))
teams_by n (Ok ids) known =
    ap Ok (with_items-all nat_cmp same_number number_order (range_with_len 0 n) ids (range-rises 0 n) (Every-map (λ x. x < n) (λ x. Among x (range_with_len 0 n)) (λ x h. among_below n x h) ids (known ids refl)))
teams_by n (Err kind) known = refl

pub gathered_teams : (n : ℕ) (text : List ℕ) → gathered nat_cmp [] (each (team n) (items_of text)) ≡ teams n text
gathered_teams n text = teams_by n (each (team n) (items_of text)) (λ ids h. each-every (team n) (λ x. x < n) (λ item x e. id_below UnknownTeam n item x e) (items_of text) ids h)

pub gathered_slots : (n : ℕ) (text : List ℕ) → gathered nat_cmp [] (each (slot n) (items_of text)) ≡ slots n text
gathered_slots n text = teams_by (slot_count n) (each (slot n) (items_of text)) (λ ids h. each-every (slot n) (λ x. x < slot_count n) (λ item x e. id_below UnknownSlot (slot_count n) item x e) (items_of text) ids h)

meetings_by : (n : ℕ) (r : Reading (List (ℕ × ℕ))) → ((ps : List (ℕ × ℕ)) → r ≡ Ok ps → Every (IsMeeting n) ps)
    → gathered pair_cmp [] r ≡ (r >>= λ ps. Ok (filter (λ pair. list_any (λ p. p.0 == pair.0 && p.1 == pair.1) ps) (meetings_of n)))
meetings_by n (Ok ps) known =
    ap Ok (with_items-all pair_cmp same_pair pair_order (meetings_of n) ps (meetings-rise n) (Every-map (IsMeeting n) (λ p. Among p (meetings_of n)) (λ p h. meetings-among n p h) ps (known ps refl)))
meetings_by n (Err kind) known = refl

pub gathered_meetings : (n : ℕ) (text : List ℕ) → gathered pair_cmp [] (each (meeting n) (items_of text)) ≡ meetings n text
gathered_meetings n text = meetings_by n (each (meeting n) (items_of text)) (λ ps h. each-every (meeting n) (IsMeeting n) (λ item p e. meeting-is n item p e) (items_of text) ps h)

-- ---- they fit the league

below_test : (limit x : ℕ) → x < limit → nat_lt x limit ≡ true
below_test limit x h = grind (arith, nat_tests)

numbers_fit : (p : ℕ → Bool) (limit : ℕ) → (list_all (λ x. nat_lt x limit) (filter p (range_with_len 0 limit)) && ascends nat_cmp (filter p (range_with_len 0 limit))) ≡ true
numbers_fit p limit =
    both_true
    (all_true (λ x. nat_lt x limit) (filter p (range_with_len 0 limit))
    (Every-filter (λ x. nat_lt x limit ≡ true) p (range_with_len 0 limit) (Every-map (λ x. x < limit) (λ x. nat_lt x limit ≡ true) (λ x h. below_test limit x h) (range_with_len 0 limit) (range-below limit 0 limit (omega arith)))))
    (ascends-rises nat_cmp same_number number_order (filter p (range_with_len 0 limit)) (filter-rises nat_cmp same_number number_order p (range_with_len 0 limit) (range-rises 0 limit)))

teams_fit_by : (n : ℕ) (r : Reading (List ℕ)) (found : List ℕ) → (r >>= λ ids. Ok (filter (λ i. is_in i ids) (range_with_len 0 n))) ≡ Ok found
    → (list_all (λ x. nat_lt x n) found && ascends nat_cmp found) ≡ true
teams_fit_by n (Ok ids) found h =
    let same : filter (λ i. is_in i ids) (range_with_len 0 n) ≡ found = cc in
    subst (λ (xs : List ℕ). (list_all (λ x. nat_lt x n) xs && ascends nat_cmp xs) ≡ true) same (numbers_fit (λ i. is_in i ids) n)
teams_fit_by n (Err kind) found h = absurd cc

pub teams_fit : (n : ℕ) (text : List ℕ) (found : List ℕ) → teams n text ≡ Ok found → are_teams n found ≡ true
teams_fit n text found h = teams_fit_by n (each (team n) (items_of text)) found h

pub slots_fit : (n : ℕ) (text : List ℕ) (found : List ℕ) → slots n text ≡ Ok found → are_slots n found ≡ true
slots_fit n text found h = teams_fit_by (slot_count n) (each (slot n) (items_of text)) found h

module _ (n : ℕ) where
  meeting_test : (i j : ℕ) → i < n → j < n → not (j == i) ≡ true → (nat_lt i n && nat_lt j n && not (i == j)) ≡ true
  meeting_test i j hi hj differ = grind (arith, nat_tests)

  passes_kept : (p : ℕ → Bool) (t : Bool) (x : ℕ) (xs : List ℕ) → p x ≡ t → Every (λ y. p y ≡ true) xs → Every (λ y. p y ≡ true) (cond t (x ∷ xs) xs)
  passes_kept p true x xs is h = (is, h)
  passes_kept p false x xs is h = h

  filter-passes : (p : ℕ → Bool) (xs : List ℕ) → Every (λ x. p x ≡ true) (filter p xs)
  filter-passes p [] = tt
  filter-passes p (x ∷ xs) = passes_kept p (p x) x (filter p xs) refl (filter-passes p xs)

  both : (P Q : ℕ → Type 0) (xs : List ℕ) → Every P xs → Every Q xs → Every (λ x. P x × Q x) xs
  both P Q [] p q = tt
  both P Q (x ∷ xs) p q = ((p.0, q.0), both P Q xs p.1 q.1)

  row_meets : (i : ℕ) → i < n → Every (λ p. is_meeting n p ≡ true) (row n i)
  row_meets i h =
      row-every (λ p. is_meeting n p ≡ true) i (others i (teams_of n))
      (Every-map (λ j. (j < n) × (not (j == i) ≡ true)) (λ j. is_meeting n (i, j) ≡ true) (λ j fits. meeting_test i j h fits.0 fits.1) (others i (teams_of n))
      (both (λ j. j < n) (λ j. not (j == i) ≡ true) (others i (teams_of n)) (Every-filter (λ j. j < n) (λ j. not (j == i)) (teams_of n) (range-below n 0 n (omega arith))) (filter-passes (λ j. not (j == i)) (teams_of n))))

  all_meet : Every (λ p. is_meeting n p ≡ true) (meetings_of n)
  all_meet = flat-every (λ p. is_meeting n p ≡ true) (row n) (teams_of n) (Every-map (λ i. i < n) (λ i. Every (λ p. is_meeting n p ≡ true) (row n i)) (λ i h. row_meets i h) (teams_of n) (range-below n 0 n (omega arith)))

  meetings_fit_by : (r : Reading (List (ℕ × ℕ))) (found : List (ℕ × ℕ)) → (r >>= λ ps. Ok (filter (λ pair. list_any (λ p. p.0 == pair.0 && p.1 == pair.1) ps) (meetings_of n))) ≡ Ok found
      → are_meetings n found ≡ true
  meetings_fit_by (Ok ps) found h =
      let stands : ℕ × ℕ → Bool = λ pair. list_any (λ p. p.0 == pair.0 && p.1 == pair.1) ps in
      let same : filter stands (meetings_of n) ≡ found = cc in
      subst (λ (xs : List (ℕ × ℕ)). are_meetings n xs ≡ true) same
      (both_true
      (all_true (is_meeting n) (filter stands (meetings_of n)) (Every-filter (λ p. is_meeting n p ≡ true) stands (meetings_of n) all_meet))
      (ascends-rises pair_cmp same_pair pair_order (filter stands (meetings_of n)) (filter-rises pair_cmp same_pair pair_order stands (meetings_of n) (meetings-rise n))))
  meetings_fit_by (Err kind) found h = absurd cc

pub meetings_fit : (n : ℕ) (text : List ℕ) (found : List (ℕ × ℕ)) → meetings n text ≡ Ok found → are_meetings n found ≡ true
meetings_fit n text found h = meetings_fit_by n (each (meeting n) (items_of text)) found h

pub teams_fit_all : (n : ℕ) (text : List ℕ) (r : Result (List ℕ) Stop) → Gives (λ x. x) r (teams n text) → IfOk r (λ found. are_teams n found ≡ true)
teams_fit_all n text (Ok found) h = teams_fit n text found h
teams_fit_all n text (Err stop) h = tt

pub slots_fit_all : (n : ℕ) (text : List ℕ) (r : Result (List ℕ) Stop) → Gives (λ x. x) r (slots n text) → IfOk r (λ found. are_slots n found ≡ true)
slots_fit_all n text (Ok found) h = slots_fit n text found h
slots_fit_all n text (Err stop) h = tt

pub meetings_fit_all : (n : ℕ) (text : List ℕ) (r : Result (List (ℕ × ℕ)) Stop) → Gives (λ x. x) r (meetings n text) → IfOk r (λ found. are_meetings n found ≡ true)
meetings_fit_all n text (Ok found) h = meetings_fit n text found h
meetings_fit_all n text (Err stop) h = tt
