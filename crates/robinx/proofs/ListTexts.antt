-- The texts of lists of teams, slots and meetings, and what they are read as.
use Rattle.std.proofs.Common.{◌≡◌, ℕ, suc, ◌+◌, ◌<◌, ◌≤◌, ◌^◌, Bool, true, false, not, ◌&&◌, ◌||◌, ◌==◌, cond, List, [], ◌∷◌, ◌++◌, length, length-append, get_or, take, drop, map, decimal, Ok, refl, sym, ap, ◌∙◌, append_assoc, arith}
use Rattle.std.specs.Prelude.{nat_lt}
use Rattle.std.specs.List.{All, AllPairs, filter, flat_map, list_all, join_with_byte, count_by, before_first, after_first, position_or_len}
use Rattle.std.specs.Ordering.{nat_cmp, is_lt}
use Rattle.std.specs.declared.cmp.Ordering.{Ordering}
use Rattle.std.specs.declared.cmp.Ordering.TheVariants.{Less}
use Rattle.std.specs.Cmp.Derive.{both_true}
use Rattle.std.proofs.lemmas.Bool.{ltb-true, not-true}
use Rattle.std.proofs.lemmas.Bool.Decides.{nat_tests}
use Rattle.std.proofs.lemmas.Fmt.{decimal_nonempty}
use Rattle.std.proofs.lemmas.List.{take_at, drop_at, append-nil}
use Rattle.std.proofs.lemmas.List.Elements.{All-tail, All-head, All-push}
use Rattle.std.proofs.lemmas.List.Folds.{list_all-append}
use Rattle.std.proofs.lemmas.List.Sums.{AllPass-from_list_all, sum_by-cons, sum_by-append}
use Rattle.league.specs.Sets.{IsAscending, ascends, with_item, pair_cmp}
use Rattle.league.specs.Counts.{slot_count}
use Rattle.league.specs.Instance.{are_teams, are_slots, is_meeting, are_meetings}
use Rattle.league.proofs.AscendingLemmas.{IsAscending-ascends, first_true, second_true}
use Rattle.league.proofs.FitLemmas.{are_teams-below, are_teams-ascending, are_slots-below, are_slots-ascending}
use Rattle.robinx.specs.declared.tag_fault.FormKind.TheVariants.{UnknownTeam, UnknownSlot}
use Rattle.league.proofs.SetLemmas.{filter-all, filter-none}
use Rattle.robinx.specs.Gathered.{with_items, gathered}
use Rattle.robinx.specs.Values.{Reading, items_of, onto_item, each, team, slot, teams, slots, meeting, meetings}
use Rattle.robinx.proofs.KnownLemmas.{gathered_teams, gathered_slots, gathered_meetings}
use Rattle.robinx.specs.SeenValues.{pair_text}
use Rattle.robinx.proofs.TagLemmas.{is_plain_value, and_parts, position-stop}
use Rattle.robinx.proofs.NumberTexts.{decimal-all, decimal-plain, id-decimal}

-- ---- sets that are read in order

-- the first comes before each later one, and these are in order
first_below : {X : Type 0} (R : X → X → Type 0) (x : X) (xs : List X) → AllPairs R (x ∷ xs) → All (R x) xs
first_below R x xs h = λ k d lt. h 0 (suc k) d (omega arith) (omega arith)

later_pairs : {X : Type 0} (R : X → X → Type 0) (x : X) (xs : List X) → AllPairs R (x ∷ xs) → AllPairs R xs
later_pairs R x xs h = λ i j d lt below. h (suc i) (suc j) d (omega arith) (omega arith)

module _ {X : Type 0} (cmp : X → X → Ordering) (behind : (x y : X) → cmp y x ≡ Less → is_lt (cmp x y) ≡ false) where
  abbrev Below : List X → X → Type 0
  Below set x = All (λ y. cmp y x ≡ Less) set

  -- a set with an item that is above all others
  with_item-above : (x : X) (set : List X) → Below set x → with_item cmp x set ≡ set ++ x ∷ []
  with_item-above x set below =
      let low = filter-all (λ y. is_lt (cmp y x)) set (λ k d h. ap is_lt (below k d h)) in
      let high = filter-none (λ y. is_lt (cmp x y)) set (λ k d h. behind x (get_or set k d) (below k d h)) in
      ap (λ (l : List X). l ++ x ∷ filter (λ y. is_lt (cmp x y)) set) low ∙ ap (λ (l : List X). set ++ x ∷ l) high

  with_items-above : (set items : List X) → All (Below set) items → AllPairs (λ a b. cmp a b ≡ Less) items → with_items cmp set items ≡ set ++ items
  with_items-above set [] below rise = sym (append-nil set)
  with_items-above set (x ∷ items) below rise =
      let one : with_item cmp x set ≡ set ++ x ∷ [] = with_item-above x set (All-head (Below set) x items below) in
      let others : All (Below set) items = All-tail (Below set) x items below in
      let first : All (λ z. cmp x z ≡ Less) items = first_below (λ a b. cmp a b ≡ Less) x items rise in
      ap (λ (s : List X). with_items cmp s items) one
      ∙ with_items-above (set ++ x ∷ []) items (λ k d lt. All-push (λ y. cmp y (get_or items k d) ≡ Less) set x (others k d lt) (first k d lt)) (later_pairs (λ a b. cmp a b ≡ Less) x items rise)
      ∙ append_assoc set (x ∷ []) items

  -- items in order are the set of them
  pub with_items-in_order : (items : List X) → IsAscending cmp items → with_items cmp [] items ≡ items
  with_items-in_order items rise = with_items-above [] items (λ k d lt. λ j e none. absurd (omega arith)) rise

number-behind : (x y : ℕ) → nat_cmp y x ≡ Less → is_lt (nat_cmp x y) ≡ false
number-behind x y h = grind (arith, nat_tests)

pair-behind_by : (a b c d : ℕ) → pair_cmp (c, d) (a, b) ≡ Less → is_lt (pair_cmp (a, b) (c, d)) ≡ false
pair-behind_by a b c d h = grind (arith, nat_tests)

pair-behind : (p q : ℕ × ℕ) → pair_cmp q p ≡ Less → is_lt (pair_cmp p q) ≡ false
pair-behind p q h = pair-behind_by p.0 p.1 q.0 q.1 h

-- ---- items

-- whether no item ends in these bytes
abbrev pub is_whole : List ℕ → Bool
is_whole bytes = list_all (λ b. not (b == 59)) bytes

items_of-ended : (item text : List ℕ) → is_whole item ≡ true → items_of (item ++ 59 ∷ text) ≡ item ∷ items_of text
items_of-ended [] text whole = refl
items_of-ended (b ∷ item) text whole =
    let both = and_parts (not (b == 59)) (is_whole item) whole in
    let other : (b == 59) ≡ false = not-true (b == 59) both.0 in
    let later : items_of (item ++ 59 ∷ text) ≡ item ∷ items_of text = items_of-ended item text both.1 in
    rw (other, later) refl

items_of-last : (item : List ℕ) → 0 < length item → is_whole item ≡ true → items_of item ≡ item ∷ []
items_of-last [] some whole = absurd (omega arith)
items_of-last (b ∷ []) some whole =
    let other : (b == 59) ≡ false = not-true (b == 59) (and_parts (not (b == 59)) true whole).0 in
    rw other refl
items_of-last (b ∷ c ∷ item) some whole =
    let both = and_parts (not (b == 59)) (is_whole (c ∷ item)) whole in
    let other : (b == 59) ≡ false = not-true (b == 59) both.0 in
    let later : items_of (c ∷ item) ≡ (c ∷ item) ∷ [] = items_of-last (c ∷ item) (omega arith) both.1 in
    ap (λ (t : Bool). cond t ([] ∷ items_of (c ∷ item)) (onto_item b (items_of (c ∷ item)))) other ∙ ap (onto_item b) later

-- a digit is no `;` and no `,`
digit-whole : (d : ℕ) → d < 10 → not (48 + d == 59) ≡ true
digit-whole d less = grind (arith, nat_tests)

decimal-whole : (n : ℕ) → is_whole (decimal n) ≡ true
decimal-whole n = decimal-all (λ b. not (b == 59)) digit-whole n

-- numbers with `;` between them
abbrev pub joined : List ℕ → List ℕ
joined numbers = join_with_byte 59 (map decimal numbers)

items_of-joined : (ids : List ℕ) → All (λ i. i < 2 ^ 64) ids → items_of (joined ids) ≡ map decimal ids
items_of-joined [] small = refl
items_of-joined (i ∷ []) small = items_of-last (decimal i) (decimal_nonempty i (All-head (λ i. i < 2 ^ 64) i [] small)) (decimal-whole i)
items_of-joined (i ∷ j ∷ ids) small =
    items_of-ended (decimal i) (joined (j ∷ ids)) (decimal-whole i)
    ∙ ap (λ items. decimal i ∷ items) (items_of-joined (j ∷ ids) (All-tail (λ i. i < 2 ^ 64) i (j ∷ ids) small))

each-read : {X : Type 0} (read : List ℕ → Reading X) (text_of : X → List ℕ) (xs : List X) → All (λ x. read (text_of x) ≡ Ok x) xs → each read (map text_of xs) ≡ Ok xs
each-read read text_of [] good = refl
each-read {X} read text_of (x ∷ xs) good =
    let first : read (text_of x) ≡ Ok x = All-head (λ x. read (text_of x) ≡ Ok x) x xs good in
    let others : each read (map text_of xs) ≡ Ok xs = each-read read text_of xs (All-tail (λ x. read (text_of x) ≡ Ok x) x xs good) in
    rw (first, others) refl

-- ---- teams and slots

pub teams-joined : (n : ℕ) (ids : List ℕ) → n ≤ 40 → are_teams n ids ≡ true → teams n (joined ids) ≡ Ok ids
teams-joined n ids size fit =
    let known = are_teams-below n ids fit in
    let rise = are_teams-ascending n ids fit in
    let items : items_of (joined ids) ≡ map decimal ids = items_of-joined ids (λ k d lt. omega (arith, known k d lt)) in
    let read : each (team n) (map decimal ids) ≡ Ok ids = each-read (team n) decimal ids (λ k d lt. id-decimal UnknownTeam n (get_or ids k d) (omega arith) (known k d lt)) in
    sym (gathered_teams n (joined ids))
    ∙ ap (λ (r : Reading (List ℕ)). gathered nat_cmp [] r) (ap (each (team n)) items ∙ read)
    ∙ ap Ok (with_items-in_order nat_cmp number-behind ids rise)

pub slots-joined : (n : ℕ) (ids : List ℕ) → n ≤ 40 → are_slots n ids ≡ true → slots n (joined ids) ≡ Ok ids
slots-joined n ids size fit =
    let known = are_slots-below n ids fit in
    let rise = are_slots-ascending n ids fit in
    let items : items_of (joined ids) ≡ map decimal ids = items_of-joined ids (λ k d lt. omega (arith, known k d lt)) in
    let read : each (slot n) (map decimal ids) ≡ Ok ids = each-read (slot n) decimal ids (λ k d lt. id-decimal UnknownSlot (slot_count n) (get_or ids k d) (omega arith) (known k d lt)) in
    sym (gathered_slots n (joined ids))
    ∙ ap (λ (r : Reading (List ℕ)). gathered nat_cmp [] r) (ap (each (slot n)) items ∙ read)
    ∙ ap Ok (with_items-in_order nat_cmp number-behind ids rise)

-- ---- meetings

all-append : (p : ℕ → Bool) (xs ys : List ℕ) → list_all p xs ≡ true → list_all p ys ≡ true → list_all p (xs ++ ys) ≡ true
all-append p xs ys first second = list_all-append p xs ys ∙ both_true first second

-- a meeting without the `;` after it
abbrev item_of : ℕ × ℕ → List ℕ
item_of p = decimal p.0 ++ (44 ∷ decimal p.1)

item-whole : (p : ℕ × ℕ) → is_whole (item_of p) ≡ true
item-whole p = all-append (λ b. not (b == 59)) (decimal p.0) (44 ∷ decimal p.1) (decimal-whole p.0) (decimal-whole p.1)

items_of-pairs : (ps : List (ℕ × ℕ)) → items_of (flat_map pair_text ps) ≡ map item_of ps
items_of-pairs [] = refl
items_of-pairs (p ∷ ps) =
    let rest : List ℕ = flat_map pair_text ps in
    let parts : pair_text p ++ rest ≡ item_of p ++ 59 ∷ rest = simp append_assoc in
    ap items_of parts ∙ items_of-ended (item_of p) rest (item-whole p) ∙ ap (λ items. item_of p ∷ items) (items_of-pairs ps)

digit-no_comma : (d : ℕ) → d < 10 → not (48 + d == 44) ≡ true
digit-no_comma d less = grind (arith, nat_tests)

decimal-no_comma : (n : ℕ) → list_all (λ b. not (b == 44)) (decimal n) ≡ true
decimal-no_comma n = decimal-all (λ b. not (b == 44)) digit-no_comma n

count_none : (p : ℕ → Bool) (xs : List ℕ) → list_all (λ b. not (p b)) xs ≡ true → count_by p xs ≡ 0
count_none p [] none = refl
count_none p (x ∷ xs) none =
    let both = and_parts (not (p x)) (list_all (λ b. not (p b)) xs) none in
    let here : p x ≡ false = not-true (p x) both.0 in
    let later : count_by p xs ≡ 0 = count_none p xs both.1 in
    sum_by-cons (λ b. cond (p b) 1 0) x xs ∙ ap (λ (t : Bool). cond t 1 0 + count_by p xs) here ∙ ap (λ (k : ℕ). 0 + k) later

one_comma : (home away : List ℕ) → list_all (λ b. not (b == 44)) home ≡ true → list_all (λ b. not (b == 44)) away ≡ true → count_by (λ b. b == 44) (home ++ (44 ∷ away)) ≡ 1
one_comma home away first second =
    let before = count_none (λ b. b == 44) home first in
    let after = count_none (λ b. b == 44) away second in
    sum_by-append (λ b. cond (b == 44) 1 0) home (44 ∷ away)
    ∙ ap (λ (k : ℕ). k + count_by (λ b. b == 44) (44 ∷ away)) before
    ∙ ap (λ (k : ℕ). 0 + k) (sum_by-cons (λ b. cond (b == 44) 1 0) 44 away ∙ ap (λ (k : ℕ). 1 + k) after)

before_comma : (home away : List ℕ) → list_all (λ b. not (b == 44)) home ≡ true → before_first (λ b. b == 44) (home ++ (44 ∷ away)) ≡ home
before_comma home away first =
    let len : position_or_len (λ b. b == 44) (home ++ 44 ∷ away) ≡ length home = position-stop (λ b. b == 44) home 44 away first refl in
    ap (λ (k : ℕ). take k (home ++ (44 ∷ away))) len ∙ take_at home (44 ∷ away) (length home) refl

after_comma : (home away : List ℕ) → list_all (λ b. not (b == 44)) home ≡ true → after_first (λ b. b == 44) (home ++ (44 ∷ away)) ≡ away
after_comma home away first =
    let len : position_or_len (λ b. b == 44) (home ++ 44 ∷ away) ≡ length home = position-stop (λ b. b == 44) home 44 away first refl in
    ap (λ (k : ℕ). drop (k + 1) (home ++ (44 ∷ away))) len
    ∙ ap (drop (length home + 1)) (sym (append_assoc home (44 ∷ []) away))
    ∙ drop_at (home ++ 44 ∷ []) away (length home + 1) (omega (arith, length-append home (44 ∷ [])))

meeting-item : (n : ℕ) (p : ℕ × ℕ) → n ≤ 40 → p.0 < n → p.1 < n → not (p.0 == p.1) ≡ true → meeting n (item_of p) ≡ Ok p
meeting-item n p size home away differ =
    let none = decimal-no_comma p.0 in
    let one : count_by (λ b. b == 44) (item_of p) ≡ 1 = one_comma (decimal p.0) (decimal p.1) none (decimal-no_comma p.1) in
    let before : before_first (λ b. b == 44) (item_of p) ≡ decimal p.0 = before_comma (decimal p.0) (decimal p.1) none in
    let after : after_first (λ b. b == 44) (item_of p) ≡ decimal p.1 = after_comma (decimal p.0) (decimal p.1) none in
    let first : team n (decimal p.0) ≡ Ok p.0 = id-decimal UnknownTeam n p.0 (omega arith) home in
    let second : team n (decimal p.1) ≡ Ok p.1 = id-decimal UnknownTeam n p.1 (omega arith) away in
    rw (one, before, after, first, second, differ) refl

meeting-fits : (n : ℕ) (p : ℕ × ℕ) → n ≤ 40 → is_meeting n p ≡ true → meeting n (item_of p) ≡ Ok p
meeting-fits n p size fits =
    let parts = and_parts (nat_lt p.0 n && nat_lt p.1 n) (not (p.0 == p.1)) fits in
    let teams = and_parts (nat_lt p.0 n) (nat_lt p.1 n) parts.0 in
    meeting-item n p size (ltb-true p.0 n teams.0) (ltb-true p.1 n teams.1) parts.1

pub meetings-pairs : (n : ℕ) (ps : List (ℕ × ℕ)) → n ≤ 40 → are_meetings n ps ≡ true → meetings n (flat_map pair_text ps) ≡ Ok ps
meetings-pairs n ps size fit =
    let meets = first_true (list_all (is_meeting n) ps) (ascends pair_cmp ps) fit in
    let rise = IsAscending-ascends pair_cmp ps (second_true (list_all (is_meeting n) ps) (ascends pair_cmp ps) fit) in
    let read : each (meeting n) (map item_of ps) ≡ Ok ps = each-read (meeting n) item_of ps (λ k d lt. meeting-fits n (get_or ps k d) size (AllPass-from_list_all (is_meeting n) ps meets k d lt)) in
    sym (gathered_meetings n (flat_map pair_text ps))
    ∙ ap (λ (r : Reading (List (ℕ × ℕ))). gathered pair_cmp [] r) (ap (each (meeting n)) (items_of-pairs ps) ∙ read)
    ∙ ap Ok (with_items-in_order pair_cmp pair-behind ps rise)

-- ---- none of these texts ends a value

pub joined-plain : (ids : List ℕ) → is_plain_value (joined ids) ≡ true
joined-plain [] = refl
joined-plain (i ∷ []) = decimal-plain i
joined-plain (i ∷ j ∷ ids) = all-append (λ b. not (b == 34 || b == 60)) (decimal i) (59 ∷ joined (j ∷ ids)) (decimal-plain i) (joined-plain (j ∷ ids))

pair-plain : (p : ℕ × ℕ) → is_plain_value (pair_text p) ≡ true
pair-plain p =
    all-append (λ b. not (b == 34 || b == 60)) (decimal p.0) (44 ∷ (decimal p.1 ++ 59 ∷ [])) (decimal-plain p.0)
    (all-append (λ b. not (b == 34 || b == 60)) (decimal p.1) (59 ∷ []) (decimal-plain p.1) refl)

pub pairs-plain : (ps : List (ℕ × ℕ)) → is_plain_value (flat_map pair_text ps) ≡ true
pairs-plain [] = refl
pairs-plain (p ∷ ps) = all-append (λ b. not (b == 34 || b == 60)) (pair_text p) (flat_map pair_text ps) (pair-plain p) (pairs-plain ps)
