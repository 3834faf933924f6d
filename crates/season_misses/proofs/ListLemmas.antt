-- Lists that are made piece by piece, and what is in them.
use Rattle.std.proofs.Common.{◌≡◌, ℕ, ◌+◌, ◌-◌, ◌<◌, zero, suc, false, true, Bool, ◌&&◌, ◌||◌, ◌==◌, nat_lt, List, [], ◌∷◌, ◌++◌, length, get_or, take, drop, map, cond, Some, arith, ap, subst, sym, ◌∙◌, append_assoc, append-nil}
use Rattle.std.specs.Prelude.{nat_le}
use Rattle.std.proofs.lemmas.Bool.Decides.{nat_tests}
use Rattle.std.proofs.lemmas.List.{get_or-map, length-map}
use Rattle.std.proofs.lemmas.List.Concat.{flat_map-append}
use Rattle.std.proofs.lemmas.List.FromFn.{get_or-range_with_len, length-range_with_len, map-range_with_len_more}
use Rattle.std.proofs.Math.Seq.{drop-cons}
use Rattle.std.specs.List.{find, flat_map, range_with_len}
use Rattle.std.specs.Ordering.{nat_cmp}
use Rattle.std.specs.declared.cmp.Ordering.TheVariants.{Less}
use Rattle.league.specs.Deviation.{spans}
use Rattle.league.specs.Sets.{IsAscending, is_in}
use Rattle.league.specs.declared.class.Span.{Span}
use Rattle.league.specs.declared.class.Span.TheVariants.{Global, Every}
use Rattle.league.proofs.RangeLemmas.{range_with_len-more}

-- the pieces of one number more
pub flat_map-range_more : {A : Type 0} (f : ℕ → List A) (a k : ℕ) → flat_map f (range_with_len a (k + 1)) ≡ flat_map f (range_with_len a k) ++ f (a + k)
flat_map-range_more f a k =
    ap (flat_map f) (range_with_len-more a k)
    ∙ flat_map-append f (range_with_len a k) ((a + k) ∷ [])
    ∙ ap (λ xs. flat_map f (range_with_len a k) ++ xs) (append-nil (f (a + k)))

-- a list so far with the piece of one number more
pub made_more : {A : Type 0} (f : ℕ → List A) (before made more : List A) (k : ℕ) → made ≡ before ++ flat_map f (range_with_len 0 k) → more ≡ made ++ f k → more ≡ before ++ flat_map f (range_with_len 0 (k + 1))
made_more f before made more k so_far now =
    let at : 0 + k ≡ k = omega arith in
    now
    ∙ ap (λ xs. xs ++ f k) so_far
    ∙ append_assoc before (flat_map f (range_with_len 0 k)) (f k)
    ∙ ap (λ xs. before ++ xs) (ap (λ (j : ℕ). flat_map f (range_with_len 0 k) ++ f j) (sym at) ∙ sym (flat_map-range_more f 0 k))

-- values of the numbers so far, with that of one number more
pub mapped_more : {A : Type 0} (f : ℕ → A) (k : ℕ) (made more : List A) (x : A) → made ≡ map f (range_with_len 0 k) → more ≡ made ++ x ∷ [] → x ≡ f k → more ≡ map f (range_with_len 0 (k + 1))
mapped_more f k made more x so_far now is =
    now
    ∙ ap (λ y. made ++ y ∷ []) is
    ∙ ap (λ ys. ys ++ f k ∷ []) so_far
    ∙ sym (map-range_with_len_more f 0 k k (omega arith))

-- the slots of an entry of a CA4, of which each slot is one of these
pub one_slot : (slots : List ℕ) (k : ℕ) → k < length slots → get_or (spans Every slots) k [] ≡ get_or slots k 0 ∷ []
one_slot slots k within = get_or-map (λ s. s ∷ []) slots k 0 [] within

-- the one slot of a key, cut from the slots
cut_every : (slots : List ℕ) (k : ℕ) → k < length (spans Every slots) → take (k + 1 - k) (drop k slots) ≡ get_or (spans Every slots) k []
cut_every slots k within =
    let here : k < length slots = omega (arith, length-map slots (λ s. s ∷ [])) in
    let one : k + 1 - k ≡ 1 = omega arith in
    ap (λ (count : ℕ). take count (drop k slots)) one
    ∙ ap (λ (xs : List ℕ). take 1 xs) (drop-cons slots k 0 here)
    ∙ sym (one_slot slots k here)

pub cut_one : (span : Span) (slots : List ℕ) (k : ℕ) → span ≡ Every → k < length (spans span slots) → take (k + 1 - k) (drop k slots) ≡ get_or (spans span slots) k []
cut_one span slots k every inside =
    subst (λ (s : Span). k < length (spans s slots) → take (k + 1 - k) (drop k slots) ≡ get_or (spans s slots) k []) (sym every) (cut_every slots k) inside

one_ascends : (x : ℕ) → IsAscending nat_cmp (x ∷ [])
one_ascends x i j d before within = absurd (omega arith)

-- the slots of a key ascend
pub spans-ascending : (span : Span) (slots : List ℕ) (k : ℕ) → IsAscending nat_cmp slots → k < length (spans span slots) → IsAscending nat_cmp (get_or (spans span slots) k [])
spans-ascending Global slots zero ascending inside = ascending
spans-ascending Global slots (suc k) ascending inside = absurd (omega arith)
spans-ascending Every slots k ascending inside =
    let within : k < length slots = omega (arith, length-map slots (λ s. s ∷ [])) in
    subst (λ (xs : List ℕ). IsAscending nat_cmp xs) (sym (one_slot slots k within)) (one_ascends (get_or slots k 0))

less_from : (a b : ℕ) → a < b → nat_cmp a b ≡ Less
less_from a b h = grind (arith, nat_tests)

-- a range ascends
pub range-ascending : (a k : ℕ) → IsAscending nat_cmp (range_with_len a k)
range-ascending a k i j d before within =
    let long : length (range_with_len a k) ≡ k = length-range_with_len a k in
    let first : get_or (range_with_len a k) i d ≡ a + i = get_or-range_with_len a k i d (omega arith) in
    let second : get_or (range_with_len a k) j d ≡ a + j = get_or-range_with_len a k j d (omega arith) in
    less_from (get_or (range_with_len a k) i d) (get_or (range_with_len a k) j d) (omega arith)

in_none : (a x : ℕ) → false ≡ (nat_le a x && nat_lt x (a + 0))
in_none a x = grind (arith, nat_tests)

in_more : (a k x : ℕ) → ((a == x) || (nat_le (a + 1) x && nat_lt x (a + 1 + k))) ≡ (nat_le a x && nat_lt x (a + suc k))
in_more a k x = grind (arith, nat_tests)

-- which numbers are in a range
pub is_in-range : (a k x : ℕ) → is_in x (range_with_len a k) ≡ (nat_le a x && nat_lt x (a + k))
is_in-range a zero x = in_none a x
is_in-range a (suc k) x = ap (λ (b : Bool). (a == x) || b) (is_in-range (a + 1) k x) ∙ in_more a k x

-- a search that hasn't found anything so far goes on
pub find-none_here : (p : ℕ → Bool) (xs : List ℕ) (i : ℕ) → i < length xs → p (get_or xs i 0) ≡ false → find p (drop i xs) ≡ find p (drop (i + 1) xs)
find-none_here p xs i within fails =
    let next : suc i ≡ i + 1 = omega arith in
    ap (find p) (drop-cons xs i 0 within)
    ∙ ap (λ (b : Bool). cond b (Some (get_or xs i 0)) (find p (drop (suc i) xs))) fails
    ∙ ap (λ (k : ℕ). find p (drop k xs)) next

-- a search ends where it finds something
pub find-here : (p : ℕ → Bool) (xs : List ℕ) (i : ℕ) → i < length xs → p (get_or xs i 0) ≡ true → find p (drop i xs) ≡ Some (get_or xs i 0)
find-here p xs i within passes =
    ap (find p) (drop-cons xs i 0 within)
    ∙ ap (λ (b : Bool). cond b (Some (get_or xs i 0)) (find p (drop (suc i) xs))) passes

-- a list to which nothing is added, since a test fails, and one to which an item is added, since it passes
pub added-none : {A : Type 0} (xs : List A) (b : Bool) (x : A) → b ≡ false → xs ≡ xs ++ cond b (x ∷ []) []
added-none {A} xs b x fails = sym (append-nil xs) ∙ ap (λ (c : Bool). xs ++ cond c (x ∷ []) []) (sym fails)

pub added-one : {A : Type 0} (xs more : List A) (b : Bool) (x y : A) → b ≡ true → y ≡ x → more ≡ xs ++ y ∷ [] → more ≡ xs ++ cond b (x ∷ []) []
added-one {A} xs more b x y passes same added =
    added ∙ ap (λ (z : A). xs ++ z ∷ []) same ∙ ap (λ (c : Bool). xs ++ cond c (x ∷ []) []) (sym passes)
