-- Lists of items as a loop reads them: the item before the first `;`, then those after it.
use Rattle.std.proofs.Common.{◌≡◌, ℕ, suc, ◌+◌, ◌<◌, Bool, true, false, List, [], ◌∷◌, length, take, drop, eqb, Ok, Err, refl, ap, arith}
use Rattle.std.specs.List.{before_first, after_first, position_or_len}
use Rattle.std.specs.declared.cmp.Ordering.{Ordering}
use Rattle.robinx.specs.Fronts.{◌>>=◌}
use Rattle.robinx.specs.declared.tag_fault.FormKind.{FormKind}
use Rattle.league.specs.Sets.{with_item}
use Rattle.robinx.specs.Values.{Reading, onto_item, items_of, each}
use Rattle.robinx.specs.Gathered.{gathered}

abbrev ends_item : ℕ → Bool
ends_item b = eqb b 59

take_one_more : (n x : ℕ) (xs : List ℕ) → take (1 + n) (x ∷ xs) ≡ x ∷ take n xs
take_one_more n x xs = let e : 1 + n ≡ suc n = omega arith in rw e refl

drop_one_more : (n x : ℕ) (xs : List ℕ) → drop (1 + n + 1) (x ∷ xs) ≡ drop (n + 1) xs
drop_one_more n x xs = let e : 1 + n + 1 ≡ suc (n + 1) = omega arith in rw e refl

-- at `;` an empty item
items_of-end : (b : ℕ) (text : List ℕ) → ends_item b ≡ true → items_of (b ∷ text) ≡ before_first ends_item (b ∷ text) ∷ items_of (after_first ends_item (b ∷ text))
items_of-end b text is = rw is refl

-- at another byte, with what follows it
items_of-more : (b : ℕ) (text : List ℕ) → ends_item b ≡ false → onto_item b (items_of text) ≡ (b ∷ before_first ends_item text) ∷ items_of (after_first ends_item text)
    → items_of (b ∷ text) ≡ before_first ends_item (b ∷ text) ∷ items_of (after_first ends_item (b ∷ text))
items_of-more b text isnt more =
    rw (isnt, take_one_more (position_or_len ends_item text) b text, drop_one_more (position_or_len ends_item text) b text) more

items_of-byte : (b : ℕ) (text : List ℕ) → items_of (b ∷ text) ≡ before_first ends_item (b ∷ text) ∷ items_of (after_first ends_item (b ∷ text))
items_of-byte b [] = by_test (ends_item b) refl where
  by_test : (t : Bool) → ends_item b ≡ t → items_of (b ∷ []) ≡ before_first ends_item (b ∷ []) ∷ items_of (after_first ends_item (b ∷ []))
  by_test true is = items_of-end b [] is
  by_test false isnt = items_of-more b [] isnt refl
items_of-byte b (c ∷ text) = by_test (ends_item b) refl (items_of-byte c text) where
  by_test : (t : Bool) → ends_item b ≡ t → items_of (c ∷ text) ≡ before_first ends_item (c ∷ text) ∷ items_of (after_first ends_item (c ∷ text))
      → items_of (b ∷ c ∷ text) ≡ before_first ends_item (b ∷ c ∷ text) ∷ items_of (after_first ends_item (b ∷ c ∷ text))
  by_test true is others = items_of-end b (c ∷ text) is
  by_test false isnt others = items_of-more b (c ∷ text) isnt (ap (onto_item b) others)

pub items_of-first : (text : List ℕ) → 0 < length text → items_of text ≡ before_first ends_item text ∷ items_of (after_first ends_item text)
items_of-first [] some = absurd (omega arith)
items_of-first (b ∷ text) some = items_of-byte b text

module _ {X : Type 0} (cmp : X → X → Ordering) (read : List ℕ → Reading X) where
  push_item : (set : List X) (x : X) (others : Reading (List X)) → gathered cmp set (others >>= λ items. Ok (x ∷ items)) ≡ gathered cmp (with_item cmp x set) others
  push_item set x (Ok items) = refl
  push_item set x (Err kind) = refl

  -- the set with the items that are left is the set with the first of them, and then with the others
  pub gathered_more : (set : List X) (text : List ℕ) (x : X) → 0 < length text → read (before_first ends_item text) ≡ Ok x
      → gathered cmp (with_item cmp x set) (each read (items_of (after_first ends_item text))) ≡ gathered cmp set (each read (items_of text))
  gathered_more set text x some is =
      let whole : gathered cmp set (each read (before_first ends_item text ∷ items_of (after_first ends_item text))) ≡ gathered cmp (with_item cmp x set) (each read (items_of (after_first ends_item text))) =
      rw is (push_item set x (each read (items_of (after_first ends_item text)))) in
      rw (items_of-first text some, whole) refl

  pub gathered_fault : (set : List X) (text : List ℕ) (kind : FormKind) → 0 < length text → read (before_first ends_item text) ≡ Err kind
      → gathered cmp set (each read (items_of text)) ≡ Err kind
  gathered_fault set text kind some is = rw (items_of-first text some, is) refl
