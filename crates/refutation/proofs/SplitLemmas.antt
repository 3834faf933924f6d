-- Lists that are cut where a test passes.
use Rattle.std.proofs.Common.{◌≡◌, Bool, true, false, List, [], ◌∷◌, ◌++◌, refl, sym, ap, ◌∙◌, append_assoc}
use Rattle.std.specs.List.{slice_split, onto_first}
use Rattle.std.proofs.lemmas.List.Splits.{slice_split-cons_yes, slice_split-cons_no, slice_split_at, slice_split_none}
use Rattle.std.proofs.lemmas.List.Elements.{All-head, All-tail}
use Rattle.refutation.specs.Cuts.{Lacks, onto_front}

-- there is always a first part
pub record AreParts {X : Type 0} (parts : List (List X)) : Type 0 where
  pub first : List X
  pub others : List (List X)
  pub are : parts ≡ first ∷ others

module _ {X : Type 0} (p : X → Bool) where
  split-parts-cons : (x : X) (xs : List X) (b : Bool) → p x ≡ b → AreParts (slice_split p xs)
      → AreParts (slice_split p (x ∷ xs))
  split-parts-cons x xs true is parts =
      record { first = []; others = slice_split p xs; are = slice_split-cons_yes p x xs is }
  split-parts-cons x xs false is parts =
      record {
        first = x ∷ parts.first;
        others = parts.others;
        are = slice_split-cons_no p x xs is
            ∙ ap (onto_first x) parts.are;
      }

  pub split-parts : (xs : List X) → AreParts (slice_split p xs)
  split-parts [] = record { first = []; others = []; are = refl }
  split-parts (x ∷ xs) = split-parts-cons x xs (p x) refl (split-parts xs)

  onto_first-front : (x : X) (xs : List X) (parts : List (List X))
      → onto_first x (onto_front xs parts) ≡ onto_front (x ∷ xs) parts
  onto_first-front x xs [] = refl
  onto_first-front x xs (part ∷ parts) = refl

  -- items that don't pass stand in front of the first part
  pub split-front : (xs rest : List X) → Lacks p xs → slice_split p (xs ++ rest) ≡ onto_front xs (slice_split p rest)
  split-front [] rest lacks = let parts = split-parts rest in rw parts.are refl
  split-front (x ∷ xs) rest lacks =
      slice_split-cons_no p x (xs ++ rest) (All-head (λ x. p x ≡ false) x xs lacks)
      ∙ ap (onto_first x) (split-front xs rest (All-tail (λ x. p x ≡ false) x xs lacks))
      ∙ onto_first-front x xs (slice_split p rest)

  -- up to an item that passes
  pub split-part : (xs : List X) (y : X) (ys : List X) → Lacks p xs → p y ≡ true
      → slice_split p (xs ++ y ∷ ys) ≡ xs ∷ slice_split p ys
  split-part xs y ys lacks passes = slice_split_at p xs y ys lacks passes

  pub split-last : (xs : List X) → Lacks p xs → slice_split p xs ≡ xs ∷ []
  split-last xs lacks = slice_split_none p xs lacks

  -- more items, and an item that doesn't pass, in front
  pub split-more : (xs : List X) (y : X) (ys : List X) → Lacks p xs → p y ≡ false
      → slice_split p (xs ++ y ∷ ys) ≡ onto_front (xs ++ y ∷ []) (slice_split p ys)
  split-more xs y ys lacks fails =
      let parts = split-parts ys in
      split-front xs (y ∷ ys) lacks
      ∙ ap (onto_front xs) (slice_split-cons_no p y ys fails)
      ∙ rw parts.are (ap (λ first. first ∷ parts.others) (sym (append_assoc xs (y ∷ []) parts.first)))

pub front-front : {X : Type 0} (xs ys : List X) (parts : List (List X))
    → onto_front xs (onto_front ys parts) ≡ onto_front (xs ++ ys) parts
front-front xs ys [] = refl
front-front xs ys (part ∷ parts) = ap (λ first. first ∷ parts) (sym (append_assoc xs ys part))
