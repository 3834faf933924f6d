-- How a list is read word by word, and that its numbers ascend.
use Rattle.std.proofs.Common.{◌≡◌, ◌≢◌, ℕ, ◌+◌, ◌<◌, ◌^◌, Bool, false, if◌then◌else◌, List, [], ◌∷◌, ◌++◌}
use Rattle.std.proofs.Common.{length, get_or, take, drop, Option, Some, None, refl, sym, ap, subst, ◌∙◌, arith}
use Rattle.std.proofs.Common.{append_assoc, take-append-drop}
use Rattle.std.specs.Prelude.{◌==◌, ◌&&◌, is_some, nat_lt, option_and_then, option_map}
use Rattle.std.specs.List.{All}
use Rattle.std.specs.Ordering.{nat_cmp}
use Rattle.std.specs.declared.cmp.Ordering.TheVariants.{Less}
use Rattle.std.specs.Str.{byte}
use Rattle.std.proofs.lemmas.Bool.Decides.{nat_tests}
use Rattle.std.proofs.lemmas.List.{drop_more, get_or-take, length-take-le}
use Rattle.std.proofs.lemmas.List.Elements.{All-cons, All-from_get_or, All-nil}
use Rattle.std.proofs.lemmas.List.Kept.{AllPairs-cons}
use Rattle.std.proofs.lemmas.List.Splits.{slice_split_at, slice_split_none}
use Rattle.league.specs.Sets.{IsAscending}
use Rattle.command_line.specs.Words.{members_in, number_above, number_in, rising, words_of}

-- ---- words

abbrev is_end : ℕ → Bool
is_end b = b == byte ";"

no_end : (b : ℕ) → b ≢ 59 → is_end b ≡ false
no_end b isnt = grind (arith, nat_tests)

-- a text without `;` is one word
pub words-alone : (text : List ℕ) → ((k : ℕ) → k < length text → get_or text k 0 ≢ 59) → words_of text ≡ text ∷ []
words-alone text none =
    slice_split_none is_end text
    (All-from_get_or (λ b. is_end b ≡ false) text 0 (λ k within. no_end (get_or text k 0) (none k within)))

around : (text : List ℕ) (i : ℕ) → i < length text → get_or text i 0 ≡ 59
    → text ≡ take i text ++ 59 ∷ drop (i + 1) text
around text i inside here =
    sym (take-append-drop i text)
    ∙ ap (λ (l : List ℕ). take i text ++ l) (drop_more text i 0 inside ∙ ap (λ (b : ℕ). b ∷ drop (i + 1) text) here)

before_end : (text : List ℕ) (i : ℕ) → i < length text → ((k : ℕ) → k < i → get_or text k 0 ≢ 59)
    → All (λ b. is_end b ≡ false) (take i text)
before_end text i inside none =
    All-from_get_or (λ b. is_end b ≡ false) (take i text) 0
    (λ k within.
    let below : k < i = omega (arith, within, length-take-le i text (omega arith)) in
    subst (λ (b : ℕ). is_end b ≡ false) (sym (get_or-take i text k 0 below))
    (no_end (get_or text k 0) (none k below)))

-- the first word ends at the first `;`
pub words-cut : (text : List ℕ) (i : ℕ) → i < length text → get_or text i 0 ≡ 59
    → ((k : ℕ) → k < i → get_or text k 0 ≢ 59) → words_of text ≡ take i text ∷ words_of (drop (i + 1) text)
words-cut text i inside here none =
    ap words_of (around text i inside here)
    ∙ slice_split_at is_end (take i text) 59 (drop (i + 1) text) (before_end text i inside none) refl

-- ---- one word more

pub rises-more : (before k : ℕ) (word : List ℕ) (words : List (List ℕ)) → number_above before word ≡ Some k
    → is_some (rising before (word ∷ words)) ≡ is_some (rising k words)
rises-more before k word words is =
    ap (λ (o : Option ℕ).
    is_some (option_and_then (λ j. option_and_then (λ later. Some (j ∷ later)) (rising j words)) o)) is
    ∙ onto_some k (rising k words)
  where
    onto_some : (j : ℕ) (o : Option (List ℕ)) → is_some (option_and_then (λ later. Some (j ∷ later)) o) ≡ is_some o
    onto_some j None = refl
    onto_some j (Some later) = refl

pub rising-stops : (before : ℕ) (word : List ℕ) (words : List (List ℕ)) → number_above before word ≡ None
    → rising before (word ∷ words) ≡ None
rising-stops before word words is =
    ap (λ (o : Option ℕ). option_and_then (λ j. option_and_then (λ later. Some (j ∷ later)) (rising j words)) o) is

pub rises-last : (before : ℕ) (word : List ℕ) → is_some (rising before (word ∷ [])) ≡ is_some (number_above before word)
rises-last before word = last (number_above before word)
  where
    last : (o : Option ℕ)
        → is_some (option_and_then (λ j. option_and_then (λ later. Some (j ∷ later)) (rising j [])) o) ≡ is_some o
    last None = refl
    last (Some k) = refl

-- numbers before those of the further words
abbrev pub onto : List ℕ → Option (List ℕ) → Option (List ℕ)
onto front found = option_map (λ more. front ++ more) found

onto-cons : (front : List ℕ) (k : ℕ) (o : Option (List ℕ))
    → onto front (option_and_then (λ later. Some (k ∷ later)) o) ≡ onto (front ++ (k ∷ [])) o
onto-cons front k None = refl
onto-cons front k (Some later) = ap Some (sym (append_assoc front (k ∷ []) later))

pub onto-more : (front : List ℕ) (before k : ℕ) (word : List ℕ) (words : List (List ℕ))
    → number_above before word ≡ Some k
    → onto front (rising before (word ∷ words)) ≡ onto (front ++ (k ∷ [])) (rising k words)
onto-more front before k word words is =
    ap (λ (o : Option ℕ).
    onto front (option_and_then (λ j. option_and_then (λ later. Some (j ∷ later)) (rising j words)) o)) is
    ∙ onto-cons front k (rising k words)

pub onto-nothing : (o : Option (List ℕ)) → onto [] o ≡ o
onto-nothing None = refl
onto-nothing (Some more) = refl

-- ---- the numbers ascend

less : (a b : ℕ) → a < b → nat_cmp a b ≡ Less
less a b h = grind (arith, nat_tests)

checked : (before k n : ℕ) (b : Bool) → nat_lt before n ≡ b
    → (if b && nat_lt n (2 ^ 32) then Some n else None) ≡ Some k → before < k
checked before k n b test is = grind (arith, nat_tests)

above : (before k : ℕ) (o : Option ℕ)
    → option_and_then (λ n. if nat_lt before n && nat_lt n (2 ^ 32) then Some n else None) o ≡ Some k → before < k
above before k None is = absurd (cc)
above before k (Some n) is = checked before k n (nat_lt before n) refl is

-- from above a number, and ascending
pub record Rises (before : ℕ) (members : List ℕ) : Type 0 where
  pub above : All (λ k. before < k) members
  pub ascending : IsAscending nat_cmp members

rises-none : (before : ℕ) → Rises before []
rises-none before = record {
  above = All-nil (λ k. before < k);
  ascending = λ i j d less within. absurd (omega arith);
}

rises-cons : (before k : ℕ) (later : List ℕ) → before < k → Rises k later → Rises before (k ∷ later)
rises-cons before k later over rises = record {
  above = All-cons (λ j. before < j) k later over (λ i d within. omega (arith, over, rises.above i d within));
  ascending = AllPairs-cons (λ a b. nat_cmp a b ≡ Less) k later
      (λ i d within. less k (get_or later i d) (rises.above i d within)) rises.ascending;
}

rises-rest : (before k : ℕ) (o : Option (List ℕ)) (members : List ℕ) → before < k
    → ((later : List ℕ) → o ≡ Some later → Rises k later)
    → option_and_then (λ later. Some (k ∷ later)) o ≡ Some members → Rises before members
rises-rest before k None members over later is = absurd (cc)
rises-rest before k (Some further) members over later is =
    subst (λ (ms : List ℕ). Rises before ms) (cc) (rises-cons before k further over (later further refl))

rises-first : (before : ℕ) (word : List ℕ) (words : List (List ℕ)) (o : Option ℕ) (members : List ℕ)
    → number_above before word ≡ o
    → ((k : ℕ) (later : List ℕ) → rising k words ≡ Some later → Rises k later)
    → option_and_then (λ j. option_and_then (λ later. Some (j ∷ later)) (rising j words)) o ≡ Some members
    → Rises before members
rises-first before word words None members at later is = absurd (cc)
rises-first before word words (Some k) members at later is =
    rises-rest before k (rising k words) members (above before k (number_in word) at) (later k) is

pub rising-rises : (before : ℕ) (words : List (List ℕ)) (members : List ℕ) → rising before words ≡ Some members
    → Rises before members
rising-rises before [] members is = subst (λ (ms : List ℕ). Rises before ms) (cc) (rises-none before)
rising-rises before (word ∷ words) members is =
    rises-first before word words (number_above before word) members refl
    (λ k later at. rising-rises k words later at) is

-- ---- the numbers of a text

pub members-ascend : (list members : List ℕ) → Some members ≡ members_in list → IsAscending nat_cmp members
members-ascend list members is = (rising-rises 0 (words_of list) members (sym is)).ascending
