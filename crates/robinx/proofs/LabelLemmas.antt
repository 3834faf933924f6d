-- Labels as a loop makes them.
use Rattle.std.proofs.Common.{◌≡◌, ℕ, suc, ◌+◌, ◌-◌, ◌<◌, ◌≤◌, Bool, true, false, not, ◌&&◌, List, [], ◌∷◌, ◌++◌, length, map, get_or, take, drop, refl, sym, ap, ◌∙◌, subst, arith}
use Rattle.std.specs.Prelude.{bytes_eq}
use Rattle.std.specs.List.{list_any}
use Rattle.std.proofs.lemmas.List.FromFn.{get_or-map-range_with_len, map-range_with_len_more}
use Rattle.league.specs.Counts.{teams_of}
use Rattle.std.specs.List.{All}
use Rattle.std.specs.Prelude.{codes, decimal}
use Rattle.std.proofs.Math.Seq.{take-length}
use Rattle.std.proofs.lemmas.List.{get_or-map, length-map}
use Rattle.std.proofs.lemmas.List.FromFn.{length-map-range_with_len}
use Rattle.robinx.specs.Plain.{IsPlain}
use Rattle.robinx.specs.Names.{Names, shown, all_shown, are_distinct, labelled, label_among, label, or_else}

-- a test of texts by their bytes
pub list_any_map : {X Y : Type 0} (p : Y → Bool) (f : X → Y) (xs : List X) → list_any p (map f xs) ≡ list_any (λ x. p (f x)) xs
list_any_map p f [] = refl
list_any_map p f (x ∷ xs) = rw (list_any_map p f xs) refl

-- a team as it is shown is that of its number
pub shown_at : (teams : List (List ℕ)) (i : ℕ) (d : List ℕ) → i < length teams → get_or (all_shown teams) i d ≡ shown teams i
shown_at teams i d h = get_or-map-range_with_len (shown teams) 0 (length teams) i i d h (omega arith)

-- one more team
pub part_more : {X : Type 0} (f : ℕ → X) (i : ℕ) (before : List X) (x : X) → before ≡ map f (teams_of i) → x ≡ f i → before ++ x ∷ [] ≡ map f (teams_of (i + 1))
part_more f i before x so_far is = rw (so_far, is) (sym (map-range_with_len_more f 0 i i (omega arith)))

-- texts are distinct by their first and by the others
pub are_distinct_by : {X : Type 0} (f : X → List ℕ) (first : X) (others all : List X) → all ≡ first ∷ others
    → are_distinct (map f all) ≡ (not (list_any (λ x. bytes_eq (f first) (f x)) others) && are_distinct (map f others))
are_distinct_by f first others all is = rw (is, list_any_map (bytes_eq (f first)) f others) refl

-- a list by its first item and the others, as a pattern takes it
pub split_first : {X : Type 0} (xs : List X) (x : X) → 1 ≤ length xs → x ≡ get_or xs 0 x → xs ≡ x ∷ take (length xs - 1) (drop 1 xs)
split_first [] x some is = absurd (omega arith)
split_first (y ∷ ys) x some is =
    let less : suc (length ys) - 1 ≡ length ys = omega arith in
    ap (λ z. z ∷ ys) (sym is) ∙ ap (λ zs. x ∷ zs) (sym (ap (λ n. take n ys) less ∙ take-length ys))

-- ---- as the code makes them: texts of X, seen by f

module _ {X : Type 0} (f : X → List ℕ) where
  -- the first text stands among the others, or doesn't
  pub repeated : (all others : List X) (first : X) (text : List ℕ) (found : Bool) → all ≡ first ∷ others → text ≡ f first → found ≡ list_any (λ x. bytes_eq text (f x)) others → found ≡ true
      → are_distinct (map f all) ≡ false
  repeated all others first text found parts is test stands =
      let there : list_any (λ x. bytes_eq (f first) (f x)) others ≡ true = ap (λ t. list_any (λ x. bytes_eq t (f x)) others) (sym is) ∙ sym test ∙ stands in
      are_distinct_by f first others all parts ∙ ap (λ b. not b && are_distinct (map f others)) there

  pub unrepeated : (all others : List X) (first : X) (text : List ℕ) (found : Bool) → all ≡ first ∷ others → text ≡ f first → found ≡ list_any (λ x. bytes_eq text (f x)) others → found ≡ false
      → are_distinct (map f others) ≡ are_distinct (map f all)
  unrepeated all others first text found parts is test lacks =
      let absent : list_any (λ x. bytes_eq (f first) (f x)) others ≡ false = ap (λ t. list_any (λ x. bytes_eq t (f x)) others) (sym is) ∙ sym test ∙ lacks in
      sym (are_distinct_by f first others all parts ∙ ap (λ b. not b && are_distinct (map f others)) absent)

  -- an item of a list
  read : (xs : List X) (i : ℕ) (x : X) (text : List ℕ) → i < length xs → x ≡ get_or xs i x → text ≡ f x → text ≡ get_or (map f xs) i []
  read xs i x text h at is = is ∙ ap f at ∙ sym (get_or-map f xs i x [] h)

  pub shown_from : (teams : List X) (i : ℕ) (x : X) (name text : List ℕ) → i < length teams → x ≡ get_or teams i x → name ≡ f x → text ≡ or_else name (codes "team " ++ decimal i) → text ≡ shown (map f teams) i
  shown_from teams i x name text h at is made = made ∙ ap (λ n. or_else n (codes "team " ++ decimal i)) (read teams i x name h at is)

  pub label_from : (teams : List (List ℕ)) (texts slice : List X) (i : ℕ) (x : X) (distinct : Bool) (name text : List ℕ) → map f texts ≡ all_shown teams → slice ≡ texts → distinct ≡ are_distinct (map f slice)
      → i < length texts → x ≡ get_or texts i x → name ≡ f x → text ≡ labelled distinct i name → text ≡ label_among teams i
  label_from teams texts slice i x distinct name text all whole test h at is made =
      let as_many : length texts ≡ length teams = sym (length-map texts f) ∙ ap length all ∙ length-map-range_with_len (shown teams) 0 (length teams) in
      let tested : distinct ≡ are_distinct (all_shown teams) = test ∙ ap (λ s. are_distinct (map f s)) whole ∙ ap are_distinct all in
      let named : name ≡ shown teams i = read texts i x name h at is ∙ ap (λ (s : List (List ℕ)). get_or s i []) all ∙ shown_at teams i [] (omega arith) in
      made ∙ ap (λ b. labelled b i name) tested ∙ ap (λ n. labelled (are_distinct (all_shown teams)) i n) named

  pub labels_len : (labels : List X) (names : Names) → map f labels ≡ map (label_among names.teams) (teams_of (length names.teams)) → length labels ≡ length names.teams
  labels_len labels names called = sym (length-map labels f) ∙ ap length called ∙ length-map-range_with_len (label_among names.teams) 0 (length names.teams)

  pub label_read : (labels : List X) (names : Names) (i : ℕ) (x : X) (text : List ℕ) → map f labels ≡ map (label_among names.teams) (teams_of (length names.teams)) → i < length names.teams
      → x ≡ get_or labels i x → text ≡ f x → text ≡ label names i
  label_read labels names i x text called h at is =
      let as_many = labels_len labels names called in
      read labels i x text (omega arith) at is
      ∙ ap (λ (s : List (List ℕ)). get_or s i []) called
      ∙ get_or-map-range_with_len (label_among names.teams) 0 (length names.teams) i i [] h (omega arith)

  pub plain_read : (xs : List X) (i : ℕ) (x : X) (text : List ℕ) → All IsPlain (map f xs) → i < length xs → x ≡ get_or xs i x → text ≡ f x → IsPlain text
  plain_read xs i x text all h at is =
      let as_many = length-map xs f in
      subst IsPlain (sym (read xs i x text h at is)) (all i [] (omega arith))
