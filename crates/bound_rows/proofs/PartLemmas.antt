-- Lists of parts that grow by one.
use Rattle.std.proofs.Common.{◌≡◌, ℕ, ◌+◌, ◌-◌, ◌<◌, List, [], ◌∷◌, ◌++◌, map, append_assoc, refl, sym, ap, ◌∙◌, arith}
use Rattle.std.proofs.lemmas.List.{map-append}
use Rattle.std.proofs.lemmas.List.FromFn.{map-range_with_len_more}
use Rattle.std.specs.List.{flat_map, range_with_len}
use Rattle.league.specs.Capacity.{windows_of}
use Rattle.league.specs.Counts.{slot_count}
use Rattle.league.specs.declared.class.Class.{Class}
use Rattle.league.specs.declared.class.Class.TheVariants.{Ca3}
use Rattle.league.specs.declared.class.Side.{Side}
use Rattle.bound_rows.specs.Parts.{ca3_parts, parts_of}
use Rattle.bound_rows.specs.OneOf.{of_window}

-- a list with what a range gives so far, and the next
pub range-more : {X : Type 0} (f : ℕ → X) (a k j : ℕ) (start old new : List X) (added : X) → a + k ≡ j
    → old ≡ start ++ map f (range_with_len a k) → added ≡ f j → new ≡ old ++ added ∷ []
    → new ≡ start ++ map f (range_with_len a (k + 1))
range-more f a k j start old new added place so_far is put =
    put
    ∙ ap (λ xs. xs ++ added ∷ []) so_far
    ∙ append_assoc start (map f (range_with_len a k)) (added ∷ [])
    ∙ ap (λ x. start ++ (map f (range_with_len a k) ++ x ∷ [])) is
    ∙ ap (λ xs. start ++ xs) (sym (map-range_with_len_more f a k j place))

-- parts made of windows so far, and the next one's
pub windows-more : (part : List ℕ → Class) (count k : ℕ) (start old new : List Class) (added : Class)
    → old ≡ start ++ map part (map (λ first. range_with_len first count) (range_with_len 0 k))
    → added ≡ part (range_with_len k count) → new ≡ old ++ added ∷ []
    → new ≡ start ++ map part (map (λ first. range_with_len first count) (range_with_len 0 (k + 1)))
windows-more part count k start old new added so_far is put =
    let window : ℕ → List ℕ = λ first. range_with_len first count in
    let before : List (List ℕ) = map window (range_with_len 0 k) in
    let more : map part (map window (range_with_len 0 (k + 1))) ≡ map part before ++ part (window k) ∷ [] =
    ap (map part) (map-range_with_len_more window 0 k k (omega arith)) ∙ map-append part before (window k ∷ []) in
    put
    ∙ ap (λ (xs : List Class). xs ++ added ∷ []) so_far
    ∙ append_assoc start (map part before) (added ∷ [])
    ∙ ap (λ (x : Class). start ++ (map part before ++ x ∷ [])) is
    ∙ ap (λ (xs : List Class). start ++ xs) (sym more)

-- no part where no window fits
pub no_windows : (n intp : ℕ) (part : ℕ → List ℕ → Class) (teams : List ℕ) → slot_count n < intp
    → [] ≡ flat_map (λ i. map (λ slots. part i slots) (windows_of n intp)) teams
no_windows n intp part [] long = refl
no_windows n intp part (i ∷ teams) long =
    no_windows n intp part teams long
    ∙ sym (ap (λ (parts : List Class). parts ++ flat_map (λ j. map (λ slots. part j slots) (windows_of n intp)) teams)
    (ap (λ (count : ℕ). map (λ slots. part i slots) (map (λ first. range_with_len first intp) (range_with_len 0 count)))
    none)) where
      none : slot_count n + 1 - intp ≡ 0
      none = omega arith

-- the parts of a CA3, which has these first teams
pub ca3-parts : (n : ℕ) (class : Class) (teams teams1 teams2 : List ℕ) (min max intp : ℕ) (side : Side)
    → class ≡ Ca3 teams1 teams2 min max intp side → teams ≡ teams1
    → flat_map (λ i. map (λ slots. of_window class i slots) (windows_of n intp)) teams ≡ parts_of n class
ca3-parts n class teams teams1 teams2 min max intp side is same =
    ap (λ (k : Class). flat_map (λ i. map (λ slots. of_window k i slots) (windows_of n intp)) teams) is
    ∙ ap (flat_map (ca3_parts n teams2 min max intp side)) same
    ∙ sym (ap (parts_of n) is)
