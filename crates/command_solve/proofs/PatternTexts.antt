-- Lines and letters, one after another.
use Rattle.std.proofs.Common.{◌≡◌, ℕ, ◌+◌, ◌<◌, List, [], ◌∷◌, ◌++◌, length, take, Some}
use Rattle.std.proofs.Common.{arith, ap, sym, ◌∙◌, append_assoc, zero-add}
use Rattle.std.specs.Prelude.{slice_get}
use Rattle.std.specs.List.{flat_map}
use Rattle.std.proofs.lemmas.List.{append-nil, flat_map_more, length-take-le, take_more}
use Rattle.std.proofs.lemmas.Option.{get_or_from_slice_get, slice_get_within}
use Rattle.league.specs.declared.class.Side.{Side}
use Rattle.league.specs.declared.class.Side.TheVariants.{Both}
use Rattle.command_solve.specs.Patterns.{letter, lines_from, pattern_line}

-- a letter more
pub letters-more : (pattern : List Side) (k : ℕ) (side : Side) (whole old new : List ℕ)
    → slice_get pattern k ≡ Some side → new ≡ old ++ letter side → old ≡ whole ++ flat_map letter (take k pattern)
    → new ≡ whole ++ flat_map letter (take (k + 1) pattern)
letters-more pattern k side whole old new at more was =
    more ∙ ap (λ (text : List ℕ). text ++ letter side) was ∙ flat_map_more letter whole (take k pattern) side
    ∙ ap (λ (sides : List Side). whole ++ flat_map letter sides)
    (sym (take_more pattern k Both (slice_get_within pattern k side at)
    ∙ ap (λ (s : Side). take k pattern ++ s ∷ []) (get_or_from_slice_get pattern k side Both at)))

lines-push : (team : ℕ) (patterns : List (List Side)) (pattern : List Side)
    → lines_from team (patterns ++ pattern ∷ [])
    ≡ lines_from team patterns ++ pattern_line (team + length patterns) pattern
lines-push team [] pattern =
    let same : team ≡ team + 0 = omega arith in
    append-nil (pattern_line team pattern) ∙ ap (λ (n : ℕ). pattern_line n pattern) same
lines-push team (first ∷ patterns) pattern =
    let same : team + 1 + length patterns ≡ team + length (first ∷ patterns) = omega arith in
    ap (λ (text : List ℕ). pattern_line team first ++ text)
    (lines-push (team + 1) patterns pattern
    ∙ ap (λ (n : ℕ). lines_from (team + 1) patterns ++ pattern_line n pattern) same)
    ∙ sym (append_assoc (pattern_line team first) (lines_from (team + 1) patterns)
    (pattern_line (team + length (first ∷ patterns)) pattern))

-- a line more
pub lines-more : (patterns : List (List Side)) (k : ℕ) (pattern : List Side) (old new : List ℕ)
    → slice_get patterns k ≡ Some pattern → new ≡ old ++ pattern_line k pattern → old ≡ lines_from 0 (take k patterns)
    → new ≡ lines_from 0 (take (k + 1) patterns)
lines-more patterns k pattern old new at more was =
    let within : k < length patterns = slice_get_within patterns k pattern at in
    let count : 0 + length (take k patterns) ≡ k =
    zero-add (length (take k patterns)) ∙ length-take-le k patterns (omega (arith, within)) in
    more ∙ ap (λ (text : List ℕ). text ++ pattern_line k pattern) was
    ∙ sym (ap (λ (ps : List (List Side)). lines_from 0 ps)
    (take_more patterns k [] within
    ∙ ap (λ (p : List Side). take k patterns ++ p ∷ []) (get_or_from_slice_get patterns k pattern [] at))
    ∙ lines-push 0 (take k patterns) pattern
    ∙ ap (λ (n : ℕ). lines_from 0 (take k patterns) ++ pattern_line n pattern) count)
