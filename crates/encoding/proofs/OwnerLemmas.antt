-- Where the rows of constraints begin, as an encoding keeps it, and whose a row is.
use Rattle.std.proofs.Common.{◌≡◌, ℕ, ◌+◌, ◌-◌, ◌<◌, ◌≤◌, List, length, get_or, arith, ap, subst, sym, ◌∙◌}
use Rattle.std.proofs.lemmas.List.FromFn.{get_or-map-range_with_len, length-map-range_with_len}
use Rattle.std.specs.List.{slice_range}
use Rattle.std.specs.List.Sorted.{IsNonDecreasingBy}
use Rattle.league.specs.Instance.{Instance}
use Rattle.encoding.proofs.RowRangeLemmas.{first_row-order, rows-range}
use Rattle.encoding.specs.Encoding.{rows_of}
use Rattle.encoding.specs.RowRanges.{IsRowOf, first_row, first_rows, rows_of_constraint}

-- there is a beginning for each constraint, and the end of the last one
pub starts-long : (league : Instance) (starts : List ℕ) → starts ≡ first_rows league
    → length starts ≡ length league.constraints + 1
starts-long league starts are =
    ap (λ (ks : List ℕ). length ks) are ∙ length-map-range_with_len (first_row league) 0 (length league.constraints + 1)

pub starts-at : (league : Instance) (starts : List ℕ) (k d : ℕ) → starts ≡ first_rows league
    → k ≤ length league.constraints → get_or starts k d ≡ first_row league k
starts-at league starts k d are there =
    ap (λ (ks : List ℕ). get_or ks k d) are
    ∙ get_or-map-range_with_len (first_row league) 0 (length league.constraints + 1) k k d (omega (arith, there)) (omega arith)

pub starts-order : (league : Instance) (starts : List ℕ) → starts ≡ first_rows league
    → IsNonDecreasingBy (λ (k : ℕ). k) starts
starts-order league starts are i j d order within =
    let long : length starts ≡ length league.constraints + 1 = starts-long league starts are in
    let first : get_or starts i d ≡ first_row league i = starts-at league starts i d are (omega (arith, order, within, long)) in
    let later : get_or starts j d ≡ first_row league j = starts-at league starts j d are (omega (arith, within, long)) in
    omega (arith, first, later, first_row-order league i j order)

-- the beginnings of the rows, as the league is seen
pub starts-seen : (inside seen : Instance) (starts : List ℕ) → starts ≡ first_rows inside → inside ≡ seen
    → starts ≡ first_rows seen
starts-seen inside seen starts are same = are ∙ ap (λ (league : Instance). first_rows league) same

-- the rows from one beginning to the next
pub rows-between : (league : Instance) (k start end : ℕ) → start ≡ first_row league k → end ≡ first_row league (k + 1)
    → slice_range (rows_of league) start end ≡ rows_of_constraint league k
rows-between league k start end starts ends =
    ap (λ (from : ℕ). slice_range (rows_of league) from end) starts
    ∙ ap (λ (to : ℕ). slice_range (rows_of league) (first_row league k) to) ends
    ∙ rows-range league k

-- the row is of the last constraint whose rows begin at it or before it, where the next one's don't
pub owner : (league : Instance) (starts : List ℕ) (row begun : ℕ) → starts ≡ first_rows league
    → ((k d : ℕ) → k < begun → get_or starts k d ≤ row)
    → ((k d : ℕ) → begun ≤ k → k < length starts → row < get_or starts k d)
    → 0 < begun → begun < length starts → IsRowOf league (begun - 1) row
owner league starts row begun are below above some more =
    let long : length starts ≡ length league.constraints + 1 = starts-long league starts are in
    let again : begun - 1 + 1 ≡ begun = omega (arith, some) in
    let at : get_or starts (begun - 1) 0 ≡ first_row league (begun - 1) = starts-at league starts (begun - 1) 0 are (omega (arith, more, long)) in
    let next : get_or starts begun 0 ≡ first_row league begun = starts-at league starts begun 0 are (omega (arith, more, long)) in
    record {
      there = omega (arith, some, more, long);
      from = omega (arith, at, below (begun - 1) 0 (omega (arith, some)));
      below = subst (λ (k : ℕ). row < first_row league k) (sym again) (omega (arith, next, above begun 0 (omega arith) more));
    }

-- where none begins at it or before it, it is of none
pub none_before : (league : Instance) (starts : List ℕ) (row k : ℕ) → starts ≡ first_rows league
    → ((k d : ℕ) → 0 ≤ k → k < length starts → row < get_or starts k d) → IsRowOf league k row → ⊥
none_before league starts row k are above is =
    let long : length starts ≡ length league.constraints + 1 = starts-long league starts are in
    let first : get_or starts 0 0 ≡ first_row league 0 = starts-at league starts 0 0 are (omega arith) in
    absurd (omega (arith, first, above 0 0 (omega arith) (omega (arith, long)), first_row-order league 0 k (omega arith), is.from))

-- where even the last one has ended, it is of none
pub none_behind : (league : Instance) (starts : List ℕ) (row k : ℕ) → starts ≡ first_rows league
    → ((k d : ℕ) → k < length starts → get_or starts k d ≤ row) → IsRowOf league k row → ⊥
none_behind league starts row k are below is =
    let count : ℕ = length league.constraints in
    let long : length starts ≡ count + 1 = starts-long league starts are in
    let last : get_or starts count 0 ≡ first_row league count = starts-at league starts count 0 are (omega arith) in
    let there : k < count = is.there in
    absurd (omega (arith, last, below count 0 (omega (arith, long)), first_row-order league (k + 1) count (omega (arith, there)), is.below))
