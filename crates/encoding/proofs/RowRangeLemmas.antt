-- The rows of a league, constraint by constraint.
use Rattle.std.proofs.Common.{◌≡◌, ℕ, ◌+◌, ◌-◌, ◌≤◌, List, ◌++◌, length, take, drop, arith, ap, sym, ◌∙◌}
use Rattle.std.proofs.Math.Seq.{take-add, take-append_seam, drop-append_seam}
use Rattle.std.proofs.lemmas.Grind.{flat_map-append}
use Rattle.std.proofs.lemmas.List.{append_assoc, drop-drop, length-append, take-append-drop}
use Rattle.std.proofs.lemmas.List.Elements.{filter-append}
use Rattle.std.specs.List.{filter, flat_map, slice_range}
use Rattle.league.specs.Instance.{Instance}
use Rattle.league.specs.declared.class.Constraint.{Constraint}
use Rattle.rows.specs.Rows.{Row}
use Rattle.encoding.specs.Encoding.{class_rows, constraint_rows, rows_of, season_rows}
use Rattle.encoding.specs.RowRanges.{IsRowOf, first_row, rows_of_constraint}
use Rattle.encoding.specs.Season.{break_rows}
use Rattle.encoding.specs.Variables.{has_breaks}

-- the rows of some constraints, and of others behind them
pub constraint_rows-append : (n : ℕ) (cs ds : List Constraint)
    → constraint_rows n (cs ++ ds) ≡ constraint_rows n cs ++ constraint_rows n ds
constraint_rows-append n cs ds =
    let own : Constraint → List Row = λ c. class_rows n c.class in
    ap (λ (hard : List Constraint). flat_map own hard) (filter-append (λ (c : Constraint). c.hard) cs ds)
    ∙ flat_map-append own (filter (λ (c : Constraint). c.hard) cs) (filter (λ (c : Constraint). c.hard) ds)

-- the rows that stand before those of constraint k
abbrev pub rows_before : Instance → ℕ → List Row
rows_before league k =
    (season_rows league.n league.phased ++ break_rows league.n (has_breaks league.constraints))
    ++ constraint_rows league.n (take k league.constraints)

pub length-rows_before : (league : Instance) (k : ℕ) → length (rows_before league k) ≡ first_row league k
length-rows_before league k = length-append
    (season_rows league.n league.phased ++ break_rows league.n (has_breaks league.constraints))
    (constraint_rows league.n (take k league.constraints))

-- some constraints further the rows begin behind those of these
pub first_row-add : (league : Instance) (k more : ℕ)
    → first_row league (k + more)
    ≡ first_row league k + length (constraint_rows league.n (take more (drop k league.constraints)))
first_row-add league k more =
    let before : List Constraint = take k league.constraints in
    let next : List Constraint = take more (drop k league.constraints) in
    let apart : length (constraint_rows league.n (take (k + more) league.constraints)) ≡ length (constraint_rows league.n before) + length (constraint_rows league.n next) =
    ap (λ (cs : List Constraint). length (constraint_rows league.n cs)) (take-add k more league.constraints)
    ∙ ap (λ (rows : List Row). length rows) (constraint_rows-append league.n before next)
    ∙ length-append (constraint_rows league.n before) (constraint_rows league.n next) in
    omega (arith, apart)

-- the rows of a league are those before constraint k, its own, and those of the later ones
pub rows-apart : (league : Instance) (k : ℕ)
    → rows_of league
    ≡ rows_before league k
    ++ (rows_of_constraint league k ++ constraint_rows league.n (drop (k + 1) league.constraints))
rows-apart league k =
    let season : List Row = season_rows league.n league.phased in
    let tied : List Row = break_rows league.n (has_breaks league.constraints) in
    let cs : List Constraint = league.constraints in
    let from_k : List Constraint = drop k cs in
    let rest : drop 1 from_k ≡ drop (k + 1) cs = drop-drop 1 k cs in
    let own : constraint_rows league.n from_k ≡ rows_of_constraint league k ++ constraint_rows league.n (drop (k + 1) cs) =
    ap (constraint_rows league.n) (sym (take-append-drop 1 from_k))
    ∙ constraint_rows-append league.n (take 1 from_k) (drop 1 from_k)
    ∙ ap (λ (ds : List Constraint). rows_of_constraint league k ++ constraint_rows league.n ds) rest in
    let all : constraint_rows league.n cs ≡ constraint_rows league.n (take k cs) ++ (rows_of_constraint league k ++ constraint_rows league.n (drop (k + 1) cs)) =
    ap (constraint_rows league.n) (sym (take-append-drop k cs))
    ∙ constraint_rows-append league.n (take k cs) from_k
    ∙ ap (λ (rows : List Row). constraint_rows league.n (take k cs) ++ rows) own in
    ap (λ (rows : List Row). (season ++ tied) ++ rows) all
    ∙ sym (append_assoc (season ++ tied) (constraint_rows league.n (take k cs)) (rows_of_constraint league k ++ constraint_rows league.n (drop (k + 1) cs)))

-- the rows of a league from where those of constraint k begin to where those of the next one do
pub rows-range : (league : Instance) (k : ℕ)
    → slice_range (rows_of league) (first_row league k) (first_row league (k + 1)) ≡ rows_of_constraint league k
rows-range league k =
    let before : List Row = rows_before league k in
    let own : List Row = rows_of_constraint league k in
    let later : List Row = constraint_rows league.n (drop (k + 1) league.constraints) in
    let long : first_row league (k + 1) - first_row league k ≡ length own = omega (arith, first_row-add league k 1) in
    ap (λ (count : ℕ). take count (drop (first_row league k) (rows_of league))) long
    ∙ ap (λ (rows : List Row). take (length own) (drop (first_row league k) rows)) (rows-apart league k)
    ∙ ap (λ (from : ℕ). take (length own) (drop from (before ++ (own ++ later)))) (sym (length-rows_before league k))
    ∙ ap (λ (rows : List Row). take (length own) rows) (drop-append_seam before (own ++ later))
    ∙ take-append_seam own later

-- later constraints begin no earlier
pub first_row-order : (league : Instance) (i j : ℕ) → i ≤ j → first_row league i ≤ first_row league j
first_row-order league i j order =
    let further : i + (j - i) ≡ j = omega (arith, order) in
    omega (arith, first_row-add league i (j - i), ap (first_row league) further)

-- no row is past the last one
pub first_row-within : (league : Instance) (k : ℕ) → first_row league k ≤ length (rows_of league)
first_row-within league k =
    let before : List Row = rows_before league k in
    let later : List Row = rows_of_constraint league k ++ constraint_rows league.n (drop (k + 1) league.constraints) in
    omega (arith, ap (λ (rows : List Row). length rows) (rows-apart league k), length-append before later, length-rows_before league k)

-- a row is of one constraint
pub row_of-once : (league : Instance) (i j row : ℕ) → IsRowOf league i row → IsRowOf league j row → i ≡ j
row_of-once league i j row is are =
    let later : i + 1 ≤ j → first_row league (i + 1) ≤ first_row league j = first_row-order league (i + 1) j in
    let earlier : j + 1 ≤ i → first_row league (j + 1) ≤ first_row league i = first_row-order league (j + 1) i in
    grind (arith, is.from, is.below, are.from, are.below, later, earlier)
