-- The bound rows speak of their variables alone.
use Rattle.std.proofs.Common.{◌≡◌, ℕ, ◌+◌, ◌-◌, ◌*◌, ◌<◌, ◌≤◌, Bool, true, false, List, [], ◌∷◌, ◌++◌, map}
use Rattle.std.proofs.Common.{IsTrue, length, get_or, refl, arith}
use Rattle.std.proofs.lemmas.Bool.{or_left}
use Rattle.std.proofs.lemmas.List.Elements.{All-append, All-cons, All-head, All-map, All-nil, All-tail}
use Rattle.std.proofs.lemmas.List.FromFn.{get_or-range_with_len, length-range_with_len}
use Rattle.std.proofs.lemmas.List.Sums.{sum_by-cons}
use Rattle.std.specs.List.{All, range_with_len}
use Rattle.league.specs.Instance.{Instance, IsInstance, class_fits}
use Rattle.league.specs.declared.class.Class.TheVariants.{Br1}
use Rattle.league.specs.declared.class.Constraint.{Constraint}
use Rattle.league.specs.declared.class.Side.TheVariants.{Both}
use Rattle.rows.specs.Cardinality.{unit}
use Rattle.rows.specs.Literals.{Literal, no, yes}
use Rattle.rows.specs.declared.lit.Term.{Term}
use Rattle.encoding.specs.Encoding.{constraint_rows, season_rows}
use Rattle.encoding.specs.Known.{AreKnown, IsKnown}
use Rattle.encoding.specs.Season.{break_rows}
use Rattle.encoding.specs.Variables.{h_count, has_breaks, hb_count, x_count}
use Rattle.encoding.proofs.AscendLemmas.{AscendsBy-above, AscendsBy-below}
use Rattle.encoding.proofs.KnownLemmas.{constraint_rows-known, rows_of-known, season_rows-known}
use Rattle.bound_rows.specs.BoundRows.{base_rows, base_vars, bound_rows, bound_vars, first_unit, has_paid_breaks}
use Rattle.bound_rows.specs.BoundRows.{league_groups, needs_breaks}
use Rattle.bound_rows.specs.Softening.{Group, costs, objective_row, one_before, order_rows, soften, softened_rows}
use Rattle.bound_rows.specs.Softening.{units_from}
use Rattle.bound_rows.proofs.RowLemmas.{costs_ascend, var_of}
use Rattle.bound_rows.specs.Drafts.{units_in}
use Rattle.bound_rows.proofs.DraftLemmas.{All-back, All-front}
use Rattle.bound_rows.proofs.RoomLemmas.{groups_within, with_breaks}

-- ---- the rows of the league

-- where breaks have variables: as in a league whose one constraint bounds them
breaks_known : (league : Instance) → IsInstance league
    → AreKnown (x_count league.n + h_count league.n + 2 * hb_count league.n) (break_rows league.n true)
breaks_known league is =
    let n : ℕ = league.n in
    let vars : ℕ = x_count n + h_count n + 2 * hb_count n in
    let other : Instance = record {
      n = n;
      phased = league.phased;
      constraints = record { hard = true; penalty = 1; class = Br1 [] 0 Both [] } ∷ [];
    } in
    let fits : Constraint → Type 0 = λ c. IsTrue (class_fits n c.class) in
    let bounding : All fits other.constraints =
    All-cons fits (record { hard = true; penalty = 1; class = Br1 [] 0 Both [] }) [] refl (All-nil fits) in
    let all = rows_of-known other
    (record { teams = is.teams; few = omega arith; fit = bounding }) in
    let two = All-front (IsKnown vars) (season_rows n league.phased ++ break_rows n true)
    (constraint_rows n other.constraints) all in
    All-back (IsKnown vars) (season_rows n league.phased) (break_rows n true) two

base_known : (league : Instance) → IsInstance league → AreKnown (base_vars league) (base_rows league)
base_known league is =
    let n : ℕ = league.n in
    let vars : ℕ = base_vars league in
    let wide : x_count n + h_count n ≤ vars = omega arith in
    All-append (IsKnown vars) (season_rows n league.phased ++ break_rows n (needs_breaks league.constraints))
    (constraint_rows n league.constraints)
    (All-append (IsKnown vars) (season_rows n league.phased) (break_rows n (needs_breaks league.constraints))
    (season_rows-known vars n wide league.phased) (by (needs_breaks league.constraints) refl))
    (constraint_rows-known vars n league.constraints wide is.fit
    (λ some. with_breaks league (or_left (has_breaks league.constraints) (has_paid_breaks league.constraints) some)))
  where
    by : (b : Bool) → needs_breaks league.constraints ≡ b → AreKnown (base_vars league) (break_rows league.n b)
    by false none = All-nil (IsKnown (base_vars league))
    by true some = λ k d within l e inside.
        let known = breaks_known league is k d within l e inside in
        (known.0, omega (arith, known.1, with_breaks league some))

-- ---- units

in_range : (first count k d : ℕ) → k < length (range_with_len first count)
    → (first ≤ get_or (range_with_len first count) k d) × (get_or (range_with_len first count) k d < first + count)
in_range first count k d within =
    let small : k < count = omega (arith, length-range_with_len first count) in
    let at = get_or-range_with_len first count k d small in
    (omega (arith, at), omega (arith, at, small))

units_known : (vars first count : ℕ) → 1 ≤ first → first + count ≤ vars + 1
    → All (λ t. (1 ≤ t.lit.var) × (t.lit.var ≤ vars)) (map unit (units_from first count))
units_known vars first count start end =
    All-map (λ (t : Term). (1 ≤ t.lit.var) × (t.lit.var ≤ vars)) unit (units_from first count)
    (All-map (λ (l : Literal). (1 ≤ l.var) × (l.var ≤ vars)) yes (range_with_len first count)
    (λ k d within.
    let at = in_range first count k d within in
    (omega (arith, at.0), omega (arith, at.1))))

softened_known : (vars low first : ℕ) (groups : List Group) → low ≤ vars → 1 ≤ first
    → first + units_in groups ≤ vars + 1 → All (λ g. AreKnown low g.rows) groups
    → AreKnown vars (softened_rows first groups)
softened_known vars low first [] less start end known = All-nil (IsKnown vars)
softened_known vars low first (g ∷ groups) less start end known =
    let more = sum_by-cons (λ (g : Group). g.units) g groups in
    let here = All-head (λ (g : Group). AreKnown low g.rows) g groups known in
    All-append (IsKnown vars) (map (soften (units_from first g.units)) g.rows) (softened_rows (first + g.units) groups)
    (All-map (IsKnown vars) (soften (units_from first g.units)) g.rows
    (λ k d within.
    All-append (λ (t : Term). (1 ≤ t.lit.var) × (t.lit.var ≤ vars)) (get_or g.rows k d).terms
    (map unit (units_from first g.units))
    (λ l e inside.
    let old = here k d within l e inside in
    (old.0, omega (arith, old.1, less)))
    (units_known vars first g.units start (omega (arith, more, end)))))
    (softened_known vars low (first + g.units) groups less (omega (arith, start)) (omega (arith, more, end))
    (All-tail (λ (g : Group). AreKnown low g.rows) g groups known))

objective_known : (vars first : ℕ) (groups : List Group) (bound : ℕ) → 1 ≤ first
    → first + units_in groups ≤ vars + 1 → IsKnown vars (objective_row first groups bound)
objective_known vars first groups bound start end k d within =
    let ascend = costs_ascend first groups in
    let from = AscendsBy-above var_of first (costs first groups) (first + units_in groups) ascend k d within in
    let below = AscendsBy-below var_of first (costs first groups) (first + units_in groups) ascend k d within in
    (omega (arith, from, start), omega (arith, below, end))

order_known : (vars v : ℕ) → 1 ≤ v → v + 1 ≤ vars → IsKnown vars (one_before v)
order_known vars v start end =
    let one : Term → Type 0 = λ t. (1 ≤ t.lit.var) × (t.lit.var ≤ vars) in
    All-cons one (unit (yes v)) (unit (no (v + 1)) ∷ []) (start, omega (arith, end))
    (All-cons one (unit (no (v + 1))) [] (omega arith, end) (All-nil one))

orders_known : (vars first : ℕ) (groups : List Group) → 1 ≤ first → first + units_in groups ≤ vars + 1
    → AreKnown vars (order_rows first groups)
orders_known vars first [] start end = All-nil (IsKnown vars)
orders_known vars first (g ∷ groups) start end =
    let more = sum_by-cons (λ (g : Group). g.units) g groups in
    All-append (IsKnown vars) (map one_before (range_with_len first (g.units - 1)))
    (order_rows (first + g.units) groups)
    (All-map (IsKnown vars) one_before (range_with_len first (g.units - 1))
    (λ k d within.
    let at = in_range first (g.units - 1) k d within in
    order_known vars (get_or (range_with_len first (g.units - 1)) k d) (omega (arith, at.0, start))
    (omega (arith, at.1, more, end))))
    (orders_known vars (first + g.units) groups (omega (arith, start)) (omega (arith, more, end)))

-- ---- all

pub bound_rows-known : (league : Instance) (bound : ℕ) → IsInstance league
    → AreKnown (bound_vars league) (bound_rows league bound)
bound_rows-known league bound is =
    let vars : ℕ = bound_vars league in
    let first : ℕ = first_unit league in
    let groups : List Group = league_groups league in
    let wide : base_vars league ≤ vars = omega arith in
    let start : 1 ≤ first = omega arith in
    let end : first + units_in groups ≤ vars + 1 = omega arith in
    let base : AreKnown vars (base_rows league) = λ k d within l e inside.
    let known = base_known league is k d within l e inside in
    (known.0, omega (arith, known.1, wide)) in
    All-append (IsKnown vars)
    (base_rows league ++ softened_rows first groups ++ objective_row first groups bound ∷ [])
    (order_rows first groups)
    (All-append (IsKnown vars) (base_rows league ++ softened_rows first groups) (objective_row first groups bound ∷ [])
    (All-append (IsKnown vars) (base_rows league) (softened_rows first groups) base
    (softened_known vars (base_vars league) first groups wide start end (groups_within league is)))
    (All-cons (IsKnown vars) (objective_row first groups bound) []
    (objective_known vars first groups bound start end) (All-nil (IsKnown vars))))
    (orders_known vars first groups start end)
