-- Every group of a league whose bound rows are few enough has room.
use Rattle.std.proofs.Common.{◌≡◌, ℕ, zero, suc, ◌+◌, ◌-◌, ◌*◌, ◌<◌, ◌≤◌, Bool, true, not, cond, nat_lt, List}
use Rattle.std.proofs.Common.{[], ◌∷◌, length, map, get_or, IsTrue, refl, sym, ap, subst, ◌∙◌, arith}
use Rattle.std.proofs.lemmas.Bool.{ltb-true, or_left, or_right}
use Rattle.std.proofs.lemmas.List.{get_or-map, length-map}
use Rattle.std.proofs.lemmas.List.Elements.{All-cons, All-filter, All-map, All-nil, All-weaker, filter_passes}
use Rattle.std.specs.List.{All, list_any, sum_by}
use Rattle.league.specs.Accepted.{soft_of}
use Rattle.league.specs.Instance.{Instance, IsInstance, class_fits}
use Rattle.league.specs.declared.class.Class.{Class}
use Rattle.league.specs.declared.class.Class.TheVariants.{Ca1, Ca2, Ca3, Ca4, Ga1, Br1, Br2, Fa2, Se1}
use Rattle.league.specs.declared.class.Constraint.{Constraint}
use Rattle.league.specs.declared.class.Span.TheVariants.{Global}
use Rattle.league.specs.Capacity.{windows_of}
use Rattle.league.specs.Deviation.{spans}
use Rattle.league.specs.Meetings.{pairs_of}
use Rattle.std.specs.List.{range_with_len}
use Rattle.league.proofs.SumLemmas.{sum_by-map}
use Rattle.league.proofs.OneTermLemmas.{All-flat_map}
use Rattle.encoding.specs.Known.{AreKnown}
use Rattle.encoding.specs.Variables.{bounds_breaks, h_count, has_breaks, hb_count, x_count}
use Rattle.encoding.proofs.KnownLemmas.{class_rows-known}
use Rattle.bound_rows.specs.BoundRows.{base_vars, bound_size, first_unit, group_of, groups_of, has_paid_breaks}
use Rattle.bound_rows.specs.BoundRows.{league_groups, needs_breaks, paid_of}
use Rattle.bound_rows.specs.Parts.{ca3_parts, parts_of, se1_parts}
use Rattle.bound_rows.specs.Softening.{Group}
use Rattle.bound_rows.specs.Bare.{bare, bare_groups, unit_total}
use Rattle.bound_rows.specs.declared.units.Units.{Units}
use Rattle.bound_rows.proofs.FitParts.{fits-parts}
use Rattle.bound_rows.specs.Drafts.{AreBefore, HasRoom, stripped, units_in}
use Rattle.bound_rows.specs.declared.draft.Draft.{Draft}
use Rattle.bound_rows.proofs.SizeLemmas.{bound_size-groups, rows_in-le, units_in-le}

-- ---- parts bound breaks where their class does

abbrev BoundsAs : Class → Class → Type 0
BoundsAs class part = bounds_breaks part ≡ bounds_breaks class

parts_bound : (n : ℕ) (class : Class) → All (BoundsAs class) (parts_of n class)
parts_bound n (Ca1 teams min max side slots) =
    All-map (BoundsAs (Ca1 teams min max side slots)) (λ i. Ca1 (i ∷ []) min max side slots) teams (λ k d within. refl)
parts_bound n (Ca2 teams1 teams2 min max side slots) =
    All-map (BoundsAs (Ca2 teams1 teams2 min max side slots)) (λ i. Ca2 (i ∷ []) teams2 min max side slots) teams1
    (λ k d within. refl)
parts_bound n (Ca3 teams1 teams2 min max intp side) =
    All-flat_map (BoundsAs (Ca3 teams1 teams2 min max intp side)) (ca3_parts n teams2 min max intp side) teams1
    (λ k d within.
    All-map (BoundsAs (Ca3 teams1 teams2 min max intp side)) (Ca2 (get_or teams1 k d ∷ []) teams2 min max side)
    (windows_of n intp) (λ l e inside. refl))
parts_bound n (Ca4 teams1 teams2 min max side span slots) =
    All-map (BoundsAs (Ca4 teams1 teams2 min max side span slots)) (Ca4 teams1 teams2 min max side Global)
    (spans span slots) (λ k d within. refl)
parts_bound n (Ga1 meetings min max slots) =
    All-cons (BoundsAs (Ga1 meetings min max slots)) (Ga1 meetings min max slots) [] refl
    (All-nil (BoundsAs (Ga1 meetings min max slots)))
parts_bound n (Br1 teams intp side slots) =
    All-map (BoundsAs (Br1 teams intp side slots)) (λ i. Br1 (i ∷ []) intp side slots) teams (λ k d within. refl)
parts_bound n (Br2 teams intp slots) =
    All-cons (BoundsAs (Br2 teams intp slots)) (Br2 teams intp slots) [] refl (All-nil (BoundsAs (Br2 teams intp slots)))
parts_bound n (Fa2 teams intp slots) =
    All-map (BoundsAs (Fa2 teams intp slots)) (λ p. Fa2 (p.0 ∷ p.1 ∷ []) intp slots) (pairs_of teams)
    (λ k d within. refl)
parts_bound n (Se1 teams min) =
    All-flat_map (BoundsAs (Se1 teams min)) (se1_parts min) (pairs_of teams)
    (λ k d within.
    let p : ℕ × ℕ = get_or (pairs_of teams) k d in
    All-map (BoundsAs (Se1 teams min)) (λ u. Se1 (p.0 ∷ p.1 ∷ []) (min + 1 - u)) (range_with_len 1 min)
    (λ l e inside. refl))

-- ---- the rows of groups speak of no units

any_at : {X : Type 0} (p : X → Bool) (xs : List X) (k : ℕ) (d : X) → k < length xs → p (get_or xs k d) ≡ true
    → list_any p xs ≡ true
any_at p [] k d within pass = absurd (omega arith)
any_at p (x ∷ xs) zero d within pass = or_left (p x) (list_any p xs) pass
any_at p (x ∷ xs) (suc k) d within pass = or_right (p x) (list_any p xs) (any_at p xs k d (omega arith) pass)

pub with_breaks : (league : Instance) → needs_breaks league.constraints ≡ true
    → x_count league.n + h_count league.n + 2 * hb_count league.n ≤ base_vars league
with_breaks league has =
    omega (
      arith,
      ap (λ (b : Bool). x_count league.n + h_count league.n + cond b (2 * hb_count league.n) 0) has,
    )

pub groups_within : (league : Instance) → IsInstance league
    → All (λ g. AreKnown (base_vars league) g.rows) (league_groups league)
groups_within league is =
    let n : ℕ = league.n in
    let paid : List Constraint = paid_of league.constraints in
    let known : Group → Type 0 = λ g. AreKnown (base_vars league) g.rows in
    let fit = All-filter (λ (c : Constraint). nat_lt 0 c.penalty) (λ c. IsTrue (class_fits n c.class))
    (soft_of league.constraints)
    (All-filter (λ (c : Constraint). not c.hard) (λ c. IsTrue (class_fits n c.class)) league.constraints is.fit) in
    let wide : x_count n + h_count n ≤ base_vars league = omega arith in
    All-flat_map known (λ c. map (group_of n c.penalty) (parts_of n c.class)) paid
    (λ k d within.
    let c : Constraint = get_or paid k d in
    All-map known (group_of n c.penalty) (parts_of n c.class)
    (λ l e inside.
    let part : Class = get_or (parts_of n c.class) l e in
    let told : bounds_breaks part ≡ true → needs_breaks league.constraints ≡ true = λ bounds.
    or_right (has_breaks league.constraints) (has_paid_breaks league.constraints)
    (any_at (λ (c : Constraint). bounds_breaks c.class) paid k d within
    (sym (parts_bound n c.class l e inside) ∙ bounds)) in
    class_rows-known (base_vars league) n wide part (fits-parts n c.class (fit k d within) l e inside)
    (λ bounds. with_breaks league (told bounds))))

pub groups_known : (league : Instance) → IsInstance league
    → All (λ g. AreBefore (first_unit league) g.rows) (league_groups league)
groups_known league is =
    All-weaker (λ (g : Group). AreKnown (base_vars league) g.rows) (λ g. AreBefore (first_unit league) g.rows)
    (λ g known i r there j t here. omega (arith, (known i r there j t here).1)) (league_groups league)
    (groups_within league is)

-- ---- room for all

pub league_room : (league : Instance) (draft : Draft) → IsInstance league → bound_size league ≤ 40000000
    → draft.next ≡ first_unit league → base_vars league ≤ 130960 → length draft.rows ≤ 2433640000
    → HasRoom draft (league_groups league)
league_room league draft is small place vars few =
    let groups : List Group = league_groups league in
    record {
      first = omega (arith, place);
      units = omega (arith, place, vars, small, bound_size-groups league, units_in-le groups);
      rows = omega (arith, few, small, bound_size-groups league, rows_in-le league.n league.constraints);
      known = subst (λ (v : ℕ). All (λ g. AreBefore v g.rows) groups) (sym place) (groups_known league is);
    }

-- ---- what is kept of the groups

pub units_of-kept : (kept : List Units) (groups : List Group) → bare_groups kept ≡ map stripped groups
    → unit_total kept ≡ units_in groups
units_of-kept kept groups same =
    sym (sum_by-map (λ (g : Group). g.units) bare kept)
    ∙ ap (λ (gs : List Group). sum_by (λ g. g.units) gs) same
    ∙ sum_by-map (λ (g : Group). g.units) stripped groups

All-unmap : {X Y : Type 0} (P : Y → Type 0) (f : X → Y) (xs : List X) → All P (map f xs) → All (λ x. P (f x)) xs
All-unmap P f xs all k d within =
    subst P (get_or-map f xs k d (f d) within) (all k (f d) (omega (arith, length-map xs f)))

pub penalties_kept : (n : ℕ) (constraints : List Constraint) (kept : List Units)
    → bare_groups kept ≡ map stripped (groups_of n constraints) → All (λ u. 1 ≤ u.penalty) kept
penalties_kept n constraints kept same =
    let costs : Group → Type 0 = λ g. 1 ≤ g.penalty in
    let paid : List Constraint = paid_of constraints in
    All-unmap costs bare kept
    (subst (λ (gs : List Group). All costs gs) (sym same)
    (All-map costs stripped (groups_of n constraints)
    (All-flat_map costs (λ c. map (group_of n c.penalty) (parts_of n c.class)) paid
    (λ k d within.
    let c : Constraint = get_or paid k d in
    All-map costs (group_of n c.penalty) (parts_of n c.class)
    (λ l e inside. ltb-true 0 c.penalty
    (filter_passes (λ (c : Constraint). nat_lt 0 c.penalty) (soft_of constraints) k d within))))))
