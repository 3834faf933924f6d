-- The bound rows are faithful both ways.
use Rattle.std.proofs.Common.{◌≡◌, ◌≢◌, ℕ, ◌+◌, ◌-◌, ◌*◌, ◌<◌, ◌≤◌, Bool, true, cond, List, [], ◌∷◌, ◌++◌, map}
use Rattle.std.proofs.Common.{get_or, inl, inr, refl, arith, ap, sym, ◌∙◌}
use Rattle.std.proofs.lemmas.Bool.{and_from, and_parts, cases_lt, le-leb, leb-true, or_left, or_right}
use Rattle.std.proofs.lemmas.List.Elements.{All-cons, All-map}
use Rattle.std.proofs.lemmas.List.Sums.{AllPass-from_list_all}
use Rattle.std.specs.List.{All, list_any}
use Rattle.league.specs.Accepted.{objective}
use Rattle.league.specs.Counts.{Counts, counts_of, slot_count}
use Rattle.league.specs.Instance.{Instance, IsInstance, class_fits}
use Rattle.league.specs.declared.class.Class.{Class}
use Rattle.league.specs.declared.class.Constraint.{Constraint}
use Rattle.league.proofs.OneTermLemmas.{All-flat_map}
use Rattle.rows.specs.Tests.{satisfied}
use Rattle.rows.proofs.TestLemmas.{SatisfiesAll-from_true, all_satisfied-true}
use Rattle.encoding.specs.Encoding.{constraint_rows, season_rows}
use Rattle.encoding.specs.Season.{break_rows}
use Rattle.encoding.specs.Shadow.{IsShadow, decoded}
use Rattle.encoding.specs.Variables.{ab_var, bounds_breaks, h_count, h_var, has_breaks, hb_count, hb_var, x_count}
use Rattle.encoding.specs.Variables.{x_var}
use Rattle.encoding.proofs.PlaceLemmas.{ab_var-place, b_place-below, h_place-below, h_var-place, hb_var-place}
use Rattle.encoding.proofs.PlaceLemmas.{x_place-below, x_var-place}
use Rattle.decoding.specs.Mirrors.{MirrorsBreaks}
use Rattle.decoding.proofs.ConstraintLaws.{MeetsHard-from_true, all_fit, constraints_law, meets_hard-true}
use Rattle.decoding.proofs.SeasonRows.{IsMirroredSeason, both_satisfied, break_rows-met_by, mirrored-from_shadow}
use Rattle.decoding.proofs.SeasonRows.{satisfied_both, season-from_rows, season_rows-met}
use Rattle.decoding.proofs.SomeShadow.{shadow_values, some_shadow}
use Rattle.bound_rows.specs.BoundRows.{base_rows, bound_rows, first_unit, group_of, league_groups}
use Rattle.bound_rows.specs.BoundRows.{needs_breaks, paid_of}
use Rattle.bound_rows.specs.Faithful.{AnswersAreBounded, BoundedHaveValues, RefutedBoundsHold}
use Rattle.bound_rows.specs.Parts.{parts_of}
use Rattle.bound_rows.specs.Softening.{Group, objective_row, order_rows, softened_rows}
use Rattle.bound_rows.specs.Units.{cost_needed, paid, with_units}
use Rattle.bound_rows.proofs.ObjectiveLaws.{objective_needs, paid_fit}
use Rattle.bound_rows.proofs.PartNeeds.{needs_fit, part_law}
use Rattle.bound_rows.proofs.SoftLaws.{needed-le-paid, objective_law, softened_law}
use Rattle.bound_rows.proofs.UnitLemmas.{Agrees, IsServed, units_enough, units_ordered, units_paid, with_units-below}

-- ---- from values to a schedule

-- breaks have variables where a hard constraint bounds them, and where one that is paid for does
hard_breaks : (league : Instance) (m : Counts) (values : ℕ → Bool)
    → (needs_breaks league.constraints ≡ true → MirrorsBreaks league.n m values)
    → has_breaks league.constraints ≡ true → MirrorsBreaks league.n m values
hard_breaks league m values breaks some =
    breaks (or_left (has_breaks league.constraints)
    (list_any (λ c. bounds_breaks c.class) (paid_of league.constraints)) some)

pub paid_breaks : (league : Instance) (m : Counts) (values : ℕ → Bool)
    → (needs_breaks league.constraints ≡ true → MirrorsBreaks league.n m values)
    → list_any (λ c. bounds_breaks c.class) (paid_of league.constraints) ≡ true → MirrorsBreaks league.n m values
paid_breaks league m values breaks some =
    breaks (or_right (has_breaks league.constraints)
    (list_any (λ c. bounds_breaks c.class) (paid_of league.constraints)) some)

pub bounded-from_rows : AnswersAreBounded
bounded-from_rows league bound values is meets =
    let n = league.n in
    let breaks = needs_breaks league.constraints in
    let first : ℕ = first_unit league in
    let groups : List Group = league_groups league in
    let m : Counts = counts_of (decoded n values) in
    let three = both_satisfied values
    (base_rows league ++ softened_rows first groups ++ objective_row first groups bound ∷ [])
    (order_rows first groups) (all_satisfied-true values (bound_rows league bound) meets) in
    let two = both_satisfied values (base_rows league ++ softened_rows first groups)
    (objective_row first groups bound ∷ []) three.0 in
    let one = both_satisfied values (base_rows league) (softened_rows first groups) two.0 in
    let base = both_satisfied values (season_rows n league.phased ++ break_rows n breaks)
    (constraint_rows n league.constraints) one.0 in
    let seven = both_satisfied values (season_rows n league.phased) (break_rows n breaks) base.0 in
    let season = season-from_rows n league.phased breaks values seven.0 seven.1 in
    let fit = all_fit league is.fit in
    let hard = MeetsHard-from_true league m (sym (constraints_law n m values season.mirrors league.constraints
    (hard_breaks league m values season.break_values) fit) ∙ base.1) in
    let row = and_parts (satisfied values (objective_row first groups bound)) true two.1 in
    let within : paid values first groups ≤ bound =
    leb-true (paid values first groups) bound (sym (objective_law values first groups bound) ∙ row.0) in
    let needed : cost_needed values groups ≤ paid values first groups =
    needed-le-paid values first groups (sym (softened_law values first groups) ∙ one.1) in
    let costs : cost_needed values groups ≡ objective league m =
    objective_needs n m values season.mirrors season.round_robin.pairs league.constraints
    (paid_breaks league m values season.break_values) fit in
    (record { round_robin = season.round_robin; hard = hard }, omega (arith, within, needed, costs))

-- ---- from a schedule to values

-- the shadow of a schedule, with its units
abbrev unit_values : Instance → Counts → ℕ → Bool
unit_values league m = with_units (shadow_values league.n m) (first_unit league) (league_groups league)

kept : (league : Instance) (m : Counts) (v : ℕ) → v < first_unit league
    → unit_values league m v ≡ shadow_values league.n m v
kept league m v below =
    with_units-below (shadow_values league.n m) (first_unit league) (league_groups league) v below

-- the variables of a league with variables for breaks
with_breaks : (league : Instance) → needs_breaks league.constraints ≡ true
    → first_unit league ≡ x_count league.n + h_count league.n + 2 * hb_count league.n + 1
with_breaks league has =
    ap (λ (b : Bool). x_count league.n + h_count league.n + cond b (2 * hb_count league.n) 0 + 1) has

x-below : (league : Instance) (i j s : ℕ) → i < league.n → j < league.n → i ≢ j → s < slot_count league.n
    → x_var league.n i j s < first_unit league
x-below league i j s home away differ slot =
    omega (arith, x_var-place league.n i j s, x_place-below league.n i j s home away differ slot)

h-below : (league : Instance) (i s : ℕ) → i < league.n → s < slot_count league.n
    → h_var league.n i s < first_unit league
h-below league i s team slot = omega (arith, h_var-place league.n i s, h_place-below league.n i s team slot)

hb-below : (league : Instance) (i s : ℕ) → needs_breaks league.constraints ≡ true → i < league.n → 0 < s
    → s < slot_count league.n → hb_var league.n i s < first_unit league
hb-below league i s has team later slot =
    omega (
      arith,
      with_breaks league has,
      hb_var-place league.n i s,
      b_place-below league.n i s team later slot,
    )

ab-below : (league : Instance) (i s : ℕ) → needs_breaks league.constraints ≡ true → i < league.n → 0 < s
    → s < slot_count league.n → ab_var league.n i s < first_unit league
ab-below league i s has team later slot =
    omega (
      arith,
      with_breaks league has,
      ab_var-place league.n i s,
      b_place-below league.n i s team later slot,
    )

unit_shadow : (league : Instance) (m : Counts)
    → IsShadow league.n (needs_breaks league.constraints) m (unit_values league m)
unit_shadow league m =
    let n = league.n in
    let shadow = some_shadow n m (needs_breaks league.constraints) in
    record {
      games = λ i j s home away differ slot.
          kept league m (x_var n i j s) (x-below league i j s home away differ slot)
          ∙ shadow.games i j s home away differ slot;
      venues = λ i s team slot. kept league m (h_var n i s) (h-below league i s team slot)
          ∙ shadow.venues i s team slot;
      home_breaks = λ has i s team later slot.
          kept league m (hb_var n i s) (hb-below league i s has team later slot)
          ∙ shadow.home_breaks has i s team later slot;
      away_breaks = λ has i s team later slot.
          kept league m (ab_var n i s) (ab-below league i s has team later slot)
          ∙ shadow.away_breaks has i s team later slot;
    }

-- a constraint that is paid for has its breaks mirrored
told : (n : ℕ) (m : Counts) (values : ℕ → Bool) (constraints : List Constraint)
    → (list_any (λ c. bounds_breaks c.class) constraints ≡ true → MirrorsBreaks n m values)
    → All (λ c. bounds_breaks c.class ≡ true → MirrorsBreaks n m values) constraints
told n m values [] breaks = λ k d within. absurd (omega arith)
told n m values (c ∷ constraints) breaks =
    let later : Bool = list_any (λ c. bounds_breaks c.class) constraints in
    All-cons (λ (c : Constraint). bounds_breaks c.class ≡ true → MirrorsBreaks n m values) c constraints
    (λ here. breaks (or_left (bounds_breaks c.class) later here))
    (told n m values constraints (λ some. breaks (or_right (bounds_breaks c.class) later some)))

pub all_served : (league : Instance) (m : Counts) (found values : ℕ → Bool) → IsInstance league
    → IsMirroredSeason league.n league.phased (needs_breaks league.constraints) m found
    → IsMirroredSeason league.n league.phased (needs_breaks league.constraints) m values
    → All (IsServed found values) (league_groups league)
all_served league m found values is new old =
    let n = league.n in
    let constraints : List Constraint = paid_of league.constraints in
    let fit = AllPass-from_list_all (λ c. class_fits n c.class) constraints
    (paid_fit n league.constraints (all_fit league is.fit)) in
    let new_breaks = told n m found constraints (paid_breaks league m found new.break_values) in
    let old_breaks = told n m values constraints (paid_breaks league m values old.break_values) in
    All-flat_map (IsServed found values) (λ c. map (group_of n c.penalty) (parts_of n c.class)) constraints
    (λ k d within.
    let c : Constraint = get_or constraints k d in
    let lacks = part_law n m found new.mirrors new.round_robin.pairs c.class (new_breaks k d within)
    (fit k d within) in
    let lacked = part_law n m values old.mirrors old.round_robin.pairs c.class (old_breaks k d within)
    (fit k d within) in
    All-map (IsServed found values) (group_of n c.penalty) (parts_of n c.class)
    (λ l e inside.
    let part : Class = get_or (parts_of n c.class) l e in
    record {
      same = lacks l e inside ∙ sym (lacked l e inside);
      fits = needs_fit n m values part (lacked l e inside);
    }))

pub values-from_bounded : BoundedHaveValues
values-from_bounded league bound m is accepted within =
    let n = league.n in
    let breaks = needs_breaks league.constraints in
    let first : ℕ = first_unit league in
    let groups : List Group = league_groups league in
    let old_values : ℕ → Bool = shadow_values n m in
    let values : ℕ → Bool = unit_values league m in
    let shadow = unit_shadow league m in
    let new = mirrored-from_shadow n league.phased breaks m values shadow accepted.round_robin in
    let old = mirrored-from_shadow n league.phased breaks m old_values (some_shadow n m breaks)
    accepted.round_robin in
    let served = all_served league m values old_values is new old in
    let agrees : Agrees values old_values first groups = λ v from. refl in
    let fit = all_fit league is.fit in
    let six = season_rows-met n league.phased breaks m values shadow accepted.round_robin in
    let seven = satisfied_both values (season_rows n league.phased) (break_rows n breaks) six
    (break_rows-met_by n breaks m values new.mirrors new.break_values) in
    let base = satisfied_both values (season_rows n league.phased ++ break_rows n breaks)
    (constraint_rows n league.constraints) seven
    (constraints_law n m values new.mirrors league.constraints (hard_breaks league m values new.break_values) fit
    ∙ meets_hard-true league m accepted.hard) in
    let soft = satisfied_both values (base_rows league) (softened_rows first groups) base
    (softened_law values first groups ∙ units_enough values old_values first groups agrees served) in
    let costs : cost_needed old_values groups ≡ objective league m =
    objective_needs n m old_values old.mirrors old.round_robin.pairs league.constraints
    (paid_breaks league m old_values old.break_values) fit in
    let few : paid values first groups ≤ bound =
    omega (arith, units_paid values old_values first groups agrees served, costs, within) in
    let row = and_from (satisfied values (objective_row first groups bound)) true
    (objective_law values first groups bound ∙ le-leb (paid values first groups) bound few) refl in
    let bounded = satisfied_both values (base_rows league ++ softened_rows first groups)
    (objective_row first groups bound ∷ []) soft row in
    let all = satisfied_both values
    (base_rows league ++ softened_rows first groups ++ objective_row first groups bound ∷ [])
    (order_rows first groups) bounded (units_ordered values old_values first groups agrees) in
    (values, SatisfiesAll-from_true values (bound_rows league bound) all)

-- ---- what a refutation shows

pub bounds-from_refuted : RefutedBoundsHold
bounds-from_refuted league least is none m accepted =
    elim (cases_lt (objective league m) least) [
      | inl less ↦
          let found = values-from_bounded league (least - 1) m is accepted (omega arith) in
          absurd (none found.0 found.1)
      | inr enough ↦ enough
    ]
