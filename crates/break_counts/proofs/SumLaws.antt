-- What bounds allow together is an upper bound of what an accepted schedule has, too.
use Rattle.std.proofs.Common.{◌≡◌, ℕ, zero, suc, ◌+◌, ◌-◌, ◌*◌, ◌≤◌, Bool, true, false, not, ◌&&◌, ◌==◌, nat_lt, cond}
use Rattle.std.proofs.Common.{List, [], ◌∷◌, length, Option, Some, None, inl, inr, refl, arith, ap, subst, ◌∙◌}
use Rattle.std.specs.Prelude.{slice_get}
use Rattle.std.specs.List.{All, filter, list_any, range_with_len, sum_by}
use Rattle.std.specs.Option.{option_map_or}
use Rattle.std.proofs.lemmas.Bool.{and_parts, cond-true, cond_both, ltb-true, or_cases}
use Rattle.std.proofs.lemmas.List.Elements.{All-head, All-tail}
use Rattle.std.proofs.lemmas.List.Sums.{sum_by-cons, sum_by-le-sum_by}
use Rattle.league.specs.Accepted.{IsAccepted, hard_of}
use Rattle.league.specs.Breaks.{all_breaks, br1_entry, breaks_among, breaks_at}
use Rattle.league.specs.Counts.{Counts, slot_count, teams_of}
use Rattle.league.specs.Deviation.{vector_of}
use Rattle.league.specs.Instance.{Instance, IsInstance}
use Rattle.league.specs.Sets.{is_in}
use Rattle.league.specs.declared.class.Class.{Class}
use Rattle.league.specs.declared.class.Class.TheVariants.{Ca1, Ca2, Ca3, Ca4, Ga1, Br1, Br2, Fa2, Se1}
use Rattle.league.specs.declared.class.Constraint.{Constraint}
use Rattle.league.specs.declared.class.Side.{Side}
use Rattle.league.specs.declared.class.Side.TheVariants.{Both}
use Rattle.league.proofs.OneTermLemmas.{sum_by-range_none, sum_by-swap}
use Rattle.league.proofs.RangeLemmas.{one_if}
use Rattle.league.proofs.SumLemmas.{sum_by-add, sum_by-filter, sum_by-same}
use Rattle.venue_counts.specs.VenueCounts.{is_side}
use Rattle.break_counts.specs.BreakCounts.{allowed_of, later_slots}
use Rattle.break_counts.specs.Sums.{AddedBreaksAllowNone, AllowsTooFew, allowed_together, allows, counts, counts_break, is_counted}
use Rattle.break_counts.specs.Sums.{is_few_together, most_breaks}
use Rattle.break_counts.specs.declared.stretch.Stretch.{Stretch}
use Rattle.break_counts.specs.declared.together.Summand.{Summand}
use Rattle.break_counts.proofs.FewLaws.{Follow, all_later, allowed-of, broken, few-none, member_entry, needed}
use Rattle.break_counts.proofs.FewLaws.{none_in, one_le, parted, same_side, tested_le}
use Rattle.break_counts.proofs.RangeSums.{one_term, only_in, only_in-le}
use Rattle.break_counts.proofs.StretchLemmas.{IsMet}

-- ---- what a bound counts

-- a hard constraint that is met, by its place
met_here : (P : Constraint → Type 0) (c : Constraint) (b : Bool) (hard : List Constraint) → b ≡ true
    → All P (cond b (c ∷ hard) hard) → P c
met_here P c true hard is all = All-head P c hard all
met_here P c false hard is all = absurd (cc)

met_later : (P : Constraint → Type 0) (c : Constraint) (b : Bool) (hard : List Constraint)
    → All P (cond b (c ∷ hard) hard) → All P hard
met_later P c true hard all = All-tail P c hard all
met_later P c false hard all = all

met_at : (P : Constraint → Type 0) (constraints : List Constraint) (k : ℕ) (c : Constraint)
    → slice_get constraints k ≡ Some c → c.hard ≡ true → All P (hard_of constraints) → P c
met_at P [] k c is hard all = absurd (cc)
met_at P (d ∷ constraints) zero c is hard all =
    let same : d ≡ c = cc in
    subst P same (met_here P d d.hard (hard_of constraints) (ap (λ (e : Constraint). e.hard) same ∙ hard) all)
met_at P (d ∷ constraints) (suc k) c is hard all =
    met_at P constraints k c is hard (met_later P d d.hard (hard_of constraints) all)

regrouped : (a b c : Bool) (k : ℕ) → cond ((a && b) && c) k 0 ≤ cond b (cond (a && c) k 0) 0
regrouped true true c k = omega arith
regrouped true false c k = omega arith
regrouped false b c k = omega arith

module _ (n : ℕ) (m : Counts) (end : ℕ) where
  -- the breaks at all slots that are counted
  abbrev counted : (ℕ → ℕ → Bool) → ℕ
  counted p =
      sum_by (λ i. sum_by (λ s. cond (p i s) (breaks_at n m Both i s) 0) (range_with_len 0 end)) (teams_of n)

  none_at_slots : sum_by (λ s. 0) (range_with_len 0 end) ≡ 0
  none_at_slots = sum_by-range_none (λ s. 0) 0 end (λ x low high. refl)

  none-counted : counted (λ i s. false) ≡ 0
  none-counted =
      sum_by-range_none (λ i. sum_by (λ s. 0) (range_with_len 0 end)) 0 n (λ i low high. none_at_slots)

  -- those of one team, at the slots of a set
  at_slots : (b : Bool) (g : ℕ → ℕ) (slots : List ℕ)
      → sum_by (λ s. cond (b && is_in s slots) (g s) 0) (range_with_len 0 end) ≤ cond b (sum_by g slots) 0
  at_slots true g slots = only_in-le g slots end
  at_slots false g slots = omega (arith, none_at_slots)

  of_teams : (teams slots : List ℕ) → counted (λ i s. is_in i teams && is_in s slots) ≤ all_breaks n m teams slots
  of_teams teams slots =
      let h : ℕ → ℕ = λ i. breaks_among n m Both slots i in
      omega (
        arith,
        sum_by-le-sum_by
            (λ i. sum_by (λ s. cond (is_in i teams && is_in s slots) (breaks_at n m Both i s) 0) (range_with_len 0 end))
            (only_in teams h) (teams_of n)
            (λ i. at_slots (is_in i teams) (λ s. breaks_at n m Both i s) slots),
        only_in-le h teams n,
      )

  of_team : (b : Bool) (teams slots : List ℕ) (named : ℕ)
      → counted (λ i s. b && (named == i) && is_in i teams && is_in s slots)
      ≤ cond (b && is_in named teams) (breaks_among n m Both slots named) 0
  of_team b teams slots named =
      let h : ℕ → ℕ = λ i. cond (b && is_in i teams) (breaks_among n m Both slots i) 0 in
      omega (
        arith,
        sum_by-le-sum_by
            (λ i. sum_by (λ s. cond (b && (named == i) && is_in i teams && is_in s slots) (breaks_at n m Both i s) 0)
            (range_with_len 0 end))
            (λ i. cond (named == i) (h i) 0) (teams_of n)
            (λ i.
            omega (
              arith,
              at_slots (b && (named == i) && is_in i teams) (λ s. breaks_at n m Both i s) slots,
              regrouped b (named == i) (is_in i teams) (breaks_among n m Both slots i),
            )),
        one_term h named n,
      )

  -- a class that is met allows them
  of_class : (class : Class) (named : ℕ) → All (λ e. e ≡ 0) (vector_of n m class)
      → counted (λ i s. counts_break class named i s) ≤ most_breaks class
  of_class (Br1 teams intp side slots) named met =
      omega (
        arith,
        of_team (is_side Both side) teams slots named,
        cond_both (is_side Both side && is_in named teams) (breaks_among n m Both slots named) 0 (λ (k : ℕ). k ≤ intp)
            (λ yes.
            (let parts = and_parts (is_side Both side) (is_in named teams) yes in
            let same : Both ≡ side = same_side Both side parts.0 in
            let entry : br1_entry n m intp side slots named ≡ 0 =
            member_entry (br1_entry n m intp side slots) teams named met parts.1 in
            omega (arith, entry, ap (λ (t : Side). breaks_among n m t slots named) same)))
            (λ no. omega arith),
      )
  of_class (Br2 teams intp slots) named met =
      omega (
        arith,
        of_teams teams slots,
        All-head (λ e. e ≡ 0) (all_breaks n m teams slots - intp) [] met,
      )
  of_class (Ca1 teams min max other others) named met = omega (arith, none-counted)
  of_class (Ca2 teams1 teams2 min max other others) named met = omega (arith, none-counted)
  of_class (Ca3 teams1 teams2 min max intp other) named met = omega (arith, none-counted)
  of_class (Ca4 teams1 teams2 min max other span others) named met = omega (arith, none-counted)
  of_class (Ga1 meetings min max others) named met = omega (arith, none-counted)
  of_class (Fa2 teams intp others) named met = omega (arith, none-counted)
  of_class (Se1 teams min) named met = omega (arith, none-counted)

  of_hard : (b : Bool) (class : Class) (named : ℕ) → (b ≡ true → All (λ e. e ≡ 0) (vector_of n m class))
      → counted (λ i s. b && counts_break class named i s) ≤ most_breaks class
  of_hard true class named met = of_class class named (met refl)
  of_hard false class named met = omega (arith, none-counted)

  of_place : (o : Option Constraint) (named : ℕ)
      → ((c : Constraint) → o ≡ Some c → c.hard ≡ true → All (λ e. e ≡ 0) (vector_of n m c.class))
      → counted (λ i s. option_map_or (λ c. c.hard && counts_break c.class named i s) o false)
      ≤ option_map_or (λ c. most_breaks c.class) o 0
  of_place None named met = omega (arith, none-counted)
  of_place (Some c) named met = of_hard c.hard c.class named (met c refl)

  -- a bound of an accepted schedule
  bounded : (constraints : List Constraint) (bound : Summand)
      → All (λ c. All (λ e. e ≡ 0) (vector_of n m c.class)) (hard_of constraints)
      → counted (λ i s. counts constraints i s bound) ≤ allows constraints bound
  bounded constraints bound met =
      of_place (slice_get constraints bound.place) bound.team
      (λ c is hard. met_at (λ (d : Constraint). All (λ e. e ≡ 0) (vector_of n m d.class)) constraints bound.place c is hard met)

-- ---- what bounds count together

any_le : (p : Summand → Bool) (k : ℕ) (bounds : List Summand) → list_any p bounds ≡ true
    → k ≤ sum_by (λ b. cond (p b) k 0) bounds
any_le p k [] is = absurd (cc)
any_le p k (b ∷ bounds) is =
    let f : Summand → ℕ = λ c. cond (p c) k 0 in
    elim (or_cases (p b) (list_any p bounds) is) [
      | inl here ↦ omega (arith, sum_by-cons f b bounds, cond-true (p b) k 0 here)
      | inr later ↦ omega (arith, sum_by-cons f b bounds, any_le p k bounds later)
    ]

module _ (n : ℕ) (m : Counts) (stretches : List Stretch) (end : ℕ) (follow : Follow 0 stretches end)
    (constraints : List Constraint) (met : All (λ c. All (λ e. e ≡ 0) (vector_of n m c.class)) (hard_of constraints))
    (bounds : List Summand) where
  abbrev breaks : ℕ → ℕ → ℕ
  breaks i s = breaks_at n m Both i s

  -- how many of a team's breaks a bound counts, and all bounds
  abbrev by_bound : Summand → ℕ → ℕ
  by_bound b i = sum_by (λ s. cond (counts constraints i s b) (breaks i s) 0) (range_with_len 0 end)

  abbrev by_all : ℕ → ℕ
  by_all i = sum_by (λ b. by_bound b i) bounds

  abbrev broken_in : ℕ → ℕ
  broken_in = broken n m stretches end follow Both

  -- the breaks of a team that is counted
  broken-counted : (i : ℕ) → is_counted constraints bounds stretches i ≡ true → broken_in i ≤ by_all i
  broken-counted i is =
      let at : ℕ → Summand → ℕ = λ s b. cond (counts constraints i s b) (breaks i s) 0 in
      let all_at : ℕ → ℕ = λ s. sum_by (at s) bounds in
      omega (
        arith,
        sum_by-le-sum_by (λ (t : Stretch). one_if (nat_lt 0 (breaks_among n m Both (later_slots t) i)))
            (λ (t : Stretch). sum_by (breaks i) (later_slots t)) stretches
            (λ t.
            one_le n m stretches end follow (nat_lt 0 (breaks_among n m Both (later_slots t) i))
            (sum_by (breaks i) (later_slots t)) refl),
        tested_le (breaks i) all_at (λ s. list_any (counts constraints i s) bounds)
            (λ s within. any_le (counts constraints i s) (breaks i s) bounds within) stretches is,
        all_later all_at stretches 0 end follow,
        sum_by-swap at (range_with_len 0 end) bounds,
      )

  -- all of them are allowed
  all_allowed : sum_by by_all (teams_of n) ≤ sum_by (allows constraints) bounds
  all_allowed =
      omega (
        arith,
        sum_by-swap (λ (i : ℕ) (b : Summand). by_bound b i) (teams_of n) bounds,
        sum_by-le-sum_by (λ (b : Summand). sum_by (by_bound b) (teams_of n)) (allows constraints) bounds
            (λ b. bounded n m end constraints b met),
      )

  together : sum_by broken_in (teams_of n) ≤ allowed_together n constraints bounds stretches
  together =
      let f : ℕ → ℕ = broken_in in
      let inside : ℕ → Bool = is_counted constraints bounds stretches in
      let out : ℕ → Bool = λ i. not (inside i) in
      omega (
        arith,
        sum_by-same f (λ i. cond (inside i) (f i) 0 + cond (out i) (f i) 0) (λ i. parted (inside i) (f i)) (teams_of n),
        sum_by-add (λ i. cond (inside i) (f i) 0) (λ i. cond (out i) (f i) 0) (teams_of n),
        sum_by-le-sum_by (λ i. cond (inside i) (f i) 0) by_all (teams_of n)
            (λ i.
            cond_both (inside i) (f i) 0 (λ (k : ℕ). k ≤ by_all i) (λ yes. broken-counted i yes) (λ no. omega arith)),
        all_allowed,
        sum_by-filter f out (teams_of n),
        sum_by-le-sum_by f (allowed_of constraints stretches) (filter out (teams_of n))
            (allowed-of n m stretches end follow constraints met),
      )

  pub none_together : All (IsMet n m) stretches → is_few_together n constraints bounds stretches ≡ true → ⊥
  none_together are_met few =
      omega (
        arith,
        ltb-true (allowed_together n constraints bounds stretches) (length stretches * (n - 2)) few,
        needed n m stretches end follow constraints met are_met,
        together,
      )

pub added-none : AddedBreaksAllowNone
added-none league m instance add accepted =
    none_in league m instance accepted (is_few_together league.n league.constraints add.0)
    (λ stretches follow are_met here.
    none_together league.n m stretches (slot_count league.n) follow league.constraints accepted.hard add.0 are_met here)
    add.1

pub too_few-none : (league : Instance) (m : Counts) → IsInstance league → AllowsTooFew league → IsAccepted league m → ⊥
too_few-none league m instance (inl few) accepted = few-none league m instance few accepted
too_few-none league m instance (inr add) accepted = added-none league m instance add accepted
