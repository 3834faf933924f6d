-- The walk of an analysis, place by place.
use Rattle.std.proofs.Common.{◌≡◌, ◌≢◌, ℕ, zero, suc, ◌+◌, ◌-◌, ◌<◌, ◌≤◌, List, length, get_or, take, Option, Some}
use Rattle.std.proofs.Common.{None}
use Rattle.std.proofs.Common.{inl, inr, arith, ap, sym, subst, ◌∙◌}
use Rattle.std.specs.Prelude.{◌⊎◌, IfSome, slice_get, slice_set, is_none}
use Rattle.std.specs.List.{All}
use Rattle.std.proofs.lemmas.Bool.{cases_eq, cases_lt, false≢true}
use Rattle.std.proofs.lemmas.List.{length-set, take_all}
use Rattle.std.proofs.lemmas.Option.{get_or_from_slice_get, slice_get_within}
use Rattle.rows.specs.Literals.{Literal}
use Rattle.rows.specs.Rows.{IsRow, Row}
use Rattle.rows.specs.Partials.{Forces, IsInConflict, IsQuietRow, value_of}
use Rattle.rows.specs.declared.lit.Term.{Term}
use Rattle.rows.specs.declared.partial.Value.{Value}
use Rattle.rows.specs.declared.partial.Value.TheVariants.{False}
use Rattle.propagate.specs.Trails.{AreLawful, IsForcedBy, IsNumbered, KnowsVariables, SeenTrail, is_decision, values_of}
use Rattle.propagate.specs.declared.entry.Entry.{Entry}
use Rattle.refutation.specs.Following.{row_numbered}
use Rattle.propagate.proofs.LookLemmas.{news}
use Rattle.clause_search.specs.Analysis.{IsMarked, IsResolved, Resolves}
use Rattle.clause_search.specs.Marks.{AreResolved, IsLastDecision, IsTraced, IsWalked, Marks, role_at}
use Rattle.clause_search.specs.Trails.{before, entry_at, lit_at, no_entry, number_of, reason_at}
use Rattle.clause_search.specs.declared.role.Role.{Role}
use Rattle.clause_search.specs.declared.role.Role.TheVariants.{Apart, Kept, Used}
use Rattle.clause_search.proofs.MarkLemmas.{kept_not_apart, role_other, role_set, stands_false, used_not_kept}
use Rattle.clause_search.proofs.ReplayLemmas.{Falls, reach-falls}

-- ---- rows by number

numbered_by : (rows : List Row) (n : ℕ) (row : Row) → 1 ≤ n → slice_get rows (n - 1) ≡ Some row → row_numbered rows n
    ≡ Some row
numbered_by rows zero row from_one there = absurd (omega (arith, from_one))
numbered_by rows (suc n) row from_one there =
    let same : suc n - 1 ≡ n = omega arith in
    ap (λ (k : ℕ). slice_get rows k) (sym same) ∙ there

pub row_numbered-is : (rows : List Row) (n : ℕ) (row : Row) → IsNumbered rows n row → row_numbered rows n ≡ Some row
row_numbered-is rows n row is = numbered_by rows n row is.from_one is.there

-- what holds of each row holds of one with a number
pub at_number : (P : Row → Type 0) (rows : List Row) (n : ℕ) (row : Row) → IsNumbered rows n row → All P rows → P row
at_number P rows n row is all =
    subst P (get_or_from_slice_get rows (n - 1) row row is.there)
    (all (n - 1) row (slice_get_within rows (n - 1) row is.there))

-- the terms that were read are the row's
pub read_terms : (rows : List Row) (n : ℕ) (row : Row) (terms : List Term) → IsNumbered rows n row
    → IfSome (slice_get rows (n - 1)) (λ r. terms ≡ r.terms) → terms ≡ row.terms
read_terms rows n row terms is read = subst (λ (o : Option Row). IfSome o (λ r. terms ≡ r.terms)) is.there read

-- ---- marks that stay

-- no part is taken from a place
abbrev Stays : (ℕ → Role) → (ℕ → Role) → Type 0
Stays old new = (j : ℕ) → old j ≢ Apart → new j ≢ Apart

mark_stays : (lit : ℕ → Literal) (old new : ℕ → Role) (k : ℕ) (l : Literal) → Stays old new → IsMarked lit old k l
    → IsMarked lit new k l
mark_stays lit old new k l stays mark = (mark.0, mark.1, stays mark.0 mark.2, mark.3)

resolves_stays : (rows : List Row) (lit : ℕ → Literal) (old new : ℕ → Role) (k : ℕ) (values : ℕ → Value) (n : ℕ)
    (row : Row) → Stays old new
    → Resolves rows lit old k values n row → Resolves rows lit new k values n row
resolves_stays rows lit old new k values n row stays is = record {
  named = is.named;
  apart = is.apart;
  marked = λ t there was. mark_stays lit old new k t.lit stays (is.marked t there was);
}

resolved_stays : (rows : List Row) (lit : ℕ → Literal) (reason : ℕ → ℕ) (old new : ℕ → Role) (k : ℕ)
    (values : ℕ → Value) → Stays old new
    → IsResolved rows lit reason old k values → IsResolved rows lit reason new k values
resolved_stays rows lit reason old new k values stays is = record {
  row = is.row;
  term = is.term;
  resolves = resolves_stays rows lit old new k values (reason k) is.row stays is.resolves;
  forces = is.forces;
  literal = is.literal;
}

-- a row whose terms were all marked
resolves_marked : (rows : List Row) (es : List Entry) (terms : List Term) (limit start lowest : ℕ)
    (old new : List Role) (now n : ℕ) (row : Row) → All IsRow rows
    → IsNumbered rows n row → terms ≡ row.terms → Marks es terms (length terms) limit start lowest old new now
    → Resolves rows (lit_at es) (role_at new) limit (before es limit) n row
resolves_marked rows es terms limit start lowest old new now n row proper is same marks = record {
  named = row_numbered-is rows n row is;
  apart = (at_number IsRow rows n row is proper).variables;
  marked = λ t there was.
      let at : get_or terms there.0 t ≡ t = ap (λ (ts : List Term). get_or ts there.0 t) same ∙ there.2 in
      subst (λ (u : Term). value_of (before es limit) u.lit ≡ False → IsMarked (lit_at es) (role_at new) limit u.lit) at
      (marks.marked there.0 t (omega (arith, there.1, ap length same))) was;
}

-- ---- one place

-- nothing is resolved
resolved_pass : (t : SeenTrail) (conflict : ℕ) (roles : List Role) (k : ℕ) → AreResolved t conflict roles (k + 1)
    → AreResolved t conflict roles k
resolved_pass t conflict roles k is = record {
  within = omega (arith, is.within);
  lengths = is.lengths;
  unused = λ j below. is.unused j (omega (arith, below));
  used = λ j from inside used.
      elim (cases_eq j k) [
        | inl here ↦ absurd (is.unused j (omega (arith, here)) used)
        | inr other ↦ is.used j (omega (arith, from, other)) inside used
      ];
  row = is.row;
  resolves = is.resolves;
  conflict_is = is.conflict_is;
}

pub walk_pass : (t : SeenTrail) (conflict start : ℕ) (roles : List Role) (lowest k : ℕ)
    → IsWalked t conflict start roles lowest (k + 1) → (k ≤ lowest) ⊎ (role_at roles k ≢ Kept)
    → IsWalked t conflict start roles lowest k
walk_pass t conflict start roles lowest k walked why = record {
  resolved = resolved_pass t conflict roles k walked.resolved;
  above_start = walked.above_start;
  inside = walked.inside;
  kept = walked.kept;
  apart = walked.apart;
  alone = λ j from above inside kept.
      elim (cases_eq j k) [
        | inl here ↦ elim why [
          | inl low ↦ omega (arith, here, low, above)
          | inr not_kept ↦ not_kept (ap (λ (i : ℕ). role_at roles i) (sym here) ∙ kept)
        ]
        | inr other ↦ walked.alone j (omega (arith, from, other)) above inside kept
      ];
}

pub trace_pass : (t : SeenTrail) (conflict : ℕ) (roles : List Role) (k : ℕ) → IsTraced t conflict roles (k + 1)
    → role_at roles k ≢ Kept → IsTraced t conflict roles k
trace_pass t conflict roles k traced not_kept = record {
  resolved = resolved_pass t conflict roles k traced.resolved;
  none = λ j from inside kept.
      elim (cases_eq j k) [
        | inl here ↦ not_kept (ap (λ (i : ℕ). role_at roles i) (sym here) ∙ kept)
        | inr other ↦ traced.none j (omega (arith, from, other)) inside kept
      ];
}

used_not_apart : Used ≡ Apart → ⊥
used_not_apart same = cc

set_stays : (roles : List Role) (k : ℕ) → k < length roles → Stays (role_at roles) (role_at (slice_set roles k Used))
set_stays roles k inside = λ j part apart.
    elim (cases_eq j k) [
      | inl here ↦
          used_not_apart
          (sym (ap (λ (i : ℕ). role_at (slice_set roles k Used) i) here ∙ role_set roles k Used inside) ∙ apart)
      | inr other ↦ part (sym (role_other roles k j Used other) ∙ apart)
    ]

marks_stay : (es : List Entry) (terms : List Term) (count limit start lowest : ℕ) (old new : List Role) (now : ℕ)
    → Marks es terms count limit start lowest old new now → Stays (role_at old) (role_at new)
marks_stay es terms count limit start lowest old new now marks = λ j part apart. part (sym (marks.keeps j part) ∙ apart)

-- the row with this number is the reason of a place, and its terms
pub record IsReason (t : SeenTrail) (k number : ℕ) (terms : List Term) : Type 0 where
  pub reason : reason_at t.entries k ≡ number
  pub row : Row
  pub term : Term
  pub numbered : IsNumbered t.rows number row
  pub literal : term.lit ≡ lit_at t.entries k
  pub forces : Forces (before t.entries k) row term
  pub terms_are : terms ≡ row.terms

-- a place is resolved
resolved_use : (t : SeenTrail) (conflict : ℕ) (roles new : List Role) (start lowest now k number : ℕ)
    (terms : List Term)
    → All IsRow t.rows → AreResolved t conflict roles (k + 1) → IsReason t k number terms
    → Marks t.entries terms (length terms) k start lowest (slice_set roles k Used) new now
    → AreResolved t conflict new k
resolved_use t conflict roles new start lowest now k number terms proper is by marks = record {
  within = omega (arith, is.within);
  lengths = marks.same_length ∙ length-set roles k Used ∙ is.lengths;
  unused = marks.unused;
  used = λ j from inside used.
      elim (cases_eq j k) [
        | inl here ↦
            subst (λ (i : ℕ). IsResolved t.rows (lit_at t.entries) (reason_at t.entries) (role_at new) i
            (before t.entries i))
            (sym here) resolved
        | inr other ↦
            resolved_stays t.rows (lit_at t.entries) (reason_at t.entries) (role_at roles) (role_at new) j
            (before t.entries j)
            stays
            (is.used j (omega (arith, from, other)) inside (sym (marks.above j from ∙ role_other roles k j Used other)
            ∙ used))
      ];
  row = is.row;
  resolves =
      resolves_stays t.rows (lit_at t.entries) (role_at roles) (role_at new) (length t.entries)
      (before t.entries (length t.entries)) conflict is.row stays is.resolves;
  conflict_is = is.conflict_is;
} where
  stays : Stays (role_at roles) (role_at new)
  stays j part =
      marks_stay t.entries terms (length terms) k start lowest (slice_set roles k Used) new now marks j
      (set_stays roles k (omega (arith, is.within, is.lengths)) j part)

  resolved : IsResolved t.rows (lit_at t.entries) (reason_at t.entries) (role_at new) k (before t.entries k)
  resolved = record {
    row = by.row;
    term = by.term;
    resolves =
        subst (λ (n : ℕ). Resolves t.rows (lit_at t.entries) (role_at new) k (before t.entries k) n by.row)
        (sym by.reason)
        (resolves_marked t.rows t.entries terms k start lowest (slice_set roles k Used) new now number by.row proper
        by.numbered by.terms_are marks);
    forces = by.forces;
    literal = by.literal;
  }

-- the place is above the lowest, or on a lower level
pub walk_use : (t : SeenTrail) (conflict start : ℕ) (roles new : List Role) (lowest now k number : ℕ)
    (terms : List Term)
    → All IsRow t.rows → IsWalked t conflict start roles lowest (k + 1) → (lowest < k) ⊎ (k < start)
    → IsReason t k number terms → Marks t.entries terms (length terms) k start lowest (slice_set roles k Used) new now
    → IsWalked t conflict start new now k
walk_use t conflict start roles new lowest now k number terms proper walked goes by marks = record {
  resolved = resolved_use t conflict roles new start lowest now k number terms proper walked.resolved by marks;
  above_start = elim marks.at [ inl first ↦ omega (arith, first, walked.above_start) | inr found ↦ found.0 ];
  inside = omega (arith, marks.low, walked.inside);
  kept = elim marks.at [
    | inl first ↦
        ap (λ (i : ℕ). role_at new i) first ∙ marks.keeps lowest (λ apart. kept_not_apart (sym lowest_kept ∙ apart))
        ∙ lowest_kept
    | inr found ↦ found.2
  ];
  apart = λ j from below.
      marks.late j from below
      ∙ role_other roles k j Used (λ here. not_here j from (omega (arith, below, marks.low)) here)
      ∙ walked.apart j from (omega (arith, below, marks.low));
  alone = λ j from over inside kept.
      elim (cases_eq j k) [
        | inl here ↦ used_not_kept (sym kept ∙ ap (λ (i : ℕ). role_at new i) here ∙ k_used)
        | inr other ↦
            walked.alone j (omega (arith, from, other)) (past_lowest j from other over) inside
            (sym (marks.above j from ∙ role_other roles k j Used other) ∙ kept)
      ];
} where
  in_roles : k < length roles
  in_roles = omega (arith, walked.resolved.within, walked.resolved.lengths)

  k_used : role_at new k ≡ Used
  k_used = marks.above k (omega arith) ∙ role_set roles k Used in_roles

  lowest_apart : lowest ≡ k → ⊥
  lowest_apart here = elim goes [
    | inl above ↦ omega (arith, here, above)
    | inr early ↦ omega (arith, here, early, walked.above_start)
  ]

  lowest_kept : role_at (slice_set roles k Used) lowest ≡ Kept
  lowest_kept = role_other roles k lowest Used lowest_apart ∙ walked.kept

  not_here : (j : ℕ) → start ≤ j → j < lowest → j ≡ k → ⊥
  not_here j from below here = elim goes [
    | inl above ↦ omega (arith, here, below, above)
    | inr early ↦ omega (arith, here, from, early)
  ]

  -- where the place is on a lower level, the lowest stays
  past_lowest : (j : ℕ) → k ≤ j → j ≢ k → now < j → lowest < j
  past_lowest j from other over = elim goes [
    | inl above ↦ omega (arith, from, above)
    | inr early ↦ elim marks.at [
      | inl first ↦ omega (arith, first, over)
      | inr found ↦ absurd (omega (arith, found.0, found.1, early))
    ]
  ]

pub trace_use : (t : SeenTrail) (conflict : ℕ) (roles new : List Role) (start lowest now k number : ℕ)
    (terms : List Term)
    → All IsRow t.rows → IsTraced t conflict roles (k + 1) → IsReason t k number terms
    → Marks t.entries terms (length terms) k start lowest (slice_set roles k Used) new now → IsTraced t conflict new k
trace_use t conflict roles new start lowest now k number terms proper traced by marks = record {
  resolved = resolved_use t conflict roles new start lowest now k number terms proper traced.resolved by marks;
  none = λ j from inside kept.
      elim (cases_eq j k) [
        | inl here ↦ used_not_kept (sym kept ∙ ap (λ (i : ℕ). role_at new i) here ∙ k_used)
        | inr other ↦
            traced.none j (omega (arith, from, other)) inside
            (sym (marks.above j from ∙ role_other roles k j Used other) ∙ kept)
      ];
} where
  k_used : role_at new k ≡ Used
  k_used =
      marks.above k (omega arith)
      ∙ role_set roles k Used (omega (arith, traced.resolved.within, traced.resolved.lengths))

-- ---- the start

-- a conflict needs a literal from the last decision on
conflict_needs : (t : SeenTrail) (start : ℕ) (roles : List Role) (n : ℕ) (row : Row)
    → AreLawful t.rows t.vars t.entries → IsLastDecision t start → IsNumbered t.rows n row
    → Resolves t.rows (lit_at t.entries) (role_at roles) (length t.entries) (before t.entries (length t.entries)) n row
    → IsInConflict (before t.entries (length t.entries)) row
    → ((j : ℕ) → start ≤ j → j < length t.entries → role_at roles j ≡ Apart) → ⊥
conflict_needs t start roles n row lawful is numbered resolves conflict apart =
    let quiet : IsQuietRow (before t.entries start) row =
    at_number (IsQuietRow (before t.entries start)) t.rows n row numbered is.quiet in
    let falls : Falls (before t.entries (length t.entries)) (before t.entries start) row.terms = λ u there was.
    let mark : IsMarked (lit_at t.entries) (role_at roles) (length t.entries) u.lit = resolves.marked u there was in
    elim (cases_lt mark.0 start) [
      | inl early ↦
          stands_false t.vars t.entries start u.lit (news t.rows t.vars t.entries lawful)
          (omega (arith, is.inside)) (mark.0, early, mark.3)
      | inr late ↦ absurd (mark.2 (apart mark.0 late mark.1))
    ] in
    omega (
      arith,
      conflict,
      quiet.no_conflict,
      reach-falls (before t.entries (length t.entries))
          (before t.entries start) row.terms falls,
    )

-- the row in conflict is marked
resolved_start : (t : SeenTrail) (conflict start lowest : ℕ) (roles new : List Role) (now : ℕ) (terms : List Term)
    (row : Row)
    → All IsRow t.rows → IsNumbered t.rows conflict row → IsInConflict (values_of t.entries) row → terms ≡ row.terms
    → length roles ≡ length t.entries
    → Marks t.entries terms (length terms) (length t.entries) start lowest roles new now
    → AreResolved t conflict new (length t.entries)
resolved_start t conflict start lowest roles new now terms row proper numbered in_conflict same lengths marks = record {
  within = omega arith;
  lengths = marks.same_length ∙ lengths;
  unused = marks.unused;
  used = λ j from inside used. absurd (omega (arith, from, inside));
  row = row;
  resolves =
      resolves_marked t.rows t.entries terms (length t.entries) start lowest roles new now conflict row proper
      numbered same
      marks;
  conflict_is =
      subst (λ (es : List Entry). IsInConflict (values_of es) row)
      (sym (take_all (length t.entries) t.entries (omega arith)))
      in_conflict;
}

pub walk_start : (t : SeenTrail) (conflict start : ℕ) (roles new : List Role) (now : ℕ) (terms : List Term) (row : Row)
    → All IsRow t.rows → AreLawful t.rows t.vars t.entries → IsLastDecision t start → IsNumbered t.rows conflict row
    → IsInConflict (values_of t.entries) row → terms ≡ row.terms → length roles ≡ length t.entries
    → ((j : ℕ) → role_at roles j ≡ Apart)
    → Marks t.entries terms (length terms) (length t.entries) start (length t.entries) roles new now
    → IsWalked t conflict start new now (length t.entries)
walk_start t conflict start roles new now terms row proper lawful is numbered in_conflict same lengths all_apart
    marks = record {
      resolved = resolved;
      above_start = found.0;
      inside = found.1;
      kept = found.2;
      apart = λ j from below. marks.late j from below ∙ all_apart j;
      alone = λ j from over inside kept. absurd (omega (arith, from, inside));
    } where
      resolved : AreResolved t conflict new (length t.entries)
      resolved =
          resolved_start t conflict start (length t.entries) roles new now terms row proper numbered in_conflict same
          lengths marks

      resolves : Resolves t.rows (lit_at t.entries) (role_at new) (length t.entries)
          (before t.entries (length t.entries)) conflict row
      resolves =
          resolves_marked t.rows t.entries terms (length t.entries) start (length t.entries) roles new now conflict row
          proper numbered same marks

      conflict_here : IsInConflict (before t.entries (length t.entries)) row
      conflict_here =
          subst (λ (es : List Entry). IsInConflict (values_of es) row)
          (sym (take_all (length t.entries) t.entries (omega arith)))
          in_conflict

      found : (start ≤ now) × (now < length t.entries) × (role_at new now ≡ Kept)
      found = elim marks.at [
        | inl none ↦
            absurd (conflict_needs t start new conflict row lawful is numbered resolves conflict_here
            (λ j from inside. marks.late j from (omega (arith, none, inside)) ∙ all_apart j))
        | inr some ↦ some
      ]

pub trace_start : (t : SeenTrail) (conflict start lowest : ℕ) (roles new : List Role) (now : ℕ) (terms : List Term)
    (row : Row)
    → All IsRow t.rows → IsNumbered t.rows conflict row → IsInConflict (values_of t.entries) row → terms ≡ row.terms
    → length roles ≡ length t.entries
    → Marks t.entries terms (length terms) (length t.entries) start lowest roles new now
    → IsTraced t conflict new (length t.entries)
trace_start t conflict start lowest roles new now terms row proper numbered in_conflict same lengths marks = record {
  resolved =
      resolved_start t conflict start lowest roles new now terms row proper numbered in_conflict same lengths marks;
  none = λ j from inside kept. absurd (omega (arith, from, inside));
}

-- ---- what the code reads

-- the entry that was read
pub entry_is : (es : List Entry) (k : ℕ) (e : Entry) → slice_get es k ≡ Some e → entry_at es k ≡ e
entry_is es k e read = get_or_from_slice_get es k e no_entry read

-- the reason of the entry that was read forces it
pub reason_forces : (t : SeenTrail) (k number : ℕ) (e : Entry) → AreLawful t.rows t.vars t.entries
    → slice_get t.entries k ≡ Some e → e.reason ≡ Some number
    → IsForcedBy t.rows (take k t.entries) (lit_at t.entries k) number
reason_forces t k number e lawful read reason =
    subst (λ (o : Option ℕ). IfSome o (IsForcedBy t.rows (take k t.entries) (lit_at t.entries k)))
    (ap (λ (x : Entry). x.reason) (entry_is t.entries k e read) ∙ reason)
    (lawful k no_entry (slice_get_within t.entries k e read)).reason

pub reason_is : (es : List Entry) (k number : ℕ) (e : Entry) → slice_get es k ≡ Some e → e.reason ≡ Some number
    → reason_at es k ≡ number
reason_is es k number e read reason = ap number_of (ap (λ (x : Entry). x.reason) (entry_is es k e read) ∙ reason)

pub is_reason : (t : SeenTrail) (k number : ℕ) (e : Entry) (terms : List Term) → AreLawful t.rows t.vars t.entries
    → slice_get t.entries k ≡ Some e → e.reason ≡ Some number
    → IfSome (slice_get t.rows (number - 1)) (λ row. terms ≡ row.terms) → IsReason t k number terms
is_reason t k number e terms lawful read reason terms_read =
    let by : IsForcedBy t.rows (take k t.entries) (lit_at t.entries k) number =
    reason_forces t k number e lawful read reason in
    record {
      reason = reason_is t.entries k number e read reason;
      row = by.row;
      term = by.term;
      numbered = by.numbered;
      literal = by.literal;
      forces = by.forces;
      terms_are = read_terms t.rows number by.row terms by.numbered terms_read;
    }

-- a number of a row is at most how many there are
pub number_within : (rows : List Row) (n : ℕ) (row : Row) → IsNumbered rows n row → n ≤ length rows
number_within rows n row is = omega (arith, is.from_one, slice_get_within rows (n - 1) row is.there)

-- behind the last decision every place has a reason
pub no_reason : (t : SeenTrail) (start k : ℕ) (e : Entry) → IsLastDecision t start → start < k → slice_get t.entries k
    ≡ Some e → e.reason ≡ None → ⊥
no_reason t start k e is behind read none =
    false≢true (sym (is.last k behind (slice_get_within t.entries k e read))
    ∙ ap is_decision (entry_is t.entries k e read) ∙ ap is_none none)

pub known_terms : (t : SeenTrail) (n : ℕ) (row : Row) (terms : List Term) → All (KnowsVariables t.vars) t.rows
    → IsNumbered t.rows n row → terms ≡ row.terms → All (λ u. u.lit.var ≤ t.vars) terms
known_terms t n row terms known is same =
    subst (λ (ts : List Term). All (λ u. u.lit.var ≤ t.vars) ts) (sym same)
    (at_number (KnowsVariables t.vars) t.rows n row is known)
