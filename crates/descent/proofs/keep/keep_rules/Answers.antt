use Rattle.std.proofs.Common.{◌≡◌, ◌≤◌, ◌++◌, ℕ, List, [], map, ap, subst, sym, ◌∙◌, arith}
use Rattle.std.proofs.lemmas.List.{append-nil, nil_from_length}
use Rattle.std.proofs.lemmas.List.Sums.{sum_by-append}
use Rattle.std.proofs.lemmas.List.Elements.{All-push}
use Rattle.std.specs.List.{All, sum_by}
use Rattle.std.specs.Vec.Iter.{into_iter_items}
use Rattle.rule_core.specs.Table.{table_counts}
use Rattle.descent.specs.Ready.{IsExact, IsReady}
use Rattle.descent.specs.declared.kept.Kept.{Kept}
use Rattle.descent.specs.declared.weighted.Weighted.{Weighted}
use Rattle.descent.proofs.KeepLemmas.{at_middle, rules_split, sum_middle, terms_next, weights_next}
use Rattle.descent.proofs.keep.keep_rules.Goals as goal

pub new-requires-clause-teams : goal.new-requires-clause-teams
new-requires-clause-teams g c =
    let split = rules_split c.loop-weighted.kept.items c.in-Some.weighted (into_iter_items c.loop-weighted.weighted-iterator) (into_iter_items c.next.new.self) c.args.rules.items c.loop-weighted.invariant.2 c.in-Some.ensures.steps.0 in
    sym (at_middle (λ (w : Weighted g.row.R.Denot). g.R.Entries.team_count w.rule ≡ c.args.cells.now.n)
    (map (λ (k : Kept g.row.R.Denot). k.weighted) c.loop-weighted.kept.items) c.in-Some.weighted
    (into_iter_items c.next.new.self) (subst
    (λ (l : List (Weighted g.row.R.Denot)). All (λ w. g.R.Entries.team_count w.rule ≡ c.args.cells.now.n) l) split
    c.requires.teams))

pub new-requires-clause-few : goal.new-requires-clause-few
new-requires-clause-few g c =
    let f : Weighted g.row.R.Denot → ℕ = λ w. g.R.Entries.term_count w.rule in
    let split = rules_split c.loop-weighted.kept.items c.in-Some.weighted (into_iter_items c.loop-weighted.weighted-iterator) (into_iter_items c.next.new.self) c.args.rules.items c.loop-weighted.invariant.2 c.in-Some.ensures.steps.0 in
    omega (arith, c.requires.few, ap (sum_by f) split, sum_middle f (map (λ (k : Kept g.row.R.Denot). k.weighted) c.loop-weighted.kept.items) c.in-Some.weighted (into_iter_items c.next.new.self))

pub returns-in_err-new-clause-steps : goal.returns-in_err-new-clause-steps
returns-in_err-new-clause-steps g c =
    let f : Weighted g.row.R.Denot → ℕ = λ w. g.R.Entries.term_count w.rule in
    let split = rules_split c.loop-weighted.kept.items c.in-Some.weighted (into_iter_items c.loop-weighted.weighted-iterator) (into_iter_items c.next.new.self) c.args.rules.items c.loop-weighted.invariant.2 c.in-Some.ensures.steps.0 in
    omega (arith, c.new.ensures.steps, c.loop-weighted.invariant.5, ap (sum_by f) split, sum_middle f (map (λ (k : Kept g.row.R.Denot). k.weighted) c.loop-weighted.kept.items) c.in-Some.weighted (into_iter_items c.next.new.self))

pub loop-weighted-preserved : goal.loop-weighted-preserved
loop-weighted-preserved g c =
    let f : Weighted g.row.R.Denot → ℕ = λ w. g.R.Entries.term_count w.rule in
    let kept = c.loop-weighted.kept.items in
    let new = c.in_ok-new.field-0 in
    let split = rules_split kept c.in-Some.weighted (into_iter_items c.loop-weighted.weighted-iterator) (into_iter_items c.next.new.self) c.args.rules.items c.loop-weighted.invariant.2 c.in-Some.ensures.steps.0 in
    let room : g.R.Entries.term_count c.in-Some.weighted.rule ≤ c.args.room = at_middle
    (λ (w : Weighted g.row.R.Denot). g.R.Entries.term_count w.rule ≤ c.args.room)
    (map (λ (k : Kept g.row.R.Denot). k.weighted) kept) c.in-Some.weighted (into_iter_items c.next.new.self) (subst
    (λ (l : List (Weighted g.row.R.Denot)). All (λ w. g.R.Entries.term_count w.rule ≤ c.args.room) l) split
    c.requires.room) in (
      tt,
      tt,
      weights_next kept c.push.new.self.items new c.in-Some.weighted (into_iter_items c.loop-weighted.weighted-iterator) (into_iter_items c.next.new.self) c.args.rules.items c.loop-weighted.invariant.2 c.in-Some.ensures.steps.0 c.in_ok-new.ensures.weighted c.in_ok-push.ensures.items,
      subst (λ (l : List (Kept g.row.R.Denot)). All (IsReady g.R.Entries c.args.cells.now.n c.args.room) l) (sym c.in_ok-push.ensures.items) (All-push (IsReady g.R.Entries c.args.cells.now.n c.args.room) kept new c.loop-weighted.invariant.3 (c.in_ok-new.ensures.ready c.args.room room)),
      subst (λ (l : List (Kept g.row.R.Denot)). All (IsExact g.R.Entries (table_counts c.args.cells.now)) l) (sym c.in_ok-push.ensures.items) (All-push (IsExact g.R.Entries (table_counts c.args.cells.now)) kept new c.loop-weighted.invariant.4 c.in_ok-new.ensures.exact),
      terms_next g.R.Entries kept c.push.new.self.items new c.in-Some.weighted c.args.steps.now c.loop-weighted.steps c.new.new.steps c.loop-weighted.invariant.5 c.in_ok-new.ensures.weighted c.in_ok-push.ensures.items c.new.ensures.steps,
    )

pub returns-in_err-push-clause-steps : goal.returns-in_err-push-clause-steps
returns-in_err-push-clause-steps g c =
    let f : Weighted g.row.R.Denot → ℕ = λ w. g.R.Entries.term_count w.rule in
    let split = rules_split c.loop-weighted.kept.items c.in-Some.weighted (into_iter_items c.loop-weighted.weighted-iterator) (into_iter_items c.next.new.self) c.args.rules.items c.loop-weighted.invariant.2 c.in-Some.ensures.steps.0 in
    omega (arith, c.new.ensures.steps, c.loop-weighted.invariant.5, ap (sum_by f) split, sum_middle f (map (λ (k : Kept g.row.R.Denot). k.weighted) c.loop-weighted.kept.items) c.in-Some.weighted (into_iter_items c.next.new.self))

pub returns-clause-ready : goal.returns-clause-ready
returns-clause-ready g c = c.loop-weighted.invariant.3

pub returns-clause-exact : goal.returns-clause-exact
returns-clause-exact g c = c.loop-weighted.invariant.4

pub returns-clause-weights : goal.returns-clause-weights
returns-clause-weights g c =
    let kept : List (Weighted g.row.R.Denot) = map (λ (k : Kept g.row.R.Denot). k.weighted) c.loop-weighted.kept.items in
    let none : into_iter_items c.loop-weighted.weighted-iterator ≡ [] = nil_from_length (into_iter_items c.loop-weighted.weighted-iterator) (sym c.loop-weighted.weighted-iterator.rest.ok.0 ∙ c.in-None.ensures.steps.0) in
    sym (append-nil kept) ∙ ap (λ (l : List (Weighted g.row.R.Denot)). kept ++ l) (sym none) ∙ c.loop-weighted.invariant.2

pub returns-clause-steps : goal.returns-clause-steps
returns-clause-steps g c =
    let kept : List (Weighted g.row.R.Denot) = map (λ (k : Kept g.row.R.Denot). k.weighted) c.loop-weighted.kept.items in
    let rest = into_iter_items c.loop-weighted.weighted-iterator in
    let f : Weighted g.row.R.Denot → ℕ = λ w. g.R.Entries.term_count w.rule in
    omega (arith, c.loop-weighted.invariant.5, sym (ap (sum_by f) c.loop-weighted.invariant.2), sum_by-append f kept rest)

pub loop-weighted-init : goal.loop-weighted-init
loop-weighted-init g c = (
  tt,
  tt,
  ap (λ (l : List (Kept g.row.R.Denot)). map (λ k. k.weighted) l ++ into_iter_items c.into_iter-weighted-iterator.result) c.new-kept.ensures.items
      ∙ c.into_iter-weighted-iterator.ensures.into_iter_gives.0,
  subst (λ (l : List (Kept g.row.R.Denot)). All (IsReady g.R.Entries c.args.cells.now.n c.args.room) l)
      (sym c.new-kept.ensures.items) (λ k d below. absurd (omega (arith, below))),
  subst (λ (l : List (Kept g.row.R.Denot)). All (IsExact g.R.Entries (table_counts c.args.cells.now)) l)
      (sym c.new-kept.ensures.items) (λ k d below. absurd (omega (arith, below))),
  omega arith,
)
