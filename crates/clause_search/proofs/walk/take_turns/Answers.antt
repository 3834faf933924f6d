use Rattle.std.proofs.Common.{◌≡◌, ◌⊎◌, ℕ, ◌<◌, ◌≤◌, Some, None, true, false, length, inl, refl, sym, subst, ◌∙◌}
use Rattle.std.specs.Prelude.{IfSome}
use Rattle.std.specs.List.{All}
use Rattle.robin_watch.specs.Limits.{lower_limit}
use Rattle.robin_watch.proofs.LimitLemmas.{within-lower}
use Rattle.propagate.specs.Trails.{KnowsVariables}
use Rattle.clause_search.specs.News.{IsTidy}
use Rattle.clause_search.specs.Turns.{IsTurn, Lightened, Turned}
use Rattle.clause_search.specs.declared.turn.Turn.{Turn}
use Rattle.clause_search.proofs.SearchLemmas.{news-clauses}
use Rattle.clause_search.proofs.TurnLemmas.{answer_refuted, answer_satisfied, answer_spent, kept_there, left}
use Rattle.clause_search.proofs.TurnLemmas.{left_lightened, left_turned, lightened, turned, under_lightened, under_run}
use Rattle.clause_search.proofs.TurnLemmas.{under_same, under_start, under_turned, within_start, within_turned}
use Rattle.clause_search.proofs.StopLemmas.{answer_planned, passed_start, passed_turned}
use Rattle.clause_search.proofs.walk.take_turns.Goals as goal

pub turns-init : goal.turns-init
turns-init g c = record {
  vars = c.requires.vars;
  under =
      under_start c.args.rows.now c.args.trail.now.vars c.args.desk.now.given c.new-log.result
      c.args.desk.now.kept.places.items c.args.trail.now c.requires.given c.new-log.ensures c.requires.kept
      c.requires.trail;
  within = within_start c.args.limit c.new-log.result c.new-log.ensures;
  passed = passed_start (g.W.Watch.stops_at c.args.watch.now) c.new-log.result c.new-log.ensures;
}

pub take_turn-requires : goal.take_turn-requires
take_turn-requires g c =
    let under =
    under_run c.args.rows.now c.args.trail.now.vars c.turns.desk.given c.turns.log c.turns.desk.kept.places.items
    c.turns.trail c.run-found.new.self c.turns.invariant.under c.run-found.ensures.vars c.run-found.ensures.rows
    c.run-found.ensures.below in
    record {
      vars = c.turns.invariant.vars ∙ sym under.vars_are;
      found = c.run-found.ensures.found;
      below = under.quiet;
      within = subst (λ (n : ℕ). IfSome c.limit_here-kept.result (λ most. n ≤ most)) c.len.ensures
          c.limit_here-kept.ensures.within;
    }

pub lighten-requires : goal.lighten-requires
lighten-requires g c =
    let under =
    under_run c.args.rows.now c.args.trail.now.vars c.turns.desk.given c.turns.log c.turns.desk.kept.places.items
    c.turns.trail c.run-found.new.self c.turns.invariant.under c.run-found.ensures.vars c.run-found.ensures.rows
    c.run-found.ensures.below in
    let t : Turned =
    turned c.turns.desk.given c.turns.log c.take_turn.new.log c.turns.desk.kept.places.items
    c.take_turn.new.desk.kept.places.items c.turns.desk.kept.room c.take_turn.new.desk.kept.room in
    let is : IsTurn t c.run-found.new.self c.take_turn.new.trail c.limit_here-kept.result Turn.Again =
    subst (λ (x : Turn). IsTurn t c.run-found.new.self c.take_turn.new.trail c.limit_here-kept.result x) c.in-Again.is
    c.in_ok-turn.ensures.turn in
    let now =
    under_turned c.args.rows.now c.args.trail.now.vars t c.run-found.new.self c.take_turn.new.trail
    c.limit_here-kept.result under is in
    record {
      known = subst (λ (v : ℕ). All (KnowsVariables v) c.args.rows.now) (sym now.vars_are) c.requires.known;
      vars = c.take_turn.ensures.vars ∙ c.turns.invariant.vars ∙ sym now.vars_are;
      tidy = subst (λ (v : ℕ). All (IsTidy v) c.take_turn.new.log) (sym now.vars_are) now.tidy;
      clauses = news-clauses c.args.rows.now c.args.trail.now.vars c.take_turn.new.log now.news;
      there = kept_there c.args.rows.now c.args.trail.now.vars c.turns.desk.given c.take_turn.new.log
          c.take_turn.new.desk.kept.places.items c.take_turn.new.trail now;
    }

pub turns-preserved : goal.turns-preserved
turns-preserved g c =
    let under =
    under_run c.args.rows.now c.args.trail.now.vars c.turns.desk.given c.turns.log c.turns.desk.kept.places.items
    c.turns.trail c.run-found.new.self c.turns.invariant.under c.run-found.ensures.vars c.run-found.ensures.rows
    c.run-found.ensures.below in
    let t : Turned =
    turned c.turns.desk.given c.turns.log c.take_turn.new.log c.turns.desk.kept.places.items
    c.take_turn.new.desk.kept.places.items c.turns.desk.kept.room c.take_turn.new.desk.kept.room in
    let l : Lightened =
    lightened c.take_turn.new.trail c.take_turn.new.desk.kept.places.items c.lighten.new.desk.kept.places.items
    c.take_turn.new.desk.kept.room c.lighten.new.desk.kept.room in
    let is : IsTurn t c.run-found.new.self c.take_turn.new.trail c.limit_here-kept.result Turn.Again =
    subst (λ (x : Turn). IsTurn t c.run-found.new.self c.take_turn.new.trail c.limit_here-kept.result x) c.in-Again.is
    c.in_ok-turn.ensures.turn in
    let now =
    under_turned c.args.rows.now c.args.trail.now.vars t c.run-found.new.self c.take_turn.new.trail
    c.limit_here-kept.result under is in
    record {
      vars = c.lighten.ensures.vars ∙ c.take_turn.ensures.vars ∙ c.turns.invariant.vars;
      under =
          under_same c.args.rows.now c.args.trail.now.vars c.turns.desk.given c.lighten.new.desk.given
          c.take_turn.new.log
          c.take_turn.new.log c.lighten.new.desk.kept.places.items c.lighten.new.desk.kept.places.items
          c.lighten.new.trail (c.lighten.ensures.given ∙ c.take_turn.ensures.given) refl refl
          (under_lightened c.args.rows.now c.args.trail.now.vars c.turns.desk.given c.take_turn.new.log l
          c.lighten.new.trail now c.in_ok-lighten-in-Again.ensures.lightened);
      within =
          within_turned t c.run-found.new.self c.take_turn.new.trail c.limit_here-kept.result c.args.limit is
          c.turns.invariant.within
          (λ room.
          subst (λ (n : ℕ). IfSome c.args.limit (λ most. n < most)) c.len.ensures
          (c.limit_here-kept.ensures.room
          (subst (λ (n : ℕ). IfSome c.limit_here-kept.result (λ most. n < most)) (sym c.len.ensures) room)));
      passed =
          passed_turned (g.W.Watch.stops_at c.args.watch.now) c.run-found.result c.limit_here-kept.result t
          c.run-found.new.self c.take_turn.new.trail is c.take_turn.ensures.nothing_learnt
          (subst (λ (n : ℕ). g.W.Watch.stops_at c.args.watch.now n ≡ Some true
          → (c.run-found.result ≡ None) ⊎ (c.limit_here-kept.result ≡ Some n)) c.len.ensures
          c.limit_here-kept.ensures.ended) c.turns.invariant.passed;
    }

pub turns-smaller : goal.turns-smaller
turns-smaller g c =
    let under =
    under_run c.args.rows.now c.args.trail.now.vars c.turns.desk.given c.turns.log c.turns.desk.kept.places.items
    c.turns.trail c.run-found.new.self c.turns.invariant.under c.run-found.ensures.vars c.run-found.ensures.rows
    c.run-found.ensures.below in
    let t : Turned =
    turned c.turns.desk.given c.turns.log c.take_turn.new.log c.turns.desk.kept.places.items
    c.take_turn.new.desk.kept.places.items c.turns.desk.kept.room c.take_turn.new.desk.kept.room in
    let l : Lightened =
    lightened c.take_turn.new.trail c.take_turn.new.desk.kept.places.items c.lighten.new.desk.kept.places.items
    c.take_turn.new.desk.kept.room c.lighten.new.desk.kept.room in
    let is : IsTurn t c.run-found.new.self c.take_turn.new.trail c.limit_here-kept.result Turn.Again =
    subst (λ (x : Turn). IsTurn t c.run-found.new.self c.take_turn.new.trail c.limit_here-kept.result x) c.in-Again.is
    c.in_ok-turn.ensures.turn in
    let now =
    under_turned c.args.rows.now c.args.trail.now.vars t c.run-found.new.self c.take_turn.new.trail
    c.limit_here-kept.result under is in
    left_lightened c.args.rows.now c.args.trail.now.vars c.turns.desk.given c.take_turn.new.log l c.lighten.new.trail
    (left c.args.trail.now.vars c.turns.desk.kept.room (length c.turns.desk.kept.places.items)
    (length c.turns.trail.entries)) now c.in_ok-lighten-in-Again.ensures.lightened
    (left_turned c.args.rows.now c.args.trail.now.vars t c.run-found.new.self c.take_turn.new.trail
    c.limit_here-kept.result (length c.turns.trail.entries) under is c.run-found.ensures.grown.longer)

pub returns-in-Satisfied-clause-answer : goal.returns-in-Satisfied-clause-answer
returns-in-Satisfied-clause-answer g c =
    let under =
    under_run c.args.rows.now c.args.trail.now.vars c.turns.desk.given c.turns.log c.turns.desk.kept.places.items
    c.turns.trail c.run-found.new.self c.turns.invariant.under c.run-found.ensures.vars c.run-found.ensures.rows
    c.run-found.ensures.below in
    let t : Turned =
    turned c.turns.desk.given c.turns.log c.take_turn.new.log c.turns.desk.kept.places.items
    c.take_turn.new.desk.kept.places.items c.turns.desk.kept.room c.take_turn.new.desk.kept.room in
    record {
      kept = c.args.limit;
      is_kept = inl refl;
      answer =
          answer_satisfied c.args.rows.now c.args.trail.now.vars c.turns.desk.given c.turns.log
          c.turns.desk.kept.places.items c.run-found.new.self c.in-Satisfied.values under
          (subst (λ (x : Turn). IsTurn t c.run-found.new.self c.take_turn.new.trail c.limit_here-kept.result x)
          c.in-Satisfied.is c.in_ok-turn.ensures.turn);
    }

pub returns-in-Refuted-clause-answer : goal.returns-in-Refuted-clause-answer
returns-in-Refuted-clause-answer g c =
    let under =
    under_run c.args.rows.now c.args.trail.now.vars c.turns.desk.given c.turns.log c.turns.desk.kept.places.items
    c.turns.trail c.run-found.new.self c.turns.invariant.under c.run-found.ensures.vars c.run-found.ensures.rows
    c.run-found.ensures.below in
    let t : Turned =
    turned c.turns.desk.given c.turns.log c.take_turn.new.log c.turns.desk.kept.places.items
    c.take_turn.new.desk.kept.places.items c.turns.desk.kept.room c.take_turn.new.desk.kept.room in
    record {
      kept = c.args.limit;
      is_kept = inl refl;
      answer =
          answer_refuted c.args.rows.now c.args.trail.now.vars c.turns.desk.given c.turns.desk.kept.places.items
          c.args.limit c.turns.log c.take_turn.new.log c.run-found.new.self under c.turns.invariant.within
          (subst (λ (x : Turn). IsTurn t c.run-found.new.self c.take_turn.new.trail c.limit_here-kept.result x)
          c.in-Refuted.is c.in_ok-turn.ensures.turn);
    }

pub returns-in-Spent-clause-answer : goal.returns-in-Spent-clause-answer
returns-in-Spent-clause-answer g c =
    let under =
    under_run c.args.rows.now c.args.trail.now.vars c.turns.desk.given c.turns.log c.turns.desk.kept.places.items
    c.turns.trail c.run-found.new.self c.turns.invariant.under c.run-found.ensures.vars c.run-found.ensures.rows
    c.run-found.ensures.below in
    let t : Turned =
    turned c.turns.desk.given c.turns.log c.take_turn.new.log c.turns.desk.kept.places.items
    c.take_turn.new.desk.kept.places.items c.turns.desk.kept.room c.take_turn.new.desk.kept.room in
    record {
      kept = c.limit_here-kept.result;
      is_kept = c.limit_here-kept.ensures.kept;
      answer =
          answer_spent c.args.rows.now c.args.trail.now.vars c.turns.desk.given c.turns.desk.kept.places.items
          c.limit_here-kept.result c.turns.log c.take_turn.new.log c.run-found.new.self under
          (subst (λ (x : Turn). IsTurn t c.run-found.new.self c.take_turn.new.trail c.limit_here-kept.result x)
          c.in-Spent.is c.in_ok-turn.ensures.turn);
    }

pub returns-in-Satisfied-clause-planned : goal.returns-in-Satisfied-clause-planned
returns-in-Satisfied-clause-planned g c = λ first ends.
    let under =
    under_run c.args.rows.now c.args.trail.now.vars c.turns.desk.given c.turns.log c.turns.desk.kept.places.items
    c.turns.trail c.run-found.new.self c.turns.invariant.under c.run-found.ensures.vars c.run-found.ensures.rows
    c.run-found.ensures.below in
    let t : Turned =
    turned c.turns.desk.given c.turns.log c.take_turn.new.log c.turns.desk.kept.places.items
    c.take_turn.new.desk.kept.places.items c.turns.desk.kept.room c.take_turn.new.desk.kept.room in
    answer_satisfied c.args.rows.now c.args.trail.now.vars c.turns.desk.given c.turns.log c.turns.desk.kept.places.items
    c.run-found.new.self c.in-Satisfied.values under
    (subst (λ (x : Turn). IsTurn t c.run-found.new.self c.take_turn.new.trail c.limit_here-kept.result x)
    c.in-Satisfied.is c.in_ok-turn.ensures.turn)

pub returns-in-Refuted-clause-planned : goal.returns-in-Refuted-clause-planned
returns-in-Refuted-clause-planned g c = λ first ends.
    let under =
    under_run c.args.rows.now c.args.trail.now.vars c.turns.desk.given c.turns.log c.turns.desk.kept.places.items
    c.turns.trail c.run-found.new.self c.turns.invariant.under c.run-found.ensures.vars c.run-found.ensures.rows
    c.run-found.ensures.below in
    let t : Turned =
    turned c.turns.desk.given c.turns.log c.take_turn.new.log c.turns.desk.kept.places.items
    c.take_turn.new.desk.kept.places.items c.turns.desk.kept.room c.take_turn.new.desk.kept.room in
    answer_refuted c.args.rows.now c.args.trail.now.vars c.turns.desk.given c.turns.desk.kept.places.items
    (lower_limit c.args.limit first) c.turns.log c.take_turn.new.log c.run-found.new.self under
    (within-lower (g.W.Watch.stops_at c.args.watch.now) c.args.limit first (length c.turns.log) ends
    c.turns.invariant.passed c.turns.invariant.within)
    (subst (λ (x : Turn). IsTurn t c.run-found.new.self c.take_turn.new.trail c.limit_here-kept.result x)
    c.in-Refuted.is c.in_ok-turn.ensures.turn)

pub returns-in-Spent-clause-planned : goal.returns-in-Spent-clause-planned
returns-in-Spent-clause-planned g c = λ first ends.
    let under =
    under_run c.args.rows.now c.args.trail.now.vars c.turns.desk.given c.turns.log c.turns.desk.kept.places.items
    c.turns.trail c.run-found.new.self c.turns.invariant.under c.run-found.ensures.vars c.run-found.ensures.rows
    c.run-found.ensures.below in
    let t : Turned =
    turned c.turns.desk.given c.turns.log c.take_turn.new.log c.turns.desk.kept.places.items
    c.take_turn.new.desk.kept.places.items c.turns.desk.kept.room c.take_turn.new.desk.kept.room in
    answer_planned (g.W.Watch.stops_at c.args.watch.now) c.args.rows.now c.args.trail.now.vars c.turns.desk.given
    c.turns.desk.kept.places.items c.args.limit first c.limit_here-kept.result c.turns.log c.take_turn.new.log
    c.run-found.new.self under ends c.turns.invariant.passed c.turns.invariant.within
    (subst (λ (n : ℕ). g.W.Watch.stops_at c.args.watch.now n ≡ Some false
    → c.limit_here-kept.result ≡ c.args.limit) c.len.ensures c.limit_here-kept.ensures.not_ended)
    (subst (λ (x : Turn). IsTurn t c.run-found.new.self c.take_turn.new.trail c.limit_here-kept.result x)
    c.in-Spent.is c.in_ok-turn.ensures.turn)
