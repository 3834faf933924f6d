use Rattle.std.proofs.Common.{ℕ, ap, subst, sym, ◌∙◌}
use Rattle.std.specs.Prelude.{IfOk}
use Rattle.std.specs.List.{All}
use Rattle.propagate.specs.Trails.{KnowsVariables, SeenTrail}
use Rattle.robin_watch.specs.Limits.{lower_limit}
use Rattle.clause_search.specs.Answers.{IsAnswer, IsAnswerBy}
use Rattle.clause_search.proofs.KeptLemmas.{bare_trail}
use Rattle.clause_search.proofs.walk.search_watched.Goals as goal

pub take_turns-requires-clause-known : goal.take_turns-requires-clause-known
take_turns-requires-clause-known g c =
    subst (λ (v : ℕ). All (KnowsVariables v) c.args.rows.now)
    (sym (ap (λ (u : SeenTrail). u.vars) c.in_ok-trail.ensures)) c.requires.known

pub take_turns-requires-clause-trail : goal.take_turns-requires-clause-trail
take_turns-requires-clause-trail g c =
    c.in_ok-trail.ensures
    ∙ ap (λ (v : ℕ). bare_trail v c.args.rows.now) (sym (ap (λ (u : SeenTrail). u.vars) c.in_ok-trail.ensures))

pub take_turns-requires-clause-given : goal.take_turns-requires-clause-given
take_turns-requires-clause-given g c = c.in_ok-desk.ensures.given ∙ c.len-given.ensures.len

pub take_turns-requires-clause-vars : goal.take_turns-requires-clause-vars
take_turns-requires-clause-vars g c =
    c.in_ok-desk.ensures.vars ∙ sym (ap (λ (u : SeenTrail). u.vars) c.in_ok-trail.ensures)

pub returns-clause-answer : goal.returns-clause-answer
returns-clause-answer g c =
    subst (λ (v : ℕ). IfOk c.take_turns.result
    (IsAnswerBy c.args.rows.now v c.args.limit (g.W.Watch.may_stop c.args.watch.now)))
    (ap (λ (u : SeenTrail). u.vars) c.in_ok-trail.ensures) c.take_turns.ensures.answer

pub returns-clause-planned : goal.returns-clause-planned
returns-clause-planned g c = λ first ends.
    subst (λ (v : ℕ). IfOk c.take_turns.result
    (IsAnswer c.args.rows.now v (lower_limit c.args.limit first)))
    (ap (λ (u : SeenTrail). u.vars) c.in_ok-trail.ensures) (c.take_turns.ensures.planned first ends)
