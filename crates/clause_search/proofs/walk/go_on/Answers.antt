use Rattle.std.proofs.Common.{ℕ, inl, refl, subst, ◌∙◌}
use Rattle.propagate.specs.Trails.{values_of}
use Rattle.clause_search.specs.Turns.{IsFilled}
use Rattle.clause_search.proofs.PickLemmas.{filled_answer}
use Rattle.clause_search.proofs.walk.go_on.Goals as goal

pub returns-in-Some-clause-turn : goal.returns-in-Some-clause-turn
returns-in-Some-clause-turn c = λ turned limit left. inl (left, c.decide.ensures)

pub returns-in_ok-values-in-None-clause-turn : goal.returns-in_ok-values-in-None-clause-turn
returns-in_ok-values-in-None-clause-turn c = λ turned limit left.
    filled_answer c.args.trail.now c.args.trail.now.vars c.in_ok-values-in-None.values refl c.len-len.ensures.rows
    c.len-len.ensures.known c.len-len.ensures.lawful
    c.requires.quiet (c.in-None.ensures.none refl)
    (subst (λ (n : ℕ). IsFilled (values_of c.args.trail.now.entries) n n c.in_ok-values-in-None.values)
    (c.pick.ensures.vars ∙ c.requires.vars)
    c.in_ok-values-in-None.ensures)
