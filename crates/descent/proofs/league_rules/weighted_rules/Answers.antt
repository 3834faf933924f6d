use Rattle.std.proofs.Common.{◌≡◌, ℕ, ◌+◌, List, [], ◌∷◌, ◌++◌, length, take, ap, subst, sym, ◌∙◌, arith}
use Rattle.std.proofs.lemmas.List.{length-take, take_more}
use Rattle.std.proofs.lemmas.List.Elements.{All-weaker}
use Rattle.std.proofs.lemmas.Slice.Zip.{all_zipped_more}
use Rattle.std.specs.List.{AllZip}
use Rattle.deviation.specs.contracts.any_rule.AnyRuleEntries.TheImpl.{ghosts}
use Rattle.deviation.specs.declared.any_rule.AnyRule.{AnyRule}
use Rattle.league.specs.declared.class.Constraint.{Constraint}
use Rattle.descent.specs.League.{IsWeightedOf}
use Rattle.descent.specs.declared.weighted.Weighted.{Weighted}
use Rattle.descent.proofs.LeagueLemmas.{teams-league, terms-league}
use Rattle.descent.proofs.league_rules.weighted_rules.Goals as goal

pub loop-constraint-preserved : goal.loop-constraint-preserved
loop-constraint-preserved c =
    let listed : List Constraint = c.constraints-constraint-items.result.now in
    let i : ℕ = c.loop-constraint.constraint-index in
    let constraint : Constraint = c.constraint-item.result in
    let R : Constraint → Weighted AnyRule → Type 0 = IsWeightedOf ghosts c.n-n.result c.args.least in
    let more : take i listed ++ constraint ∷ [] ≡ take (i + 1) listed = ap (λ (x : Constraint). take i listed ++ x ∷ []) c.constraint-item.is ∙ sym (take_more listed i constraint c.loop-constraint-test.true) in
    subst (λ (l : List Constraint). AllZip R l c.push.new.self.items) more
    (subst (λ (l : List (Weighted AnyRule)). AllZip R (take i listed ++ constraint ∷ []) l) (sym c.in_ok-push.ensures.items)
    (all_zipped_more R (take i listed) c.loop-constraint.rules.items constraint c.in_ok-weighted.weighted c.loop-constraint.invariant c.in_ok-weighted.ensures))

pub returns-clause-teams : goal.returns-clause-teams
returns-clause-teams c =
    let read : List Constraint = take c.loop-constraint.constraint-index c.constraints-constraint-items.result.now in
    All-weaker (λ (w : Weighted AnyRule). ghosts.team_count w.rule ≡ c.n-n.result) (λ (w : Weighted AnyRule). ghosts.team_count w.rule ≡ c.args.league.now.n) (λ w is. is ∙ c.n-n.ensures.n) c.loop-constraint.rules.items
    (teams-league ghosts c.n-n.result c.args.least read c.loop-constraint.rules.items c.loop-constraint.invariant)

pub returns-clause-few : goal.returns-clause-few
returns-clause-few c =
    let listed : List Constraint = c.constraints-constraint-items.result.now in
    let i : ℕ = c.loop-constraint.constraint-index in
    omega (arith, terms-league ghosts c.n-n.result c.args.least (take i listed) c.loop-constraint.rules.items c.loop-constraint.invariant, length-take i listed, ap (λ (l : List Constraint). length l) c.constraints-constraint-items.ensures, c.n-n.ensures.instance.few)
