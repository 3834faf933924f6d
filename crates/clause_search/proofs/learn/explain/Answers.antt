use Rattle.std.proofs.Common.{ℕ, ◌<◌, List, length, arith, sym, subst, ◌∙◌}
use Rattle.std.specs.List.{All}
use Rattle.clause_search.specs.Marks.{IsAnalyzed, IsBackLevel}
use Rattle.clause_search.specs.declared.role.Role.{Role}
use Rattle.clause_search.proofs.LearnLemmas.{walked_learnable}
use Rattle.clause_search.proofs.learn.explain.Goals as goal

pub returns-clause-learnable : goal.returns-clause-learnable
returns-clause-learnable c =
    let analyzed : IsAnalyzed c.args.trail.now c.args.conflict.row c.args.start c.deref.result.now =
    subst (λ (rs : List Role). IsAnalyzed c.args.trail.now c.args.conflict.row c.args.start rs)
    (sym c.deref.ensures.value)
    c.in_ok-find_roles.ensures in
    let back : IsBackLevel c.args.trail.now.entries c.deref.result.now c.args.start c.back_level.result =
    subst (λ (rs : List Role). IsBackLevel c.args.trail.now.entries rs c.args.start c.back_level.result)
    (c.deref-5.ensures.value ∙ sym c.deref.ensures.value) c.back_level.ensures in
    walked_learnable c.args.trail.now c.args.conflict.row c.args.start c.back_level.result c.deref.result.now
    c.collect.new.clause.items c.collect.new.hints.items c.len-len.ensures.lawful
    (omega (arith, c.len-len.ensures.len, c.len-len.ensures.at_most)) c.requires.start analyzed back
    c.in_ok-collect.ensures.clause c.in_ok-collect.ensures.hints c.in_ok-collect.ensures.small

pub raise_all-requires-clause-inside : goal.raise_all-requires-clause-inside
raise_all-requires-clause-inside c =
    subst (λ (ks : List ℕ). All (λ k. k < length c.args.trail.now.entries) ks) (sym c.deref-2.ensures.value)
    c.in_ok-collect.ensures.parts
