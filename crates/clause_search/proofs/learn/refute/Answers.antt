use Rattle.std.proofs.Common.{ℕ, ◌<◌, ◌^◌, List, arith, sym, subst, ◌∙◌}
use Rattle.std.specs.List.{All}
use Rattle.clause_search.specs.Marks.{IsTraced}
use Rattle.clause_search.specs.declared.role.Role.{Role}
use Rattle.clause_search.proofs.LearnLemmas.{closes}
use Rattle.clause_search.proofs.learn.refute.Goals as goal

pub returns-clause-closes : goal.returns-clause-closes
returns-clause-closes c =
    closes c.args.desk.now.given c.args.desk.now.kept.places.items c.args.trail.now c.args.conflict.row
    c.deref.result.now c.collect.new.hints.items c.deref-2.result.now c.args.log.now c.push.new.self
    c.len-len.ensures.lawful (omega (arith, c.len-len.ensures.len, c.len-len.ensures.at_most))
    (subst (λ (rs : List Role). IsTraced c.args.trail.now c.args.conflict.row rs 0) (sym c.deref.ensures.value)
    c.in_ok-find_root_roles.ensures)
    c.in_ok-collect.ensures.hints c.in_ok-collect.ensures.small
    (c.deref-2.ensures.value ∙ c.in_ok-name_hints.ensures.names)
    (subst (λ (ns : List ℕ). All (λ name. name < 2 ^ 64) ns) (sym c.deref-2.ensures.value)
    c.in_ok-name_hints.ensures.small)
    c.in_ok-push.ensures.ok
