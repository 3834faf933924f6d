use Rattle.std.proofs.Common.{ℕ, length, sym, subst}
use Rattle.clause_search.specs.Marks.{IsWalked, Marks}
use Rattle.clause_search.proofs.WalkLemmas.{read_terms, walk_start}
use Rattle.clause_search.proofs.analyze.analyze.Goals as goal

pub walk-init : goal.walk-init
walk-init c =
    let conflict = c.requires.conflict in
    subst (λ (n : ℕ). IsWalked c.args.trail.now c.args.conflict.row c.args.start c.mark-lowest.new.roles
    c.mark-lowest.result n) (sym c.len-len.ensures.len)
    (walk_start c.args.trail.now c.args.conflict.row c.args.start c.args.roles.now c.mark-lowest.new.roles
    c.mark-lowest.result c.terms-terms.result.now conflict.row
    c.len-len.ensures.rows c.len-len.ensures.lawful c.requires.start conflict.numbered conflict.conflict_is
    (read_terms c.args.trail.now.rows c.args.conflict.row conflict.row c.terms-terms.result.now conflict.numbered
    c.terms-terms.ensures)
    c.requires.roles c.requires.apart
    (subst (λ (n : ℕ). Marks c.args.trail.now.entries c.terms-terms.result.now (length c.terms-terms.result.now) n
    c.args.start n c.args.roles.now c.mark-lowest.new.roles c.mark-lowest.result)
    c.len-len.ensures.len c.mark-lowest.ensures))
