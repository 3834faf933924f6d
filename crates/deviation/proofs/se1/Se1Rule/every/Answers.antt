use Rattle.std.proofs.Common.{ℕ, ◌++◌, List, ap, ◌∙◌, subst, sym}
use Rattle.std.specs.Ordering.{nat_cmp}
use Rattle.league.specs.Sets.{IsAscending}
use Rattle.league.proofs.FitLemmas.{are_teams-ascending}
use Rattle.rule_core.specs.Table.{table_counts}
use Rattle.deviation.proofs.Se1Terms.{se1_vector}
use Rattle.deviation.proofs.se1.Se1Rule.every.Goals as goal

pub push_lacking-requires-clause-ascending : goal.push_lacking-requires-clause-ascending
push_lacking-requires-clause-ascending g c =
    let rule = c.args.self.now in
    subst (λ (teams : List ℕ). IsAscending nat_cmp teams) (sym c.teams.ensures)
    (are_teams-ascending rule.n rule.pairs rule.ready.fits)

pub returns-clause-entries : goal.returns-clause-entries
returns-clause-entries g c =
    let rule = c.args.self.now in
    c.push_lacking.ensures.entries
    ∙ ap (λ (xs : List ℕ). c.args.entries.now.items ++ xs)
    (se1_vector rule.n (table_counts c.args.cells.now) rule.pairs c.teams.result.now rule.min c.args.cells.now.n
    c.requires.teams c.teams.ensures)
