use Rattle.std.proofs.Common.{List, ◌∷◌, [], ◌++◌, ap, ◌∙◌}
use Rattle.std.specs.List.{filter}
use Rattle.rows.specs.Cardinality.{at_least, at_most}
use Rattle.rows.specs.Literals.{Literal}
use Rattle.rows.specs.Rows.{Row}
use Rattle.encoding.specs.Encoding.{demands}
use Rattle.encoding.proofs.ListedRows.{both_listed}
use Rattle.encoding.proofs.draft.Draft.demand_between.Goals as goal

pub returns-clause-rows : goal.returns-clause-rows
returns-clause-rows c =
    let literals = c.args.self.now.literals.items in
    let most : Row = at_most c.args.high literals in
    let mid = c.demand_at_least.new.self.rows in
    c.in_ok-demand_at_most.ensures.rows
    ∙ ap (λ (ls : List Literal). mid ++ filter demands (at_most c.args.high ls ∷ [])) c.demand_at_least.ensures.literals
    ∙ ap (λ (rows : List Row). rows ++ filter demands (most ∷ [])) c.in_ok-demand_at_least.ensures.rows
    ∙ both_listed c.args.self.now.rows (at_least c.args.low literals) most
