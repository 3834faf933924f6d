use Rattle.std.proofs.Common.{◌≢◌, List, ◌++◌, ap, sym, subst, ◌∙◌}
use Rattle.std.specs.List.{AllPairs, filter}
use Rattle.rows.specs.Cardinality.{between}
use Rattle.rows.specs.Literals.{Literal}
use Rattle.encoding.specs.Encoding.{demands}
use Rattle.encoding.specs.Keys.{literals_of}
use Rattle.encoding.proofs.LiteralOrder.{literals_differ}
use Rattle.encoding.proofs.draft.Draft.add_key.Goals as goal

pub demand_between-requires-clause-variables : goal.demand_between-requires-clause-variables
demand_between-requires-clause-variables c =
    let counted : List Literal = literals_of c.args.n c.args.key.counted in
    let listed = c.in_ok-add_counted.ensures ∙ ap (λ (ls : List Literal). ls ++ counted) c.clear.ensures.items in
    subst (λ (ls : List Literal). AllPairs (λ l m. l.var ≢ m.var) ls) (sym listed)
    (literals_differ c.args.n c.args.key.counted c.requires.listable)

pub returns-clause-rows : goal.returns-clause-rows
returns-clause-rows c =
    let key = c.args.key in
    let counted : List Literal = literals_of c.args.n key.counted in
    let listed = c.in_ok-add_counted.ensures ∙ ap (λ (ls : List Literal). ls ++ counted) c.clear.ensures.items in
    c.in_ok-demand_between.ensures.rows
    ∙ ap (λ (ls : List Literal). c.args.self.now.rows ++ filter demands (between key.low key.high ls)) listed
