use Rattle.std.proofs.Common.{◌≢◌, List, ◌++◌, ap, sym, subst, ◌∙◌}
use Rattle.std.specs.List.{AllPairs}
use Rattle.rows.specs.Literals.{Literal}
use Rattle.encoding.specs.Lists.{games_in}
use Rattle.encoding.proofs.LiteralOrder.{games_differ}
use Rattle.encoding.proofs.draft.Draft.list_games.Goals as goal

pub returns-clause-variables : goal.returns-clause-variables
returns-clause-variables c =
    let games : List Literal = games_in c.args.n c.args.meetings.now c.args.slots.now in
    subst (λ (ls : List Literal). AllPairs (λ l m. l.var ≢ m.var) ls)
    (sym (c.in_ok-add_games.ensures ∙ ap (λ (ls : List Literal). ls ++ games) c.clear.ensures.items))
    (games_differ c.args.n c.args.meetings.now c.args.slots.now c.requires.meetings c.requires.slots)
