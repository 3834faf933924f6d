use Rattle.std.proofs.Common.{◌≢◌, List, sym, subst, ◌∙◌}
use Rattle.std.specs.List.{AllPairs}
use Rattle.rows.specs.Literals.{Literal}
use Rattle.rows.specs.Rows.{IsRow}
use Rattle.rows.specs.declared.lit.Term.{Term}
use Rattle.encoding.specs.Season.{game_needs_home}
use Rattle.encoding.proofs.TieLemmas.{IsRow-game_needs_home, home_tie_differ}
use Rattle.encoding.proofs.venue_rows.tie.Goals as goal

pub push_at_least-requires-clause-variables : goal.push_at_least-requires-clause-variables
push_at_least-requires-clause-variables c =
    subst (λ (ls : List Literal). AllPairs (λ l m. l.var ≢ m.var) ls)
    (sym (c.deref.ensures.value ∙ c.in_ok-list_tie.ensures.literals))
    (home_tie_differ c.args.season.now c.args.team c.args.slot c.requires.team c.requires.slot)

pub push-requires-clause-row : goal.push-requires-clause-row
push-requires-clause-row c =
    let is : IsRow (game_needs_home c.args.season.now c.args.team c.args.slot) = IsRow-game_needs_home
    c.args.season.now c.args.team c.args.slot c.n.ensures.count.at_least c.requires.team c.requires.slot in
    subst (λ (ts : List Term). IsRow (record { terms = ts; degree = c.from.result }))
    (sym (c.deref-2.ensures.value ∙ c.in_ok-list_tie.ensures.terms))
    (record { coefs = is.coefs; variables = is.variables })
