use Rattle.std.proofs.Common.{◌≢◌, ℕ, List, ◌++◌, ap, sym, subst, ◌∙◌}
use Rattle.std.specs.List.{AllPairs}
use Rattle.league.specs.declared.class.Side.TheVariants.{H}
use Rattle.rows.specs.Literals.{Literal}
use Rattle.encoding.specs.Lists.{at_home_in}
use Rattle.encoding.proofs.LiteralOrder.{venues_differ}
use Rattle.encoding.proofs.season_rows.list_home_slots.Goals as goal

pub returns-clause-variables : goal.returns-clause-variables
returns-clause-variables c =
    let home : List Literal = at_home_in c.n.result c.args.team c.slots.result.now in
    subst (λ (ls : List Literal). AllPairs (λ l m. l.var ≢ m.var) ls)
    (sym (c.in_ok-add_venue.ensures ∙ ap (λ (ls : List Literal). ls ++ home) c.clear.ensures.items))
    (subst (λ (n : ℕ). AllPairs (λ l m. l.var ≢ m.var) (at_home_in n c.args.team c.slots.result.now))
    (sym c.n.ensures.n)
    (venues_differ c.args.season.now H c.args.team c.slots.result.now c.slots.ensures.ascend))
