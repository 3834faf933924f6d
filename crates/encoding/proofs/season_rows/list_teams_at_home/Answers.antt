use Rattle.std.proofs.Common.{◌≢◌, ℕ, List, ◌++◌, map, ap, sym, subst, ◌∙◌}
use Rattle.std.specs.List.{AllPairs}
use Rattle.rows.specs.Literals.{Literal, yes}
use Rattle.encoding.specs.Variables.{h_var}
use Rattle.encoding.proofs.LiteralOrder.{teams_differ}
use Rattle.encoding.proofs.season_rows.list_teams_at_home.Goals as goal

pub returns-clause-variables : goal.returns-clause-variables
returns-clause-variables c =
    let home : List Literal = map (λ i. yes (h_var c.n.result i c.args.slot)) c.teams.result.now in
    subst (λ (ls : List Literal). AllPairs (λ l m. l.var ≢ m.var) ls)
    (sym (c.in_ok-add_teams_at_home.ensures ∙ ap (λ (ls : List Literal). ls ++ home) c.clear.ensures.items))
    (subst (λ (n : ℕ). AllPairs (λ l m. l.var ≢ m.var) (map (λ i. yes (h_var n i c.args.slot)) c.teams.result.now))
    (sym c.n.ensures.n)
    (teams_differ c.args.season.now c.args.slot c.teams.result.now c.requires c.teams.ensures.ascend))
