use Rattle.std.proofs.Common.{◌++◌, List, ℕ, subst, ap, sym, ◌∙◌}
use Rattle.rule_core.specs.Table.{table_counts}
use Rattle.robinx.specs.Names.{IsNames}
use Rattle.command_show.specs.Show.{grid_of}
use Rattle.command_show.proofs.TextLemmas.{grid-same}
use Rattle.command_show.proofs.texts.told_text.Goals as goal

pub season_grid-requires : goal.season_grid-requires
season_grid-requires c =
    subst (λ (n : ℕ). IsNames n c.args.names.now) (sym c.requires.told.teams) c.requires.names

pub returns : goal.returns
returns c =
    let told = c.args.told.now in
    let league = told.league.now in
    let grid : List ℕ = grid_of league c.args.names.now told.games.now c.args.width in
    c.in_ok-extend_from_slice.ensures.items
    ∙ ap (λ (l : List ℕ). l ++ c.as_bytes.result.now)
    (c.in_ok-text.ensures
    ∙ grid-same league c.args.names.now told.games.now c.args.width told.cells.now.n c.phased.result
    (table_counts told.cells.now) c.requires.told.teams c.phased.ensures c.requires.told.counted)
    ∙ ap (λ (l : List ℕ). grid ++ l) (c.as_bytes.ensures.value ∙ c.in_ok-words.ensures)
