use Rattle.std.proofs.Common.{List, ℕ, ◌++◌, ap, ◌∙◌}
use Rattle.std.specs.Prelude.{codes}
use Rattle.command_show.specs.declared.columns.Columns.{Columns}
use Rattle.command_show.specs.Grid.{blocks_text, legend, slot_lines, tallies}
use Rattle.command_show.specs.SeenSeason.{season_of}
use Rattle.command_show.proofs.grid.season_grid.Goals as goal

pub returns : goal.returns
returns c =
    let season = season_of c.args.season.now in
    let grid : Columns → List ℕ =
    λ columns. blocks_text columns season c.args.width
    ++ (legend season.phased ++ (slot_lines season ++ (codes "\n" ++ tallies columns season))) in
    c.in_ok-push_grid.ensures ∙ ap (λ (x : List ℕ). x ++ grid c.in_ok-columns.columns) c.new-text.ensures.items
    ∙ ap grid c.in_ok-columns.ensures.value
