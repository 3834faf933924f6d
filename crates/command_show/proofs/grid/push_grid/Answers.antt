use Rattle.std.proofs.Common.{List, ℕ, ◌++◌, append_assoc, ap, ◌∙◌}
use Rattle.std.specs.Prelude.{codes}
use Rattle.std.proofs.lemmas.Result.{on_ok_weaker}
use Rattle.command_show.specs.Grid.{blocks_text, legend, slot_lines, tallies}
use Rattle.command_show.specs.SeenSeason.{season_of}
use Rattle.command_show.proofs.JoinedTexts.{added_four}
use Rattle.command_show.proofs.grid.push_grid.Goals as goal

pub returns : goal.returns
returns c =
    let season = season_of c.args.season.now in
    let before : List ℕ = c.args.text.now.items in
    let blocks = blocks_text c.args.columns season c.args.width in
    let signs = legend season.phased in
    let names = slot_lines season in
    let counts = tallies c.args.columns season in
    on_ok_weaker c.push_tallies.result
    (λ added.
    added_four (before ++ blocks) signs names (codes "\n") counts c.push_legend.new.text.items
    c.push_slot_names.new.text.items c.push.new.self.items c.push_tallies.new.text.items
    (c.in_ok-push_legend.ensures ∙ ap (λ (x : List ℕ). x ++ signs) c.in_ok-push_blocks.ensures)
    c.in_ok-push_slot_names.ensures c.in_ok-push.ensures.items added
    ∙ append_assoc before blocks (signs ++ (names ++ (codes "\n" ++ counts))))
    c.push_tallies.ensures
