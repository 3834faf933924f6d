use Rattle.std.proofs.Common.{◌++◌, zero-add}
use Rattle.command_show.specs.Grid.{slots_line, team_line}
use Rattle.command_show.specs.SeenSeason.{season_of}
use Rattle.command_show.proofs.RangeLemmas.{part_after}
use Rattle.command_show.proofs.grid.push_block.Goals as goal

pub loop-number-preserved : goal.loop-number-preserved
loop-number-preserved c =
    let number = c.loop-number.number in
    part_after (team_line c.args.columns (season_of c.args.season.now) c.args.block) 0 number number
    (c.args.text.now.items ++ slots_line c.args.columns c.args.block) c.loop-number.text.items c.push_team.new.text.items
    (zero-add number) c.loop-number.invariant c.in_ok-push_team.ensures
