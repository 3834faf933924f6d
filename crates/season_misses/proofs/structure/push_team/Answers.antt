use Rattle.season_misses.proofs.ListLemmas.{made_more}
use Rattle.season_misses.specs.Lacks.{lack_at}
use Rattle.season_misses.proofs.structure.push_team.Goals as goal

pub loop-j-preserved : goal.loop-j-preserved
loop-j-preserved c =
    let season = c.args.season in
    made_more (lack_at c.args.lack season.n season.names.now season.games.now c.args.i) c.args.lines.now.items c.loop-j.lines.items _ c.loop-j.j c.loop-j.invariant c.in_ok-push_lack.ensures
