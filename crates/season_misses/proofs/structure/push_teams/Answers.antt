use Rattle.std.proofs.Common.{ℕ}
use Rattle.std.specs.List.{flat_map, range_with_len}
use Rattle.season_misses.proofs.ListLemmas.{made_more}
use Rattle.season_misses.specs.Lacks.{lack_at}
use Rattle.season_misses.proofs.structure.push_teams.Goals as goal

pub loop-i-preserved : goal.loop-i-preserved
loop-i-preserved c =
    let season = c.args.season in
    made_more (λ (i : ℕ). flat_map (lack_at c.args.lack season.n season.names.now season.games.now i) (range_with_len 0 c.args.seconds)) c.args.lines.now.items c.loop-i.lines.items _ c.loop-i.i c.loop-i.invariant c.in_ok-push_team.ensures
