use Rattle.season_misses.proofs.ListLemmas.{cut_one}
use Rattle.season_misses.proofs.bounded.span_slots.Goals as goal

pub returns-in-Every : goal.returns-in-Every
returns-in-Every c = cut_one c.args.span c.args.slots.now c.args.key c.in-Every.is c.requires
